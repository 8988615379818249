use Rattle.std.proofs.Common.{◌≡◌, ℕ, ◌+◌, ◌-◌, ◌<◌, sym, ap, ◌∙◌, arith}
use Rattle.capture.specs.Ends.{acked_of}
use Rattle.capture.specs.Steps.{left_of}
use Rattle.capture.proofs.Sampled.{acked_more, acked_last}
use Rattle.capture.proofs.samples.acked.Goals as goal

pub loop-k-preserved : goal.loop-k-preserved
loop-k-preserved c =
    let n = c.in-Some.next in
    let e = c.in-Some.ensures in
    let l = c.loop-k in
    let left = left_of c.args.bus c.args.samples.now n.next in
    let back : 9 - (l.k + 1) ≡ 9 - l.k - 1 = omega arith in
    let some : 1 < 9 - l.k = omega arith in (
      omega (arith, e.onward, e.moves),
      ap (λ (k : ℕ). acked_of k left) back ∙ sym (acked_more (9 - l.k) n.code left some (omega (arith, c.if-next-gt1.false)))
          ∙ sym (ap (acked_of (9 - l.k)) e.events) ∙ l.invariant.1,
    )

pub returns-in-Some-next_event : goal.returns-in-Some-next_event
returns-in-Some-next_event c =
    let n = c.in-Some-next_event.ninth in
    let e = c.in-Some-next_event.ensures in
    let l = c.loop-k in
    let a = c.args in
    let one : 9 - l.k ≡ 1 = omega arith in
    sym (sym l.invariant.1 ∙ ap (λ (k : ℕ). acked_of k (left_of a.bus a.samples.now l.at)) one ∙ ap (acked_of 1) e.events
    ∙ acked_last n.code (left_of a.bus a.samples.now n.next) (λ h. absurd (omega (arith, h, e.some))))
