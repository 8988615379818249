use Rattle.trace.proofs.Laws.{each_at}
use Rattle.trace.proofs.Texts.{each-length}
use Rattle.trace.specs.Trace.{code_of, codes_of}
use Rattle.chip.proofs.Laws.{scan_step, scan-stop, scan-end}
use Rattle.parts.specs.Events.{event_right_of}
use lib.ListN.{length, get_or}
use mathlib.Core.Path.{◌≡◌, refl, sym, ap, ◌∙◌}
use Prim.Native.Nat.{ℕ, ◌-◌, ◌<◌}
use mathlib.Core.Bool.{Bool}
use mathlib.Core.List.{List}
use native.Mathlib.Omega.{arith}
use Rattle.trace.proofs.first_wrong.Goals as goal

long : (xs : List ℕ) (i : ℕ) → i < length xs → i < length (codes_of xs)
long xs i h = omega (arith, h, each-length code_of xs)

code-right : (pin : Bool) (xs : List ℕ) (i code : ℕ) (r : Bool) → i < length xs → code ≡ code_of (get_or xs i 0) → r ≡ event_right_of pin code
    → event_right_of pin (get_or (codes_of xs) i 0) ≡ r
code-right pin xs i code r h e f = ap (event_right_of pin) (each_at code_of xs i h ∙ sym e) ∙ sym f

pub returns-then-not-event_right : goal.returns-then-not-event_right
returns-then-not-event_right c =
    let a = c.args in
    let l = c.loop-i in
    let r = c.event_right in
    let there : l.i < length a.letters.now = omega arith in
    scan-stop a.pin (codes_of a.letters.now) l.i (long a.letters.now l.i there)
    (code-right a.pin a.letters.now l.i c.code_of.result r.result there c.code_of.ensures r.ensures ∙ c.if-not-event_right.true)
    ∙ l.invariant

pub loop-i-preserved : goal.loop-i-preserved
loop-i-preserved c =
    let a = c.args in
    let l = c.loop-i in
    let r = c.event_right in
    let there : l.i < length a.letters.now = omega arith in
    scan_step a.pin (codes_of a.letters.now) l.i (long a.letters.now l.i there)
    (code-right a.pin a.letters.now l.i c.code_of.result r.result there c.code_of.ensures r.ensures ∙ c.if-not-event_right.false)
    ∙ l.invariant

pub returns : goal.returns
returns c =
    let a = c.args in
    scan-end a.pin (codes_of a.letters.now) c.loop-i.i (omega (arith, each-length code_of a.letters.now)) ∙ c.loop-i.invariant
