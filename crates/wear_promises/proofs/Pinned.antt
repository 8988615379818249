-- Two that keep what is promised count the same.
-- Assumes nothing.
use Prim.Native.Nat.{ℕ, ◌+◌, ◌<◌, ◌≤◌}
use mathlib.Core.Path.{◌≡◌, ◌∙◌, sym, ap}
use mathlib.Core.List.{List, [], ◌∷◌}
use native.Mathlib.Omega.{arith}
use lib.ListN.{length, get_or, take}
use lib.Seq.{ext_get_or}
use Rattle.parts.specs.Table.{facts_of, groups_of}
use Rattle.parts.specs.Bytes.{topped}
use Rattle.line.specs.declared.Phase.TheVariants.{Idle}
use Rattle.state.specs.declared.Chip.{Chip}
use Rattle.chip.specs.Memory.{Mem}
use Rattle.chip.specs.Model.{PowerCut}
use Rattle.chip.specs.Calls.{RunLeft, run_of}
use Rattle.chip_promises.specs.Stops.{watch_at}
use Rattle.chip_promises.specs.Calls.{noted}
use Rattle.wear_promises.specs.History.{times_of}
use Rattle.wear_promises.specs.Counts.{WearRun, Counts, WearCall, after_wear, wear_calls_by, WearIsHistory, RunIsChips, WearPinned}

-- ---- one call of one of them

module _ (R : WearRun) (k : WearIsHistory R) (i : RunIsChips R) (part en : ℕ) (w : PowerCut) (c : Chip) (m : Mem) (counts es a : List ℕ)
    (h : part ≤ 5) (o : c.line.phase ≡ Idle) (held : Counts part counts) where
  abbrev call : WearCall
  call = record { cut = w; events = es; answers = a }

  -- the chip's own answer
  abbrev ran : RunLeft
  ran = run_of part en w c m es a

  pub counted : Counts part (R part en w c m counts es a).counts
      × ((n : ℕ) → n < groups_of (facts_of part)
      → get_or (R part en w c m counts es a).counts n 0
      ≡ topped (get_or counts n 0 + times_of (facts_of part) (watch_at c) [] (noted ran.answer.verdict [] es) (noted ran.answer.verdict [] (take (length es) ran.answers)) n))
  unfolding wear_calls_by after_wear
  counted =
      let p = k part en c m counts (call ∷ []) o held in
      (p.0, λ n l. p.1 n l ∙ ap (λ (x : RunLeft). topped (get_or counts n 0 + times_of (facts_of part) (watch_at c) [] (noted x.answer.verdict [] es) (noted x.answer.verdict [] (take (length es) x.answers)) n)) (i part en w c m counts es a h held.size))

pub wear_pinned : WearPinned
wear_pinned R Q k i k' i' part en w c m counts es a h o held =
    let x = counted R k i part en w c m counts es a h o held in
    let y = counted Q k' i' part en w c m counts es a h o held in
    ext_get_or 0 (R part en w c m counts es a).counts (Q part en w c m counts es a).counts (x.0.size ∙ sym y.0.size)
    (λ n l. x.1 n (omega (arith, l, x.0.size)) ∙ sym (y.1 n (omega (arith, l, x.0.size))))
