-- A box that is swapped keeps its history, whoever counts, saves and loads.
-- Assumes nothing.
use Rattle.std.specs.Prelude.{Ok}
use Prim.Native.Nat.{ℕ, ◌+◌, ◌<◌}
use mathlib.Core.Path.{◌≡◌, ◌∙◌, sym, ap, refl, subst}
use mathlib.Core.Bool.{Bool}
use mathlib.Core.List.{[]}
use native.Mathlib.Nat.{add_assoc}
use lib.ListN.{get_or}
use Rattle.parts.specs.declared.Facts.{Facts}
use Rattle.parts.specs.Table.{facts_of, groups_of}
use Rattle.parts.specs.Bytes.{topped}
use Rattle.line.specs.declared.Phase.TheVariants.{Idle}
use Rattle.chip.specs.Delivery.{standby_of}
use Rattle.chip_promises.specs.Stops.{watch_at}
use Rattle.wear_promises.specs.History.{times_of}
use Rattle.wear_promises.specs.Counts.{WearRun, Worn, unworn, wear_calls_by, WearIsHistory}
use Rattle.wear_promises.proofs.Times.{top_in}
use Rattle.image_worn.specs.Calls.{AfterLoadWorn}
use Rattle.image_promises.specs.Form.{SavingWorn, LoadingWorn, made_by}
use Rattle.image_promises.specs.Promises.{GivesBackWorn}
use Rattle.image_promises.specs.Swapped.{wears_on, SwapKeepsHistory}

standby_idle : (f : Facts) (lock : Bool) → (standby_of f lock).line.phase ≡ Idle
unfolding standby_of
standby_idle f lock = refl

pub swap_keeps_history : (R : WearRun) (save : SavingWorn) (load : LoadingWorn) → WearIsHistory R → GivesBackWorn save load → SwapKeepsHistory R save load
swap_keeps_history R save load history gives part here there c m old counts was out first second idle held known e o w room ranged t =
    let f = facts_of part in
    let one : Worn = wear_calls_by R part here (unworn c m counts) first in
    let h = history part here c m counts first idle held in
    let box : AfterLoadWorn = load (made_by (save part one.chip one.mem one.counts out)) there old was in
    let lock = one.chip.line.core.locked in
    let back : AfterLoadWorn = record { answer = record { verdict = Ok tt; part = part; chip = standby_of f lock }; stored = one.mem; counts = one.counts } in
    let same : box ≡ back = (gives part there one.chip one.mem old one.counts was out known e ranged t o h.0.size h.0.wide w room).1 in
    let Says : AfterLoadWorn → Type 0 = λ b. (n : ℕ) → n < groups_of f → get_or (wears_on R part there b second).counts n 0
    ≡ topped (get_or counts n 0 + (times_of f (watch_at c) [] one.events one.levels n + times_of f (watch_at b.answer.chip) [] (wears_on R part there b second).events (wears_on R part there b second).levels n)) in
    let g = history part there (standby_of f lock) one.mem one.counts second (standby_idle f lock) h.0 in
    let said : Says back = λ n l.
    let t₁ = times_of f (watch_at c) [] one.events one.levels n in
    let t₂ = times_of f (watch_at (standby_of f lock)) [] (wears_on R part there back second).events (wears_on R part there back second).levels n in
    g.1 n l ∙ ap (λ (z : ℕ). topped (z + t₂)) (h.1 n l) ∙ top_in (get_or counts n 0 + t₁) t₂ ∙ ap topped (add_assoc (get_or counts n 0) t₁ t₂) in
    subst Says (sym same) said
