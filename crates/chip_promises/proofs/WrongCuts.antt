-- Each of the wrong cuts breaks what is promised of a loss of power: on part 2, in the cycle of a byte latched at 0001h.
-- Assumes nothing.
use Prim.Native.Nat.{ℕ, zero, suc, ◌/◌, ◌%◌, ◌<◌}
use native.Mathlib.Omega.{arith}
use mathlib.Core.Path.{◌≡◌, refl, sym, ap, ◌∙◌}
use mathlib.Core.Bool.{true, false}
use mathlib.Core.List.{List, [], ◌∷◌}
use lib.ListN.{get_or}
use Rattle.parts.specs.declared.Loss.TheVariants.{Lent}
use Rattle.parts.specs.Table.{facts_of}
use Rattle.parts.proofs.Laws.{sound}
use Rattle.line.specs.declared.Target.TheVariants.{Array}
use Rattle.line.specs.declared.Pin.TheVariants.{Floating}
use Rattle.line.specs.declared.Cycle.{Cycle}
use Rattle.line.specs.declared.Cycle.TheVariants.{Writing, Locking}
use Rattle.line.specs.declared.Phase.TheVariants.{Busy}
use Rattle.state.specs.declared.Chip.{Chip}
use Rattle.chip.specs.Memory.{Mem, mem, one_of, counter_page_of, committed_of, cycle_stored_of, stored_of}
use Rattle.chip.specs.Model.{cut_by}
use Rattle.chip.specs.Runs.{after_of, memory_of}
use Rattle.chip_laws.proofs.Range.{no_way}
use Rattle.chip_promises.specs.Power.{PowerModel, InGroup, Spoils, CutSpoilsGroups}
use Rattle.chip_promises.specs.WrongCuts.{Spoiling, Does, nothing, whole_page, latched_only, stores_them, WrongCuts}

-- AAh at place 1, and nothing else
abbrev latches : List ℕ
latches = 256 ∷ 170 ∷ []

abbrev in_cycle : Cycle → Chip
in_cycle y =
    record { line = record { core = record { counter = 2; pin = Floating; inhibited = false; locked = false }; phase = Busy y; left = 8; shift = 0 }; latch = latches }

abbrev there : Chip
there = in_cycle (Writing Array)

-- stored are 0s, and 7s are lent
abbrev before : Mem
before = mem (0 ∷ 0 ∷ 0 ∷ 0 ∷ 0 ∷ 0 ∷ []) []

abbrev lent : List ℕ
lent = 7 ∷ 7 ∷ 7 ∷ 7 ∷ 7 ∷ 7 ∷ []

module _ (s : Spoiling) (M : PowerModel) (does : Does s M) (kept : CutSpoilsGroups M) where
  abbrev after : Mem
  after = s (cut_by (Lent false) lent) (facts_of 2) there Array before

  spoils : Spoils (facts_of 2) there before after lent
  unfolding after_of memory_of
  spoils =
      rw (does (cut_by (Lent false) lent) (facts_of 2) 0 there Array before refl) at
      (kept (facts_of 2) (sound 2) 0 false lent (omega arith, (omega arith, (omega arith, (omega arith, (omega arith, (omega arith, tt)))))) there before [])

-- the groups of the six bytes: the first is touched
inside : (j : ℕ) → j / 32 ≡ 0 → 0 ≡ j % 32 / 4 → InGroup (facts_of 2) there j
unfolding facts_of
inside j p g = record { page = p; by = 1; group = g; latched = omega arith }

only_one : (by : ℕ) → get_or latches by 256 < 256 → by ≡ 1
only_one zero h = absurd (omega arith)
only_one (suc zero) h = refl
only_one (suc (suc by)) h = absurd (omega arith)

-- the second is not
outside : InGroup (facts_of 2) there 4 → ⊥
unfolding facts_of
outside i =
    let one : i.by ≡ 1 = only_one i.by i.latched in
    let z : ◌≡◌ {A = ℕ} 0 1 = sym (ap (λ (x : ℕ). x / 4) one) ∙ i.group in
    omega arith

byte_0 : (s : Spoiling) (M : PowerModel) → Does s M → CutSpoilsGroups M → get_or (s (cut_by (Lent false) lent) (facts_of 2) there Array before).cells 0 0 ≡ 7
unfolding facts_of
byte_0 s M d k = (spoils s M d k).lent Array refl 0 (inside 0 refl refl) (omega arith)

byte_1 : (s : Spoiling) (M : PowerModel) → Does s M → CutSpoilsGroups M → get_or (s (cut_by (Lent false) lent) (facts_of 2) there Array before).cells 1 0 ≡ 7
unfolding facts_of
byte_1 s M d k = (spoils s M d k).lent Array refl 1 (inside 1 refl refl) (omega arith)

byte_4 : (s : Spoiling) (M : PowerModel) → Does s M → CutSpoilsGroups M → get_or (s (cut_by (Lent false) lent) (facts_of 2) there Array before).cells 4 0 ≡ 0
unfolding facts_of
byte_4 s M d k = (spoils s M d k).kept Array refl 4 outside

pub wrong_cuts : WrongCuts
unfolding facts_of one_of counter_page_of committed_of cycle_stored_of stored_of
wrong_cuts =
    record {
      nothing_breaks = λ M d k. let z : ◌≡◌ {A = ℕ} 0 7 = byte_1 nothing M d k in omega arith;
      whole_page_breaks = λ M d k. let z : ◌≡◌ {A = ℕ} 7 0 = byte_4 whole_page M d k in omega arith;
      latched_only_breaks = λ M d k. let z : ◌≡◌ {A = ℕ} 0 7 = byte_0 latched_only M d k in omega arith;
      stores_them_breaks = λ M d k. let z : ◌≡◌ {A = ℕ} 170 7 = byte_1 stores_them M d k in omega arith;
      lock_kept_breaks = λ M d k. no_way (sym (d (cut_by (Lent true) lent) (facts_of 2) 0 (in_cycle Locking)) ∙ k.flag (facts_of 2) 0 true lent (in_cycle Locking) refl);
    }
