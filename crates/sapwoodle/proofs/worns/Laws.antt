-- Laws that the proofs of the code share.
-- Assumes nothing.
use Rattle.std.specs.Prelude.{Ok, Err}
use Prim.Native.Nat.{ℕ}
use mathlib.Core.Path.{◌≡◌, refl}
use mathlib.Core.List.{List}
use Rattle.parts.specs.Verdict.{Verdict}
use Rattle.parts.specs.Table.{facts_of}
use Rattle.parts.proofs.Claims.{sooner_fine}
use Rattle.state.specs.declared.Chip.{Chip}
use Rattle.chip.specs.Memory.{Mem}
use Rattle.wear.specs.declared.Most.{Most}
use Rattle.wear.specs.Report.{most}
use Rattle.wear.specs.Worst.{worst_by}
use Rattle.wear.specs.Calls.{counts_verdict_of}
use Rattle.image_worn.specs.Calls.{load_worn_by}
use Rattle.sapwoodle.specs.Answers.{chip_bytes_after, unheld_of}
use Rattle.sapwoodle.specs.Worns.{unheld_worn_of, found_or}
use Rattle.sapwoodle.proofs.answers.Laws.{unheld_refused}

-- where no state is held, the call is refused
pub unheld_worn_refused : (part enable : ℕ) (m : Mem) (n : ℕ) → unheld_worn_of part enable m n ≡ Ok tt → ⊥
unfolding unheld_worn_of
unheld_worn_refused part enable m n h = unheld_refused part enable m (sooner_fine (counts_verdict_of (facts_of part) n) (unheld_of part enable m) h).1

pub loads_nothing : (l : List ℕ) (c : Chip) (s : List ℕ) (m : Mem) (counts : List ℕ) (v : Verdict) → (v ≡ Ok tt → ⊥)
    → (chip_bytes_after v c s ≡ s) × ((load_worn_by l m counts v).stored ≡ m) × ((load_worn_by l m counts v).counts ≡ counts)
loads_nothing l c s m counts (Ok _) h = absurd (h refl)
loads_nothing l c s m counts (Err r) h = (refl, refl, refl)

-- ---- the worst

pub worst_held : (w : Most) (counts : List ℕ) (v : Verdict) → (v ≡ Ok tt → ⊥) → worst_by w counts v ≡ w
worst_held w counts (Ok _) h = absurd (h refl)
worst_held w counts (Err r) h = refl

pub found_or_held : (w : Most) (counts : List ℕ) (v : Verdict) → found_or (worst_by (most 0 0) counts v) w v ≡ worst_by w counts v
unfolding found_or
found_or_held w counts (Ok _) = refl
found_or_held w counts (Err r) = refl
