-- `saving_worn_bytes`, `loading_worn_bytes`, `to_worn_bytes` and `to_plain_bytes` keep what is promised of them.
-- Assumes nothing.
use Rattle.std.specs.Prelude.{Ok, Err}
use Prim.Native.Nat.{ℕ, ◌<◌}
use mathlib.Core.Path.{◌≡◌, refl}
use mathlib.Core.List.{List}
use native.Mathlib.Omega.{arith}
use lib.ListN.{length}
use borrow.Author.Tests.{eq-eqb, lt-ltb}
use Rattle.parts.specs.declared.Refusal.TheVariants.{BadImage}
use Rattle.parts.specs.Verdict.{Verdict}
use Rattle.parts.specs.Table.{facts_of}
use Rattle.parts.proofs.Laws.{branch, fine}
use Rattle.chip.specs.Memory.{Mem}
use Rattle.chip.specs.Delivery.{standby_of}
use Rattle.pack_chip.specs.Layout.{chip_length, pack_chip_into, unpacked_chip_of}
use Rattle.pack_chip.proofs.Kept.{chip_packs_back}
use Rattle.image.specs.Layout.{image_length_of, part_in, lock_in}
use Rattle.image_worn.specs.Layout.{worn_length_of}
use Rattle.image_worn.specs.Calls.{save_worn_verdict_of, load_worn_verdict_of, load_worn_by, to_worn_verdict_of, to_plain_verdict_of}
use Rattle.sapwoodle.specs.Images.{looks_of}
use Rattle.sapwoodle.specs.Worns.{load_worn_verdict_in, saving_worn_bytes, loading_worn_bytes, to_worn_bytes, to_plain_bytes}
use Rattle.sapwoodle.specs.Promises.{SaveWornKeeps, LoadWornKeeps, ConvertKeeps, WornBytesKept, SaveWornIsImages, LoadWornHolds, LoadWornFinds}
use Rattle.sapwoodle.proofs.answers.Laws.{standby_fits}
use Rattle.sapwoodle.proofs.images.Laws.{writes_nothing, looked}
use Rattle.sapwoodle.proofs.worns.Laws.{unheld_worn_refused, loads_nothing, worst_held}

save_worn_keeps : SaveWornKeeps saving_worn_bytes
save_worn_keeps part s m counts out h =
    writes_nothing (worn_length_of (facts_of part)) _ out
    (save_worn_verdict_of part (unpacked_chip_of s) (length m.cells) (length m.ident) (length counts) (length out)) h

to_worn_keeps : ConvertKeeps to_worn_bytes
to_worn_keeps l out h = writes_nothing (worn_length_of (facts_of (part_in l))) _ out (to_worn_verdict_of l (length out)) h

to_plain_keeps : ConvertKeeps to_plain_bytes
to_plain_keeps l out h = writes_nothing (image_length_of (facts_of (part_in l))) _ out (to_plain_verdict_of l (length out)) h

load_worn_keeps : LoadWornKeeps loading_worn_bytes
load_worn_keeps l enable s m counts worst h =
    let o : (load_worn_verdict_in l enable s m counts ≡ Ok tt → ⊥) = λ e. h (rw e refl) in
    let k = loads_nothing l _ s m counts (load_worn_verdict_in l enable s m counts) o in
    let v = load_worn_verdict_in l enable s m counts in
    (k.0, k.1, k.2, worst_held worst (load_worn_by l m counts v).counts v o, refl)

pub worn_bytes_kept : WornBytesKept
worn_bytes_kept = record { save = save_worn_keeps; load = load_worn_keeps; to_worn = to_worn_keeps; to_plain = to_plain_keeps }

pub save_worn_is_images : SaveWornIsImages saving_worn_bytes
save_worn_is_images part c m counts out f = rw (chip_packs_back c f).2 refl

short_refused : (l : List ℕ) (enable n d k : ℕ) → length l < 6 → load_worn_verdict_of l enable n d k ≡ Ok tt → ⊥
unfolding load_worn_verdict_of
short_refused l enable n d k s h =
    let e : Err BadImage ≡ (Ok tt) = rw (lt-ltb (length l) 6 s) at h in
    let z : ◌≡◌ {A = ℕ} 0 1 = cc in
    omega arith

load_long : (l : List ℕ) (enable : ℕ) (s : List ℕ) (m : Mem) (counts : List ℕ) → load_worn_verdict_in l enable s m counts ≡ Ok tt → length s ≡ chip_length
unfolding load_worn_verdict_in
load_long l enable s m counts =
    branch (λ (v : Verdict). v ≡ Ok tt → length s ≡ chip_length) (looks_of (length s) (length l))
    (looked l s (load_worn_verdict_of l enable (length m.cells) (length m.ident) (length counts)) (short_refused l enable (length m.cells) (length m.ident) (length counts)))
    (λ _ h. absurd (unheld_worn_refused (part_in l) enable m (length counts) h))

pub load_worn_holds : LoadWornHolds loading_worn_bytes
unfolding pack_chip_into
load_worn_holds l enable s m counts worst h =
    let v = fine (load_worn_verdict_in l enable s m counts) h in
    let b = chip_packs_back (standby_of (facts_of (part_in l)) (lock_in l)) (standby_fits (facts_of (part_in l)) (lock_in l)) in
    rw (v, eq-eqb (length s) chip_length (load_long l enable s m counts v)) (b.1, b.2)

pub load_worn_finds : LoadWornFinds loading_worn_bytes
load_worn_finds l enable s m counts worst h = rw (fine (load_worn_verdict_in l enable s m counts) h) refl
