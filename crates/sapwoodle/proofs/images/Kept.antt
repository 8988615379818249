-- `saving_bytes` and `loading_bytes` keep what is promised of them.
-- Assumes nothing.
use Rattle.std.specs.Prelude.{Ok, Err}
use Prim.Native.Nat.{ℕ, ◌<◌}
use mathlib.Core.Path.{◌≡◌, refl}
use mathlib.Core.List.{List}
use native.Mathlib.Omega.{arith}
use lib.ListN.{length}
use borrow.Author.Tests.{eq-eqb, lt-ltb}
use Rattle.parts.specs.declared.Refusal.TheVariants.{BadImage}
use Rattle.parts.specs.Verdict.{Verdict}
use Rattle.parts.specs.Table.{facts_of}
use Rattle.parts.proofs.Laws.{branch, fine}
use Rattle.chip.specs.Memory.{Mem}
use Rattle.chip.specs.Delivery.{standby_of}
use Rattle.pack_chip.specs.Layout.{chip_length, pack_chip_into, unpacked_chip_of}
use Rattle.pack_chip.proofs.Kept.{chip_packs_back}
use Rattle.sapwoodle.proofs.answers.Laws.{unheld_refused, standby_fits}
use Rattle.image.specs.Layout.{image_length_of, part_in, lock_in}
use Rattle.image.specs.Calls.{save_verdict_of, load_verdict_of}
use Rattle.sapwoodle.specs.Images.{looks_of, load_verdict_in, saving_bytes, loading_bytes}
use Rattle.sapwoodle.specs.Promises.{SaveKeeps, LoadKeeps, SaveIsImages, LoadHolds}
use Rattle.sapwoodle.proofs.images.Laws.{writes_nothing, loads_nothing, looked}

pub save_keeps : SaveKeeps saving_bytes
save_keeps part s m out h =
    writes_nothing (image_length_of (facts_of part)) _ out (save_verdict_of part (unpacked_chip_of s) (length m.cells) (length m.ident) (length out)) h

pub save_is_images : SaveIsImages saving_bytes
save_is_images part c m out f = rw (chip_packs_back c f).2 refl

pub load_keeps : LoadKeeps loading_bytes
load_keeps l enable s m h =
    let k = loads_nothing l _ s m (load_verdict_in l enable s m) (λ e. h (rw e refl)) in
    (k.0, k.1, refl)

short_refused : (l : List ℕ) (enable n d : ℕ) → length l < 6 → load_verdict_of l enable n d ≡ Ok tt → ⊥
unfolding load_verdict_of
short_refused l enable n d k h =
    let e : Err BadImage ≡ (Ok tt) = rw (lt-ltb (length l) 6 k) at h in
    let z : ◌≡◌ {A = ℕ} 0 1 = cc in
    omega arith

load_long : (l : List ℕ) (enable : ℕ) (s : List ℕ) (m : Mem) → load_verdict_in l enable s m ≡ Ok tt → length s ≡ chip_length
unfolding load_verdict_in
load_long l enable s m =
    branch (λ (v : Verdict). v ≡ Ok tt → length s ≡ chip_length) (looks_of (length s) (length l))
    (looked l s (load_verdict_of l enable (length m.cells) (length m.ident)) (short_refused l enable (length m.cells) (length m.ident)))
    (λ _ h. absurd (unheld_refused (part_in l) enable m h))

pub load_holds : LoadHolds loading_bytes
unfolding pack_chip_into
load_holds l enable s m h =
    let v = fine (load_verdict_in l enable s m) h in
    let b = chip_packs_back (standby_of (facts_of (part_in l)) (lock_in l)) (standby_fits (facts_of (part_in l)) (lock_in l)) in
    rw (v, eq-eqb (length s) chip_length (load_long l enable s m v)) (b.1, b.2)
