-- The idle ways of specs/Idle.antt break the promise, whatever goes with them.
-- Assumes nothing.
use Rattle.std.specs.Prelude.{Ok, Err}
use Prim.Native.Nat.{ℕ, ◌≤◌}
use mathlib.Core.Path.{◌≡◌, ◌∙◌, sym, ap, refl}
use mathlib.Core.Bool.{true, false}
use mathlib.Core.List.{List}
use native.Mathlib.Omega.{arith}
use lib.ListN.{length, get_or, take, replicate, length-replicate}
use Rattle.parts.specs.declared.Refusal.TheVariants.{BadImage}
use Rattle.parts.specs.Table.{facts_of, id_size_of, enable_right_of}
use Rattle.parts.proofs.Laws.{sound}
use Rattle.state.specs.declared.Chip.{Chip}
use Rattle.state.specs.Range.{in_range_of}
use Rattle.chip.specs.Memory.{Mem, mem}
use Rattle.chip.specs.Delivery.{standby_of}
use Rattle.image.specs.Layout.{image_length_of}
use Rattle.image.specs.Calls.{AfterLoad}
use Rattle.image.specs.Promises.{Saving, Loading, BuffersFit, GivesBack}
use Rattle.image.specs.Idle.{Refuses, Leaves, unwritten}
use Rattle.image.proofs.Form.{standby_in_range, saves}

-- ---- part 0, and two memories of its lengths that differ in every byte

all : ℕ → Mem
all v = mem (replicate 2048 v) (replicate 16 v)

fresh : Chip
fresh = standby_of (facts_of 0) false

buffer : List ℕ
buffer = replicate 2071 0

known : (facts_of 0).known ≡ true
unfolding facts_of
known = refl

enabled : enable_right_of (facts_of 0) 0 ≡ true
unfolding facts_of enable_right_of
enabled = refl

ranged : in_range_of (facts_of 0) fresh ≡ true
unfolding fresh
ranged = standby_in_range (facts_of 0) false (sound 0) (λ e. cc)

fits : (v : ℕ) → BuffersFit 0 (all v)
unfolding all facts_of id_size_of
fits v = record { cells = length-replicate 2048 v; ident = length-replicate 16 v }

long : length buffer ≡ 2071
unfolding buffer
long = length-replicate {A = ℕ} 2071 0

room : image_length_of (facts_of 0) ≤ length buffer
unfolding facts_of id_size_of image_length_of
room = omega (arith, long)

apart : all 0 ≡ all 255 → ⊥
unfolding all
apart e = let z : ◌≡◌ {A = ℕ} 0 255 = ap (λ (m : Mem). get_or m.ident 0 0) e in omega arith

-- ----

module _ (save : Saving) (load : Loading) (kept : GivesBack save load) where
  -- the second memory saved, and loaded over the first
  image : List ℕ
  image = take (save 0 fresh (all 255) buffer).answer.length (save 0 fresh (all 255) buffer).out

  back : load image 0 (all 0) ≡ record { answer = record { verdict = Ok tt; part = 0; chip = standby_of (facts_of 0) fresh.line.core.locked }; stored = all 255 }
  unfolding image
  back = (kept 0 0 fresh (all 255) (all 0) buffer known enabled ranged (fits 255) (fits 0) room).1

  pub refuses_broken : Refuses load → ⊥
  refuses_broken h =
      let e : Err BadImage ≡ (Ok tt) = sym (h image 0 (all 0)) ∙ ap (λ (r : AfterLoad). r.answer.verdict) back in
      let z : ◌≡◌ {A = ℕ} 0 1 = cc in
      omega arith

  pub leaves_broken : Leaves load → ⊥
  leaves_broken h = apart (sym (h image 0 (all 0)) ∙ ap (λ (r : AfterLoad). r.stored) back)

-- whatever was to be saved, the same bytes are left
same_left : (v : ℕ) → take (unwritten 0 fresh (all v) buffer).answer.length buffer ≡ take (image_length_of (facts_of 0)) buffer
same_left v = let e = saves 0 fresh (all v) known ranged (fits v) (length buffer) room in rw e refl

pub unwritten_broken : (load : Loading) → GivesBack unwritten load → ⊥
unwritten_broken load kept =
    let back : (v : ℕ) → (load (take (image_length_of (facts_of 0)) buffer) 0 (all 0)).stored ≡ all v = λ v. ap (λ (r : AfterLoad). r.stored) (rw (same_left v) at (kept 0 0 fresh (all v) (all 0) buffer known enabled ranged (fits v) (fits 0) room).1) in
    apart (sym (back 0) ∙ back 255)
