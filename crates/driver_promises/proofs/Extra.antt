-- Smaller laws of the driver: identification writes, select codes, and what a write does to its buffer.
-- Assumes nothing.
use Prim.Native.Nat.{ℕ, ◌+◌, ◌-◌, ◌%◌, ◌≤◌}
use mathlib.Core.Path.{◌≡◌, refl, ap, subst}
use mathlib.Core.Bool.{Bool, true, false, cond, false≢true}
use mathlib.Core.List.{List}
use lib.ListN.{length}
use native.Mathlib.Omega.{arith}
use Rattle.parts.specs.declared.Facts.{Facts}
use Rattle.parts.specs.Table.{facts_of, id_size_of}
use Rattle.parts.proofs.Laws.{sound, branch}
use Rattle.parts.specs.Refusals.{is_fine}
use Rattle.driver.specs.declared.Place.{Place}
use Rattle.driver.specs.declared.Place.TheVariants.{Array, Ident}
use Rattle.driver.specs.declared.Request.{Request}
use Rattle.driver.specs.declared.Slot.{Slot}
use Rattle.driver.specs.declared.Slot.TheVariants.{Select, High, Low, Data, Poll, Turn, Take}
use Rattle.driver.specs.declared.Phase.{Phase}
use Rattle.driver.specs.declared.Phase.TheVariants.{Ready, Bits, Heard, Rest, Over}
use Rattle.driver.specs.declared.Driver.{Driver}
use Rattle.driver.specs.Request.{from_of, room_of, judge_of, k_of}
use Rattle.driver.specs.Step.{select_name_of, select_at, range_of, slot_right, phase_right, slot_whole, whole_of, byte_kept_of, bad_state_of, driver_next_of, buffer_of, fresh}
use Rattle.driver.proofs.Facts.{good_request, good_counts}
use Rattle.driver_promises.specs.Promises.{OnIdent, OnePart, SevenBits}
use Rattle.driver_promises.proofs.Split.{one_page}

-- an identification write is one part
pub ident_one : OnePart
unfolding k_of id_size_of
ident_one r xs a n o =
    let g = good_request r (ap is_fine a.fine) in
    one_page (facts_of r.part).page (from_of r.place) r.length (sound r.part).page_pos o (go r.place n g.fits)
  where
    most : (f : Facts) → cond f.ident f.page 0 ≤ f.page
    most f = branch (λ (x : ℕ). x ≤ f.page) f.ident (λ e. omega arith) (λ e. omega arith)

    go : (p : Place) → OnIdent p → from_of p + r.length ≤ room_of (facts_of r.part) p → from_of p + r.length ≤ (facts_of r.part).page
    go (Array a) n l = absurd n
    go (Ident i) n l = omega (arith, most (facts_of r.part))

module _ (r : Request) (o : ℕ) where
  even_name : (p : Place) → select_name_of p % 2 ≡ 0
  even_name (Array a) = refl
  even_name (Ident i) = refl

  pub seven_bits : SevenBits r o
  unfolding select_at
  seven_bits =
      let n = even_name r.place in
      record { even = omega arith; same = omega arith }

-- a write never changes its buffer, whatever the driver's value
right_whole : (s : Slot) (b : ℕ) → slot_right s false ≡ true → slot_whole s b ≡ false
right_whole Select b e = refl
right_whole High b e = refl
right_whole Low b e = refl
right_whole Data b e = refl
right_whole Poll b e = refl
right_whole Turn b e = refl
right_whole Take b e = absurd (false≢true e)

phase_whole : (p : Phase) → phase_right p false ≡ true → whole_of p ≡ false
phase_whole Ready e = refl
phase_whole (Bits s b) e = right_whole s b e
phase_whole (Heard s) e = refl
phase_whole Rest e = refl
phase_whole (Over f) e = refl

pub write_keeps : (d : Driver) (level : ℕ) (xs : List ℕ) → d.request.reads ≡ false → buffer_of d level xs ≡ xs
unfolding buffer_of byte_kept_of
write_keeps d level xs w =
    branch (λ (ys : List ℕ). ys ≡ xs) (range_of d (length xs))
    (λ e. simp (phase_whole d.phase (subst (λ (b : Bool). phase_right d.phase b ≡ true) w (good_counts d (length xs) e).right)))
    (λ e. refl)

-- a driver out of range: refusal 4, and nothing changes
pub unfit_stays : (d : Driver) (level : ℕ) (xs : List ℕ) → range_of d (length xs) ≡ false → (driver_next_of d level xs ≡ bad_state_of d) × (buffer_of d level xs ≡ xs)
unfolding driver_next_of buffer_of
unfit_stays d level xs e = simp e (refl, refl)

-- so is every step of a driver whose request was refused
pub refused_stays : (r : Request) (level : ℕ) (xs : List ℕ) → is_fine (judge_of r) ≡ false → (driver_next_of (fresh r) level xs ≡ bad_state_of (fresh r)) × (buffer_of (fresh r) level xs ≡ xs)
unfolding range_of
refused_stays r level xs e = unfit_stays (fresh r) level xs (simp e)
