-- Packing and unpacking are inverse, both ways.
-- Assumes nothing.
use Prim.Native.Nat.{ℕ, zero, suc, ◌+◌, ◌-◌, ◌<◌, ◌≤◌}
use mathlib.Core.Path.{◌≡◌, refl, sym, ap, ◌∙◌}
use mathlib.Core.Bool.{Bool, true, false, cond, false≢true}
use mathlib.Core.List.{List, [], ◌∷◌, ◌++◌}
use native.Mathlib.Omega.{arith}
use lib.ListN.{length, get_or}
use lib.Dec.{eqb, ltb}
use borrow.Author.Tests.{eqb-true, eqb-false, ltb-true, ltb-false, lt-ltb}
use Rattle.parts.specs.Bytes.{flag_of, AllBelow, word_end, word_of, number_in}
use Rattle.parts.proofs.Laws.{branch}
use Rattle.parts.proofs.Bytes.{flag_below, flag_back, flag_in, below_at, joined_word, joined_small, word_joined, words_below}
use Rattle.parts.proofs.Tests.{both, either}
use Rattle.driver.specs.declared.Place.{Place}
use Rattle.driver.specs.declared.Place.TheVariants.{Array, Ident}
use Rattle.driver.specs.declared.Slot.{Slot}
use Rattle.driver.specs.declared.Slot.TheVariants.{Select, High, Low, Data, Poll, Turn, Take}
use Rattle.driver.specs.declared.Failed.{Failed}
use Rattle.driver.specs.declared.Failed.TheVariants.{AtSelect, AtHigh, AtLow, AtData, AtPolls}
use Rattle.driver.specs.declared.Phase.{Phase}
use Rattle.driver.specs.declared.Phase.TheVariants.{Ready, Bits, Heard, Rest, Over}
use Rattle.driver.specs.declared.Driver.{Driver}
use Rattle.driver.specs.Request.{from_of}
use Rattle.driver.specs.Step.{clocks_of}
use Rattle.pack_driver.specs.Layout.{place_code_of, slot_code_of, failed_code_of, driver_phase_code_of, driver_length, numbers_of, packed_driver_of, all_small_lem, small_of, packs_driver_of, pack_driver_into, place_in, slot_in, failed_in, driver_phase_in, driver_in, driver_phase_code_right_of, driver_codes_right_of, holds_driver_of, unpacked_driver_of}
use Rattle.pack_driver.specs.Promises.{DriverFits, DriverPacksBack, DriverUnpacksBack}
use Rattle.pack_driver.proofs.Laws.{holds_length}

-- ---- tests

-- both of two tests that are made one after the other
-- ---- numbers

pub all_small : (xs : List ℕ) → all_small_lem xs ≡ true → AllBelow word_end xs
all_small [] h = tt
all_small (x ∷ xs) h = let (s, t) = both (ltb x word_end) (all_small_lem xs) h in (ltb-true x word_end s, all_small xs t)

pub small_all : (xs : List ℕ) → AllBelow word_end xs → all_small_lem xs ≡ true
small_all [] h = refl
small_all (x ∷ xs) h = rw (lt-ltb x word_end h.0) (small_all xs h.1)

-- ---- codes

place_below : (p : Place) → place_code_of p < 2
place_below (Array a) = omega arith
place_below (Ident i) = omega arith

place_back : (p : Place) → place_in (place_code_of p) (from_of p) ≡ p
unfolding place_in
place_back (Array a) = refl
place_back (Ident i) = refl

phase_back : (p : Phase) → driver_phase_in (driver_phase_code_of p) (clocks_of p) ≡ p
unfolding driver_phase_in slot_in failed_in
phase_back Ready = refl
phase_back (Bits Select b) = refl
phase_back (Bits High b) = refl
phase_back (Bits Low b) = refl
phase_back (Bits Data b) = refl
phase_back (Bits Poll b) = refl
phase_back (Bits Turn b) = refl
phase_back (Bits Take b) = refl
phase_back (Heard Select) = refl
phase_back (Heard High) = refl
phase_back (Heard Low) = refl
phase_back (Heard Data) = refl
phase_back (Heard Poll) = refl
phase_back (Heard Turn) = refl
phase_back (Heard Take) = refl
phase_back Rest = refl
phase_back (Over AtSelect) = refl
phase_back (Over AtData) = refl
phase_back (Over AtPolls) = refl
phase_back (Over AtHigh) = refl
phase_back (Over AtLow) = refl

either_true : (b : Bool) → cond b true true ≡ true
either_true true = refl
either_true false = refl

phase_right_lem : (p : Phase) → driver_phase_code_right_of (driver_phase_code_of p) (clocks_of p) ≡ true
unfolding driver_phase_code_right_of
phase_right_lem Ready = refl
phase_right_lem (Bits Select b) = either_true (eqb b 0)
phase_right_lem (Bits High b) = either_true (eqb b 0)
phase_right_lem (Bits Low b) = either_true (eqb b 0)
phase_right_lem (Bits Data b) = either_true (eqb b 0)
phase_right_lem (Bits Poll b) = either_true (eqb b 0)
phase_right_lem (Bits Turn b) = either_true (eqb b 0)
phase_right_lem (Bits Take b) = either_true (eqb b 0)
phase_right_lem (Heard Select) = refl
phase_right_lem (Heard High) = refl
phase_right_lem (Heard Low) = refl
phase_right_lem (Heard Data) = refl
phase_right_lem (Heard Poll) = refl
phase_right_lem (Heard Turn) = refl
phase_right_lem (Heard Take) = refl
phase_right_lem Rest = refl
phase_right_lem (Over AtSelect) = refl
phase_right_lem (Over AtData) = refl
phase_right_lem (Over AtPolls) = refl
phase_right_lem (Over AtHigh) = refl
phase_right_lem (Over AtLow) = refl

phase_below : (p : Phase) → driver_phase_code_of p < 21
unfolding driver_phase_code_right_of
phase_below p = ltb-true _ 21 (both (ltb (driver_phase_code_of p) 21) _ (phase_right_lem p)).0

codes_right : (p : Place) (b : Bool) (s : Phase) → driver_codes_right_of (place_code_of p) (flag_of b) (driver_phase_code_of s) (clocks_of s) ≡ true
unfolding driver_codes_right_of
codes_right p b s = rw (lt-ltb _ 2 (place_below p), lt-ltb _ 2 (flag_below b)) (phase_right_lem s)

-- ---- packed, and unpacked again

module _ (d : Driver) (small : small_of d ≡ true) where
  each : AllBelow word_end (numbers_of d)
  unfolding small_of
  each = all_small (numbers_of d) small

  pub packed_below : DriverFits d → AllBelow 256 (packed_driver_of d)
  unfolding packed_driver_of
  packed_below f = (
    f.part,
    (
      f.enable,
      (
        omega (arith, place_below d.request.place),
        (
          omega (arith, flag_below d.request.reads),
          (
            omega (arith, phase_below d.phase),
            (
              f.clocks,
              (f.byte, words_below (numbers_of d)),
            ),
          ),
        ),
      ),
    ),
  )

  pub packed_holds : holds_driver_of (packed_driver_of d) ≡ true
  unfolding holds_driver_of packed_driver_of
  packed_holds = codes_right d.request.place d.request.reads d.phase

  pub driver_back : driver_in (packed_driver_of d) ≡ d
  unfolding packed_driver_of
  driver_back =
      let s = each in
      let at = joined_word (from_of d.request.place) s.0 in
      λ i. record {
        request = record {
          part = d.request.part;
          enable = d.request.enable;
          place = (ap (place_in (place_code_of d.request.place)) at ∙ place_back d.request.place) i;
          reads = flag_back d.request.reads i;
          length = joined_word d.request.length s.1.0 i;
          budget = joined_word d.request.budget s.1.1.0 i;
        };
        phase = phase_back d.phase i;
        counts = record {
          at = joined_word d.counts.at s.1.1.1.0 i;
          seen = joined_word d.counts.seen s.1.1.1.1.0 i;
          tries = joined_word d.counts.tries s.1.1.1.1.1.0 i;
          polls = joined_word d.counts.polls s.1.1.1.1.1.1.0 i;
          byte = d.counts.byte;
        };
      }

  pub unpacked_packed : unpacked_driver_of (packed_driver_of d) ≡ d
  unfolding unpacked_driver_of
  unpacked_packed = rw packed_holds driver_back

pub packs_small : (n : ℕ) (d : Driver) → packs_driver_of n d ≡ true → small_of d ≡ true
unfolding packs_driver_of
packs_small n d h = (both (eqb n driver_length) (small_of d) h).1

pub driver_packs_back : DriverPacksBack pack_driver_into unpacked_driver_of
unfolding pack_driver_into
driver_packs_back d out f h =
    let s = packs_small (length out) d h in
    rw h (packed_below d s f, packed_holds d s, unpacked_packed d s)

-- ---- unpacked, and packed again

-- the list of the first k of them
abbrev row_of : (ℕ → ℕ) → ℕ → List ℕ
row_of f zero = []
row_of f (suc k) = f zero ∷ row_of (λ i. f (suc i)) k

row_whole : (k : ℕ) (l : List ℕ) → length l ≡ k → row_of (λ i. get_or l i 0) k ≡ l
row_whole zero [] e = refl
row_whole zero (x ∷ l) e = absurd (omega arith)
row_whole (suc k) [] e = absurd (omega arith)
row_whole (suc k) (x ∷ l) e = ap (λ (r : List ℕ). x ∷ r) (row_whole k l (omega arith))

place_code_in : (c x : ℕ) → c < 2 → place_code_of (place_in c x) ≡ c
unfolding place_in
place_code_in zero x h = refl
place_code_in (suc zero) x h = refl
place_code_in (suc (suc c)) x h = absurd (omega arith)

from_in : (c x : ℕ) → from_of (place_in c x) ≡ x
unfolding place_in
from_in c x = branch (λ (p : Place). from_of p ≡ x) (eqb c 0) (λ e. refl) (λ e. refl)

slot_code_in : (n : ℕ) → n < 7 → slot_code_of (slot_in n) ≡ n
unfolding slot_in
slot_code_in n h =
    branch Q (eqb n 0) (λ e. sym (eqb-true n 0 e)) (λ e₀.
    branch Q (eqb n 1) (λ e. sym (eqb-true n 1 e)) (λ e₁.
    branch Q (eqb n 2) (λ e. sym (eqb-true n 2 e)) (λ e₂.
    branch Q (eqb n 3) (λ e. sym (eqb-true n 3 e)) (λ e₃.
    branch Q (eqb n 4) (λ e. sym (eqb-true n 4 e)) (λ e₄.
    branch Q (eqb n 5) (λ e. sym (eqb-true n 5 e)) (λ e₅.
    let f₀ = eqb-false n 0 e₀ in
    let f₁ = eqb-false n 1 e₁ in
    let f₂ = eqb-false n 2 e₂ in
    let f₃ = eqb-false n 3 e₃ in
    let f₄ = eqb-false n 4 e₄ in
    let f₅ = eqb-false n 5 e₅ in
    omega arith))))))
  where
    Q : Slot → Type 0
    Q s = slot_code_of s ≡ n

failed_code_in : (n : ℕ) → n < 5 → failed_code_of (failed_in n) ≡ n
unfolding failed_in
failed_code_in n h =
    branch Q (eqb n 0) (λ e. sym (eqb-true n 0 e)) (λ e₀.
    branch Q (eqb n 1) (λ e. sym (eqb-true n 1 e)) (λ e₁.
    branch Q (eqb n 2) (λ e. sym (eqb-true n 2 e)) (λ e₂.
    branch Q (eqb n 3) (λ e. sym (eqb-true n 3 e)) (λ e₃.
    let f₀ = eqb-false n 0 e₀ in
    let f₁ = eqb-false n 1 e₁ in
    let f₂ = eqb-false n 2 e₂ in
    let f₃ = eqb-false n 3 e₃ in
    omega arith))))
  where
    Q : Failed → Type 0
    Q f = failed_code_of f ≡ n

-- a code and its clocks come back
module _ (n clocks : ℕ) (h : driver_phase_code_right_of n clocks ≡ true) where
  code_below : n < 21
  unfolding driver_phase_code_right_of
  code_below = ltb-true n 21 (both (ltb n 21) _ h).0

  phase_code_in : driver_phase_code_of (driver_phase_in n clocks) ≡ n
  unfolding driver_phase_in
  phase_code_in =
      let m = code_below in
      branch Q (ltb n 1) (λ e. let l = ltb-true n 1 e in omega arith) (λ e₀. let f₀ = ltb-false n 1 e₀ in
      branch Q (ltb n 8) (λ e. let l = ltb-true n 8 e in omega (arith, slot_code_in (n - 1) (omega arith))) (λ e₁. let f₁ = ltb-false n 8 e₁ in
      branch Q (ltb n 15) (λ e. let l = ltb-true n 15 e in omega (arith, slot_code_in (n - 8) (omega arith))) (λ e₂. let f₂ = ltb-false n 15 e₂ in
      branch Q (ltb n 16) (λ e. let l = ltb-true n 16 e in omega arith) (λ e₃. let f₃ = ltb-false n 16 e₃ in omega (arith, failed_code_in (n - 16) (omega arith))))))
    where
      Q : Phase → Type 0
      Q p = driver_phase_code_of p ≡ n

  counted : (eqb clocks 0 ≡ false) → (1 ≤ n) × (n < 8)
  unfolding driver_phase_code_right_of
  counted e =
      let z = rw e at (both (ltb n 21) _ h).1 in
      branch (λ (t : Bool). t ≡ true → (1 ≤ n) × (n < 8)) (ltb n 1) (λ l f. absurd (false≢true f)) (λ l f. (ltb-false n 1 l, ltb-true n 8 f)) z

  -- no clock is counted outside a byte
  none_counted : ((1 ≤ n) × (n < 8) → ⊥) → 0 ≡ clocks
  none_counted out = either (eqb clocks 0) (λ e. sym (eqb-true clocks 0 e)) (λ e. absurd (out (counted e)))

  clocks_in : clocks_of (driver_phase_in n clocks) ≡ clocks
  unfolding driver_phase_in
  clocks_in =
      branch Q (ltb n 1) (λ e. let l = ltb-true n 1 e in none_counted (λ b. let x = b.0 in omega arith)) (λ e₀.
      branch Q (ltb n 8) (λ e. refl) (λ e₁. let f₁ = ltb-false n 8 e₁ in
      branch Q (ltb n 15) (λ e. none_counted (λ b. let x = b.1 in omega arith)) (λ e₂.
      branch Q (ltb n 16) (λ e. none_counted (λ b. let x = b.1 in omega arith)) (λ e₃. none_counted (λ b. let x = b.1 in omega arith)))))
    where
      Q : Phase → Type 0
      Q p = clocks_of p ≡ clocks

module _ (l : List ℕ) (b : AllBelow 256 l) (h : holds_driver_of l ≡ true) where
  right : driver_codes_right_of (get_or l 2 0) (get_or l 3 0) (get_or l 4 0) (get_or l 5 0) ≡ true
  unfolding holds_driver_of
  right = (both (eqb (length l) driver_length) _ h).1

  place_right : get_or l 2 0 < 2
  unfolding driver_codes_right_of
  place_right = ltb-true _ 2 (both (ltb (get_or l 2 0) 2) _ right).0

  reads_right : get_or l 3 0 < 2
  unfolding driver_codes_right_of
  reads_right = ltb-true _ 2 (both (ltb (get_or l 3 0) 2) _ (both (ltb (get_or l 2 0) 2) _ right).1).0

  phase_is_right : driver_phase_code_right_of (get_or l 4 0) (get_or l 5 0) ≡ true
  unfolding driver_codes_right_of
  phase_is_right = (both (ltb (get_or l 3 0) 2) _ (both (ltb (get_or l 2 0) 2) _ right).1).1

  at : (i : ℕ) → get_or l i 0 < 256
  at = below_at l b

  word_at : (i : ℕ) → word_of (number_in l i) ≡ get_or l i 0 ∷ get_or l (i + 1) 0 ∷ get_or l (i + 2) 0 ∷ get_or l (i + 3) 0 ∷ []
  word_at i = word_joined (get_or l i 0) (get_or l (i + 1) 0) (get_or l (i + 2) 0) (get_or l (i + 3) 0) (at i) (at (i + 1)) (at (i + 2)) (at (i + 3))

  small_at : (i : ℕ) → number_in l i < word_end
  small_at i = joined_small (get_or l i 0) (get_or l (i + 1) 0) (get_or l (i + 2) 0) (get_or l (i + 3) 0) (at i) (at (i + 1)) (at (i + 2)) (at (i + 3))

  from_at : from_of (place_in (get_or l 2 0) (number_in l 7)) ≡ number_in l 7
  from_at = from_in (get_or l 2 0) (number_in l 7)

  pub driver_fits : DriverFits (driver_in l)
  driver_fits = record { part = at 0; enable = at 1; clocks = rw (clocks_in (get_or l 4 0) (get_or l 5 0) phase_is_right) (at 5); byte = at 6 }

  pub driver_small : small_of (driver_in l) ≡ true
  unfolding small_of
  driver_small =
      small_all (numbers_of (driver_in l))
      (rw from_at (small_at 7), (small_at 11, (small_at 15, (small_at 19, (small_at 23, (small_at 27, (small_at 31, tt)))))))

  pub bytes_back : packed_driver_of (driver_in l) ≡ l
  unfolding packed_driver_of
  bytes_back =
      (λ i.
      get_or l 0 0
      ∷ get_or l 1 0
      ∷ place_code_in (get_or l 2 0) (number_in l 7) place_right i
      ∷ flag_in (get_or l 3 0) reads_right i
      ∷ phase_code_in (get_or l 4 0) (get_or l 5 0) phase_is_right i
      ∷ clocks_in (get_or l 4 0) (get_or l 5 0) phase_is_right i
      ∷ get_or l 6 0
      ∷ ((ap word_of from_at ∙ word_at 7) i
      ++ (word_at 11 i ++ (word_at 15 i ++ (word_at 19 i ++ (word_at 23 i ++ (word_at 27 i ++ (word_at 31 i ++ []))))))))
      ∙ row_whole driver_length l (holds_length l h)

pub driver_unpacks_back : DriverUnpacksBack pack_driver_into unpacked_driver_of
unfolding pack_driver_into unpacked_driver_of packs_driver_of
driver_unpacks_back l out b h e =
    let s = driver_small l b h in
    rw (h, e) (driver_fits l b h, s, rw s (bytes_back l b h))
