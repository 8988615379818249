-- `packed_chip_of` and `unpacked_chip_of` keep what is promised of them: each is the other's inverse.
-- Assumes nothing.
use Prim.Native.Nat.{ℕ, zero, suc, ◌/◌, ◌%◌, ◌≤◌, ◌<◌}
use mathlib.Core.Path.{◌≡◌, ◌∙◌, refl}
use mathlib.Core.Bool.{Bool, true, false, cond}
use mathlib.Core.List.{List, [], ◌∷◌}
use native.Mathlib.Decide.{ℕ_discrete}
use native.Mathlib.Omega.{arith}
use lib.ListN.{length, get_or, drop, length-append, length-drop}
use lib.Seq.{drop-cons}
use lib.Dec.{eqb, ltb}
use borrow.Author.Tests.{eq-eqb, eqb-true, ltb-true, lt-ltb, le-ltb}
use Rattle.parts.specs.Table.{facts_of}
use Rattle.parts.specs.Bytes.{flag_of, AllBelow}
use Rattle.parts.proofs.Laws.{sound, branch}
use Rattle.parts.proofs.Bytes.{flag_below, flag_back, flag_in, below_at, below_drop}
use Rattle.parts.proofs.Tests.{both}
use Rattle.line.specs.declared.Pin.{Pin}
use Rattle.line.specs.declared.Pin.TheVariants.{Absent, Low, High, Floating}
use Rattle.line.specs.declared.Target.TheVariants.{Array, Ident}
use Rattle.line.specs.declared.Recv.{Recv}
use Rattle.line.specs.declared.Recv.TheVariants.{Select, AddressHigh, AddressLow, Fill, LockByte, LockTaken}
use Rattle.line.specs.declared.Cycle.TheVariants.{Writing, Locking}
use Rattle.line.specs.declared.Phase.{Phase}
use Rattle.line.specs.declared.Phase.TheVariants.{Idle, Receive, Send, Busy}
use Rattle.state.specs.declared.Chip.{Chip}
use Rattle.state.specs.Range.{in_range_of}
use Rattle.pack_chip.specs.Layout.{pin_code_of, chip_phase_code_of, phase_high_of, chip_length, pairs_of, chip_head_of, packed_chip_of, pin_in, recv_in, chip_phase_in, pair_joined_of, pairs_in, line_in, chip_phase_code_right_of, chip_codes_right_of, holds_chip_of, no_chip, unpacked_chip_of}
use Rattle.pack_chip.specs.Promises.{ChipFits, ChipPacksBack, ChipUnpacksBack, ChipRefusesOthers}
use Rattle.pack_chip.proofs.Laws.{pairs_length, row_length, holds_long}

-- ---- the codes: from a state and back

pin_back : (p : Pin) → pin_in (pin_code_of p) ≡ p
unfolding pin_in
pin_back Absent = refl
pin_back Low = refl
pin_back High = refl
pin_back Floating = refl

pin_right : (p : Pin) → ltb (pin_code_of p) 4 ≡ true
pin_right Absent = refl
pin_right Low = refl
pin_right High = refl
pin_right Floating = refl

-- both at once, for every phase
record Coded (p : Phase) : Type 0 where
  back : chip_phase_in (chip_phase_code_of p) (phase_high_of p) ≡ p
  right : chip_phase_code_right_of (chip_phase_code_of p) (phase_high_of p) ≡ true

recv_coded : (r : Recv) → Coded (Receive r)
unfolding chip_phase_in recv_in chip_phase_code_right_of
recv_coded Select = record { back = refl; right = refl }
recv_coded (AddressHigh Array) = record { back = refl; right = refl }
recv_coded (AddressHigh Ident) = record { back = refl; right = refl }
recv_coded (AddressLow Array high) = record { back = refl; right = refl }
recv_coded (AddressLow Ident high) = record { back = refl; right = refl }
recv_coded (Fill Array true) = record { back = refl; right = refl }
recv_coded (Fill Array false) = record { back = refl; right = refl }
recv_coded (Fill Ident true) = record { back = refl; right = refl }
recv_coded (Fill Ident false) = record { back = refl; right = refl }
recv_coded LockByte = record { back = refl; right = refl }
recv_coded (LockTaken true) = record { back = refl; right = refl }
recv_coded (LockTaken false) = record { back = refl; right = refl }

coded : (p : Phase) → Coded p
unfolding chip_phase_in chip_phase_code_right_of
coded Idle = record { back = refl; right = refl }
coded (Receive r) = recv_coded r
coded (Send Array) = record { back = refl; right = refl }
coded (Send Ident) = record { back = refl; right = refl }
coded (Busy (Writing Array)) = record { back = refl; right = refl }
coded (Busy (Writing Ident)) = record { back = refl; right = refl }
coded (Busy Locking) = record { back = refl; right = refl }

-- ---- the codes: from numbers and back, by a test that is computed at each number below a bound

abbrev below : (ℕ → Bool) → ℕ → Bool
below f zero = true
below f (suc n) = cond (f n) (below f n) false

at_next : (f : ℕ → Bool) (n k : ℕ) → f n ≡ true → (k < n → f k ≡ true) → k < suc n → Dec (k ≡ n) → f k ≡ true
at_next f n k h rest l (yes e) = rw e h
at_next f n k h rest l (no e) = rest (omega (arith, e))

at_each : (f : ℕ → Bool) (n : ℕ) → below f n ≡ true → (k : ℕ) → k < n → f k ≡ true
at_each f zero h k l = absurd (omega arith)
at_each f (suc n) h k l =
    let t = both (f n) (below f n) h in
    at_next f n k t.0 (at_each f n t.1 k) l (ℕ_discrete k n)

pin_again : (n : ℕ) → n < 4 → pin_code_of (pin_in n) ≡ n
unfolding pin_in
pin_again n h = eqb-true _ _ (at_each (λ k. eqb (pin_code_of (pin_in k)) k) 4 refl n h)

code_again : (n high : ℕ) → n < 18 → chip_phase_code_of (chip_phase_in n high) ≡ n
unfolding chip_phase_in recv_in
code_again n high h = eqb-true _ _ (at_each (λ k. eqb (chip_phase_code_of (chip_phase_in k high)) k) 18 refl n h)

none_high : (n : ℕ) → n < 18 → phase_high_of (chip_phase_in n 0) ≡ 0
unfolding chip_phase_in recv_in
none_high n h = eqb-true _ _ (at_each (λ k. eqb (phase_high_of (chip_phase_in k 0)) 0) 18 refl n h)

high_again : (n high : ℕ) → n < 18 → cond (eqb n 4) true (cond (eqb n 5) true (eqb high 0)) ≡ true → phase_high_of (chip_phase_in n high) ≡ high
unfolding chip_phase_in recv_in
high_again n high h =
    branch (λ (b : Bool). b ≡ true → phase_high_of (chip_phase_in n high) ≡ high) (eqb n 4)
    (λ e _. rw (eqb-true n 4 e) refl)
    (λ _. branch (λ (b : Bool). b ≡ true → phase_high_of (chip_phase_in n high) ≡ high) (eqb n 5)
    (λ e _. rw (eqb-true n 5 e) refl)
    (λ _ z. rw (eqb-true high 0 z) (none_high n h)))

record Right (pin inhibited locked code high : ℕ) : Type 0 where
  pin_low : pin < 4
  inhibited_low : inhibited < 2
  locked_low : locked < 2
  code_low : code < 18
  high_kept : cond (eqb code 4) true (cond (eqb code 5) true (eqb high 0)) ≡ true

right : (pin inhibited locked code high : ℕ) → chip_codes_right_of pin inhibited locked code high ≡ true → Right pin inhibited locked code high
unfolding chip_codes_right_of chip_phase_code_right_of
right pin inhibited locked code high h =
    let a = both (ltb pin 4) (cond (ltb inhibited 2) (cond (ltb locked 2) (chip_phase_code_right_of code high) false) false) h in
    let b = both (ltb inhibited 2) (cond (ltb locked 2) (chip_phase_code_right_of code high) false) a.1 in
    let c = both (ltb locked 2) (chip_phase_code_right_of code high) b.1 in
    let d = both (ltb code 18) (cond (eqb code 4) true (cond (eqb code 5) true (eqb high 0))) c.1 in
    record { pin_low = ltb-true pin 4 a.0; inhibited_low = ltb-true inhibited 2 b.0; locked_low = ltb-true locked 2 c.0; code_low = ltb-true code 18 d.0; high_kept = d.1 }

-- ---- rows of numbers

row_of_pairs : (k : List ℕ) → pairs_in (pairs_of k) ≡ k
row_of_pairs [] = refl
row_of_pairs (x ∷ k) = let e : pair_joined_of (x / 256) (x % 256) ≡ x = omega arith in rw (e, row_of_pairs k)

pairs_of_row : (l : List ℕ) → AllBelow 256 l → length l % 2 ≡ 0 → pairs_of (pairs_in l) ≡ l
pairs_of_row [] b h = refl
pairs_of_row (x ∷ []) b h = absurd (omega arith)
pairs_of_row (x ∷ y ∷ l) b h =
    let e : pair_joined_of x y / 256 ≡ x = omega (arith, b.1.0) in
    let d : pair_joined_of x y % 256 ≡ y = omega (arith, b.1.0) in
    rw (e, d, pairs_of_row l b.1.1 (omega arith))

row_fits : (l : List ℕ) → AllBelow 256 l → AllBelow 65536 (pairs_in l)
row_fits [] b = tt
row_fits (x ∷ []) b = tt
row_fits (x ∷ y ∷ l) b = (omega (arith, b.0, b.1.0), row_fits l b.1.1)

pairs_fit : (k : List ℕ) → AllBelow 65536 k → AllBelow 256 (pairs_of k)
pairs_fit [] b = tt
pairs_fit (x ∷ k) b = (omega (arith, b.0), (omega arith, pairs_fit k b.1))

nine : (l : List ℕ) → length l ≡ 137
    → get_or l 0 0 ∷ get_or l 1 0 ∷ get_or l 2 0 ∷ get_or l 3 0 ∷ get_or l 4 0 ∷ get_or l 5 0 ∷ get_or l 6 0 ∷ get_or l 7 0 ∷ get_or l 8 0 ∷ drop 9 l ≡ l
nine l h =
    rw (← drop-cons l 8 0 (omega arith), ← drop-cons l 7 0 (omega arith), ← drop-cons l 6 0 (omega arith), ← drop-cons l 5 0 (omega arith), ← drop-cons l 4 0 (omega arith), ← drop-cons l 3 0 (omega arith), ← drop-cons l 2 0 (omega arith), ← drop-cons l 1 0 (omega arith), ← drop-cons l 0 0 (omega arith)) refl

-- ---- the promises

code_low : (n high : ℕ) → chip_phase_code_right_of n high ≡ true → n < 18
unfolding chip_phase_code_right_of
code_low n high h = ltb-true n 18 (both (ltb n 18) (cond (eqb n 4) true (cond (eqb n 5) true (eqb high 0))) h).0

pin_low : (p : Pin) → pin_code_of p < 256
pin_low p = let h = ltb-true (pin_code_of p) 4 (pin_right p) in omega arith

bytes : (c : Chip) → ChipFits c → AllBelow 256 (packed_chip_of c)
unfolding packed_chip_of
bytes c f =
    let k = code_low (chip_phase_code_of c.line.phase) (phase_high_of c.line.phase) (coded c.line.phase).right in
    (omega (arith, f.counter), (omega arith, (pin_low c.line.core.pin, (omega (arith, flag_below c.line.core.inhibited), (omega (arith, flag_below c.line.core.locked), (omega (arith, k), (f.high, (f.left, (f.shift, pairs_fit c.latch f.latch)))))))))

holding : (c : Chip) → ChipFits c → holds_chip_of (packed_chip_of c) ≡ true
unfolding packed_chip_of holds_chip_of chip_codes_right_of
holding c f =
    let n : length (packed_chip_of c) ≡ 137 = length-append (chip_head_of c.line) (pairs_of c.latch) ∙ rw (pairs_length, f.latches) refl in
    rw (eq-eqb (length (packed_chip_of c)) 137 n, pin_right c.line.core.pin, lt-ltb _ 2 (flag_below c.line.core.inhibited), lt-ltb _ 2 (flag_below c.line.core.locked))
    (coded c.line.phase).right

same : (c : Chip) (n : ℕ) (p : Pin) (i l : Bool) (ph : Phase) (k : List ℕ)
    → n ≡ c.line.core.counter → p ≡ c.line.core.pin → i ≡ c.line.core.inhibited → l ≡ c.line.core.locked → ph ≡ c.line.phase → k ≡ c.latch
    → ◌≡◌ {A = Chip} (record { line = record { core = record { counter = n; pin = p; inhibited = i; locked = l }; phase = ph; left = c.line.left; shift = c.line.shift }; latch = k }) c
same c n p i l ph k a b d e f g = rw (a, b, d, e, f, g) refl

pub chip_packs_back : ChipPacksBack packed_chip_of unpacked_chip_of
unfolding packed_chip_of unpacked_chip_of
chip_packs_back c f = (
  bytes c f,
  holding c f,
  rw (holding c f)
      (same c (pair_joined_of (c.line.core.counter / 256) (c.line.core.counter % 256)) (pin_in (pin_code_of c.line.core.pin)) (eqb (flag_of c.line.core.inhibited) 1) (eqb (flag_of c.line.core.locked) 1) (chip_phase_in (chip_phase_code_of c.line.phase) (phase_high_of c.line.phase)) (pairs_in (pairs_of c.latch))
      (omega arith)
      (pin_back c.line.core.pin)
      (flag_back c.line.core.inhibited)
      (flag_back c.line.core.locked)
      (coded c.line.phase).back
      (row_of_pairs c.latch)),
)

module _ (l : List ℕ) (b : AllBelow 256 l) (h : holds_chip_of l ≡ true) where
  codes : Right (get_or l 2 0) (get_or l 3 0) (get_or l 4 0) (get_or l 5 0) (get_or l 6 0)
  unfolding holds_chip_of
  codes =
      right (get_or l 2 0) (get_or l 3 0) (get_or l 4 0) (get_or l 5 0) (get_or l 6 0)
      (both (eqb (length l) chip_length) (chip_codes_right_of (get_or l 2 0) (get_or l 3 0) (get_or l 4 0) (get_or l 5 0) (get_or l 6 0)) h).1

  rest_length : length (drop 9 l) ≡ 128
  rest_length = simp length-drop (omega (arith, holds_long l h))

  fits : ChipFits (record { line = line_in l; latch = pairs_in (drop 9 l) })
  fits =
      record {
        counter = omega (arith, below_at l b 0, below_at l b 1);
        high = rw (high_again (get_or l 5 0) (get_or l 6 0) codes.code_low codes.high_kept) (below_at l b 6);
        left = below_at l b 7;
        shift = below_at l b 8;
        latches = rw (row_length, rest_length) refl;
        latch = row_fits (drop 9 l) (below_drop 256 9 l b);
      }

  again : packed_chip_of (record { line = line_in l; latch = pairs_in (drop 9 l) }) ≡ l
  unfolding packed_chip_of
  again =
      let low = below_at l b 1 in
      let first : pair_joined_of (get_or l 0 0) (get_or l 1 0) / 256 ≡ get_or l 0 0 = omega arith in
      let second : pair_joined_of (get_or l 0 0) (get_or l 1 0) % 256 ≡ get_or l 1 0 = omega arith in
      let even : length (drop 9 l) % 2 ≡ 0 = rw rest_length refl in
      rw (first, second, pin_again (get_or l 2 0) codes.pin_low, flag_in (get_or l 3 0) codes.inhibited_low, flag_in (get_or l 4 0) codes.locked_low, code_again (get_or l 5 0) (get_or l 6 0) codes.code_low, high_again (get_or l 5 0) (get_or l 6 0) codes.code_low codes.high_kept, pairs_of_row (drop 9 l) (below_drop 256 9 l b) even)
      (nine l (holds_long l h))

pub chip_unpacks_back : ChipUnpacksBack packed_chip_of unpacked_chip_of
unfolding unpacked_chip_of
chip_unpacks_back l b h = rw h (fits l b h, again l b h)

pub chip_refuses_others : ChipRefusesOthers unpacked_chip_of
unfolding unpacked_chip_of in_range_of
chip_refuses_others l h part =
    let most : (facts_of part).size ≤ no_chip.line.core.counter = omega (arith, (sound part).size_most) in
    rw (h, le-ltb no_chip.line.core.counter (facts_of part).size most) refl
