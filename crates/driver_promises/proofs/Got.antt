-- The bytes that a read has got are the levels it was told.
-- Assumes nothing.
use Prim.Native.Nat.{ℕ, zero, suc, ◌+◌, ◌-◌, ◌≤◌, ◌<◌}
use mathlib.Core.Path.{◌≡◌, refl, sym, ◌∙◌, ap, subst}
use mathlib.Core.Bool.{Bool, true, false, false≢true}
use mathlib.Core.List.{List, [], ◌∷◌, ◌++◌}
use lib.ListN.{length, get_or, set, length-append, get_or-append}
use lib.Seq.{get_or-append_seam, get_or-set_same, get_or-set_other}
use lib.Dec.{eqb}
use native.Mathlib.Omega.{arith}
use borrow.Author.Tests.{eqb-true, eqb-false}
use Rattle.driver.specs.declared.Request.{Request}
use Rattle.driver.specs.declared.Slot.{Slot}
use Rattle.driver.specs.declared.Slot.TheVariants.{Select, High, Low, Data, Poll, Turn, Take}
use Rattle.driver.specs.declared.Phase.{Phase}
use Rattle.driver.specs.declared.Phase.TheVariants.{Ready, Bits, Heard, Rest, Over}
use Rattle.driver.specs.declared.Counts.{Counts}
use Rattle.driver.specs.declared.Move.{Move}
use Rattle.driver.specs.Step.{shift_of, told_counts_of}
use Rattle.driver_promises.specs.Run.{clock_of_byte, told_byte}
use Rattle.driver_promises.proofs.View.{takes, Way, w_done, w_open, w_bit, w_ninth, w_got, w_nack, w_high, w_only, w_low, w_turn, w_data, w_more, w_close, w_drop, w_poll, w_again, w_give, w_page, w_take, w_next, w_end, w_over}
use Rattle.driver_promises.proofs.Inv.{Inv, less}
use Rattle.parts.proofs.Tests.{not_yes}

-- the first n bytes of the buffer were told
abbrev pub Bytes : Request → ℕ → List ℕ → List ℕ → Type 0
Bytes r n ys ls = (i : ℕ) → i < n → (clock_of_byte r i + 8 < length ls) × (get_or ys i 0 ≡ told_byte ls (clock_of_byte r i) 8)

abbrev slot_got : Slot → ℕ → Request → Counts → List ℕ → List ℕ → Type 0
slot_got Select b r c ys ls = Unit {0}
slot_got High b r c ys ls = Unit {0}
slot_got Low b r c ys ls = Unit {0}
slot_got Data b r c ys ls = Unit {0}
slot_got Poll b r c ys ls = Unit {0}
slot_got Turn b r c ys ls = Unit {0}
slot_got Take b r c ys ls = Bytes r c.at ys ls × (1 ≤ b) × (c.byte ≡ told_byte ls (clock_of_byte r c.at) (b - 1))

abbrev slot_heard : Slot → Request → Counts → List ℕ → List ℕ → Type 0
slot_heard Select r c ys ls = Unit {0}
slot_heard High r c ys ls = Unit {0}
slot_heard Low r c ys ls = Unit {0}
slot_heard Data r c ys ls = Unit {0}
slot_heard Poll r c ys ls = Unit {0}
slot_heard Turn r c ys ls = Unit {0}
slot_heard Take r c ys ls = Bytes r c.at ys ls

abbrev pub Gets : Phase → Request → Counts → List ℕ → List ℕ → Type 0
Gets Ready r c ys ls = r.reads ≡ true → Bytes r c.at ys ls
Gets (Bits s b) r c ys ls = slot_got s b r c ys ls
Gets (Heard s) r c ys ls = slot_heard s r c ys ls
Gets Rest r c ys ls = Unit {0}
Gets (Over f) r c ys ls = Unit {0}

-- levels told later change nothing
told_more : (ls : List ℕ) (l e j : ℕ) → e + j < length ls → told_byte (ls ++ (l ∷ [])) e j ≡ told_byte ls e j
told_more ls l e zero h = refl
told_more ls l e (suc j) h =
    ap (λ (x : ℕ). shift_of x (get_or (ls ++ (l ∷ [])) (e + j + 1) 0)) (told_more ls l e j (omega arith))
    ∙ ap (shift_of (told_byte ls e j)) (get_or-append ls (l ∷ []) 0 (e + j + 1) (omega arith))

bytes_more : (r : Request) (n : ℕ) (ys ls : List ℕ) (l : ℕ) → Bytes r n ys ls → Bytes r n ys (ls ++ (l ∷ []))
bytes_more r n ys ls l v i h =
    let k = (v i h).0 in
    (omega (arith, length-append ls (l ∷ [])), (v i h).1 ∙ sym (told_more ls l (clock_of_byte r i) 8 k))

-- the level that comes last
told_last : (ls : List ℕ) (l e j : ℕ) → length ls ≡ e + j + 1 → told_byte (ls ++ (l ∷ [])) e (suc j) ≡ shift_of (told_byte ls e j) l
told_last ls l e j h =
    ap (λ (x : ℕ). shift_of x (get_or (ls ++ (l ∷ [])) (e + j + 1) 0)) (told_more ls l e j (omega arith))
    ∙ ap (shift_of (told_byte ls e j)) (ap (λ (i : ℕ). get_or (ls ++ (l ∷ [])) i 0) (sym h) ∙ get_or-append_seam ls l [] 0)

no_bytes : (r : Request) (n : ℕ) (ys ls : List ℕ) → n ≡ 0 → Bytes r n ys ls
no_bytes r n ys ls e i h = absurd (omega arith)

module _ (r : Request) where
  -- one byte more is in the buffer
  one_more : (c : Counts) (l : ℕ) (xs ls : List ℕ) → c.at < length xs → length ls ≡ clock_of_byte r c.at + 8 → Bytes r c.at xs ls → c.byte ≡ told_byte ls (clock_of_byte r c.at) 7 → Bytes r (c.at + 1) (set xs c.at (shift_of c.byte l)) (ls ++ (l ∷ []))
  one_more c l xs ls o n v e i h = go (eqb i c.at) refl
    where
      last : i ≡ c.at → (clock_of_byte r i + 8 < length (ls ++ (l ∷ []))) × (get_or (set xs c.at (shift_of c.byte l)) i 0 ≡ told_byte (ls ++ (l ∷ [])) (clock_of_byte r i) 8)
      last z =
          subst (λ (j : ℕ). (clock_of_byte r j + 8 < length (ls ++ (l ∷ []))) × (get_or (set xs c.at (shift_of c.byte l)) j 0 ≡ told_byte (ls ++ (l ∷ [])) (clock_of_byte r j) 8)) (sym z) (
            omega (arith, length-append ls (l ∷ [])),
            get_or-set_same xs c.at (shift_of c.byte l) 0 o ∙ (ap (λ (x : ℕ). shift_of x l) e ∙ sym (told_last ls l (clock_of_byte r c.at) 7 (omega arith))),
          )

      early : (i ≡ c.at → ⊥) → (clock_of_byte r i + 8 < length (ls ++ (l ∷ []))) × (get_or (set xs c.at (shift_of c.byte l)) i 0 ≡ told_byte (ls ++ (l ∷ [])) (clock_of_byte r i) 8)
      early f =
          let w = bytes_more r c.at xs ls l v i (less i c.at f (omega arith)) in
          (w.0, get_or-set_other xs c.at i (shift_of c.byte l) 0 f ∙ w.1)

      go : (t : Bool) → eqb i c.at ≡ t → (clock_of_byte r i + 8 < length (ls ++ (l ∷ []))) × (get_or (set xs c.at (shift_of c.byte l)) i 0 ≡ told_byte (ls ++ (l ∷ [])) (clock_of_byte r i) 8)
      go true z = last (eqb-true i c.at z)
      go false z = early (eqb-false i c.at z)

  abbrev pub Long : Phase → Counts → List ℕ → Type 0
  Long Ready c ls = Unit {0}
  Long (Bits s b) c ls = takes s ≡ true → length ls ≡ clock_of_byte r c.at + b
  Long (Heard s) c ls = Unit {0}
  Long Rest c ls = Unit {0}
  Long (Over f) c ls = Unit {0}

  bit_got : (s : Slot) (b l : ℕ) (c : Counts) (ys ls : List ℕ) → (takes s ≡ true → length ls ≡ clock_of_byte r c.at + b) → slot_got s b r c ys ls → slot_got s (b + 1) r (told_counts_of s c l) ys (ls ++ (l ∷ []))
  bit_got Select b l c ys ls n g = tt
  bit_got High b l c ys ls n g = tt
  bit_got Low b l c ys ls n g = tt
  bit_got Data b l c ys ls n g = tt
  bit_got Poll b l c ys ls n g = tt
  bit_got Turn b l c ys ls n g = tt
  bit_got Take b l c ys ls n g =
      let o = g.1 in
      let e : b + 1 - 1 ≡ suc (b - 1) = omega arith in (
        bytes_more r c.at ys ls l g.0,
        omega arith,
        ap (λ (x : ℕ). shift_of x l) g.2 ∙ (sym (told_last ls l (clock_of_byte r c.at) (b - 1) (omega (arith, n refl))) ∙ ap (told_byte (ls ++ (l ∷ [])) (clock_of_byte r c.at)) (sym e)),
      )

  ninth_got : (s : Slot) (b l : ℕ) (c : Counts) (ys ls : List ℕ) → takes s ≡ false → slot_heard s r c ys ls
  ninth_got Select b l c ys ls e = tt
  ninth_got High b l c ys ls e = tt
  ninth_got Low b l c ys ls e = tt
  ninth_got Data b l c ys ls e = tt
  ninth_got Poll b l c ys ls e = tt
  ninth_got Turn b l c ys ls e = tt
  ninth_got Take b l c ys ls e = absurd (false≢true (sym e))

  pub got_step : {c : Counts} {l : ℕ} {xs ys : List ℕ} {p : Phase} {m : Move} (ls : List ℕ) → Inv r p c → length xs ≡ r.length → Long p c ls → Gets p r c xs ls → Way r c l xs p m ys → Gets m.phase r m.counts ys (ls ++ (l ∷ []))
  got_step {c} {l} {xs} ls v n k g (w_done e) = λ w. bytes_more r c.at xs ls l (g w)
  got_step ls v n k g (w_open f) = tt
  got_step {c} {l} {xs} ls v n k g (w_bit s b h) = bit_got s b l c xs ls k g
  got_step {c} {l} {xs} ls v n k g (w_ninth s b e h) = ninth_got s b l _ xs _ e
  got_step {c} {l} {xs} ls v n k g (w_got b e h) =
      let z : b - 1 ≡ 7 = omega arith in
      one_more c l xs ls (omega arith) (k refl ∙ ap (λ (i : ℕ). clock_of_byte r c.at + i) e) g.0 (g.2 ∙ ap (told_byte ls (clock_of_byte r c.at)) z)
  got_step ls v n k g (w_nack s e h) = tt
  got_step ls v n k g (w_high z e) = tt
  got_step ls v n k g (w_only z e) = tt
  got_step ls v n k g (w_low z) = tt
  got_step ls v n k g (w_turn z e) = tt
  got_step ls v n k g (w_data z e) = tt
  got_step ls v n k g (w_more z f) = tt
  got_step ls v n k g (w_close z e) = tt
  got_step ls v n k g (w_drop z) = tt
  got_step ls v n k g w_poll = tt
  got_step ls v n k g (w_again z o) = tt
  got_step ls v n k g (w_give z o) = tt
  got_step ls v n k g (w_page z) = λ w. absurd (false≢true (sym (not_yes r.reads v.right) ∙ w))
  got_step {c} {l} {xs} ls v n k g (w_take z) = (no_bytes r c.at xs (ls ++ (l ∷ [])) (v.here.first v.right), omega arith, refl)
  got_step {c} {l} {xs} ls v n k g (w_next f) = (bytes_more r c.at xs ls l g, omega arith, refl)
  got_step {c} {l} {xs} ls v n k g (w_end e) = λ w. bytes_more r c.at xs ls l g
  got_step ls v n k g (w_over f) = tt
