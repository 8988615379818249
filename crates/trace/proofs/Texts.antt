-- Laws of texts said one behind the other, of numbers in decimal, and of the first line.
-- Assumes nothing.
use Prim.Native.Nat.{ℕ, ◌+◌, ◌-◌, ◌≤◌, ◌<◌}
use mathlib.Core.Path.{◌≡◌, ◌∙◌, sym, ap, refl}
use mathlib.Core.Bool.{Bool, true, false, cond}
use mathlib.Core.List.{List, [], ◌∷◌, ◌++◌, append_assoc}
use native.Mathlib.Omega.{arith}
use lib.ListN.{length, get_or, take, drop, length-drop}
use lib.Dec.{ltb, eqb}
use lib.Seq.{take_at}
use borrow.Author.Tests.{ltb-true, ltb-false}
use Rattle.trace.specs.Trace.{each_of, digit_of, digits_of, leading_of, decimal_of, head_right_of, part_word, cycles_word, newline, lines_of}
use Rattle.trace.proofs.Laws.{take_all}
use Rattle.parts.proofs.Tests.{both}

pub chain : (p a b c t u v : List ℕ) → t ≡ p ++ a → u ≡ t ++ b → v ≡ u ++ c → v ≡ p ++ (a ++ b ++ c)
chain p a b c t u v h k l = l ∙ ap (λ (x : List ℕ). x ++ c) (k ∙ ap (λ (x : List ℕ). x ++ b) h) ∙ simp append_assoc

pub decimal_short : (n : ℕ) → length (decimal_of n) ≤ 5
unfolding decimal_of
decimal_short n = simp length-drop (omega arith)

-- the part of the five digits behind the leading zeros
pub part_is : (d : List ℕ) (n k : ℕ) → d ≡ digits_of n → k ≡ leading_of n → take (5 - k) (drop k d) ≡ decimal_of n
unfolding decimal_of
part_is d n k e f =
    let short : length (drop k d) ≤ 5 - k = simp length-drop (rw e (omega arith)) in
    take_all (drop k d) (5 - k) short ∙ rw (e, f)

pub each-length : (g : ℕ → ℕ) (xs : List ℕ) → length (each_of g xs) ≡ length xs
each-length g [] = refl
each-length g (x ∷ xs) = simp (each-length g xs)

neither : (a b : Bool) → cond a false b ≡ true → (a ≡ false) × (b ≡ true)
neither true b h = (sym h, cc)
neither false b h = (refl, h)

pub digit_range : (b : ℕ) → digit_of b ≡ true → (48 ≤ b) × (b < 58)
digit_range b h =
    let t = neither (ltb b 48) (ltb b 58) h in
    (ltb-false b 48 t.0, ltb-true b 58 t.1)

pub head_facts : (t : List ℕ) → head_right_of t ≡ true → (4 ≤ length t) × (48 ≤ get_or t 0 0) × (48 ≤ get_or t 2 0)
unfolding head_right_of
head_facts t h =
    let a = neither (ltb (length t) 4) _ h in
    let b = both (digit_of (get_or t 0 0)) _ a.1 in
    let c = both (eqb (get_or t 1 0) 32) _ b.1 in
    let d = both (digit_of (get_or t 2 0)) _ c.1 in
    (ltb-false (length t) 4 a.0, (digit_range (get_or t 0 0) b.0).0, (digit_range (get_or t 2 0) d.0).0)

regroup : (v a b c : List ℕ) → v ++ (a ++ b ++ c) ≡ v ++ a ++ b ++ c
regroup v a b c = simp append_assoc

-- the lines of an answer: what was said first, second, third and last
pub said_lines : (part cycles : ℕ) (chars t u v w : List ℕ) → t ≡ part_word ++ decimal_of part ++ newline → u ≡ t ++ chars → v ≡ u ++ newline
    → w ≡ v ++ (cycles_word ++ decimal_of cycles ++ newline) → w ≡ lines_of part chars cycles
unfolding lines_of
said_lines part cycles chars t u v w h k l m =
    m ∙ regroup v cycles_word (decimal_of cycles) newline
    ∙ ap (λ (x : List ℕ). x ++ cycles_word ++ decimal_of cycles ++ newline) (l ∙ ap (λ (x : List ℕ). x ++ newline) (k ∙ ap (λ (x : List ℕ). x ++ chars) h))

-- the front of a buffer that was written over
pub front_is : (s e rest : List ℕ) (n : ℕ) → e ≡ s → length s ≡ n → take n (e ++ rest) ≡ s
front_is s e rest n h k = rw h (take_at s rest n k)
