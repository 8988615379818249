-- A text line by line, and the array that it names.
-- Assumes nothing.
use mathlib.Core.Path.{◌≡◌, refl, sym, ap, ◌∙◌}
use mathlib.Core.Bool.{Bool, true, false}
use mathlib.Core.List.{List, [], ◌∷◌}
use Prim.Native.Nat.{ℕ, zero, suc, ◌+◌, ◌-◌, ◌≤◌, ◌<◌}
use native.Mathlib.Omega.{arith}
use native.Mathlib.Numerals.{add-one}
use lib.ListN.{length, get_or, take, drop, replicate, length-drop, drop_of_length-le}
use lib.Dec.{eqb, ltb}
use borrow.Author.Tests.{ltb-true, ltb-false, eqb-true}
use Rattle.parts.specs.declared.Refusal.{Refusal}
use Rattle.parts.specs.declared.Refusal.TheVariants.{NoEnd}
use Rattle.parts.specs.Table.{facts_of, id_size_of, buffers_right_of}
use Rattle.parts.proofs.Laws.{branch, sound}
use Rattle.parts.proofs.Claims.{lent_fine}
use Rattle.parts.proofs.Tests.{either, both}
use Rattle.hexfile.specs.declared.HexRead.{HexRead}
use Rattle.hexfile.specs.declared.reading.Line.{Line}
use Rattle.std.specs.Prelude.{Result, Ok, Err, OnOk}
use Rattle.hexfile.specs.Record.{Record, malformed, bytes, last, record_of_lem}
use Rattle.hexfile.specs.File.{Got, before_lf, join_of, lines_of, fits_of, turn_of, some_of, read_at, filled_of, named_of}
use Rattle.hexfile.specs.Steps.{found_of, taken_of, is_taken, Turned, scan_of, judged_of}
use Rattle.hexfile.specs.Calls.{array_verdict_of, refused_hex, got_of}
use Rattle.hexfile.proofs.Kit.{clash}

-- ---- one record

module _ (on : List ℕ → Got) (more : Bool) (cells after : List ℕ) (k : ℕ) where
  turn_taken : (r : Record) → is_taken (found_of cells r) ≡ true → OnOk (found_of cells r) (after ≡ taken_of cells r) → turn_of on more cells k r ≡ on after
  turn_taken malformed h l = clash (sym h)
  turn_taken (bytes a d false) h l = clash (sym h)
  turn_taken (bytes a d true) h l =
      either (fits_of cells a (length d)) (λ f. rw f (ap on (sym (rw f at l)))) (λ f. clash (sym (rw f at h)))
  turn_taken last h l = clash (sym h)

  turn_judged : (r : Record) → is_taken (found_of cells r) ≡ false → OnOk (found_of cells r) (after ≡ taken_of cells r) → scan_of (judged_of (found_of cells r) k more) after ≡ turn_of on more cells k r
  turn_judged malformed h l = rw (add-one k)
  turn_judged (bytes a d false) h l = rw (add-one k)
  turn_judged (bytes a d true) h l =
      either (fits_of cells a (length d)) (λ f. clash (rw f at h)) (λ f. rw (f, add-one k))
  turn_judged last h l = ended more l
    where
      ended : (b : Bool) → after ≡ cells → scan_of (judged_of (found_of cells last) k b) after ≡ turn_of on b cells k last
      ended true e = let z : k + 2 ≡ suc (suc k) = omega arith in rw z
      ended false e = rw e

-- ---- whether there are lines behind

joined-some : (x : ℕ) (ls : List (List ℕ)) → some_of (join_of x ls) ≡ true
joined-some x [] = refl
joined-some x (l ∷ ls) = refl

not_empty : (t : List ℕ) → get_or t 0 0 ≡ 10 → 0 < length t
not_empty [] h = absurd (omega arith)
not_empty (x ∷ t) h = omega arith

pub lines_some : (s : List ℕ) → 0 < length s → some_of (lines_of s) ≡ true
lines_some [] h = absurd (omega arith)
lines_some (x ∷ t) h =
    branch (λ (l : List (List ℕ)). some_of l ≡ true) (eqb x 10) (λ _. refl) (λ _.
    branch (λ (l : List (List ℕ)). some_of l ≡ true) (before_lf x t)
    (λ b. lines_some t (not_empty t (eqb-true (get_or t 0 0) 10 (both (eqb x 13) (eqb (get_or t 0 0) 10) b).1)))
    (λ _. joined-some x (lines_of t)))

behind_some : (t : List ℕ) (n : ℕ) → some_of (lines_of (drop n t)) ≡ ltb n (length t)
behind_some t n =
    either (ltb n (length t))
    (λ h. lines_some (drop n t) (simp length-drop (omega (arith, ltb-true n (length t) h))) ∙ sym h)
    (λ h. let g = ltb-false n (length t) h in rw (drop_of_length-le t g) (sym h))

-- ---- one line

module _ (t before after : List ℕ) (at k : ℕ) (r : Line) (T : Turned t at before after r) where
  pub line_taken : is_taken r.found ≡ true → read_at after (k + 1) (lines_of (drop r.next t)) ≡ read_at before k (lines_of (drop at t))
  line_taken h =
      rw (T.lines, add-one k)
      (sym (turn_taken (λ now. read_at now (suc k) (lines_of (drop r.next t))) (some_of (lines_of (drop r.next t))) before after k (record_of_lem T.line) (rw T.found at h) (rw T.found at T.cells)))

  pub line_judged : is_taken r.found ≡ false → scan_of (judged_of r.found k (ltb r.next (length t))) after ≡ read_at before k (lines_of (drop at t))
  line_judged h =
      rw (T.lines, ← behind_some t r.next, T.found)
      (turn_judged (λ now. read_at now (suc k) (lines_of (drop r.next t))) (some_of (lines_of (drop r.next t))) before after k (record_of_lem T.line) (rw T.found at h) (rw T.found at T.cells))

-- behind the last line
pub no_line : (t cells : List ℕ) (at k : ℕ) → length t ≤ at → scan_of (Err (NoEnd (k + 1))) cells ≡ read_at cells k (lines_of (drop at t))
no_line t cells at k h = rw (drop_of_length-le t h, add-one k)

-- ---- the array

module _ (s : Result ℕ Refusal) (cells array : List ℕ) (g : Got) (e : scan_of s cells ≡ g) where
  pub got_fine : (k n : ℕ) (filled : List ℕ) → s ≡ Ok k → n ≡ named_of cells → filled ≡ filled_of cells → ◌≡◌ {A = HexRead} (record { verdict = Ok tt; records = k; named = n }) (got_of g array).answer × (filled ≡ (got_of g array).array)
  got_fine k n filled v hn hf = (rw (← e, v, hn), rw (← e, v, hf))

  pub got_refused : (r : Refusal) → s ≡ Err r → (refused_hex r ≡ (got_of g array).answer) × (array ≡ (got_of g array).array)
  got_refused r v = (rw (← e, v), rw (← e, v))

-- cells that no record has named
pub fresh : (n m : ℕ) → n ≤ m → take {A = ℕ} n (replicate m 256) ≡ replicate n 256
fresh zero m h = refl
fresh (suc n) zero h = absurd (omega arith)
fresh (suc n) (suc m) h = ap (λ (l : List ℕ). 256 ∷ l) (fresh n m (omega arith))

pub array_size : (part n : ℕ) → array_verdict_of (facts_of part) n ≡ Ok tt → (n ≡ (facts_of part).size) × (n ≤ 32768)
unfolding array_verdict_of buffers_right_of
array_size part n h =
    let f = facts_of part in
    let b = both (eqb n f.size) (eqb (id_size_of f) (id_size_of f)) (lent_fine f n (id_size_of f) h).1 in
    let e : n ≡ f.size = eqb-true n f.size b.0 in
    (e, omega (arith, e, (sound part).size_most))
