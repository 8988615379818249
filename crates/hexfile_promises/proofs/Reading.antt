-- A text that begins with records is read as they are, and a reading comes out by a file or by a fault.
-- Assumes nothing.
use Prim.Native.Nat.{ℕ, zero, suc, ◌+◌, ◌%◌, ◌<◌}
use mathlib.Core.Path.{◌≡◌, refl, sym, ap, subst, ◌∙◌}
use mathlib.Core.Bool.{true, false}
use mathlib.Core.List.{List, [], ◌∷◌, ◌++◌, append_assoc, append-nil}
use native.Mathlib.Omega.{arith}
use lib.Dec.{eqb}
use lib.ListN.{length}
use borrow.Author.Tests.{ne_eqb, eqb-true, eqb-false}
use Rattle.parts.specs.declared.Refusal.{Refusal}
use Rattle.parts.specs.declared.Refusal.TheVariants.{BadRecord, BadSum, Misplaced, NoEnd}
use Rattle.parts.proofs.Laws.{branch}
use Rattle.hexfile.specs.Record.{Record, malformed, bytes, last, sum_of, record_of_lem}
use Rattle.hexfile.specs.File.{lines_of, Got, gets, no, turn_of, some_of, read_at}
use Rattle.hexfile_promises.specs.Files.{Each, data_bytes, DataLine, SumRight, GoodLine, EndLine, LineEnd, lf, cr_lf, closed, missing, Piece, Begins, rest, more, unended, IsFile, FirstLine, by_lf, by_cr_lf, by_end}
use Rattle.hexfile_promises.proofs.Records.{data_record, good_record, end_record, data_below, data_high, end_high, Kind, is_none, is_data, is_end, kind, none_record}
use Rattle.hexfile_promises.proofs.Lines.{first_of, first_shorter, split, high_no_lf, high_first, high_last}
use Rattle.hexfile.proofs.Scans.{lines_some}
use Rattle.hexfile_promises.proofs.Cells.{Bytes, fit, enter, Fit, entered}

-- ---- the first line

good_long : {l : List ℕ} {a : ℕ} {d : List ℕ} → DataLine l a d → 0 < length l
good_long r = rw r.spells.colon (omega arith)

pub end_long : {l : List ℕ} → EndLine l → 0 < length l
end_long e = rw e.colon (omega arith)

pub first_good : {t l z u : List ℕ} {a : ℕ} {d : List ℕ} → t ≡ l ++ z ++ u → GoodLine l a d → LineEnd z → FirstLine t l u
first_good e g z = high_first (data_high g.formed) e z

pub first_last : {t : List ℕ} {a : ℕ} {d : List ℕ} → GoodLine t a d → FirstLine t t []
first_last {t} g = by_end (high_no_lf t (data_high g.formed)) (good_long g.formed)

module _ (cells : List ℕ) (k : ℕ) where
  -- what the first line's record gives
  abbrev turn : List ℕ → Record → Got
  turn b r = turn_of (λ now. read_at now (suc k) (lines_of b)) (some_of (lines_of b)) cells k r

  module _ {t l b : List ℕ} (f : FirstLine t l b) where
    read_first : (r : Record) → record_of_lem l ≡ r → read_at cells k (lines_of t) ≡ turn b r
    read_first r e = rw (first_of f, e) refl

    pub read_good : (p : Piece) → GoodLine l p.at p.bytes → fit cells p ≡ true → read_at cells k (lines_of t) ≡ read_at (enter cells p) (suc k) (lines_of b)
    read_good p g h = read_first (bytes p.at p.bytes true) (good_record g) ∙ rw h refl

-- ---- along the records

abbrev pub counted : ℕ → List Piece → ℕ
counted k [] = k
counted k (p ∷ ps) = counted (suc k) ps

pub counted_is : (k : ℕ) (ps : List Piece) → counted k ps ≡ k + length ps
counted_is k [] = omega arith
counted_is k (p ∷ ps) = omega (arith, counted_is (suc k) ps)

pub begins_bytes : {t r : List ℕ} {ps : List Piece} → Begins t ps r → Each Bytes ps
begins_bytes rest = tt
begins_bytes (more e g z b) = (data_below g.formed, begins_bytes b)
begins_bytes (unended g) = (data_below g.formed, tt)

pub along : {t r : List ℕ} {ps : List Piece} (cells : List ℕ) (k : ℕ) → Begins t ps r → Fit cells ps → read_at cells k (lines_of t) ≡ read_at (entered cells ps) (counted k ps) (lines_of r)
along cells k rest f = refl
along cells k (more {p = p} e g z b) f = read_good cells k (first_good e g z) p g f.0 ∙ along (enter cells p) (suc k) b f.1
along cells k (unended {p = p} g) f = read_good cells k (first_last g) p g f.0

pub read_file : {t : List ℕ} {ps : List Piece} (cells : List ℕ) (k : ℕ) → IsFile t ps → Fit cells ps → read_at cells k (lines_of t) ≡ gets (entered cells ps) (counted k ps)
read_file cells k i f = along cells k i.begins f ∙ rw (high_last (end_high i.end) (end_long i.end) i.ends, end_record i.end) refl

-- ---- a line that is refused, in terms of cells

pub data FaultAt (cells : List ℕ) (k : ℕ) (t : List ℕ) : Refusal → Type 0 where
  not_record : {l b : List ℕ} → FirstLine t l b → ((a : ℕ) (d : List ℕ) → DataLine l a d → ⊥) → (EndLine l → ⊥) → FaultAt cells k t (BadRecord (suc k))
  not_sum : {l b d : List ℕ} {a : ℕ} → FirstLine t l b → (r : DataLine l a d) → (SumRight l a d r → ⊥) → FaultAt cells k t (BadSum (suc k))
  not_fit : {l b : List ℕ} {p : Piece} → FirstLine t l b → GoodLine l p.at p.bytes → fit cells p ≡ false → FaultAt cells k t (Misplaced (suc k))
  not_there : t ≡ [] → FaultAt cells k t (NoEnd (suc k))
  not_last : {l b : List ℕ} → FirstLine t l b → EndLine l → 0 < length b → FaultAt cells k t (NoEnd (suc (suc k)))

pub fault_read : {cells t : List ℕ} {k : ℕ} {r : Refusal} → FaultAt cells k t r → read_at cells k (lines_of t) ≡ no r
fault_read {cells} {t} {k} (not_record f n e) = read_first cells k f malformed (none_record n e)
fault_read {cells} {t} {k} (not_sum {d = d} {a = a} f r s) = read_first cells k f (bytes a d false) (data_record r ∙ ap (bytes a d) (ne_eqb _ 0 s))
fault_read {cells} {t} {k} (not_fit {p = p} f g h) = read_first cells k f (bytes p.at p.bytes true) (good_record g) ∙ rw h refl
fault_read (not_there e) = rw e refl
fault_read {cells} {t} {k} (not_last {b = b} f e n) = read_first cells k f last (end_record e) ∙ rw (lines_some b n) refl

-- ---- every reading

pub data Outcome (cells : List ℕ) (k : ℕ) (t : List ℕ) : Got → Type 0 where
  done : {ps : List Piece} → IsFile t ps → Fit cells ps → Outcome cells k t (gets (entered cells ps) (counted k ps))
  stopped : {ps : List Piece} {u : List ℕ} {r : Refusal} → Begins t ps u → Fit cells ps → FaultAt (entered cells ps) (counted k ps) u r → Outcome cells k t (no r)

nothing_begins : {t u : List ℕ} {ps : List Piece} → Begins t ps u → t ≡ [] → (ps ≡ []) × (u ≡ [])
nothing_begins rest e = (refl, e)
nothing_begins (more d g z b) e = absurd (omega (arith, first_shorter (first_good d g z), ap length e))
nothing_begins (unended g) e = absurd (omega (arith, good_long g.formed, ap length e))

begins_more : {t l b u : List ℕ} {p : Piece} {ps : List Piece} → FirstLine t l b → GoodLine l p.at p.bytes → Begins b ps u → Begins t (p ∷ ps) u
begins_more (by_lf {l = l} {b = b} e n c) g s = more (e ∙ sym (append_assoc l (10 ∷ []) b)) g lf s
begins_more (by_cr_lf {l = l} {b = b} e n) g s = more (e ∙ sym (append_assoc l (13 ∷ 10 ∷ []) b)) g cr_lf s
begins_more (by_end n h) g s = let o = nothing_begins s refl in rw (o.0, o.1) (unended g)

end_alone : {t l b : List ℕ} → FirstLine t l b → EndLine l → b ≡ [] → IsFile t []
end_alone {t} (by_lf {l = l} {b = b} e n c) g z =
    let w : t ≡ l ++ (10 ∷ []) = e ∙ ap (λ (k : List ℕ). l ++ 10 ∷ k) z in
    record { line = l; stop = 10 ∷ []; begins = rw w rest; end = g; ends = closed lf }
end_alone {t} (by_cr_lf {l = l} {b = b} e n) g z =
    let w : t ≡ l ++ (13 ∷ 10 ∷ []) = e ∙ ap (λ (k : List ℕ). l ++ 13 ∷ 10 ∷ k) z in
    record { line = l; stop = 13 ∷ 10 ∷ []; begins = rw w rest; end = g; ends = closed cr_lf }
end_alone {t} (by_end n h) g z = record { line = t; stop = []; begins = subst (λ (u : List ℕ). Begins t [] u) (sym (append-nil t)) rest; end = g; ends = missing }

module _ {cells t l b : List ℕ} {k : ℕ} (f : FirstLine t l b) where
  outcome_more : (p : Piece) {g : Got} → GoodLine l p.at p.bytes → fit cells p ≡ true → Outcome (enter cells p) (suc k) b g → Outcome cells k t g
  outcome_more p h e (done i s) =
      done record { line = i.line; stop = i.stop; begins = begins_more f h i.begins; end = i.end; ends = i.ends } (e, s)
  outcome_more p h e (stopped s w x) = stopped (begins_more f h s) (e, w) x

  outcome_turn : ((now : List ℕ) → Outcome now (suc k) b (read_at now (suc k) (lines_of b))) → {r : Record} → Kind l r → Outcome cells k t (turn cells k b r)
  outcome_turn on (is_none n e) = stopped rest tt (not_record f n e)
  outcome_turn on (is_data {a} {d} r) =
      let p : Piece = record { at = a; bytes = d } in
      branch (Outcome cells k t) (eqb (sum_of (data_bytes r.high r.low d r.check) % 256) 0)
      (λ s. let g : GoodLine l a d = record { formed = r; sum = eqb-true _ 0 s } in
      branch (Outcome cells k t) (fit cells p) (λ h. outcome_more p g h (on (enter cells p))) (λ h. stopped rest tt (not_fit {p = p} f g h)))
      (λ s. stopped rest tt (not_sum f r (eqb-false _ 0 s)))
  outcome_turn on (is_end e) = branch (Outcome cells k t) (some_of (lines_of b)) (λ s. stopped rest tt (not_last f e (some b s))) (λ s. done (end_alone f e (none b s)) tt)
    where
      some : (u : List ℕ) → some_of (lines_of u) ≡ true → 0 < length u
      some [] h = absurd (let z : ◌≡◌ {A = ℕ} 0 1 = cc in omega arith)
      some (x ∷ u) h = omega arith

      none : (u : List ℕ) → some_of (lines_of u) ≡ false → u ≡ []
      none [] h = refl
      none (x ∷ u) h = absurd (let w = lines_some (x ∷ u) (omega arith) in let z : ◌≡◌ {A = ℕ} 0 1 = cc in omega arith)

outcome_in : (n : ℕ) (cells t : List ℕ) (k : ℕ) → length t < n → Outcome cells k t (read_at cells k (lines_of t))
outcome_in zero cells t k h = absurd (omega arith)
outcome_in (suc n) cells [] k h = stopped rest tt (not_there refl)
outcome_in (suc n) cells (x ∷ t) k h =
    let s = split x t in
    rw (first_of s.first) (outcome_turn s.first (λ now. outcome_in n now s.behind (suc k) (omega (arith, first_shorter s.first))) (kind s.line))

pub outcome : (cells t : List ℕ) (k : ℕ) → Outcome cells k t (read_at cells k (lines_of t))
outcome cells t k = outcome_in (suc (length t)) cells t k (omega arith)
