-- A text is a file in one way.
-- Assumes nothing.
use Prim.Native.Nat.{ℕ}
use mathlib.Core.Path.{◌≡◌, refl, sym, ◌∙◌}
use mathlib.Core.Bool.{true}
use mathlib.Core.List.{List, [], ◌∷◌}
use native.Mathlib.Omega.{arith}
use Rattle.hexfile.specs.Record.{Record, bytes, last, record_of_lem}
use Rattle.hexfile.specs.File.{lines_of}
use Rattle.hexfile_promises.specs.Files.{GoodLine, Piece, Begins, rest, more, unended, IsFile, FirstLine}
use Rattle.hexfile_promises.specs.Promises.{ReadsOneWay}
use Rattle.hexfile_promises.proofs.Records.{good_record, end_record, end_high}
use Rattle.hexfile_promises.proofs.Lines.{first_of, high_last}
use Rattle.hexfile_promises.proofs.Reading.{end_long, first_good, first_last}

-- the records of lines, and those of a file
abbrev records_of : List (List ℕ) → List Record
records_of [] = []
records_of (l ∷ ls) = record_of_lem l ∷ records_of ls

abbrev shown : List Piece → List Record
shown [] = last ∷ []
shown (p ∷ ps) = bytes p.at p.bytes true ∷ shown ps

one_more : {t l b : List ℕ} {p : Piece} {rs : List Record} → FirstLine t l b → GoodLine l p.at p.bytes → records_of (lines_of b) ≡ rs → records_of (lines_of t) ≡ bytes p.at p.bytes true ∷ rs
one_more f g e = rw (first_of f, good_record g, e)

shown_along : {t r : List ℕ} {ps : List Piece} → Begins t ps r → records_of (lines_of r) ≡ last ∷ [] → records_of (lines_of t) ≡ shown ps
shown_along rest h = h
shown_along (more e g z b) h = one_more (first_good e g z) g (shown_along b h)
shown_along (unended g) h = one_more (first_last g) g h

file_shown : {t : List ℕ} {ps : List Piece} → IsFile t ps → records_of (lines_of t) ≡ shown ps
file_shown i = shown_along i.begins (rw (high_last (end_high i.end) (end_long i.end) i.ends, end_record i.end))

same_shown : (ps qs : List Piece) → shown ps ≡ shown qs → ps ≡ qs
same_shown [] [] e = refl
same_shown [] (q ∷ qs) e = absurd (let z : ◌≡◌ {A = ℕ} 0 1 = cc in omega arith)
same_shown (p ∷ ps) [] e = absurd (let z : ◌≡◌ {A = ℕ} 0 1 = cc in omega arith)
same_shown (p ∷ ps) (q ∷ qs) e =
    let a : p.at ≡ q.at = cc in
    let b : p.bytes ≡ q.bytes = cc in
    let same : p ≡ q = λ i. record { at = a i; bytes = b i } in
    let r = same_shown ps qs (cc) in
    cc

pub reads_one_way : ReadsOneWay
reads_one_way text ps qs f g = same_shown ps qs (sym (file_shown f) ∙ file_shown g)
