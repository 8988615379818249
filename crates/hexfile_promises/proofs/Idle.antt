-- The wrong readers and writers of specs/Idle.antt break the promise, whatever goes with them.
-- Assumes nothing.
use Rattle.std.specs.Prelude.{Ok, Err}
use Prim.Native.Nat.{ℕ, zero, suc, ◌/◌, ◌<◌, ◌≤◌}
use mathlib.Core.Path.{◌≡◌, refl, sym, ap, ◌∙◌}
use mathlib.Core.Bool.{Bool}
use mathlib.Core.List.{List, [], ◌∷◌, ◌++◌}
use native.Mathlib.Omega.{arith}
use lib.ListN.{length, get_or, drop, replicate, length-replicate}
use Rattle.parts.specs.Bytes.{AllBelow, same_of}
use Rattle.parts.specs.declared.Refusal.{Refusal}
use Rattle.parts.specs.declared.Refusal.TheVariants.{BadRecord, BadSum, Misplaced, NoEnd}
use Rattle.parts.specs.Verdict.{Verdict}
use Rattle.parts.specs.Table.{facts_of}
use Rattle.parts.proofs.Claims.{refused_not}
use Rattle.text.specs.Digits.{hex_digit_of, value_of}
use Rattle.hexfile.specs.declared.HexRead.{HexRead}
use Rattle.hexfile.specs.Record.{Record, malformed, bytes, last, pair_at, pair_of, formed_of, typed_of, record_in, record_of_lem, end_bytes}
use Rattle.hexfile.specs.File.{Got, gets, no, read_at, read_of, lines_of, fits_of, entered_of, some_of, turn_of}
use Rattle.hexfile.specs.Written.{line_of, text_length_of}
use Rattle.hexfile.specs.Calls.{AfterRead, array_verdict_of, got_of, read_by, reading_of}
use Rattle.hexfile_promises.specs.Files.{Digit, figure, small, none, byte, EndLine, rest, missing, IsFile}
use Rattle.hexfile_promises.specs.Promises.{Reading, Writing, size_of, Lent, text_in_lem, GivesBack, AcceptsOnly}
use Rattle.hexfile_promises.specs.Idle.{View, BlankBreaks, RefusesAllBreaks, end_alone, EndAloneBreaks, viewed_turn, viewed_at, viewed_by, viewed, ViewedIsOurs, skips_sums, SkipsSumsBreaks, later_wins, LaterWinsBreaks, stops_at_end, StopsAtEndBreaks, wants_upper, WantsUpperBreaks, WrongHex}
use Rattle.hexfile_promises.proofs.Calls.{is_lent}
use Rattle.hexfile_promises.proofs.Kept.{accepts_all}

-- ---- part 0, and two arrays of its length

all : ℕ → List ℕ
all v = replicate 2048 v

buffer : List ℕ
buffer = replicate 5644 0

lent : (v : ℕ) → Lent 0 (all v)
unfolding all facts_of
lent v = record { known = omega arith; long = length-replicate 2048 v }

below : (v n : ℕ) → v < 256 → AllBelow 256 (replicate n v)
below v zero h = tt
below v (suc n) h = (h, below v n h)

all-below : (v : ℕ) → v < 256 → AllBelow 256 (all v)
unfolding all
all-below v h = below v 2048 h

room : text_length_of (size_of 0) ≤ length buffer
unfolding buffer text_length_of facts_of
room = omega (arith, length-replicate {A = ℕ} 5644 0)

module _ (read : Reading) (write : Writing) (kept : GivesBack read write) (v : ℕ) (h : v < 256) where
  back : read 0 (text_in_lem (write 0 (all v) buffer)) (all 0) ≡ record { answer = record { verdict = Ok tt; records = size_of 0 / 16; named = size_of 0 }; array = all v }
  back = (kept 0 (all v) (all 0) buffer (lent v) (all-below v h) (lent 0) room).1

refuses_all_breaks : RefusesAllBreaks
refuses_all_breaks read write refuses kept = refuses 0 _ (all 0) (ap (λ (r : AfterRead). r.answer.verdict) (back read write kept 0 (omega arith)))

apart : all 0 ≡ all 255 → ⊥
unfolding all
apart e = let z : ◌≡◌ {A = ℕ} 0 255 = ap (λ (m : List ℕ). get_or m 0 0) e in omega arith

blank_breaks : BlankBreaks
unfolding all
blank_breaks read write reads kept =
    apart (sym (ap (λ (r : AfterRead). r.array) (back read write kept 0 (omega arith))) ∙ reads 0 (text_in_lem (write 0 (all 0) buffer)) (all 0))

end_alone_breaks : EndAloneBreaks
end_alone_breaks read kept =
    apart (sym (ap (λ (r : AfterRead). r.array) (back read end_alone kept 0 (omega arith))) ∙ ap (λ (r : AfterRead). r.array) (back read end_alone kept 255 (omega arith)))

-- ---- ours is one of the views

abbrev ours : View
ours = record { record_of = record_of_lem; fits = fits_of; more = some_of }

same_turn : (cells : List ℕ) (k : ℕ) (more : Bool) (on here : List ℕ → Got) (r : Record) → ((now : List ℕ) → on now ≡ here now)
    → viewed_turn ours on more cells k r ≡ turn_of here more cells k r
same_turn cells k more on here malformed e = refl
same_turn cells k more on here (bytes a d right) e = rw (e (entered_of cells a d)) refl
same_turn cells k more on here last e = refl

same_at : (cells : List ℕ) (k : ℕ) (ls : List (List ℕ)) → viewed_at ours cells k ls ≡ read_at cells k ls
same_at cells k [] = refl
same_at cells k (l ∷ ls) = same_turn cells k (some_of ls) (λ now. viewed_at ours now (suc k) ls) (λ now. read_at now (suc k) ls) (record_of_lem l) (λ now. same_at now (suc k) ls)

same_by : (v : Verdict) (part : ℕ) (text array : List ℕ) → viewed_by ours v (size_of part) text array ≡ read_by v (facts_of part) text array
unfolding read_of
same_by (Ok _) part text array = ap (λ (g : Got). got_of g array) (same_at (replicate (size_of part) 256) 0 (lines_of text))
same_by (Err r) part text array = refl

like_ours : ViewedIsOurs
like_ours part text array = same_by (array_verdict_of (facts_of part) (length array)) part text array

-- ---- texts that are no file, and one that is

-- a text that ours does not read
module _ (text : List ℕ) (r : Refusal) (ours-refuses : read_of (size_of 0) text ≡ no r) where
  not_ours : (read : Reading) → AcceptsOnly read → (read 0 text (all 0)).answer.verdict ≡ Ok tt → ⊥
  not_ours read only fine =
      let x = only 0 text (all 0) fine in
      let n : (reading_of 0 text (all 0)).answer.verdict ≡ Err r = rw (is_lent 0 (all 0) (lent 0), ours-refuses) refl in
      refused_not (sym n ∙ ap (λ (a : HexRead). a.verdict) (accepts_all 0 text (all 0) x.records x.lent x.file x.placed))

-- `:0000000001` and the end record
no_sum : List ℕ
no_sum = 58 ∷ 48 ∷ 48 ∷ 48 ∷ 48 ∷ 48 ∷ 48 ∷ 48 ∷ 48 ∷ 48 ∷ 49 ∷ 10 ∷ line_of end_bytes

skips_sums_lem : SkipsSumsBreaks
unfolding read_of record_in formed_of typed_of same_of pair_of pair_at value_of hex_digit_of fits_of entered_of facts_of no_sum
skips_sums_lem only = not_ours no_sum (BadSum 1) refl skips_sums only (rw (is_lent 0 (all 0) (lent 0)) refl)

-- `:0100000000FF` twice, and the end record
twice : List ℕ
twice = once ++ once ++ line_of end_bytes
  where
    once : List ℕ
    once = line_of (1 ∷ 0 ∷ 0 ∷ 0 ∷ 0 ∷ 255 ∷ [])

later_wins_lem : LaterWinsBreaks
unfolding read_of record_in formed_of typed_of same_of pair_of pair_at value_of hex_digit_of fits_of entered_of facts_of twice
later_wins_lem only = not_ours twice (Misplaced 2) refl later_wins only (rw (is_lent 0 (all 0) (lent 0)) refl)

-- the end record and an empty line
line_after : List ℕ
line_after = line_of end_bytes ++ (10 ∷ [])

stops_at_end_lem : StopsAtEndBreaks
unfolding read_of record_in formed_of typed_of same_of pair_of pair_at value_of hex_digit_of fits_of entered_of facts_of line_after
stops_at_end_lem only = not_ours line_after (NoEnd 2) refl stops_at_end only (rw (is_lent 0 (all 0) (lent 0)) refl)

-- `:00000001ff`
lower : List ℕ
lower = 58 ∷ 48 ∷ 48 ∷ 48 ∷ 48 ∷ 48 ∷ 48 ∷ 48 ∷ 49 ∷ 102 ∷ 102 ∷ []

digit_0 : Digit 48 0
digit_0 = figure {x = 0} refl (omega arith)

digit_1 : Digit 49 1
digit_1 = figure {x = 1} refl (omega arith)

digit_f : Digit 102 15
digit_f = small {x = 15} refl (omega arith) (omega arith)

lower_end : EndLine lower
unfolding lower
lower_end =
    record {
      digits = drop 1 lower;
      colon = refl;
      spelled = byte digit_0 digit_0 refl (byte digit_0 digit_0 refl (byte digit_0 digit_0 refl (byte digit_0 digit_1 refl (byte digit_f digit_f refl none))));
    }

lower_file : IsFile lower []
unfolding lower
lower_file = record { line = lower; stop = []; begins = rest; end = lower_end; ends = missing }

wants_upper_lem : WantsUpperBreaks
unfolding lower
wants_upper_lem all_read =
    let n : (wants_upper 0 lower (all 0)).answer.verdict ≡ Err (BadRecord 1) = rw (is_lent 0 (all 0) (lent 0)) refl in
    refused_not (sym n ∙ ap (λ (a : HexRead). a.verdict) (all_read 0 lower (all 0) [] (lent 0) lower_file tt))

-- ---- each

pub wrong_hex : WrongHex
wrong_hex =
    record {
      blank = blank_breaks;
      refuses_all = refuses_all_breaks;
      end_alone = end_alone_breaks;
      like_ours = like_ours;
      skips_sums = skips_sums_lem;
      later_wins = later_wins_lem;
      stops_at_end = stops_at_end_lem;
      wants_upper = wants_upper_lem;
    }
