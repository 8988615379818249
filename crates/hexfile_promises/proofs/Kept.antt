-- The promises of specs/Promises.antt are kept.
-- Assumes nothing.
use Rattle.std.specs.Prelude.{Ok, Err}
use Prim.Native.Nat.{ℕ, ◌/◌, ◌≤◌}
use mathlib.Core.Path.{◌≡◌, refl, sym, ap, ◌∙◌}
use mathlib.Core.List.{List, ◌++◌}
use native.Mathlib.Omega.{arith}
use native.Mathlib.Nat.{zero-add}
use lib.ListN.{length, drop}
use lib.Seq.{take_at}
use Rattle.parts.specs.declared.Facts.{Facts}
use Rattle.parts.specs.declared.Refusal.{Refusal}
use Rattle.parts.specs.Verdict.{Verdict}
use Rattle.parts.specs.Bytes.{AllBelow}
use Rattle.parts.specs.Table.{facts_of}
use Rattle.parts.proofs.Claims.{refused_not}
use Rattle.parts.proofs.Tests.{either}
use Rattle.hexfile.specs.declared.HexRead.{HexRead}
use Rattle.hexfile.specs.File.{Got, gets, no, read_of, filled_of}
use Rattle.hexfile.specs.Written.{text_of, text_length_of}
use Rattle.hexfile.specs.Calls.{AfterRead, AfterWrite, array_verdict_of, got_of, read_by, reading_of, write_verdict_of, write_by, writing_of}
use Rattle.hexfile_promises.specs.Files.{Each, Piece, IsFile, Placed, bytes_in, Fault, bad_record, bad_sum, misplaced, no_end, text_after, Stops}
use Rattle.hexfile_promises.specs.Promises.{size_of, Lent, text_in_lem, GivesBack, Settles, AcceptsAll, Read, AcceptsOnly, NamesEach, StopsFirst, WritesPlain, RefusedKeeps}
use Rattle.hexfile_promises.proofs.Cells.{Bytes, Fit, fit, entered, filled_below, clear, clear_fit, clear_placed, clear_named, clear_count, clear_more, more_clear}
use Rattle.hexfile_promises.proofs.Reading.{counted, counted_is, begins_bytes, along, read_file, FaultAt, not_record, not_sum, not_fit, not_there, not_last, fault_read, Outcome, done, stopped, outcome}
use Rattle.hexfile_promises.proofs.OneWay.{reads_one_way}
use Rattle.hexfile_promises.proofs.Calls.{is_lent, lent_is, is_roomy, roomy_is}
use Rattle.hexfile_promises.proofs.Rows.{rows, text_long, placed_rows, count_rows, bytes_rows, named_rows, text_file, text_right}

-- ---- reading

count_0 : (ps : List Piece) → counted 0 ps ≡ length ps
count_0 ps = counted_is 0 ps ∙ zero-add (length ps)

module _ (part : ℕ) (text array : List ℕ) where
  abbrev answered : AfterRead
  answered = got_of (read_of (size_of part) text) array

  lent_reading : Lent part array → reading_of part text array ≡ answered
  lent_reading l = rw (is_lent part array l) refl

  fine_lent : (reading_of part text array).answer.verdict ≡ Ok tt → Lent part array
  fine_lent = go (array_verdict_of (facts_of part) (length array)) refl
    where
      go : (v : Verdict) → array_verdict_of (facts_of part) (length array) ≡ v → (read_by v (facts_of part) text array).answer.verdict ≡ Ok tt → Lent part array
      go (Ok _) e h = lent_is part array e
      go (Err r) e h = refused_not h

  file_reading : (ps : List Piece) → Lent part array → IsFile text ps → Placed (size_of part) ps
      → reading_of part text array ≡ record { answer = record { verdict = Ok tt; records = length ps; named = bytes_in ps }; array = filled_of (entered (clear (size_of part)) ps) }
  unfolding read_of
  file_reading ps l f h =
      let s : Fit (clear (size_of part)) ps = clear_fit (size_of part) ps h in
      lent_reading l ∙ rw (read_file (clear (size_of part)) 0 f s, count_0 ps, clear_count (size_of part) ps s (begins_bytes f.begins)) refl

pub accepts_all : AcceptsAll reading_of
accepts_all part text array ps l f h = ap (λ (r : AfterRead). r.answer) (file_reading part text array ps l f h)

pub accepts_only : AcceptsOnly reading_of
unfolding read_of
accepts_only part text array h =
    let l = fine_lent part text array h in
    go l (outcome (clear (size_of part)) text 0) (rw (lent_reading part text array l) at h)
  where
    go : {g : Got} → Lent part array → Outcome (clear (size_of part)) 0 text g → (got_of g array).answer.verdict ≡ Ok tt → Read part text array
    go l (done {ps = ps} f s) e = record { lent = l; records = ps; file = f; placed = clear_placed (size_of part) ps (begins_bytes f.begins) s }
    go l (stopped b s x) e = refused_not e

pub names_each : NamesEach reading_of
names_each part text array ps h f =
    let r = accepts_only part text array h in
    let e = reads_one_way text r.records ps r.file f in
    let p : Placed (size_of part) ps = rw e at r.placed in
    rw (file_reading part text array ps r.lent f p) (clear_named (size_of part) ps (clear_fit (size_of part) ps p) (begins_bytes f.begins))

-- ---- refusing

module _ (size : ℕ) (ps : List Piece) (s : Fit (clear size) ps) (b : Each Bytes ps) where
  abbrev cells : List ℕ
  cells = entered (clear size) ps

  to_fault : {t : List ℕ} {r : Refusal} → FaultAt cells (length ps) t r → Fault size ps t r
  to_fault (not_record f n e) = bad_record f n e
  to_fault (not_sum f r n) = bad_sum f r n
  to_fault (not_fit {p = p} f g n) =
      misplaced f g (λ i o. let y = more_clear size ps s b p i o in let z : ◌≡◌ {A = ℕ} 0 1 = cc in omega arith)
  to_fault (not_there e) = no_end e
  to_fault (not_last f e n) = text_after f e n

  of_fault : {t : List ℕ} {r : Refusal} → Fault size ps t r → FaultAt cells (length ps) t r
  of_fault (bad_record f n e) = not_record f n e
  of_fault (bad_sum f r n) = not_sum f r n
  of_fault (misplaced {p = p} f g n) =
      either (fit cells p) (λ y. absurd (let x = clear_more size ps s b p y in n x.0 x.1)) (λ y. not_fit {p = p} f g y)
  of_fault (no_end e) = not_there e
  of_fault (text_after f e n) = not_last f e n

module _ (part : ℕ) (text array : List ℕ) (r : Refusal) where
  stops : {g : Got} → Outcome (clear (size_of part)) 0 text g → (got_of g array).answer.verdict ≡ Err r → Stops (size_of part) text r
  stops (done f s) e = refused_not (sym e)
  stops (stopped {ps = ps} {u = u} {r = q} b s x) e =
      let same : q ≡ r = cc in
      let f : FaultAt (entered (clear (size_of part)) ps) (length ps) u r = rw (count_0 ps, same) at x in
      record { before = ps; rest = u; begins = b; placed = clear_placed (size_of part) ps (begins_bytes b) s; fault = to_fault (size_of part) ps s (begins_bytes b) f }

  stops_with : Stops (size_of part) text r → read_of (size_of part) text ≡ no r
  unfolding read_of
  stops_with h =
      let s : Fit (clear (size_of part)) h.before = clear_fit (size_of part) h.before h.placed in
      along (clear (size_of part)) 0 h.begins s ∙ rw (count_0 h.before) (fault_read (of_fault (size_of part) h.before s (begins_bytes h.begins) h.fault))

pub stops_first : StopsFirst reading_of
unfolding read_of
stops_first =
    record {
      stops = λ part text array r l h. stops part text array r (outcome (clear (size_of part)) text 0) (rw (lent_reading part text array l) at h);
      first = λ part text array r l h. rw (lent_reading part text array l, stops_with part text array r h) refl;
    }

-- ---- writing

module _ (part : ℕ) (m out : List ℕ) where
  fine_room : (writing_of part m out).answer.verdict ≡ Ok tt → Lent part m × (text_length_of (size_of part) ≤ length out)
  fine_room = go (write_verdict_of (facts_of part) (length m) (length out)) refl
    where
      go : (v : Verdict) → write_verdict_of (facts_of part) (length m) (length out) ≡ v → (write_by v (facts_of part) m out).answer.verdict ≡ Ok tt
          → Lent part m × (text_length_of (size_of part) ≤ length out)
      go (Ok _) e h = roomy_is part m (length out) e
      go (Err r) e h = refused_not h

  module _ (l : Lent part m) (h : text_length_of (size_of part) ≤ length out) where
    writes : writing_of part m out
        ≡ record { answer = record { verdict = Ok tt; length = text_length_of (size_of part) }; out = text_of (size_of part) m ++ drop (text_length_of (size_of part)) out }
    writes = rw (is_roomy part m (length out) l h) refl

    text_in : text_in_lem (writing_of part m out) ≡ text_of (size_of part) m
    text_in =
        ap text_in_lem writes ∙ take_at (text_of (size_of part) m) (drop (text_length_of (size_of part)) out) (text_length_of (size_of part)) (text_long part m l.known l.long)

pub writes_plain : WritesPlain writing_of
writes_plain part m out b h =
    let l = fine_room part m out h in
    let e = text_in part m out l.0 l.1 in
    (rw e (text_right part m l.0.known l.0.long b), ap (λ (w : AfterWrite). w.answer.length) (writes part m out l.0 l.1) ∙ sym (ap length e ∙ text_long part m l.0.known l.0.long), rw (e, writes part m out l.0 l.1) refl)

-- ---- there and back

-- what was written, read
written_back : (part : ℕ) (m old : List ℕ) → Lent part m → AllBelow 256 m → Lent part old
    → reading_of part (text_of (size_of part) m) old ≡ record { answer = record { verdict = Ok tt; records = size_of part / 16; named = size_of part }; array = m }
written_back part m old l b o =
    let f : IsFile (text_of (size_of part) m) (rows part m l.known l.long) = text_file part m l.known l.long b in
    let r = accepts_all part (text_of (size_of part) m) old (rows part m l.known l.long) o f (placed_rows part m l.known l.long) in
    let v : (reading_of part (text_of (size_of part) m) old).answer.verdict ≡ (Ok tt) = ap (λ (x : HexRead). x.verdict) r in
    let n = names_each part (text_of (size_of part) m) old (rows part m l.known l.long) v f in
    let e = named_rows part m l.known l.long (reading_of part (text_of (size_of part) m) old).array n in
    let c : (reading_of part (text_of (size_of part) m) old).answer ≡ record { verdict = Ok tt; records = size_of part / 16; named = size_of part } =
    r ∙ rw (count_rows part m l.known l.long, bytes_rows part m l.known l.long) refl in
    λ i. record { answer = c i; array = e i }

pub gives_back : GivesBack reading_of writing_of
gives_back part m old out l b o h =
    (ap (λ (w : AfterWrite). w.answer.verdict) (writes part m out l h), rw (text_in part m out l h) (written_back part m old l b o))

-- what is read is bytes
read_bytes : (part : ℕ) (text array : List ℕ) → (reading_of part text array).answer.verdict ≡ Ok tt → AllBelow 256 (reading_of part text array).array
read_bytes part text array h =
    let r = accepts_only part text array h in
    rw (file_reading part text array r.records r.lent r.file r.placed) (filled_below (entered (clear (size_of part)) r.records))

pub settles : Settles reading_of writing_of
settles part text old other out h o room =
    let r = accepts_only part text old h in
    let n = names_each part text old r.records h r.file in
    let l : Lent part (reading_of part text old).array = record { known = r.lent.known; long = n.long } in
    let g = gives_back part (reading_of part text old).array other out l (read_bytes part text old h) o room in
    (g.0, ap (λ (x : AfterRead). x.answer.verdict) g.1, ap (λ (x : AfterRead). x.array) g.1)

-- ---- a refused call

kept_reading : (v : Verdict) (f : Facts) (text array : List ℕ) (r : Refusal) → (read_by v f text array).answer.verdict ≡ Err r
    → read_by v f text array ≡ record { answer = record { verdict = Err r; records = 0; named = 0 }; array = array }
kept_reading (Ok _) f text array r h = go (read_of f.size text) h
  where
    go : (g : Got) → (got_of g array).answer.verdict ≡ Err r → got_of g array ≡ record { answer = record { verdict = Err r; records = 0; named = 0 }; array = array }
    go (gets cells k) e = refused_not (sym e)
    go (no q) e = rw e refl
kept_reading (Err q) f text array r h = rw h refl

kept_writing : (v : Verdict) (f : Facts) (m out : List ℕ) (r : Refusal) → (write_by v f m out).answer.verdict ≡ Err r
    → write_by v f m out ≡ record { answer = record { verdict = Err r; length = 0 }; out = out }
kept_writing (Ok _) f m out r h = refused_not (sym h)
kept_writing (Err q) f m out r h = rw h refl

pub refused_keeps : RefusedKeeps reading_of writing_of
refused_keeps =
    record {
      reading = λ part text array r. kept_reading (array_verdict_of (facts_of part) (length array)) (facts_of part) text array r;
      writing = λ part m out r. kept_writing (write_verdict_of (facts_of part) (length m) (length out)) (facts_of part) m out r;
    }
