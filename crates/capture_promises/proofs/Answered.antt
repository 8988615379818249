-- What the list call answers, in one equation for each verdict.
-- Assumes nothing.
use Rattle.std.specs.Prelude.{Ok, Err}
use Prim.Native.Nat.{ℕ, ◌<◌, ◌≤◌}
use mathlib.Core.Path.{◌≡◌, refl, ap, ◌∙◌}
use mathlib.Core.Bool.{Bool, not, ◌&&◌}
use mathlib.Core.List.{List, [], ◌∷◌}
use native.Mathlib.Omega.{arith}
use lib.ListN.{length, get_or, take, drop, length-append}
use lib.Seq.{take-append_seam}
use lib.Dec.{eqb, ltb}
use borrow.Author.Tests.{lt-ltb, le-ltb}
use Rattle.parts.specs.Verdict.{Verdict}
use Rattle.parts.specs.declared.Refusal.TheVariants.{ShortBuffer, BadSample}
use Rattle.parts.specs.Bytes.{AllBelow}
use Rattle.parts.specs.Refusals.{rank_of, claim_of, sooner_of}
use Rattle.parts.proofs.Laws.{branch}
use Rattle.parts.proofs.Claims.{later_claim, given_first}
use Rattle.capture.specs.Samples.{clock_in, data_in, still_of, pair_of, events_from, events_of, judge_of}
use Rattle.capture.specs.Calls.{ListLeft, list_verdict_of, listed_by, listed_out, listing_of}
use Rattle.capture_promises.specs.Machines.{events_in, listed, unlisted}
use Rattle.capture.proofs.Sampled.{fine_judge}
use Rattle.capture_promises.proofs.Judged.{bad_judge}

-- ---- an event for each sample at most

pair_one : (bus : Bool) (before s : ℕ) (ss : List ℕ) → length (pair_of bus before s ss) ≤ 1
pair_one bus before s ss =
    branch Q (eqb (clock_in s) 0) (λ _. omega arith) (λ _.
    branch Q (eqb (clock_in before) 0)
    (λ _. branch Q (bus && not (still_of (data_in s) ss)) (λ _. omega arith) (λ _. omega arith))
    (λ _. branch Q (eqb (data_in before) (data_in s)) (λ _. omega arith) (λ _. branch Q (eqb (data_in s) 0) (λ _. omega arith) (λ _. omega arith))))
  where
    Q : List ℕ → Type 0
    Q es = length es ≤ 1

fewer_from : (bus : Bool) (before : ℕ) (ss : List ℕ) → length (events_from bus before ss) ≤ length ss
fewer_from bus before [] = omega arith
fewer_from bus before (s ∷ ss) =
    omega (arith, length-append (pair_of bus before s ss) (events_from bus s ss), pair_one bus before s ss, fewer_from bus s ss)

pub fewer : (bus : Bool) (ss : List ℕ) → length (events_of bus ss) ≤ length ss
unfolding events_of
fewer bus [] = omega arith
fewer bus (s ∷ ss) = omega (arith, fewer_from bus s ss)

-- ---- by verdict

pub by_verdict : (bus : Bool) (ss out : List ℕ) (v : Verdict) → list_verdict_of bus ss (length out) ≡ v
    → listing_of bus ss out ≡ record { answer = listed_by (events_of bus ss) v; out = listed_out (events_of bus ss) out v }
by_verdict bus ss out v e = ap (λ (w : Verdict). record { answer = listed_by (events_of bus ss) w; out = listed_out (events_of bus ss) out w }) e

pub answered : (bus : Bool) (ss out : List ℕ) → AllBelow 4 ss → length (events_of bus ss) ≤ length out → listing_of bus ss out ≡ listed (events_of bus ss) out
unfolding list_verdict_of sooner_of
answered bus ss out h g = by_verdict bus ss out (Ok tt) (rw (fine_judge ss h, le-ltb (length out) (length (events_of bus ss)) g) refl)

pub no_room : (bus : Bool) (ss out : List ℕ) → AllBelow 4 ss → length out < length (events_of bus ss) → listing_of bus ss out ≡ unlisted ShortBuffer out
unfolding list_verdict_of sooner_of
no_room bus ss out h g = by_verdict bus ss out (Err ShortBuffer) (rw (fine_judge ss h, lt-ltb (length out) (length (events_of bus ss)) g) refl)

pub not_judged : (bus : Bool) (ss out : List ℕ) (k : ℕ) → k < length ss → AllBelow 4 (take k ss) → 3 < get_or ss k 0
    → listing_of bus ss out ≡ unlisted (BadSample k) out
unfolding list_verdict_of
not_judged bus ss out k l h g = by_verdict bus ss out (Err (BadSample k)) (rw (bad_judge ss k l h g) first)
  where
    short : Bool
    short = ltb (length out) (length (events_of bus ss))

    first : sooner_of (Err (BadSample k)) (claim_of short ShortBuffer) ≡ Err (BadSample k)
    first = given_first (BadSample k) (claim_of short ShortBuffer) (later_claim (rank_of (BadSample k)) short ShortBuffer (omega arith))

-- the events that were answered are the events
events_listed : (es out : List ℕ) → events_in (listed es out) ≡ es
events_listed es out = take-append_seam es (drop (length es) out)

pub read_off : (a : ListLeft) (es out : List ℕ) → a ≡ listed es out → events_in a ≡ es
read_off a es out e = ap events_in e ∙ events_listed es out

pub events_in_lem : (bus : Bool) (ss out : List ℕ) → AllBelow 4 ss → length ss ≤ length out → events_in (listing_of bus ss out) ≡ events_of bus ss
events_in_lem bus ss out h g = read_off (listing_of bus ss out) (events_of bus ss) out (answered bus ss out h (omega (arith, fewer bus ss)))

pub answers : (bus : Bool) (ss es out : List ℕ) → AllBelow 4 ss → events_of bus ss ≡ es → length es ≤ length out → listing_of bus ss out ≡ listed es out
answers bus ss es out h e g = answered bus ss out h (rw e g) ∙ ap (λ (l : List ℕ). listed l out) e

-- the answer depends on the events and on whether the capture is refused
pub same_answer : (bus : Bool) (ss ss' out : List ℕ) → judge_of ss ≡ judge_of ss' → events_of bus ss ≡ events_of bus ss'
    → listing_of bus ss out ≡ listing_of bus ss' out
unfolding list_verdict_of
same_answer bus ss ss' out j e = rw (j, e) refl
