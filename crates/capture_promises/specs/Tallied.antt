-- What is promised of the tally (document 02, §3), over any: proofs/Tallied.antt.
-- Assumes nothing.
use Rattle.std.specs.Prelude.{ℕ, suc, ◌+◌, ◌<◌, ◌≡◌, Bool, cond, List, [], ◌∷◌, length, get_or, take, eqb, ltb, Ok, Err}
use Rattle.parts.specs.Bytes.{AllBelow, flag_of, topped}
use Rattle.parts.specs.declared.Refusal.TheVariants.{BadSample}
use Rattle.capture.specs.declared.Tally.{Tally}
use Rattle.capture.specs.Samples.{events_of}
use Rattle.capture.specs.Tallies.{tally}
use Rattle.capture_promises.specs.Machines.{Counting}

-- ---- plain counts over events, with no top

abbrev pub count_of : ℕ → List ℕ → ℕ
count_of code [] = 0
count_of code (e ∷ es) = flag_of (eqb e code) + count_of code es

-- "A byte is nine clocks, unacknowledged if the ninth is 1": the ninth clocks, k clocks into a byte, as their levels. A Start or Stop begins anew
abbrev pub ninths_from : ℕ → List ℕ → List ℕ
ninths_from k [] = []
ninths_from k (e ∷ es) = cond (ltb e 2) (cond (eqb k 8) (e ∷ ninths_from 0 es) (ninths_from (suc k) es)) (ninths_from 0 es)

-- the counts of a tally are of 32 bits
pub record Wide (t : Tally) : Type 0 where
  pub starts : t.starts < 4294967296
  pub stops : t.stops < 4294967296
  pub bytes : t.bytes < 4294967296
  pub unacknowledged : t.unacknowledged < 4294967296

-- "counts Starts, Stops, bytes and unacknowledged bytes"
abbrev pub TallyCounts : Counting → Type 0
TallyCounts count =
    (t : Tally) (bus : Bool) (ss : List ℕ) → Wide t → AllBelow 4 ss
    → count t bus ss
    ≡ record {
      verdict = Ok tt;
      tally =
          tally
          (topped (t.starts + count_of 2 (events_of bus ss)))
          (topped (t.stops + count_of 3 (events_of bus ss)))
          (topped (t.bytes + length (ninths_from 0 (events_of bus ss))))
          (topped (t.unacknowledged + count_of 1 (ninths_from 0 (events_of bus ss))));
    }

-- "Refusals: 20 a sample above 3, at its place": nothing is counted
abbrev pub CountNumbers : Counting → Type 0
CountNumbers count =
    (t : Tally) (bus : Bool) (ss : List ℕ) (k : ℕ) → k < length ss → AllBelow 4 (take k ss) → 3 < get_or ss k 0
    → count t bus ss ≡ record { verdict = Err (BadSample k); tally = t }

-- ---- these leave nothing open, for tallies that code can lend

pub record Counter (count : Counting) : Type 0 where
  pub counts : TallyCounts count
  pub numbers : CountNumbers count

abbrev pub CounterPinned : Type 0
CounterPinned = (count other : Counting) → Counter count → Counter other → (t : Tally) (bus : Bool) (ss : List ℕ) → Wide t → count t bus ss ≡ other t bus ss
