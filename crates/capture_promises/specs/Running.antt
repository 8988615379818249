-- What is promised of running the model over a capture (document 02, §3), over any such run: proofs/Running.antt. `Model` and the run over one
-- are the chip's own (crates/chip/specs): there is no second model.
-- Assumes nothing.
use Rattle.std.specs.Prelude.{ℕ, suc, ◌<◌, ◌≤◌, ◌≡◌, Bool, true, false, cond, List, [], ◌∷◌, ◌++◌, length, get_or, take, drop, eqb, Ok}
use Rattle.parts.specs.Bytes.{AllBelow}
use Rattle.parts.specs.declared.Refusal.TheVariants.{NoPart, WrongEnable, WrongBuffer, BadState, BadSample}
use Rattle.parts.specs.Table.{facts_of}
use Rattle.state.specs.declared.Chip.{Chip}
use Rattle.state.specs.Range.{in_range_of}
use Rattle.chip.specs.Memory.{Mem}
use Rattle.chip.specs.Model.{Model, ours}
use Rattle.chip.specs.Runs.{after_of, memory_of, cycles_of}
use Rattle.chip_promises.specs.Numbers.{Lent, Named, Ready}
use Rattle.capture.specs.declared.Mark.{Mark}
use Rattle.capture.specs.declared.Mark.TheVariants.{Same, At}
use Rattle.capture.specs.Samples.{events_of}
use Rattle.capture.specs.Ends.{acked_of, busy_in, ends_in}
use Rattle.capture.specs.Marks.{place_of, clocks_in, compared_of}
use Rattle.capture.specs.Calls.{SeenLeft}
use Rattle.capture_promises.specs.Machines.{Seeing, unseen}

-- ---- "A capture doesn't show a cycle's end: put `E` before the first later Start whose first byte the capture shows acknowledged"

-- the events without the ends
abbrev pub stripped_of : List ℕ → List ℕ
stripped_of [] = []
stripped_of (e ∷ es) = cond (eqb e 4) (stripped_of es) (e ∷ stripped_of es)

-- a Start whose first byte is acknowledged
abbrev pub StartAcked : List ℕ → Type 0
StartAcked [] = ⊥
StartAcked (e ∷ es) = (e ≡ 2) × (acked_of 9 es ≡ true)

-- each end stands in a cycle, directly before such a Start; and no such Start finds a cycle running
pub record EndHere (c : Chip) (e : ℕ) (es : List ℕ) : Type 0 where
  pub in_cycle : e ≡ 4 → busy_in c.line.phase ≡ true
  pub before_start : e ≡ 4 → StartAcked es
  pub none_left : StartAcked (e ∷ es) → busy_in c.line.phase ≡ false

abbrev pub EndsPlaced : Model → Chip → List ℕ → Type 0
EndsPlaced M c [] = Unit {0}
EndsPlaced M c (e ∷ es) = EndHere c e es × EndsPlaced M (M.next c e) es

-- ---- "mark the first clock where the level differs from the model's, among data bits the model sends and ninth clocks of other bytes"

-- every clock that is compared has the model's level
abbrev pub Agrees : Model → Chip → Mem → ℕ → List ℕ → Type 0
Agrees M c m place [] = Unit {0}
Agrees M c m place (e ∷ es) =
    (e < 2 → compared_of c.line place ≡ true → M.level c m e ≡ e) × Agrees M (M.next c e) (M.store c m e) (place_of place e) es

abbrev pub place_after : ℕ → List ℕ → ℕ
place_after place [] = place
place_after place (e ∷ es) = place_after (place_of place e) es

-- clock number n, of level v, rises at the sample s: this sample makes it, and the samples behind leave it, as those of a Start or Stop would not
pub record RisesAt (bus : Bool) (ss : List ℕ) (s n v : ℕ) : Type 0 where
  pub there : s < length ss
  pub number : clocks_in (events_of bus (take s ss)) ≡ n
  pub made : events_of bus (take (suc s) ss) ≡ events_of bus (take s ss) ++ (v ∷ [])
  pub kept : events_of bus ss ≡ events_of bus (take s ss) ++ (v ∷ events_of bus (drop s ss))

-- the first that differs: it is compared, and every one before it agrees
pub record Differs (M : Model) (c : Chip) (m : Mem) (bus : Bool) (ss xs : List ℕ) (s n v : ℕ) : Type 0 where
  pub earlier : List ℕ
  pub later : List ℕ
  pub cut : xs ≡ earlier ++ (v ∷ later)
  pub agrees : Agrees M c m 0 earlier
  pub clock : v < 2
  pub looked : compared_of (after_of M c earlier).line (place_after 0 earlier) ≡ true
  pub other : M.level (after_of M c earlier) (memory_of M c m earlier) v ≡ v → ⊥
  pub count : clocks_in earlier ≡ n
  pub rises : RisesAt bus ss s n v

abbrev pub MarkRight : Model → Chip → Mem → Bool → List ℕ → List ℕ → Mark → Type 0
MarkRight M c m bus ss xs Same = Agrees M c m 0 xs
MarkRight M c m bus ss xs (At s n v) = Differs M c m bus ss xs s n v

-- ---- "Run the model over them"

pub record RunsOver (M : Model) (c : Chip) (m : Mem) (bus : Bool) (ss : List ℕ) (left : SeenLeft) : Type 0 where
  -- the events with their ends, and that without them they are the capture's
  pub with_ends : List ℕ
  pub captured : stripped_of with_ends ≡ events_of bus ss
  pub placed : EndsPlaced M c with_ends
  pub state : left.answer.chip ≡ after_of M c with_ends
  pub stored : left.mem ≡ memory_of M c m with_ends
  pub begun : left.answer.cycles ≡ cycles_of M c with_ends
  pub ended : left.answer.ends ≡ ends_in with_ends
  pub events : left.answer.events ≡ length (events_of bus ss)
  pub clocks : left.answer.clocks ≡ clocks_in (events_of bus ss)

-- what is run is the capture's events with their ends
abbrev pub EndsRight : Seeing → Type 0
EndsRight see =
    (part enable : ℕ) (c : Chip) (m : Mem) (bus : Bool) (ss : List ℕ) → (see part enable c m bus ss).answer.verdict ≡ Ok tt
    → RunsOver (ours (facts_of part) enable) c m bus ss (see part enable c m bus ss)

-- and of these the first that differs is marked
abbrev pub MarkFirst : Seeing → Type 0
MarkFirst see =
    (part enable : ℕ) (c : Chip) (m : Mem) (bus : Bool) (ss xs : List ℕ) → (see part enable c m bus ss).answer.verdict ≡ Ok tt
    → stripped_of xs ≡ events_of bus ss → EndsPlaced (ours (facts_of part) enable) c xs
    → MarkRight (ours (facts_of part) enable) c m bus ss xs (see part enable c m bus ss).answer.mark

-- the ends leave no choice: of two lists with the ends in their places and the same events without them there is one
abbrev pub EndsOneWay : Type 0
EndsOneWay = (M : Model) (c : Chip) (xs ys : List ℕ) → EndsPlaced M c xs → EndsPlaced M c ys → stripped_of xs ≡ stripped_of ys → xs ≡ ys

-- ---- refusals: 1 2 3 4, then 20; a refused call changes nothing

module _ (see : Seeing) (part enable : ℕ) (c : Chip) (m : Mem) (bus : Bool) (ss : List ℕ) where
  abbrev pub left : SeenLeft
  left = see part enable c m bus ss

  pub record SeeNumber : Type 0 where
    pub no_part : 5 < part → left ≡ unseen NoPart c m
    pub wrong_enable : part ≤ 5 → (facts_of part).enables ≤ enable → left ≡ unseen WrongEnable c m
    pub wrong_buffer : part ≤ 5 → enable < (facts_of part).enables → (Lent part m → ⊥) → left ≡ unseen WrongBuffer c m
    pub bad_state : Named part enable m → in_range_of (facts_of part) c ≡ false → left ≡ unseen BadState c m
    pub bad_sample : (k : ℕ) → Ready part enable c m → k < length ss → AllBelow 4 (take k ss) → 3 < get_or ss k 0 → left ≡ unseen (BadSample k) c m
    pub none : Ready part enable c m → AllBelow 4 ss → left.answer.verdict ≡ Ok tt

abbrev pub SeeNumbers : Seeing → Type 0
SeeNumbers see = (part enable : ℕ) (c : Chip) (m : Mem) (bus : Bool) (ss : List ℕ) → SeeNumber see part enable c m bus ss

-- ---- these leave nothing open

pub record Viewer (see : Seeing) : Type 0 where
  pub ends : EndsRight see
  pub marks : MarkFirst see
  pub numbers : SeeNumbers see

abbrev pub ViewerPinned : Type 0
ViewerPinned =
    (see other : Seeing) → Viewer see → Viewer other
    → (part enable : ℕ) (c : Chip) (m : Mem) (bus : Bool) (ss : List ℕ) → see part enable c m bus ss ≡ other part enable c m bus ss
