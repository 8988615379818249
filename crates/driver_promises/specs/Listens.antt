-- Which levels a driver listens to, said of the events alone: that of the ninth clock of each byte that it sends, and those of the
-- eight bits of each byte that it reads. No other level changes what our driver does.
-- Assumes nothing.
use Rattle.std.specs.Prelude.{ℕ, ◌+◌, ◌%◌, ◌≡◌, Bool, true, false, cond, not, ◌&&◌, List, [], ◌∷◌, eqb, ltb}
use Rattle.driver.specs.declared.Request.{Request}
use Rattle.driver.specs.Machine.{Machine}
use Rattle.driver_promises.specs.Run.{DriverHeld, begun, sent_by, answer_to, told}
use Rattle.driver_promises.specs.Promises.{Accepted, after, sent, answers}

-- the clocks since the last Start or Stop, and whether the eighth was 1: the select code says that bytes are read
pub record Ear : Type 0 where
  pub clocks : ℕ
  pub reads : Bool

abbrev pub silence : Ear
silence = record { clocks = 0; reads = false }

-- an event more
abbrev pub hears : Ear → ℕ → Ear
hears k e = cond (ltb e 2) (record { clocks = k.clocks + 1; reads = cond (eqb k.clocks 7) (eqb e 1) k.reads }) silence

abbrev pub ear_of : Ear → List ℕ → Ear
ear_of k [] = k
ear_of k (e ∷ es) = ear_of (hears k e) es

-- whether the level of the last event is listened to: of a byte that is read, not the ninth clock; else the ninth
abbrev pub listens : Ear → Bool
listens k = cond (ltb 9 k.clocks && k.reads) (not (eqb (k.clocks % 9) 0)) (ltb 0 k.clocks && eqb (k.clocks % 9) 0)

-- both low, or both high
abbrev pub Alike : ℕ → ℕ → Type 0
Alike l j = eqb l 0 ≡ eqb j 0

-- two lists of levels for a run that stands at h with the ear k: as long, and alike where the machine listens
abbrev pub Agree : Machine → Ear → DriverHeld → List ℕ → List ℕ → Type 0
Agree M k h [] [] = Unit {0}
Agree M k h [] (j ∷ js) = ⊥
Agree M k h (l ∷ ls) [] = ⊥
Agree M k h (l ∷ ls) (j ∷ js) = (listens k ≡ true → Alike l j) × Agree M (ear_of k (sent_by (answer_to M h l))) (told M h l) ls js

-- then the events, the answers and the buffer are the same
pub record Same (M : Machine) (r : Request) (xs ls js : List ℕ) : Type 0 where
  pub events : sent M r xs ls 0 ≡ sent M r xs js 0
  pub answers : (l : ℕ) → answers M r xs ls l ≡ answers M r xs js l
  pub buffer : (after M r xs ls 0).buffer ≡ (after M r xs js 0).buffer

abbrev pub OnlyThoseLevels : Machine → Type 0
OnlyThoseLevels M = (r : Request) (xs : List ℕ) → Accepted r xs → (ls js : List ℕ) → Agree M silence (begun r xs) ls js → Same M r xs ls js
