-- The levels told for the events of a plan. The level told for event number e is that of asking e + 1, so the level told for
-- the last of the events es is number `length es` of ls. Each `..Acked` and `..Told` stands beside the `then..` of specs/Plan.antt that
-- sends the bytes.
-- Assumes nothing.
use Rattle.std.specs.Prelude.{ℕ, zero, suc, ◌+◌, ◌-◌, ◌<◌, ◌≡◌, Bool, true, false, List, [], ◌∷◌, length, get_or}
use Rattle.parts.specs.Table.{facts_of}
use Rattle.driver.specs.declared.Request.{Request}
use Rattle.driver_promises.specs.Plan.{then_start, then_stop, then_byte, then_polls, then_data, select_of, then_select, then_high, then_head, length_of, then_part}

module _ (ls : List ℕ) where
  -- the last of the events es was told as pulled low; a level that was not told is not low
  abbrev pub Acked : List ℕ → Type 0
  Acked es = get_or ls (length es) 1 ≡ 0

  -- it was told, and as not pulled low; a level that was not told is not high
  abbrev pub Missed : List ℕ → Type 0
  Missed es = 0 < get_or ls (length es) 0

  -- each of q polls was missed
  abbrev pub PollsMissed : List ℕ → ℕ → ℕ → Type 0
  PollsMissed es select zero = Unit {0}
  PollsMissed es select (suc q) = PollsMissed es select q × Missed (then_polls es select (suc q))

  -- each of m data bytes was acknowledged
  abbrev pub DataAcked : List ℕ → List ℕ → ℕ → ℕ → Type 0
  DataAcked es xs o zero = Unit {0}
  DataAcked es xs o (suc m) = DataAcked es xs o m × Acked (then_data es xs o (suc m))

  module _ (r : Request) where
    -- the select, and the first of two address bytes
    abbrev pub HighAcked : Bool → List ℕ → ℕ → Type 0
    HighAcked true es o = Acked (then_select r es o) × Acked (then_high r true es o)
    HighAcked false es o = Acked (then_select r es o)

    -- select and address
    abbrev pub HeadAcked : List ℕ → ℕ → Type 0
    HeadAcked es o = HighAcked (facts_of r.part).wide es o × Acked (then_head r es o)

    -- select, address and m data bytes
    abbrev pub FilledAcked : List ℕ → List ℕ → ℕ → ℕ → Type 0
    FilledAcked es xs o m = HeadAcked es o × DataAcked (then_head r es o) xs o m

    -- one part with q polls: all bytes are acknowledged, and of the polls the last one and no other
    abbrev pub PartTold : List ℕ → List ℕ → ℕ → ℕ → Type 0
    PartTold es xs o q =
        FilledAcked es xs o (length_of r o)
        × PollsMissed (then_stop (then_data (then_head r es o) xs o (length_of r o))) (select_of r o) (q - 1)
        × Acked (then_polls (then_stop (then_data (then_head r es o) xs o (length_of r o))) (select_of r o) q)

    -- the parts from byte number o on
    abbrev pub PartsTold : List ℕ → List ℕ → ℕ → List ℕ → Type 0
    PartsTold es xs o [] = Unit {0}
    PartsTold es xs o (q ∷ qs) = PartTold es xs o q × PartsTold (then_part r es xs o q) xs (o + length_of r o) qs

    -- the second select of a read
    abbrev pub TurnAcked : List ℕ → ℕ → Type 0
    TurnAcked es o = Acked (then_byte (then_start (then_head r es o)) (select_of r o + 1) 1)

    -- a read: select, address and second select. The chip answers no byte that it sends
    abbrev pub ReadTold : Type 0
    ReadTold = HeadAcked [] 0 × TurnAcked [] 0
