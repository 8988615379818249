-- The events of a request that ends done, written out: no step of the driver is in it. Each `then..` takes the events so
-- far and gives them with what comes next.
-- Assumes nothing.
use Rattle.std.specs.Prelude.{ℕ, zero, suc, ◌+◌, ◌-◌, ◌/◌, ◌%◌, Bool, true, false, cond, List, [], ◌∷◌, ◌++◌, get_or, eqb}
use Rattle.parts.specs.Table.{facts_of}
use Rattle.driver.specs.declared.Request.{Request}
use Rattle.driver.specs.Split.{to_page_end_of}
use Rattle.driver.specs.Request.{from_of}
use Rattle.driver.specs.Step.{select_name_of, select_at, bit_of}

abbrev pub then_start : List ℕ → List ℕ
then_start es = es ++ (2 ∷ [])

abbrev pub then_stop : List ℕ → List ℕ
then_stop es = es ++ (3 ∷ [])

-- the first n bits of a byte, highest first
abbrev pub then_bits : List ℕ → ℕ → ℕ → List ℕ
then_bits es byte zero = es
then_bits es byte (suc n) = then_bits es byte n ++ (bit_of byte n ∷ [])

-- nine clocks
abbrev pub then_byte : List ℕ → ℕ → ℕ → List ℕ
then_byte es byte ninth = then_bits es byte 8 ++ (ninth ∷ [])

-- q polls: "Start and the select code with write"
abbrev pub then_polls : List ℕ → ℕ → ℕ → List ℕ
then_polls es select zero = es
then_polls es select (suc q) = then_byte (then_start (then_polls es select q)) select 1

-- m data bytes of xs, from number o on
abbrev pub then_data : List ℕ → List ℕ → ℕ → ℕ → List ℕ
then_data es xs o zero = es
then_data es xs o (suc m) = then_byte (then_data es xs o m) (get_or xs (o + m) 0) 1

-- m bytes of n that are read: clocks of 1, each byte acknowledged, the last of the n not
abbrev pub then_taken : List ℕ → ℕ → ℕ → List ℕ
then_taken es n zero = es
then_taken es n (suc m) = then_byte (then_taken es n m) 255 (cond (eqb (m + 1) n) 1 0)

module _ (r : Request) where
  -- the address, or the location, of byte number o
  abbrev pub address_at : ℕ → ℕ
  address_at o = from_of r.place + o

  -- the select code with write
  abbrev pub select_of : ℕ → ℕ
  select_of o = select_at (select_name_of r.place) (facts_of r.part).wide r.enable (address_at o)

  -- Start and select
  abbrev pub then_select : List ℕ → ℕ → List ℕ
  then_select es o = then_byte (then_start es) (select_of o) 1

  -- the first of two address bytes
  abbrev pub then_high : Bool → List ℕ → ℕ → List ℕ
  then_high true es o = then_byte (then_select es o) (address_at o / 256 % 256) 1
  then_high false es o = then_select es o

  -- Start, select and address, for byte number o
  abbrev pub then_head : List ℕ → ℕ → List ℕ
  then_head es o = then_byte (then_high (facts_of r.part).wide es o) (address_at o % 256) 1

  -- how many bytes the part has that begins with byte number o
  abbrev pub length_of : ℕ → ℕ
  length_of o = to_page_end_of (facts_of r.part).page (address_at o) (r.length - o)

  -- "Each part is Start, select, address, data, Stop; then polls", and Stop
  abbrev pub then_part : List ℕ → List ℕ → ℕ → ℕ → List ℕ
  then_part es xs o q = then_stop (then_polls (then_stop (then_data (then_head es o) xs o (length_of o))) (select_of o) q)

  -- the parts from byte number o on; qs: how many polls each takes
  abbrev pub then_parts : List ℕ → List ℕ → ℕ → List ℕ → List ℕ
  then_parts es xs o [] = es
  then_parts es xs o (q ∷ qs) = then_parts (then_part es xs o q) xs (o + length_of o) qs

  -- the byte at which as many parts end
  abbrev pub parts_end_of : ℕ → List ℕ → ℕ
  parts_end_of o [] = o
  parts_end_of o (q ∷ qs) = parts_end_of (o + length_of o) qs

  -- a whole write
  abbrev pub write_plan : List ℕ → List ℕ → List ℕ
  write_plan xs qs = then_parts [] xs 0 qs

  -- "A read of n bytes is address, second Start, select, n bytes, the last unacknowledged, Stop"
  abbrev pub read_plan : List ℕ
  read_plan = then_stop (then_taken (then_byte (then_start (then_head [] 0)) (select_of 0 + 1) 1) r.length r.length)
