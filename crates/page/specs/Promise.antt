-- What a look promises, stated over any look: nothing here says how one is made. P is the part table's page size, and
-- stands for every part at once.
-- Assumes nothing.
use Rattle.std.specs.Prelude.{ℕ, ◌+◌, ◌*◌, ◌/◌, ◌%◌, ◌<◌, ◌≤◌, ◌≡◌, true, false, List, [], length, take, drop, get_or}
use Rattle.parts.specs.declared.ArrayAddress.{ArrayAddress}
use Rattle.parts.specs.Verdict.{Verdict}
use Rattle.parts.specs.Table.{facts_of, id_size_of}
use Rattle.parts.specs.Refusals.{verdict_number_of}
use Rattle.page.specs.declared.Place.{Place}
use Rattle.page.specs.declared.Place.TheVariants.{Array, Ident}
use Rattle.page.specs.Look.{Span, of_array, of_ident}

-- the part, the lengths of the two buffers, the place: what is answered
abbrev pub Refusing : Type 0
Refusing = ℕ → ℕ → ℕ → Place → Verdict

-- the part, the two buffers, the place: the bytes that are shown
abbrev pub Looking : Type 0
Looking = ℕ → List ℕ → List ℕ → Place → List ℕ

-- the part, the lengths of the two buffers, the place: which part of which buffer is shown
abbrev pub Spanning : Type 0
Spanning = ℕ → ℕ → ℕ → Place → Span

-- P
abbrev pub page_size : ℕ → ℕ
page_size part = (facts_of part).page

-- both buffers have the part's lengths
abbrev pub Lengths : ℕ → ℕ → ℕ → Type 0
Lengths part array id = (array ≡ (facts_of part).size) × (id ≡ id_size_of (facts_of part))

-- refusals 1, 3 and 7, the lowest that applies
pub record RefusesRightly (refusal : Refusing) : Type 0 where
  pub no_part : (part array id : ℕ) (place : Place) → 5 < part → verdict_number_of (refusal part array id place) ≡ 1
  pub wrong_buffer : (part array id : ℕ) (place : Place) → part ≤ 5 → (Lengths part array id → ⊥) → verdict_number_of (refusal part array id place) ≡ 3
  pub beyond : (part array id : ℕ) (a : ArrayAddress) → part ≤ 5 → Lengths part array id → (facts_of part).size ≤ a.0 → verdict_number_of (refusal part array id (Array a)) ≡ 7
  pub no_page : (part array id : ℕ) → part ≤ 5 → Lengths part array id → (facts_of part).ident ≡ false → verdict_number_of (refusal part array id Ident) ≡ 7
  pub in_array : (part array id : ℕ) (a : ArrayAddress) → part ≤ 5 → Lengths part array id → a.0 < (facts_of part).size → verdict_number_of (refusal part array id (Array a)) ≡ 0
  pub is_page : (part array id : ℕ) → part ≤ 5 → Lengths part array id → (facts_of part).ident ≡ true → verdict_number_of (refusal part array id Ident) ≡ 0

-- the page of P bytes that holds address a, wherever it starts: all of it, in its order, with a's byte at a modulo P
pub record IsPage (P a : ℕ) (array shown : List ℕ) : Type 0 where
  pub part : shown ≡ take P (drop (a / P * P) array)
  pub whole : length shown ≡ P
  pub each : (i : ℕ) → i < P → get_or shown i 0 ≡ get_or array (a / P * P + i) 0
  pub own : get_or shown (a % P) 0 ≡ get_or array a 0

pub record ShowsPages (refusal : Refusing) (look : Looking) : Type 0 where
  pub array : (part : ℕ) (array id : List ℕ) (a : ArrayAddress) → verdict_number_of (refusal part (length array) (length id) (Array a)) ≡ 0 → IsPage (page_size part) a.0 array (look part array id (Array a))
  -- by any other address in it the same page is shown
  pub shared : (part : ℕ) (array id : List ℕ) (a b : ArrayAddress) → verdict_number_of (refusal part (length array) (length id) (Array a)) ≡ 0 → b.0 / page_size part ≡ a.0 / page_size part → look part array id (Array b) ≡ look part array id (Array a)
  pub ident : (part : ℕ) (array id : List ℕ) → verdict_number_of (refusal part (length array) (length id) Ident) ≡ 0 → (look part array id Ident ≡ id) × (length id ≡ page_size part)
  pub refused : (part : ℕ) (array id : List ℕ) (place : Place) → 0 < verdict_number_of (refusal part (length array) (length id) place) → look part array id place ≡ []

-- what is shown lies in "that lent buffer, array or identification": the P bytes of the page itself, and no copy
pub record LiesInBuffer (refusal : Refusing) (span : Spanning) : Type 0 where
  pub array : (part array id : ℕ) (a : ArrayAddress) → verdict_number_of (refusal part array id (Array a)) ≡ 0 → (span part array id (Array a) ≡ of_array (a.0 / page_size part * page_size part) (page_size part)) × (a.0 / page_size part * page_size part + page_size part ≤ array)
  pub ident : (part array id : ℕ) → verdict_number_of (refusal part array id Ident) ≡ 0 → (span part array id Ident ≡ of_ident 0 (page_size part)) × (id ≡ page_size part)
  pub refused : (part array id : ℕ) (place : Place) → 0 < verdict_number_of (refusal part array id place) → span part array id place ≡ of_array 0 0
