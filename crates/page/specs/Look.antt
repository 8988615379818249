-- "A page can be looked at, by an array address in it or as the identification page: it is shown as the part of that
-- lent buffer, array or identification, uncopied." "A refused look at a page shows an empty part."
-- Assumes nothing.
use Rattle.std.specs.Prelude.{ℕ, ◌+◌, ◌*◌, ◌/◌, ◌<◌, ◌≤◌, ◌≡◌, Bool, not, List, leb, length, take, drop, Ok, Err}
use Rattle.parts.specs.declared.Facts.{Facts}
use Rattle.parts.specs.declared.Refusal.TheVariants.{Beyond}
use Rattle.parts.specs.Verdict.{Verdict}
use Rattle.parts.specs.Table.{facts_of}
use Rattle.parts.specs.Refusals.{claim_of, sooner_of, lent_verdict_of}
use Rattle.page.specs.declared.Place.{Place}
use Rattle.page.specs.declared.Place.TheVariants.{Array, Ident}

-- refusal 7: an address at or beyond the array's size is in no page; "no such page"
abbrev pub outside_of : Facts → Place → Bool
outside_of f (Array a) = leb f.size a.0
outside_of f Ident = not f.ident

-- refusals 1, 3 and 7; no other applies to a look: it has no enable, state, event, output or limit. From the part's number, the
-- lengths of the two lent buffers, and the place
unfoldable pub look_refusal_of : ℕ → ℕ → ℕ → Place → Verdict
look_refusal_of part array id place = sooner_of (lent_verdict_of (facts_of part) array id) (claim_of (outside_of (facts_of part) place) Beyond)

-- a part of one of the two lent buffers: from where, and how many bytes
pub data Span : Type 0 where
  of_array : ℕ → ℕ → Span
  of_ident : ℕ → ℕ → Span

-- where the page of P bytes that holds address a starts
unfoldable pub page_start_of : ℕ → ℕ → ℕ
page_start_of P a = a / P * P

abbrev pub page_span_of : Facts → Place → Span
page_span_of f (Array a) = of_array (page_start_of f.page a.0) f.page
page_span_of f Ident = of_ident 0 f.page

-- the empty part is the array's, at its start: document 01 does not say which
abbrev pub shown_span_of : Verdict → Span → Span
shown_span_of (Ok _) page = page
shown_span_of (Err r) page = of_array 0 0

-- what is stored has no say in it
unfoldable pub look_span_of : ℕ → ℕ → ℕ → Place → Span
look_span_of part array id place = shown_span_of (look_refusal_of part array id place) (page_span_of (facts_of part) place)

abbrev pub span_bytes : Span → List ℕ → List ℕ → List ℕ
span_bytes (of_array from many) array id = take many (drop from array)
span_bytes (of_ident from many) array id = take many (drop from id)

-- "uncopied": where it lies, as block and offset, from where the two buffers lie
abbrev pub span_at : Span → ℕ × ℕ → ℕ × ℕ → ℕ × ℕ
span_at (of_array from many) array id = (array.0, from + array.1)
span_at (of_ident from many) array id = (id.0, from + id.1)

-- the bytes that a look shows
unfoldable pub look_of : ℕ → List ℕ → List ℕ → Place → List ℕ
look_of part array id place = span_bytes (look_span_of part (length array) (length id) place) array id

-- the page lies whole in its buffer: so it does wherever a look is not refused
abbrev pub Room : Facts → ℕ → ℕ → Place → Type 0
Room f array id (Array a) = (0 < f.page) × (page_start_of f.page a.0 + f.page ≤ array)
Room f array id Ident = id ≡ f.page
