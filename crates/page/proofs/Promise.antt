-- The promises of `specs/Promise.antt` are kept by the definitions that the contracts cite.
-- Assumes nothing.
use Rattle.std.specs.Prelude.{Ok, Err}
use mathlib.Core.Path.{◌≡◌, refl, ◌∙◌, ap}
use mathlib.Core.Bool.{true}
use mathlib.Core.List.{List, []}
use Prim.Native.Nat.{ℕ, ◌+◌, ◌*◌, ◌/◌, ◌%◌, ◌<◌, ◌≤◌}
use native.Mathlib.Nat.{mod-lt, div-add-mod', le_of_eq}
use native.Mathlib.Omega.{arith}
use lib.ListN.{length, take, drop, get_or, length-take, length-drop}
use lib.Seq.{get_or-take, get_or-drop, take_all}
use borrow.Author.Tests.{le-leb, lt-leb}
use Rattle.parts.specs.declared.ArrayAddress.{ArrayAddress}
use Rattle.parts.specs.declared.Refusal.{Refusal}
use Rattle.parts.specs.declared.Refusal.TheVariants.{NoPart, WrongBuffer, Beyond}
use Rattle.parts.specs.Verdict.{Verdict}
use Rattle.parts.specs.Table.{facts_of}
use Rattle.parts.specs.Refusals.{rank_of, verdict_number_of, claim_of, sooner_of, lent_verdict_of}
use Rattle.parts.proofs.Laws.{known, unknown, fine, buffers_right_lem, buffers_wrong}
use Rattle.parts.proofs.Claims.{fine_lent, lent_unknown, lent_wrong, later_claim, given_first}
use Rattle.page.specs.declared.Place.{Place}
use Rattle.page.specs.declared.Place.TheVariants.{Array, Ident}
use Rattle.page.specs.Look.{outside_of, look_refusal_of, page_start_of, look_span_of, look_of, shown_span_of, page_span_of, of_array}
use Rattle.page.specs.Promise.{Lengths, RefusesRightly, IsPage, ShowsPages, LiesInBuffer}
use Rattle.page.proofs.Laws.{room, accepted}

-- ---- the refusals

-- the buffers are the part's, so the place decides
lent : (part array id : ℕ) (place : Place) → (facts_of part).known ≡ true → Lengths part array id → look_refusal_of part array id place ≡ claim_of (outside_of (facts_of part) place) Beyond
unfolding look_refusal_of sooner_of
lent part array id place k l = rw (fine_lent (facts_of part) array id k (buffers_right_lem (facts_of part) array id l.0 l.1))

-- a look within the array, and one at an identification page that is there, are not refused
in_array_lem : (part array id : ℕ) (a : ArrayAddress) → (facts_of part).known ≡ true → Lengths part array id → a.0 < (facts_of part).size → look_refusal_of part array id (Array a) ≡ Ok tt
in_array_lem part array id a k l low = rw (lent part array id (Array a) k l, lt-leb (facts_of part).size a.0 low)

is_there : (part array id : ℕ) → (facts_of part).known ≡ true → Lengths part array id → (facts_of part).ident ≡ true → look_refusal_of part array id Ident ≡ Ok tt
is_there part array id k l i = rw (lent part array id Ident k l, i)

-- 1 and 3 go before 7
before_7 : (part array id : ℕ) (place : Place) (r : Refusal) → rank_of r ≤ rank_of Beyond → lent_verdict_of (facts_of part) array id ≡ Err r → look_refusal_of part array id place ≡ Err r
unfolding look_refusal_of
before_7 part array id place r low h = rw h (given_first r _ (later_claim _ (outside_of (facts_of part) place) Beyond low))

pub refuses_rightly : RefusesRightly look_refusal_of
refuses_rightly = record {
  no_part = λ part array id place h. ap verdict_number_of (before_7 part array id place NoPart (omega arith) (lent_unknown (facts_of part) array id (unknown part h)));
  wrong_buffer = λ part array id place h n. ap verdict_number_of (before_7 part array id place WrongBuffer (omega arith) (lent_wrong (facts_of part) array id (known part h) (buffers_wrong (facts_of part) array id n)));
  beyond = λ part array id a h l far. rw (lent part array id (Array a) (known part h) l, le-leb (facts_of part).size a.0 far);
  no_page = λ part array id h l i. rw (lent part array id Ident (known part h) l, i);
  in_array = λ part array id a h l low. ap verdict_number_of (in_array_lem part array id a (known part h) l low);
  is_page = λ part array id h l i. ap verdict_number_of (is_there part array id (known part h) l i);
}

-- ---- where it lies

module _ (part array id : ℕ) where
  span_fine : (place : Place) → look_refusal_of part array id place ≡ Ok tt → look_span_of part array id place ≡ page_span_of (facts_of part) place
  unfolding look_span_of
  span_fine place h = rw h

  span_refused : (place : Place) → 0 < verdict_number_of (look_refusal_of part array id place) → look_span_of part array id place ≡ of_array 0 0
  unfolding look_span_of
  span_refused place h = empty (look_refusal_of part array id place) h
    where
      empty : (v : Verdict) → 0 < verdict_number_of v → shown_span_of v (page_span_of (facts_of part) place) ≡ of_array 0 0
      empty (Ok _) z = absurd (omega arith)
      empty (Err r) z = refl

pub lies_in_buffer : LiesInBuffer look_refusal_of look_span_of
unfolding page_start_of
lies_in_buffer = record {
  array = λ part array id a h. let f = fine (look_refusal_of part array id (Array a)) h in (span_fine part array id (Array a) f, (room part array id (Array a) f).1);
  ident = λ part array id h. let f = fine (look_refusal_of part array id Ident) h in (span_fine part array id Ident f, room part array id Ident f);
  refused = λ part array id place h. span_refused part array id place h;
}

-- ---- what it holds

module _ (P a : ℕ) (array : List ℕ) where
  page_each : (i : ℕ) → i < P → get_or (take P (drop (a / P * P) array)) i 0 ≡ get_or array (a / P * P + i) 0
  page_each i low = rw (get_or-take P (drop (a / P * P) array) i 0 low, get_or-drop)

  is_page_lem : 0 < P → a / P * P + P ≤ length array → IsPage P a array (take P (drop (a / P * P) array))
  is_page_lem pos h = record {
    part = refl;
    whole = simp (length-take, length-drop) (omega arith);
    each = page_each;
    own = page_each (a % P) (mod-lt a pos) ∙ ap (λ i. get_or array i 0) (div-add-mod' a P);
  }

module _ (part : ℕ) (array id : List ℕ) where
  looked_array : (a : ArrayAddress) → look_refusal_of part (length array) (length id) (Array a) ≡ Ok tt → look_of part array id (Array a) ≡ take (facts_of part).page (drop (a.0 / (facts_of part).page * (facts_of part).page) array)
  unfolding look_of page_start_of
  looked_array a h = rw (span_fine part (length array) (length id) (Array a) h)

  looked_ident : look_refusal_of part (length array) (length id) Ident ≡ Ok tt → look_of part array id Ident ≡ id
  unfolding look_of
  looked_ident h = rw (span_fine part (length array) (length id) Ident h) (take_all (facts_of part).page id (le_of_eq (room part (length array) (length id) Ident h)))

  looked_refused : (place : Place) → 0 < verdict_number_of (look_refusal_of part (length array) (length id) place) → look_of part array id place ≡ []
  unfolding look_of
  looked_refused place h = rw (span_refused part (length array) (length id) place h)

  page_shown : (a : ArrayAddress) → look_refusal_of part (length array) (length id) (Array a) ≡ Ok tt → IsPage (facts_of part).page a.0 array (look_of part array id (Array a))
  unfolding page_start_of
  page_shown a h =
      let r = room part (length array) (length id) (Array a) h in
      rw (looked_array a h) (is_page_lem (facts_of part).page a.0 array r.0 r.1)

  -- an address in the same page is in the array too
  page_shared : (a b : ArrayAddress) → look_refusal_of part (length array) (length id) (Array a) ≡ Ok tt → b.0 / (facts_of part).page ≡ a.0 / (facts_of part).page → look_of part array id (Array b) ≡ look_of part array id (Array a)
  unfolding page_start_of
  page_shared a b h e =
      let P = (facts_of part).page in
      let ok = accepted part (length array) (length id) (Array a) h in
      let r = room part (length array) (length id) (Array a) h in
      let below : a.0 / P * P + P ≤ length array = r.1 in
      let same : b.0 / P * P ≡ a.0 / P * P = ap (λ q. q * P) e in
      let low : b.0 < (facts_of part).size = omega (arith, div-add-mod' b.0 P, mod-lt b.0 r.0, ok.array_right) in
      let hb = in_array_lem part (length array) (length id) b ok.known (ok.array_right, ok.id_right) low in
      rw (looked_array a h, looked_array b hb, same)

pub shows_pages : ShowsPages look_refusal_of look_of
shows_pages = record {
  array = λ part array id a h. page_shown part array id a (fine (look_refusal_of part (length array) (length id) (Array a)) h);
  shared = λ part array id a b h e. page_shared part array id a b (fine (look_refusal_of part (length array) (length id) (Array a)) h) e;
  ident = λ part array id h. let f = fine (look_refusal_of part (length array) (length id) Ident) h in (looked_ident part array id f, room part (length array) (length id) Ident f);
  refused = λ part array id place h. looked_refused part array id place h;
}
