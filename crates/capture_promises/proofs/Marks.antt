-- The mark is the first compared clock that differs, and no other mark is.
-- Assumes nothing.
use Prim.Native.Nat.{ℕ, ◌+◌, ◌<◌}
use mathlib.Core.Path.{◌≡◌, ◌∙◌, refl, sym, ap}
use mathlib.Core.Bool.{Bool, true, false, not, cond, ◌&&◌}
use mathlib.Core.List.{List, [], ◌∷◌, ◌++◌}
use native.Mathlib.Nat.{zero-add}
use native.Mathlib.Omega.{arith}
use lib.ListN.{get_or}
use lib.Dec.{eqb, ltb}
use borrow.Author.Tests.{lt-ltb, eqb-true, eqb-false, ltb-true}
use Rattle.parts.proofs.Tests.{and_both, not_yes, either}
use Rattle.state.specs.declared.Chip.{Chip}
use Rattle.chip.specs.Model.{Model}
use Rattle.chip.specs.Memory.{Mem}
use Rattle.chip.specs.Runs.{after_of, memory_of}
use Rattle.chip_laws.proofs.Range.{no_way}
use Rattle.capture.specs.declared.Mark.{Mark}
use Rattle.capture.specs.declared.Mark.TheVariants.{Same, At}
use Rattle.capture.specs.Samples.{events_of, rises_of}
use Rattle.capture.specs.Marks.{place_of, clock_of, clocks_in, compared_of, differs_of, mark_from}
use Rattle.capture_promises.specs.Running.{stripped_of, Agrees, place_after, Differs, MarkRight}
use Rattle.capture_promises.proofs.Ends.{stripped_other}
use Rattle.capture_promises.proofs.Rises.{rises_at, rises_pinned}

-- ---- one clock

pub differs_is : (M : Model) (c : Chip) (m : Mem) (place e : ℕ) → differs_of M c m place e ≡ true
    → (e < 2) × (compared_of c.line place ≡ true) × (M.level c m e ≡ e → ⊥)
unfolding differs_of
differs_is M c m place e h =
    let w = and_both (ltb e 2) (compared_of c.line place && not (eqb (M.level c m e) e)) h in
    let v = and_both (compared_of c.line place) (not (eqb (M.level c m e) e)) w.1 in
    (ltb-true e 2 w.0, v.0, eqb-false (M.level c m e) e (not_yes (eqb (M.level c m e) e) v.1))

pub same_is : (M : Model) (c : Chip) (m : Mem) (place e : ℕ) → differs_of M c m place e ≡ false → e < 2 → compared_of c.line place ≡ true → M.level c m e ≡ e
unfolding differs_of
same_is M c m place e h l k =
    eqb-true (M.level c m e) e
    (either (eqb (M.level c m e) e) (λ b. b) (λ b. let t : differs_of M c m place e ≡ true = rw (lt-ltb e 2 l, k, b) refl in no_way (sym h ∙ t)))

-- ---- the mark, from anywhere in a run

record First (M : Model) (c : Chip) (m : Mem) (place n : ℕ) (rises xs : List ℕ) (s k v : ℕ) : Type 0 where
  earlier : List ℕ
  later : List ℕ
  cut : xs ≡ earlier ++ (v ∷ later)
  agrees : Agrees M c m place earlier
  clock : v < 2
  looked : compared_of (after_of M c earlier).line (place_after place earlier) ≡ true
  other : M.level (after_of M c earlier) (memory_of M c m earlier) v ≡ v → ⊥
  count : n + clocks_in earlier ≡ k
  sample : get_or rises k 0 ≡ s

abbrev Found : Model → Chip → Mem → ℕ → ℕ → List ℕ → List ℕ → Mark → Type 0
Found M c m place n rises xs Same = Agrees M c m place xs
Found M c m place n rises xs (At s k v) = First M c m place n rises xs s k v

found_later : (M : Model) (c : Chip) (m : Mem) (place n : ℕ) (rises : List ℕ) (e : ℕ) (xs : List ℕ) (k : Mark)
    → (e < 2 → compared_of c.line place ≡ true → M.level c m e ≡ e)
    → Found M (M.next c e) (M.store c m e) (place_of place e) (n + clock_of e) rises xs k → Found M c m place n rises (e ∷ xs) k
unfolding after_of memory_of
found_later M c m place n rises e xs Same a r = (a, r)
found_later M c m place n rises e xs (At s k v) a r =
    record {
      earlier = e ∷ r.earlier;
      later = r.later;
      cut = ap (λ (l : List ℕ). e ∷ l) r.cut;
      agrees = (a, r.agrees);
      clock = r.clock;
      looked = r.looked;
      other = r.other;
      count = omega (arith, r.count);
      sample = r.sample;
    }

found : (M : Model) (c : Chip) (m : Mem) (place n : ℕ) (rises xs : List ℕ) → Found M c m place n rises xs (mark_from M c m place n rises xs)
unfolding mark_from after_of memory_of
found M c m place n rises [] = tt
found M c m place n rises (e ∷ xs) =
    go (differs_of M c m place e) refl (found M (M.next c e) (M.store c m e) (place_of place e) (n + clock_of e) rises xs)
  where
    on : Mark
    on = mark_from M (M.next c e) (M.store c m e) (place_of place e) (n + clock_of e) rises xs

    go : (b : Bool) → differs_of M c m place e ≡ b → Found M (M.next c e) (M.store c m e) (place_of place e) (n + clock_of e) rises xs on
        → Found M c m place n rises (e ∷ xs) (cond b (At (get_or rises n 0) n e) on)
    go true h r =
        let d = differs_is M c m place e h in
        record { earlier = []; later = xs; cut = refl; agrees = tt; clock = d.0; looked = d.1; other = d.2; count = omega arith; sample = refl }
    go false h r = found_later M c m place n rises e xs on (λ l k. same_is M c m place e h l k) r

-- ---- of a capture

stripped_append : (xs ys : List ℕ) → stripped_of (xs ++ ys) ≡ stripped_of xs ++ stripped_of ys
stripped_append [] ys = refl
stripped_append (x ∷ xs) ys =
    either (eqb x 4) (λ h. rw h (stripped_append xs ys)) (λ h. rw h (ap (λ (l : List ℕ). x ∷ l) (stripped_append xs ys)))

-- an end is no clock
pub stripped_clocks : (xs : List ℕ) → clocks_in (stripped_of xs) ≡ clocks_in xs
stripped_clocks [] = refl
stripped_clocks (x ∷ xs) =
    either (eqb x 4)
    (λ h. let z : x ≡ 4 = eqb-true x 4 h in rw z (stripped_clocks xs ∙ sym (zero-add (clocks_in xs))))
    (λ h. rw h (ap (λ (n : ℕ). clock_of x + n) (stripped_clocks xs)))

pub mark_right : (M : Model) (c : Chip) (m : Mem) (bus : Bool) (ss xs : List ℕ) → stripped_of xs ≡ events_of bus ss
    → MarkRight M c m bus ss xs (mark_from M c m 0 0 (rises_of bus ss) xs)
mark_right M c m bus ss xs h = go (mark_from M c m 0 0 (rises_of bus ss) xs) (found M c m 0 0 (rises_of bus ss) xs)
  where
    shown : (fs : List ℕ) (v : ℕ) (gs : List ℕ) → v < 2 → xs ≡ fs ++ (v ∷ gs) → events_of bus ss ≡ stripped_of fs ++ (v ∷ stripped_of gs)
    shown fs v gs l e =
        sym h ∙ ap stripped_of e ∙ stripped_append fs (v ∷ gs) ∙ ap (λ (t : List ℕ). stripped_of fs ++ t) (stripped_other v gs (λ q. omega arith))

    go : (k : Mark) → Found M c m 0 0 (rises_of bus ss) xs k → MarkRight M c m bus ss xs k
    go Same r = r
    go (At s n v) r =
        let k : clocks_in r.earlier ≡ n = omega (arith, r.count) in
        record {
          earlier = r.earlier;
          later = r.later;
          cut = r.cut;
          agrees = r.agrees;
          clock = r.clock;
          looked = r.looked;
          other = r.other;
          count = k;
          rises =
              rw r.sample at (rises_at bus ss n v (stripped_of r.earlier) (stripped_of r.later) (shown r.earlier v r.later r.clock r.cut) r.clock
              (stripped_clocks r.earlier ∙ k));
        }

-- ---- and no other

-- a place where every compared clock agrees, and one that differs
clash {ℓ} : {A : Type ℓ} (M : Model) (c : Chip) (m : Mem) (place : ℕ) (fs : List ℕ) (v : ℕ) (gs : List ℕ) → Agrees M c m place (fs ++ (v ∷ gs)) → v < 2
    → compared_of (after_of M c fs).line (place_after place fs) ≡ true → (M.level (after_of M c fs) (memory_of M c m fs) v ≡ v → ⊥) → A
unfolding after_of memory_of
clash M c m place [] v gs a l k d = absurd (d (a.0 l k))
clash M c m place (f ∷ fs) v gs a l k d = clash M (M.next c f) (M.store c m f) (place_of place f) fs v gs a.1 l k d

record Cut (M : Model) (c : Chip) (m : Mem) (place : ℕ) (fs : List ℕ) (v : ℕ) : Type 0 where
  agrees : Agrees M c m place fs
  clock : v < 2
  looked : compared_of (after_of M c fs).line (place_after place fs) ≡ true
  other : M.level (after_of M c fs) (memory_of M c m fs) v ≡ v → ⊥

one_cut : (M : Model) (c : Chip) (m : Mem) (place : ℕ) (fs : List ℕ) (v : ℕ) (gs : List ℕ) (hs : List ℕ) (w : ℕ) (ks : List ℕ)
    → fs ++ (v ∷ gs) ≡ hs ++ (w ∷ ks) → Cut M c m place fs v → Cut M c m place hs w → (fs ≡ hs) × (v ≡ w)
unfolding after_of memory_of
one_cut M c m place [] v gs [] w ks e a b = (refl, cc)
one_cut M c m place [] v gs (h ∷ hs) w ks e a b =
    let z : h ≡ v = cc in
    absurd (a.other (rw z at b.agrees.0 a.clock a.looked))
one_cut M c m place (f ∷ fs) v gs [] w ks e a b =
    let z : f ≡ w = cc in
    absurd (b.other (rw z at a.agrees.0 b.clock b.looked))
one_cut M c m place (f ∷ fs) v gs (h ∷ hs) w ks e a b =
    let z : h ≡ f = cc in
    let t : fs ++ (v ∷ gs) ≡ hs ++ (w ∷ ks) = cc in
    let A : Cut M (M.next c f) (M.store c m f) (place_of place f) fs v = record { agrees = a.agrees.1; clock = a.clock; looked = a.looked; other = a.other } in
    let B : Cut M (M.next c h) (M.store c m h) (place_of place h) hs w = record { agrees = b.agrees.1; clock = b.clock; looked = b.looked; other = b.other } in
    let r = one_cut M (M.next c f) (M.store c m f) (place_of place f) fs v gs hs w ks t A (rw z at B) in
    let u : fs ≡ hs = r.0 in
    (cc, r.1)

module _ (M : Model) (c : Chip) (m : Mem) (bus : Bool) (ss xs : List ℕ) where
  marked_not {ℓ} : {A : Type ℓ} {s n v : ℕ} → Agrees M c m 0 xs → Differs M c m bus ss xs s n v → A
  marked_not {v = v} a d = clash M c m 0 d.earlier v d.later (rw d.cut at a) d.clock d.looked d.other

  pub mark_one : (j k : Mark) → MarkRight M c m bus ss xs j → MarkRight M c m bus ss xs k → j ≡ k
  mark_one Same Same a b = refl
  mark_one Same (At s n v) a b = marked_not a b
  mark_one (At s n v) Same a b = marked_not b a
  mark_one (At s n v) (At t k w) a b =
      let q =
      one_cut M c m 0 a.earlier v a.later b.earlier w b.later (sym a.cut ∙ b.cut)
      record { agrees = a.agrees; clock = a.clock; looked = a.looked; other = a.other }
      record { agrees = b.agrees; clock = b.clock; looked = b.looked; other = b.other } in
      let u : v ≡ w = q.1 in
      let i : n ≡ k = sym a.count ∙ ap clocks_in q.0 ∙ b.count in
      let f : s ≡ t = sym (rises_pinned bus ss s n v a.clock a.rises) ∙ ap (λ (x : ℕ). get_or (rises_of bus ss) x 0) i ∙ rises_pinned bus ss t k w b.clock b.rises in
      cc
