-- The numbers are given in document 01's order.
-- Assumes nothing.
use Rattle.std.specs.Prelude.{Ok, Err}
use Prim.Native.Nat.{ℕ, ◌<◌, ◌≤◌}
use mathlib.Core.Path.{◌≡◌, refl, sym, ap, ◌∙◌}
use mathlib.Core.Bool.{Bool, true, false, not}
use mathlib.Core.List.{List, [], ◌∷◌}
use native.Mathlib.Decide.{ℕ_discrete, dec_lt}
use native.Mathlib.Omega.{arith}
use lib.ListN.{length}
use lib.Dec.{ltb}
use borrow.Author.Tests.{lt-ltb, le-ltb}
use Rattle.parts.specs.declared.Refusal.{Refusal}
use Rattle.parts.specs.declared.Refusal.TheVariants.{NoPart, WrongEnable, WrongBuffer, BadState, ShortBuffer, BadImage}
use Rattle.parts.specs.Verdict.{Verdict}
use Rattle.parts.specs.Table.{facts_of, id_size_of, buffers_right_of, enable_right_of}
use Rattle.parts.specs.Refusals.{rank_of, verdict_number_of, claim_of, sooner_of, lent_verdict_of}
use Rattle.parts.proofs.Laws.{known, unknown, buffers_right_lem, buffers_wrong}
use Rattle.parts.proofs.Claims.{refused_not, Later, later_claim, later_sooner, given_first, lent_unknown, lent_wrong, fine_lent}
use Rattle.state.specs.declared.Chip.{Chip}
use Rattle.state.specs.Range.{in_range_of}
use Rattle.chip.specs.Memory.{Mem, mem}
use Rattle.chip.specs.Delivery.{standby_of}
use Rattle.image.specs.Layout.{image_length_of, part_in, formed_as, formed_of}
use Rattle.image.specs.Calls.{save_verdict_of, save_by, saving, judged_of, load_verdict_of, loading}
use Rattle.image.specs.Promises.{Saving, Loading, BuffersFit, Form}
use Rattle.image.specs.Numbers.{save_number, SaveNumbers, Openable, load_number, LoadNumbers, OneImageNumber, RoomFirstBreaks, FormFirstBreaks}
use Rattle.image.proofs.Kept.{load_verdict, accepts_only, accepts_all}

-- ---- the two lent buffers

module _ (part : ℕ) (m : Mem) where
  abbrev lent : Verdict
  lent = lent_verdict_of (facts_of part) (length m.cells) (length m.ident)

  lent_1 : 5 < part → lent ≡ Err NoPart
  lent_1 h = lent_unknown (facts_of part) (length m.cells) (length m.ident) (unknown part h)

  lent_3 : part ≤ 5 → (BuffersFit part m → ⊥) → lent ≡ Err WrongBuffer
  lent_3 k w =
      lent_wrong (facts_of part) (length m.cells) (length m.ident) (known part k)
      (buffers_wrong (facts_of part) (length m.cells) (length m.ident) (λ p. w record { cells = p.0; ident = p.1 }))

  lent_0 : part ≤ 5 → BuffersFit part m → lent ≡ Ok tt
  lent_0 k f =
      fine_lent (facts_of part) (length m.cells) (length m.ident) (known part k)
      (buffers_right_lem (facts_of part) (length m.cells) (length m.ident) f.cells f.ident)

-- ---- saving

module _ (part : ℕ) (c : Chip) (m : Mem) (out : List ℕ) where
  abbrev state : Verdict
  state = claim_of (not (in_range_of (facts_of part) c)) BadState

  abbrev short : Verdict
  short = claim_of (ltb (length out) (image_length_of (facts_of part))) ShortBuffer

  save_number_lem : (v : Verdict) → save_verdict_of part c (length m.cells) (length m.ident) (length out) ≡ v → save_number saving part c m out ≡ verdict_number_of v
  save_number_lem v h = ap (λ (w : Verdict). verdict_number_of (save_by (facts_of part) w).verdict) h ∙ by v
    where
      by : (w : Verdict) → verdict_number_of (save_by (facts_of part) w).verdict ≡ verdict_number_of w
      by (Ok _) = refl
      by (Err r) = refl

  behind : (k : ℕ) → k ≤ rank_of BadState → Later k (sooner_of state short)
  behind k h =
      later_sooner k state short (later_claim k (not (in_range_of (facts_of part) c)) BadState h)
      (later_claim k (ltb (length out) (image_length_of (facts_of part))) ShortBuffer (omega (arith, h)))

  lent_first : (r : Refusal) → rank_of r ≤ rank_of BadState → lent part m ≡ Err r → save_number saving part c m out ≡ verdict_number_of (Err r)
  unfolding save_verdict_of
  lent_first r h e =
      save_number_lem (Err r) (ap (λ (v : Verdict). sooner_of v (sooner_of state short)) e ∙ given_first r (sooner_of state short) (behind (rank_of r) h))

  state_first : lent part m ≡ Ok tt → in_range_of (facts_of part) c ≡ false → save_number saving part c m out ≡ 4
  unfolding save_verdict_of sooner_of
  state_first f o =
      save_number_lem (Err BadState)
      (ap (λ (v : Verdict). sooner_of v (sooner_of state short)) f ∙ ap (λ (b : Bool). sooner_of (claim_of (not b) BadState) short) o
      ∙ given_first BadState short (later_claim (rank_of BadState) (ltb (length out) (image_length_of (facts_of part))) ShortBuffer (omega arith)))

  room : (b : Bool) → lent part m ≡ Ok tt → in_range_of (facts_of part) c ≡ true → ltb (length out) (image_length_of (facts_of part)) ≡ b
      → save_number saving part c m out ≡ verdict_number_of (claim_of b ShortBuffer)
  unfolding save_verdict_of sooner_of
  room b f o e = save_number_lem (claim_of b ShortBuffer) (rw (f, o, e) refl)

pub save_numbers : SaveNumbers saving
save_numbers part c m out =
    record {
      no_part = λ h. lent_first part c m out NoPart (omega arith) (lent_1 part m h);
      wrong_buffer = λ k w. lent_first part c m out WrongBuffer (omega arith) (lent_3 part m k w);
      bad_state = λ k f o. state_first part c m out (lent_0 part m k f) o;
      short_buffer = λ k f o h. room part c m out true (lent_0 part m k f) o (lt-ltb (length out) (image_length_of (facts_of part)) h);
      none = λ k f o h. room part c m out false (lent_0 part m k f) o (le-ltb (length out) (image_length_of (facts_of part)) h);
    }

-- ---- loading

module _ (l : List ℕ) (en : ℕ) (m : Mem) where
  abbrev enable : Verdict
  enable = claim_of (not (enable_right_of (facts_of (part_in l)) en)) WrongEnable

  abbrev form : Verdict
  form = claim_of (not (formed_of (facts_of (part_in l)) l)) BadImage

  answered : (v : Verdict) → load_verdict_of l en (length m.cells) (length m.ident) ≡ v → (loading l en m).answer.verdict ≡ v
  answered v h = load_verdict l (load_verdict_of l en (length m.cells) (length m.ident)) ∙ h

  unnamed : length l < 6 → load_number loading l en m ≡ 12
  unfolding load_verdict_of
  unnamed h = ap verdict_number_of (answered (Err BadImage) (rw (lt-ltb (length l) 6 h) refl))

  -- the image holds its part byte
  held : (v : Verdict) → 6 ≤ length l → sooner_of (lent (part_in l) m) (sooner_of enable form) ≡ v → (loading l en m).answer.verdict ≡ v
  unfolding load_verdict_of judged_of
  held v h e = answered v (rw (le-ltb (length l) 6 h) e)

  judged : (v : Verdict) → 6 ≤ length l → sooner_of (lent (part_in l) m) (sooner_of enable form) ≡ v → load_number loading l en m ≡ verdict_number_of v
  judged v h e = ap verdict_number_of (held v h e)

  later_form : (k : ℕ) → k ≤ rank_of BadImage → Later k form
  later_form k h = later_claim k (not (formed_of (facts_of (part_in l)) l)) BadImage h

  part_first : 6 ≤ length l → 5 < part_in l → load_number loading l en m ≡ 1
  part_first h k =
      judged (Err NoPart) h
      (ap (λ (v : Verdict). sooner_of v (sooner_of enable form)) (lent_1 (part_in l) m k)
      ∙ given_first NoPart (sooner_of enable form)
      (later_sooner (rank_of NoPart) enable form (later_claim (rank_of NoPart) (not (enable_right_of (facts_of (part_in l)) en)) WrongEnable (omega arith)) (later_form (rank_of NoPart) (omega arith))))

  -- 2 goes before 3
  before_3 : (b : Bool) → sooner_of (sooner_of (claim_of false NoPart) (claim_of (not b) WrongBuffer)) (Err WrongEnable) ≡ Err WrongEnable
  unfolding sooner_of
  before_3 true = refl
  before_3 false = refl

  enable_first : 6 ≤ length l → part_in l ≤ 5 → (facts_of (part_in l)).enables ≤ en → load_number loading l en m ≡ 2
  unfolding lent_verdict_of enable_right_of
  enable_first h k o =
      let s : sooner_of enable form ≡ Err WrongEnable =
      ap (λ (b : Bool). sooner_of (claim_of (not b) WrongEnable) form) (le-ltb en (facts_of (part_in l)).enables o)
      ∙ given_first WrongEnable form (later_form (rank_of WrongEnable) (omega arith)) in
      let n = length m.cells in
      let d = length m.ident in
      judged (Err WrongEnable) h
      (ap (λ (v : Verdict). sooner_of (lent (part_in l) m) v) s
      ∙ ap (λ (b : Bool). sooner_of (sooner_of (claim_of (not b) NoPart) (claim_of (not (buffers_right_of (facts_of (part_in l)) n d)) WrongBuffer)) (Err WrongEnable)) (known (part_in l) k)
      ∙ before_3 (buffers_right_of (facts_of (part_in l)) n d))

  enabled : en < (facts_of (part_in l)).enables → enable_right_of (facts_of (part_in l)) en ≡ true
  unfolding enable_right_of
  enabled h = lt-ltb en (facts_of (part_in l)).enables h

  buffer_first : 6 ≤ length l → part_in l ≤ 5 → en < (facts_of (part_in l)).enables → (BuffersFit (part_in l) m → ⊥) → load_number loading l en m ≡ 3
  unfolding sooner_of
  buffer_first h k e w =
      judged (Err WrongBuffer) h
      (ap (λ (v : Verdict). sooner_of v (sooner_of enable form)) (lent_3 (part_in l) m k w)
      ∙ ap (λ (b : Bool). sooner_of (Err WrongBuffer) (sooner_of (claim_of (not b) WrongEnable) form)) (enabled e)
      ∙ given_first WrongBuffer form (later_form (rank_of WrongBuffer) (omega arith)))

  form_last : (b : Bool) → Openable l en m → formed_of (facts_of (part_in l)) l ≡ b → (loading l en m).answer.verdict ≡ claim_of (not b) BadImage
  unfolding sooner_of
  form_last b o e = held (claim_of (not b) BadImage) o.named (rw (lent_0 (part_in l) m o.known o.fits, enabled o.enabled, e) refl)

  -- what has the form is taken, and nothing else is
  formed_fine : Openable l en m → Form l → (loading l en m).answer.verdict ≡ Ok tt
  formed_fine o f = accepts_all l en m f (enabled o.enabled) o.fits

  fine_formed : Openable l en m → formed_of (facts_of (part_in l)) l ≡ true → Form l
  fine_formed o e = accepts_only l en m (form_last true o e)

  formless : Openable l en m → (Form l → ⊥) → (loading l en m).answer.verdict ≡ Err BadImage
  formless o w = go (formed_of (facts_of (part_in l)) l) refl
    where
      go : (b : Bool) → formed_of (facts_of (part_in l)) l ≡ b → (loading l en m).answer.verdict ≡ Err BadImage
      go true e = absurd (w (fine_formed o e))
      go false e = form_last false o e

pub load_numbers : LoadNumbers loading
load_numbers l en m =
    record {
      no_part_byte = unnamed l en m;
      no_part = part_first l en m;
      wrong_enable = enable_first l en m;
      wrong_buffer = buffer_first l en m;
      bad_image = λ o w. ap verdict_number_of (formless l en m o w);
      none = λ o f. ap verdict_number_of (formed_fine l en m o f);
    }

-- ---- one of the conditions holds of every call

module _ {G : Type 0} (part : ℕ) (m : Mem) where
  part_or_not : (5 < part → G) → (part ≤ 5 → G) → G
  part_or_not f g = go (dec_lt 5 part)
    where
      go : Dec (5 < part) → G
      go (yes h) = f h
      go (no h) = g (omega (arith, h))

  fit_or_not : ((BuffersFit part m → ⊥) → G) → (BuffersFit part m → G) → G
  fit_or_not f g = go (ℕ_discrete (length m.cells) (facts_of part).size) (ℕ_discrete (length m.ident) (id_size_of (facts_of part)))
    where
      go : Dec (length m.cells ≡ (facts_of part).size) → Dec (length m.ident ≡ id_size_of (facts_of part)) → G
      go (yes h) (yes k) = g record { cells = h; ident = k }
      go (no h) k = f (λ b. h b.cells)
      go (yes h) (no k) = f (λ b. k b.ident)

one_save : (S T : Saving) → SaveNumbers S → SaveNumbers T → (part : ℕ) (c : Chip) (m : Mem) (out : List ℕ) → save_number S part c m out ≡ save_number T part c m out
one_save S T p q part c m out =
    let a = p part c m out in
    let b = q part c m out in
    part_or_not part m (λ h. a.no_part h ∙ sym (b.no_part h))
    (λ k. fit_or_not part m (λ w. a.wrong_buffer k w ∙ sym (b.wrong_buffer k w)) (λ f. ranged k f (in_range_of (facts_of part) c) refl))
  where
    roomy : part ≤ 5 → BuffersFit part m → in_range_of (facts_of part) c ≡ true → Dec (length out < image_length_of (facts_of part)) → save_number S part c m out ≡ save_number T part c m out
    roomy k f o (yes h) = (p part c m out).short_buffer k f o h ∙ sym ((q part c m out).short_buffer k f o h)
    roomy k f o (no h) = (p part c m out).none k f o (omega (arith, h)) ∙ sym ((q part c m out).none k f o (omega (arith, h)))

    ranged : part ≤ 5 → BuffersFit part m → (x : Bool) → in_range_of (facts_of part) c ≡ x → save_number S part c m out ≡ save_number T part c m out
    ranged k f false o = (p part c m out).bad_state k f o ∙ sym ((q part c m out).bad_state k f o)
    ranged k f true o = roomy k f o (dec_lt (length out) (image_length_of (facts_of part)))

one_load : (L K : Loading) → LoadNumbers L → LoadNumbers K → (l : List ℕ) (en : ℕ) (m : Mem) → load_number L l en m ≡ load_number K l en m
one_load L K p q l en m = named (dec_lt (length l) 6)
  where
    formed : Openable l en m → (x : Bool) → formed_of (facts_of (part_in l)) l ≡ x → load_number L l en m ≡ load_number K l en m
    formed o true e = (p l en m).none o (fine_formed l en m o e) ∙ sym ((q l en m).none o (fine_formed l en m o e))
    formed o false e =
        let w : (Form l → ⊥) = (λ f. refused_not (sym (form_last l en m false o e) ∙ formed_fine l en m o f)) in
        (p l en m).bad_image o w ∙ sym ((q l en m).bad_image o w)

    enables : 6 ≤ length l → part_in l ≤ 5 → Dec (en < (facts_of (part_in l)).enables) → load_number L l en m ≡ load_number K l en m
    enables h k (yes e) =
        fit_or_not (part_in l) m (λ w. (p l en m).wrong_buffer h k e w ∙ sym ((q l en m).wrong_buffer h k e w))
        (λ f. formed record { named = h; known = k; enabled = e; fits = f } (formed_of (facts_of (part_in l)) l) refl)
    enables h k (no e) = (p l en m).wrong_enable h k (omega (arith, e)) ∙ sym ((q l en m).wrong_enable h k (omega (arith, e)))

    named : Dec (length l < 6) → load_number L l en m ≡ load_number K l en m
    named (yes h) = (p l en m).no_part_byte h ∙ sym ((q l en m).no_part_byte h)
    named (no h) =
        let n : 6 ≤ length l = omega (arith, h) in
        part_or_not (part_in l) m (λ k. (p l en m).no_part n k ∙ sym ((q l en m).no_part n k)) (λ k. enables n k (dec_lt en (facts_of (part_in l)).enables))

pub one_image_number : OneImageNumber
one_image_number = record { save = one_save; load = one_load }

-- ---- other orders

-- no such part, and no room for anything
pub room_first_breaks : RoomFirstBreaks
unfolding image_length_of facts_of id_size_of
room_first_breaks p =
    let z : ◌≡◌ {A = ℕ} 6 1 = (p 6 (standby_of (facts_of 6) false) (mem [] []) []).no_part (omega arith) in
    absurd (omega (arith, z))

-- an image of six bytes, of no such part
pub form_first_breaks : FormFirstBreaks
unfolding formed_as image_length_of part_in facts_of id_size_of
form_first_breaks p =
    let z : ◌≡◌ {A = ℕ} 12 1 = (p (0 ∷ 0 ∷ 0 ∷ 0 ∷ 0 ∷ 9 ∷ []) 0 (mem [] [])).no_part (omega arith) (omega arith) in
    absurd (omega (arith, z))
