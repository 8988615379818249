-- The promises of the conversions are kept.
-- Assumes nothing.
use Rattle.std.specs.Prelude.{Ok}
use Prim.Native.Nat.{ℕ, ◌≤◌}
use mathlib.Core.Path.{◌≡◌, ◌∙◌, sym, ap, refl, subst}
use mathlib.Core.Bool.{Bool, true, false}
use mathlib.Core.List.{List}
use mathlib.Core.Logic.{inl, inr}
use native.Mathlib.Omega.{arith}
use lib.ListN.{length, replicate, length-replicate}
use Rattle.parts.specs.declared.Refusal.TheVariants.{CountsLost}
use Rattle.parts.specs.Table.{facts_of, groups_of}
use Rattle.parts.specs.Bytes.{word_end}
use Rattle.parts.proofs.Claims.{refused_not}
use Rattle.chip.specs.Memory.{Mem}
use Rattle.image.specs.Layout.{image_of, image_length_of, part_in}
use Rattle.image.specs.Promises.{Form}
use Rattle.image.proofs.Form.{part_of_image, length_of_image}
use Rattle.image_worn.specs.Layout.{worn_image_of, worn_length_of, worn_from, plain_from, all_zero_of}
use Rattle.image_worn.specs.Calls.{to_worn_verdict_of, to_worn_of, to_plain_verdict_of, to_plain_of}
use Rattle.image_promises.specs.Form.{made_by, zeros, NoneWorn, Sane, WornForm}
use Rattle.image_promises.specs.Layout.{wrote, ConvertsThere, ConvertsBack}
use Rattle.image_promises.specs.Promises.{ThereAndBack, BackAndThere, LosesNothing}
use Rattle.image_promises.specs.Numbers.{Roomy}
use Rattle.image_promises.proofs.Words.{zeros_none, zeros_below, none_zeros, none_told, told_none, some_told}
use Rattle.image_promises.proofs.Form.{in_table}
use Rattle.image_promises.proofs.Image.{part_of_worn, length_of_worn, worn_from_plain, plain_from_worn}
use Rattle.image_promises.proofs.Either.{form_sane, form_part, form_long, worn_part, worn_long, worn_known, either_long}
use Rattle.image_promises.proofs.ToNumbers.{to_worn_numbers, back_formed}
use Rattle.image_promises.proofs.Written.{after_fine, back_keeps}
use Rattle.image_promises.proofs.Kept.{made}

-- ---- each byte

module _ (part : ℕ) (lock : Bool) (m : Mem) (s : Sane part lock m) where
  abbrev plain : List ℕ
  plain = image_of part lock m

  abbrev worn : List ℕ
  worn = worn_image_of part lock m (zeros part)

  pub counted : length (zeros part) ≡ groups_of (facts_of part)
  counted = length-replicate (groups_of (facts_of part)) 0

  pub plain_form : Form (image_of part lock m)
  plain_form = record { part = part; lock = lock; stored = m; known = s.known; fits = s.fits; lockable = s.lockable; bytes = refl }

  pub worn_form : WornForm (worn_image_of part lock m (zeros part))
  worn_form =
      record { part = part; lock = lock; stored = m; counts = zeros part; sane = s; counted = counted; below = zeros_below (groups_of (facts_of part)) word_end (omega arith); bytes = refl }

  there_fine : (out : List ℕ) → worn_length_of (facts_of part) ≤ length out → (to_worn_of plain out).answer.verdict ≡ Ok tt
  there_fine out room =
      let p = sym (part_of_image part lock m) in
      (to_worn_numbers plain out).none
      record { named = either_long plain (inl plain_form); known = subst (λ (x : ℕ). x ≤ 5) p (in_table part s.known); room = subst (λ (x : ℕ). worn_length_of (facts_of x) ≤ length out) p room } plain_form

  there_is_lem : (out : List ℕ) → worn_length_of (facts_of part) ≤ length out → to_worn_of plain out ≡ wrote worn (worn_length_of (facts_of part)) out
  there_is_lem out room =
      let p = part_of_image part lock m in
      after_fine (worn_from (facts_of (part_in plain)) plain) (worn_length_of (facts_of (part_in plain))) out (to_worn_verdict_of plain (length out)) (there_fine out room)
      ∙ (λ i. wrote (worn_from (facts_of (p i)) plain) (worn_length_of (facts_of (p i))) out)
      ∙ (λ i. wrote (worn_from_plain part lock m i) (worn_length_of (facts_of part)) out)

  back_fine : (out : List ℕ) → image_length_of (facts_of part) ≤ length out → (to_plain_of worn out).answer.verdict ≡ Ok tt
  unfolding worn_form
  back_fine out room =
      let p = sym (part_of_worn part lock m (zeros part)) in
      back_formed worn out true
      record { named = either_long worn (inr worn_form); known = subst (λ (x : ℕ). x ≤ 5) p (in_table part s.known); room = subst (λ (x : ℕ). image_length_of (facts_of x) ≤ length out) p room }
      worn_form (none_told (zeros part) (zeros_none (groups_of (facts_of part))))

  back_is : (out : List ℕ) → image_length_of (facts_of part) ≤ length out → to_plain_of worn out ≡ wrote plain (image_length_of (facts_of part)) out
  back_is out room =
      let p = part_of_worn part lock m (zeros part) in
      after_fine (plain_from (facts_of (part_in worn)) worn) (image_length_of (facts_of (part_in worn))) out (to_plain_verdict_of worn (length out)) (back_fine out room)
      ∙ (λ i. wrote (plain_from (facts_of (p i)) worn) (image_length_of (facts_of (p i))) out)
      ∙ (λ i. wrote (plain_from_worn part lock m (zeros part) s.fits i) (image_length_of (facts_of part)) out)

  -- what they answer
  pub there_made : (out : List ℕ) → worn_length_of (facts_of part) ≤ length out → made_by (to_worn_of plain out) ≡ worn
  there_made out room = ap made_by (there_is_lem out room) ∙ made worn (worn_length_of (facts_of part)) out (length_of_worn part lock m (zeros part) s.fits counted)

  pub back_made : (out : List ℕ) → image_length_of (facts_of part) ≤ length out → made_by (to_plain_of worn out) ≡ plain
  back_made out room = ap made_by (back_is out room) ∙ made plain (image_length_of (facts_of part)) out (length_of_image part lock m s.fits)

pub converts_there : ConvertsThere to_worn_of
converts_there part lock m out s room = there_is_lem part lock m s out room

pub converts_back : ConvertsBack to_plain_of
converts_back part lock m out s room = back_is part lock m s out room

-- ---- there and back

pub there_and_back : ThereAndBack to_worn_of to_plain_of
there_and_back l out plain f room space =
    let s = form_sane l f in
    let p = form_part l f in
    let long : length l ≡ image_length_of (facts_of f.part) = form_long l f ∙ ap (λ (x : ℕ). image_length_of (facts_of x)) p in
    let r : worn_length_of (facts_of f.part) ≤ length out = subst (λ (x : ℕ). worn_length_of (facts_of x) ≤ length out) p room in
    let q : image_length_of (facts_of f.part) ≤ length plain = omega (arith, long, space) in (
      ap (λ (x : List ℕ). (to_worn_of x out).answer.verdict) f.bytes ∙ there_fine f.part f.lock f.stored s out r,
      ap (λ (x : List ℕ). to_plain_of (made_by (to_worn_of x out)) plain) f.bytes
          ∙ ap (λ (x : List ℕ). to_plain_of x plain) (there_made f.part f.lock f.stored s out r)
          ∙ back_is f.part f.lock f.stored s plain q
          ∙ (λ i. wrote (sym f.bytes i) (sym long i) plain),
    )

-- an image with all counts zero
pub unworn : (l : List ℕ) (f : WornForm l) → NoneWorn f.counts → l ≡ worn_image_of f.part f.lock f.stored (zeros f.part)
unworn l f z = f.bytes ∙ ap (worn_image_of f.part f.lock f.stored) (none_zeros f.counts z ∙ ap (λ (n : ℕ). replicate n 0) f.counted)

pub back_and_there : BackAndThere to_worn_of to_plain_of
back_and_there l out plain f z room space =
    let e = unworn l f z in
    let p = worn_part l f in
    let long : length l ≡ worn_length_of (facts_of f.part) = worn_long l f ∙ ap (λ (x : ℕ). worn_length_of (facts_of x)) p in
    let r : image_length_of (facts_of f.part) ≤ length plain = subst (λ (x : ℕ). image_length_of (facts_of x) ≤ length plain) p room in
    let q : worn_length_of (facts_of f.part) ≤ length out = omega (arith, long, space) in (
      ap (λ (x : List ℕ). (to_plain_of x plain).answer.verdict) e ∙ back_fine f.part f.lock f.stored f.sane plain r,
      ap (λ (x : List ℕ). to_worn_of (made_by (to_plain_of x plain)) out) e
          ∙ ap (λ (x : List ℕ). to_worn_of x out) (back_made f.part f.lock f.stored f.sane plain r)
          ∙ there_is_lem f.part f.lock f.stored f.sane out q
          ∙ (λ i. wrote (sym e i) (sym long i) out),
    )

-- ---- nothing is lost

pub loses_nothing : LosesNothing to_plain_of
loses_nothing l plain f room =
    let r : Roomy (image_length_of (facts_of (part_in l))) l plain = record { named = either_long l (inr f); known = in_table (part_in l) (worn_known l f); room = room } in
    record {
      done = λ z. back_formed l plain true r f (none_told f.counts z);
      only = λ h. only r (all_zero_of f.counts) refl h;
      lost = λ w. back_keeps l plain CountsLost (back_formed l plain false r f (some_told f.counts w));
    }
  where
    only : Roomy (image_length_of (facts_of (part_in l))) l plain → (b : Bool) → all_zero_of f.counts ≡ b → (to_plain_of l plain).answer.verdict ≡ Ok tt → NoneWorn f.counts
    only r true e h = told_none f.counts e
    only r false e h = refused_not (sym (back_formed l plain false r f e) ∙ h)
