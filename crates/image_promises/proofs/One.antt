-- One of the conditions of specs/Numbers.antt holds of every call, so two that keep them give one verdict.
-- Assumes nothing.
use Prim.Native.Nat.{ℕ, ◌<◌, ◌≤◌}
use mathlib.Core.Path.{◌≡◌, refl, sym, ◌∙◌}
use mathlib.Core.Bool.{Bool, true, false}
use mathlib.Core.List.{List}
use mathlib.Core.Logic.{◌⊎◌}
use native.Mathlib.Decide.{ℕ_discrete, dec_lt}
use native.Mathlib.Omega.{arith}
use lib.ListN.{length}
use Rattle.parts.specs.Table.{facts_of, id_size_of, groups_of}
use Rattle.parts.specs.Bytes.{AllBelow}
use Rattle.parts.proofs.Laws.{known}
use Rattle.state.specs.declared.Chip.{Chip}
use Rattle.state.specs.Range.{in_range_of}
use Rattle.chip.specs.Memory.{Mem}
use Rattle.image.specs.Layout.{image_length_of, part_in, formed_of}
use Rattle.image.specs.Promises.{Form}
use Rattle.image_worn.specs.Layout.{worn_length_of, worn_formed_of, all_zero_of}
use Rattle.image_worn.specs.Calls.{either_formed_of}
use Rattle.image_promises.specs.Form.{SavingWorn, LoadingWorn, Converting, NoneWorn, WornForm}
use Rattle.image_promises.specs.Numbers.{LentFit, Savable, save_worn_verdict, SaveWornNumbers, Openable, load_worn_verdict, LoadWornNumbers, Roomy, convert_verdict, ToWornNumbers, ToPlainNumbers, OneWornNumber}
use Rattle.image_promises.proofs.Words.{none_told, told_none}
use Rattle.image_promises.proofs.Read.{is_form, is_worn}
use Rattle.image_promises.proofs.Either.{form_formed, form_worn, either_formed, either_form}

-- ---- both ways of each condition

pub true_not {ℓ} : {A : Type ℓ} {b : Bool} → b ≡ false → b ≡ true → A
true_not e h = let z : ◌≡◌ {A = ℕ} 0 1 = cc in absurd (omega arith)

module _ {G : Type 0} where
  below_or_not : (a b : ℕ) → (a < b → G) → (b ≤ a → G) → G
  below_or_not a b f g = go (dec_lt a b)
    where
      go : Dec (a < b) → G
      go (yes h) = f h
      go (no h) = g (omega (arith, h))

  told_or_not : (b : Bool) → (b ≡ true → G) → (b ≡ false → G) → G
  told_or_not true f g = f refl
  told_or_not false f g = g refl

  lent_or_not : (part : ℕ) (m : Mem) (counts : List ℕ) → ((LentFit part m counts → ⊥) → G) → (LentFit part m counts → G) → G
  lent_or_not part m counts f g =
      go (ℕ_discrete (length m.cells) (facts_of part).size) (ℕ_discrete (length m.ident) (id_size_of (facts_of part))) (ℕ_discrete (length counts) (groups_of (facts_of part)))
    where
      go : Dec (length m.cells ≡ (facts_of part).size) → Dec (length m.ident ≡ id_size_of (facts_of part)) → Dec (length counts ≡ groups_of (facts_of part)) → G
      go (yes h) (yes k) (yes o) = g (record { cells = h; ident = k }, o)
      go (no h) k o = f (λ b. h b.0.cells)
      go (yes h) (no k) o = f (λ b. k b.0.ident)
      go (yes h) (yes k) (no o) = f (λ b. o b.1)

-- ---- saving

one_save : (S T : SavingWorn) → SaveWornNumbers S → SaveWornNumbers T
    → (part : ℕ) (c : Chip) (m : Mem) (counts out : List ℕ) → save_worn_verdict S part c m counts out ≡ save_worn_verdict T part c m counts out
one_save S T p q part c m counts out =
    let a = p part c m counts out in
    let b = q part c m counts out in
    below_or_not 5 part (λ h. a.no_part h ∙ sym (b.no_part h)) (λ k.
    lent_or_not part m counts (λ w. a.wrong_buffer k w ∙ sym (b.wrong_buffer k w)) (λ t.
    told_or_not (in_range_of (facts_of part) c) (λ o.
    let s : Savable part c m counts = record { known = k; fits = t; ranged = o } in
    below_or_not (length out) (worn_length_of (facts_of part)) (λ h. a.short_buffer s h ∙ sym (b.short_buffer s h)) (λ h. a.none s h ∙ sym (b.none s h)))
    (λ o. a.bad_state k t o ∙ sym (b.bad_state k t o))))

-- ---- loading

one_load : (L K : LoadingWorn) → LoadWornNumbers L → LoadWornNumbers K
    → (l : List ℕ) (enable : ℕ) (m : Mem) (counts : List ℕ) → AllBelow 256 l → load_worn_verdict L l enable m counts ≡ load_worn_verdict K l enable m counts
one_load L K p q l enable m counts bytes =
    let a = p l enable m counts bytes in
    let b = q l enable m counts bytes in
    below_or_not (length l) 6 (λ h. a.no_part_byte h ∙ sym (b.no_part_byte h)) (λ n.
    below_or_not 5 (part_in l) (λ k. a.no_part n k ∙ sym (b.no_part n k)) (λ k.
    below_or_not enable (facts_of (part_in l)).enables (λ e.
    lent_or_not (part_in l) m counts (λ w. a.wrong_buffer n k e w ∙ sym (b.wrong_buffer n k e w)) (λ t.
    let o : Openable l enable m counts = record { named = n; known = k; enabled = e; fits = t } in
    told_or_not (either_formed_of (part_in l) l) (λ h. let f = either_form l bytes (known (part_in l) k) h in a.none o f ∙ sym (b.none o f))
    (λ h. let w : (Form l ⊎ WornForm l → ⊥) = λ f. true_not h (either_formed l f) in a.bad_image o w ∙ sym (b.bad_image o w))))
    (λ e. a.wrong_enable n k e ∙ sym (b.wrong_enable n k e))))

-- ---- conversions

one_there : (C D : Converting) → ToWornNumbers C → ToWornNumbers D → (l out : List ℕ) → convert_verdict C l out ≡ convert_verdict D l out
one_there C D p q l out =
    let a = p l out in
    let b = q l out in
    below_or_not (length l) 6 (λ h. a.no_part_byte h ∙ sym (b.no_part_byte h)) (λ n.
    below_or_not 5 (part_in l) (λ k. a.no_part n k ∙ sym (b.no_part n k)) (λ k.
    below_or_not (length out) (worn_length_of (facts_of (part_in l))) (λ s. a.short_buffer n k s ∙ sym (b.short_buffer n k s)) (λ s.
    let r : Roomy (worn_length_of (facts_of (part_in l))) l out = record { named = n; known = k; room = s } in
    told_or_not (formed_of (facts_of (part_in l)) l) (λ h. let f = is_form l (known (part_in l) k) h in a.none r f ∙ sym (b.none r f))
    (λ h. let w : (Form l → ⊥) = λ f. true_not h (form_formed l f) in a.bad_image r w ∙ sym (b.bad_image r w)))))

one_back : (C D : Converting) → ToPlainNumbers C → ToPlainNumbers D → (l out : List ℕ) → AllBelow 256 l → convert_verdict C l out ≡ convert_verdict D l out
one_back C D p q l out bytes =
    let a = p l out bytes in
    let b = q l out bytes in
    below_or_not (length l) 6 (λ h. a.no_part_byte h ∙ sym (b.no_part_byte h)) (λ n.
    below_or_not 5 (part_in l) (λ k. a.no_part n k ∙ sym (b.no_part n k)) (λ k.
    below_or_not (length out) (image_length_of (facts_of (part_in l))) (λ s. a.short_buffer n k s ∙ sym (b.short_buffer n k s)) (λ s.
    let r : Roomy (image_length_of (facts_of (part_in l))) l out = record { named = n; known = k; room = s } in
    told_or_not (worn_formed_of (facts_of (part_in l)) l) (λ h.
    let f = is_worn l (known (part_in l) k) h bytes in
    told_or_not (all_zero_of f.counts) (λ z. let e = told_none f.counts z in a.none r f e ∙ sym (b.none r f e))
    (λ z. let w : (NoneWorn f.counts → ⊥) = λ e. true_not z (none_told f.counts e) in a.counts_lost r f w ∙ sym (b.counts_lost r f w)))
    (λ h. let w : (WornForm l → ⊥) = λ f. true_not h (form_worn l f) in a.bad_image r w ∙ sym (b.bad_image r w)))))

pub one_worn_number : OneWornNumber
one_worn_number = record { save = one_save; load = one_load; there = one_there; back = one_back }
