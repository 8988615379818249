-- The layout is the one of `worn_image_of`, and what is refused leaves all as it was.
-- Assumes nothing.
use Rattle.std.specs.Prelude.{Ok, Err}
use Prim.Native.Nat.{ℕ}
use mathlib.Core.Path.{◌≡◌, ◌∙◌, sym, ap, refl, subst}
use mathlib.Core.Bool.{Bool, true, false}
use mathlib.Core.List.{List}
use mathlib.Core.Logic.{inr}
use native.Mathlib.Omega.{arith}
use lib.ListN.{length}
use lib.Seq.{take_all}
use borrow.Author.Tests.{ltb-true}
use Rattle.parts.specs.declared.Refusal.{Refusal}
use Rattle.parts.specs.Verdict.{Verdict}
use Rattle.parts.specs.Table.{facts_of, enable_right_of}
use Rattle.parts.proofs.Claims.{refused_not}
use Rattle.parts.specs.Bytes.{AllBelow, word_end}
use Rattle.chip.specs.Memory.{Mem}
use Rattle.chip.specs.Delivery.{standby_of}
use Rattle.image.specs.Layout.{image_of, image_length_of, part_in, lock_in, stored_in}
use Rattle.image.specs.Calls.{AfterSave, saved_by, out_by}
use Rattle.image.specs.Promises.{BuffersFit}
use Rattle.image.proofs.Kept.{load_verdict}
use Rattle.image.proofs.Form.{part_of_image, lock_of_image, length_of_image, stored_of_image}
use Rattle.image_worn.specs.Layout.{worn_image_of, worn_length_of, plain_in, counts_in, version_in, worn_from, plain_from}
use Rattle.image_worn.specs.Calls.{AfterLoadWorn, save_worn_verdict_of, saving_worn, load_worn_verdict_of, load_worn_by, loading_worn, to_worn_verdict_of, to_worn_of, to_plain_verdict_of, to_plain_of}
use Rattle.image_promises.specs.Form.{CountsFit, zeros, WornForm}
use Rattle.image_promises.specs.Layout.{wrote, LayoutWritten, LayoutRead}
use Rattle.image_promises.specs.Promises.{AcceptsAllWorn, kept_out, SaveKeeps, LoadKeeps, ConvertKeeps}
use Rattle.image_promises.proofs.Form.{in_table}
use Rattle.image_promises.proofs.Image.{part_of_worn, lock_of_worn, stored_of_worn, counts_of_worn}
use Rattle.image_promises.proofs.Either.{either_formed, either_known, either_long}
use Rattle.image_promises.proofs.Numbers.{opened}

-- ---- whatever is written

abbrev pub after : List ℕ → ℕ → List ℕ → Verdict → AfterSave
after bytes n out v = record { answer = saved_by n v; out = out_by bytes n out v }

pub after_fine : (bytes : List ℕ) (n : ℕ) (out : List ℕ) (v : Verdict) → (after bytes n out v).answer.verdict ≡ Ok tt → after bytes n out v ≡ wrote bytes n out
after_fine bytes n out (Ok _) h = refl
after_fine bytes n out (Err r) h = refused_not h

after_kept : (bytes : List ℕ) (n : ℕ) (out : List ℕ) (v : Verdict) (r : Refusal) → (after bytes n out v).answer.verdict ≡ Err r → after bytes n out v ≡ kept_out out r
after_kept bytes n out (Ok _) r h = refused_not (sym h)
after_kept bytes n out (Err s) r h = λ i. record { answer = record { verdict = h i; length = 0 }; out = out }

pub layout_written : LayoutWritten saving_worn
layout_written part c m counts out h =
    after_fine (worn_image_of part c.line.core.locked m counts) (worn_length_of (facts_of part)) out
    (save_worn_verdict_of part c (length m.cells) (length m.ident) (length counts) (length out)) h

pub save_keeps : SaveKeeps saving_worn
save_keeps part c m counts out r h =
    after_kept (worn_image_of part c.line.core.locked m counts) (worn_length_of (facts_of part)) out
    (save_worn_verdict_of part c (length m.cells) (length m.ident) (length counts) (length out)) r h

pub there_keeps : ConvertKeeps to_worn_of
there_keeps l out r h = after_kept (worn_from (facts_of (part_in l)) l) (worn_length_of (facts_of (part_in l))) out (to_worn_verdict_of l (length out)) r h

pub back_keeps : ConvertKeeps to_plain_of
back_keeps l out r h = after_kept (plain_from (facts_of (part_in l)) l) (image_length_of (facts_of (part_in l))) out (to_plain_verdict_of l (length out)) r h

-- ---- whatever is read

load_kept : (l : List ℕ) (m : Mem) (counts : List ℕ) (v : Verdict) (r : Refusal) → (load_worn_by l m counts v).answer.verdict ≡ Err r
    → load_worn_by l m counts v ≡ record { answer = record { verdict = Err r; part = part_in l; chip = standby_of (facts_of (part_in l)) false }; stored = m; counts = counts }
load_kept l m counts (Ok _) r h = refused_not (sym h)
load_kept l m counts (Err s) r h =
    λ i. record { answer = record { verdict = h i; part = part_in l; chip = standby_of (facts_of (part_in l)) false }; stored = m; counts = counts }

pub load_keeps : LoadKeeps loading_worn
load_keeps l enable m counts r h =
    load_kept l m counts (load_worn_verdict_of l enable (length m.cells) (length m.ident) (length counts)) r h

abbrev pub holding : ℕ → Bool → Mem → List ℕ → AfterLoadWorn
holding part lock m counts = record { answer = record { verdict = Ok tt; part = part; chip = standby_of (facts_of part) lock }; stored = m; counts = counts }

-- what a formed image of either version is read as, where it is not refused
read_at : (l : List ℕ) (part : ℕ) → part_in l ≡ part → (m : Mem) (counts : List ℕ)
    → load_worn_by l m counts (Ok tt) ≡ holding part (lock_in l) (stored_in (facts_of part) (plain_in (facts_of part) l)) (counts_in (facts_of part) l)
read_at l part e m counts = λ i. holding (e i) (lock_in l) (stored_in (facts_of (e i)) (plain_in (facts_of (e i)) l)) (counts_in (facts_of (e i)) l)

module _ (part : ℕ) (lock : Bool) (m : Mem) (t : BuffersFit part m) (old : Mem) (was : List ℕ) where
  pub read_worn : (counts : List ℕ) → CountsFit part counts → AllBelow word_end counts → load_worn_by (worn_image_of part lock m counts) old was (Ok tt) ≡ holding part lock m counts
  read_worn counts k b =
      read_at (worn_image_of part lock m counts) part (part_of_worn part lock m counts) old was
      ∙ (λ i. holding part (lock_of_worn part lock m counts i) (stored_of_worn part lock m counts t i) (counts_of_worn part lock m counts t k b i))

  whole : plain_in (facts_of part) (image_of part lock m) ≡ image_of part lock m
  whole = take_all (image_length_of (facts_of part)) (image_of part lock m) (omega (arith, length_of_image part lock m t))

  no_counts : counts_in (facts_of part) (image_of part lock m) ≡ zeros part
  unfolding counts_in version_in image_of
  no_counts = refl

  pub read_plain : load_worn_by (image_of part lock m) old was (Ok tt) ≡ holding part lock m (zeros part)
  read_plain =
      read_at (image_of part lock m) part (part_of_image part lock m) old was
      ∙ (λ i. holding part (lock_of_image part lock m i) ((ap (stored_in (facts_of part)) whole ∙ stored_of_image part lock m t) i) (no_counts i))

-- ---- both forms are accepted

pub accepts_all_worn : AcceptsAllWorn loading_worn
unfolding enable_right_of
accepts_all_worn l enable m counts f e o k =
    opened l enable m counts true
    record { named = either_long l f; known = in_table (part_in l) (either_known l f); enabled = ltb-true enable (facts_of (part_in l)).enables e; fits = (o, k) } (either_formed l f)

pub layout_read : LayoutRead loading_worn
layout_read part enable lock m old counts was s k b e o w =
    let l = worn_image_of part lock m counts in
    let p : part ≡ part_in l = sym (part_of_worn part lock m counts) in
    let f : WornForm l = record { part = part; lock = lock; stored = m; counts = counts; sane = s; counted = k; below = b; bytes = refl } in
    let fine = accepts_all_worn l enable old was (inr f) (subst (λ (x : ℕ). enable_right_of (facts_of x) enable ≡ true) p e) (subst (λ (x : ℕ). BuffersFit x old) p o) (subst (λ (x : ℕ). CountsFit x was) p w) in
    let v : load_worn_verdict_of l enable (length old.cells) (length old.ident) (length was) ≡ (Ok tt) = sym (load_verdict l _) ∙ fine in
    ap (load_worn_by l old was) v ∙ read_worn part lock m s.fits old was counts k b
