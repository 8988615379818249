-- The promises of saving and loading are kept.
-- Assumes nothing.
use Rattle.std.specs.Prelude.{Ok, Err}
use Prim.Native.Nat.{ℕ, ◌≤◌}
use mathlib.Core.Path.{◌≡◌, ◌∙◌, sym, ap, refl}
use mathlib.Core.Bool.{Bool, true, false, not, cond}
use mathlib.Core.List.{List}
use native.Mathlib.Omega.{arith}
use lib.ListN.{length, drop}
use lib.Seq.{take_at, take_all}
use lib.Dec.{ltb}
use borrow.Author.Tests.{le-ltb, eq-eqb}
use Rattle.parts.specs.declared.Refusal.TheVariants.{NoPart, WrongEnable, BadImage}
use Rattle.parts.specs.Verdict.{Verdict}
use Rattle.parts.specs.Table.{facts_of, groups_of, enable_right_of}
use Rattle.parts.specs.Refusals.{rank_of, claim_of, sooner_of, lent_verdict_of}
use Rattle.parts.proofs.Laws.{sound, passed, buffers_right_lem}
use Rattle.parts.proofs.Claims.{right_fine, sooner_fine, lent_fine, fine_lent, later_claim, later_sooner, given_first, lent_unknown}
use Rattle.chip.specs.Memory.{Mem}
use Rattle.chip.specs.Delivery.{standby_of}
use Rattle.chip.proofs.Laws.{buffers_are}
use Rattle.image.specs.Layout.{image_length_of, part_in, stored_in, formed_of}
use Rattle.image.specs.Calls.{judged_of, load_verdict_of, load_by, load_mem, loading}
use Rattle.image.specs.Promises.{BuffersFit}
use Rattle.image.proofs.Laws.{load_fine}
use Rattle.image.proofs.Form.{standby_in_range, range_lockable}
use Rattle.image.proofs.Kept.{load_verdict}
use Rattle.wear.specs.Calls.{counts_verdict_of, counts_by}
use Rattle.wear.proofs.Laws.{counts_fine}
use Rattle.image_worn.specs.Layout.{worn_image_of, worn_length_of, plain_in, version_in}
use Rattle.image_worn.specs.Calls.{AfterLoadWorn, saving_worn, either_formed_of, judged_worn_of, load_worn_verdict_of, load_worn_by, loading_worn}
use Rattle.image_worn.proofs.Laws.{plain_counts}
use Rattle.image_promises.specs.Form.{made_by, CountsFit, zeros, Sane, WornForm}
use Rattle.image_promises.specs.Layout.{wrote}
use Rattle.image_promises.specs.Promises.{GivesBackWorn, SavesSameWorn, PlainLoadsZero, OldReaderRefuses, AcceptsOnlyWorn}
use Rattle.image_promises.specs.Numbers.{Savable}
use Rattle.image_promises.proofs.Form.{in_table, other_version}
use Rattle.image_promises.proofs.Image.{length_of_worn}
use Rattle.image_promises.proofs.Verdicts.{lent_1}
use Rattle.image_promises.proofs.Either.{worn_known, worn_long, worn_other, worn_part, either_form}
use Rattle.image_promises.proofs.Numbers.{save_worn_numbers}
use Rattle.image_promises.proofs.Written.{layout_written, holding, read_worn, layout_read}

-- ---- saved and loaded

-- what is written stands before all else
pub made : (bytes : List ℕ) (n : ℕ) (out : List ℕ) → length bytes ≡ n → made_by (wrote bytes n out) ≡ bytes
made bytes n out e = take_at bytes (drop n out) n e

pub gives_back_worn : GivesBackWorn saving_worn loading_worn
gives_back_worn part enable c m old counts was out known e r t o k b w room =
    let s : Savable part c m counts = record { known = in_table part known; fits = (t, k); ranged = r } in
    let v = (save_worn_numbers part c m counts out).none s room in
    let lock : Bool = c.line.core.locked in
    let image : made_by (saving_worn part c m counts out) ≡ worn_image_of part lock m counts =
    ap made_by (layout_written part c m counts out v) ∙ made (worn_image_of part lock m counts) (worn_length_of (facts_of part)) out (length_of_worn part lock m counts t k) in
    let sane : Sane part lock m = record { known = known; fits = t; lockable = range_lockable (facts_of part) c r } in
    (v, ap (λ (l : List ℕ). loading_worn l enable old was) image ∙ layout_read part enable lock m old counts was sane k b e o w)

-- what was loaded, saved
again : (part : ℕ) (lock : Bool) (m : Mem) (counts out : List ℕ) → Sane part lock m → CountsFit part counts → worn_length_of (facts_of part) ≤ length out
    → saving_worn part (standby_of (facts_of part) lock) m counts out ≡ wrote (worn_image_of part lock m counts) (worn_length_of (facts_of part)) out
unfolding standby_of
again part lock m counts out s k room =
    let r = standby_in_range (facts_of part) lock (sound part) s.lockable in
    let a : Savable part (standby_of (facts_of part) lock) m counts = record { known = in_table part s.known; fits = (s.fits, k); ranged = r } in
    layout_written part (standby_of (facts_of part) lock) m counts out ((save_worn_numbers part (standby_of (facts_of part) lock) m counts out).none a room)

pub saves_same_worn : SavesSameWorn saving_worn loading_worn
saves_same_worn l enable old was out f h room =
    let j : load_worn_verdict_of l enable (length old.cells) (length old.ident) (length was) ≡ (Ok tt) = sym (load_verdict l _) ∙ h in
    let read : loading_worn l enable old was ≡ holding f.part f.lock f.stored f.counts =
    ap (load_worn_by l old was) j ∙ ap (λ (x : List ℕ). load_worn_by x old was (Ok tt)) f.bytes
    ∙ read_worn f.part f.lock f.stored f.sane.fits old was f.counts f.counted f.below in
    let long : length l ≡ worn_length_of (facts_of f.part) = worn_long l f ∙ ap (λ (p : ℕ). worn_length_of (facts_of p)) (worn_part l f) in
    ap (λ (r : AfterLoadWorn). saving_worn r.answer.part r.answer.chip r.stored r.counts out) read
    ∙ again f.part f.lock f.stored f.counts out f.sane f.counted (omega (arith, long, room))
    ∙ (λ i. wrote (sym f.bytes i) (sym long i) out)

-- ---- which images are taken

-- what a load that is not refused had
pub record Took (l : List ℕ) (enable : ℕ) (m : Mem) (counts : List ℕ) : Type 0 where
  pub known : (facts_of (part_in l)).known ≡ true
  pub enabled : enable_right_of (facts_of (part_in l)) enable ≡ true
  pub fits : BuffersFit (part_in l) m
  pub counted : CountsFit (part_in l) counts
  pub formed : either_formed_of (part_in l) l ≡ true

pub took : (l : List ℕ) (enable : ℕ) (m : Mem) (counts : List ℕ) → (loading_worn l enable m counts).answer.verdict ≡ Ok tt → Took l enable m counts
unfolding load_worn_verdict_of judged_worn_of
took l enable m counts h =
    let v = (passed (ltb (length l) 6) _ _ (sym (load_verdict l _) ∙ h)).1 in
    let a = sooner_fine (counts_verdict_of (facts_of (part_in l)) (length counts)) _ v in
    let c = sooner_fine (lent_verdict_of (facts_of (part_in l)) (length m.cells) (length m.ident)) _ a.1 in
    let d = sooner_fine (claim_of (not (enable_right_of (facts_of (part_in l)) enable)) WrongEnable) (claim_of (not (either_formed_of (part_in l) l)) BadImage) c.1 in
    let t = lent_fine (facts_of (part_in l)) (length m.cells) (length m.ident) c.0 in
    let b = buffers_are (facts_of (part_in l)) (length m.cells) (length m.ident) t.1 in
    record {
      known = t.0;
      enabled = right_fine (enable_right_of (facts_of (part_in l)) enable) WrongEnable d.0;
      fits = record { cells = b.0; ident = b.1 };
      counted = counts_fine (facts_of (part_in l)) (length counts) a.0;
      formed = right_fine (either_formed_of (part_in l) l) BadImage d.1;
    }

pub accepts_only_worn : AcceptsOnlyWorn loading_worn
accepts_only_worn l enable m counts b h = let t = took l enable m counts h in either_form l b t.known t.formed

-- the reader of version 1 finds all right but the form
old_verdict : (l : List ℕ) (enable : ℕ) (m : Mem) → WornForm l → enable_right_of (facts_of (part_in l)) enable ≡ true → BuffersFit (part_in l) m
    → load_verdict_of l enable (length m.cells) (length m.ident) ≡ Err BadImage
unfolding load_verdict_of judged_of sooner_of image_length_of worn_length_of
old_verdict l enable m f e o =
    let f' = facts_of (part_in l) in
    let long : 6 ≤ length l = omega (arith, worn_long l f) in
    rw (le-ltb (length l) 6 long, fine_lent f' (length m.cells) (length m.ident) (worn_known l f) (buffers_right_lem f' (length m.cells) (length m.ident) o.cells o.ident), e, worn_other l f) refl

pub old_reader_refuses : OldReaderRefuses loading
old_reader_refuses l enable m f e o =
    let v = old_verdict l enable m f e o in
    (ap (λ (v : Verdict). (load_by l v).verdict) v, ap (load_mem l m) v)

-- ---- an image of version 1 is loaded as by the reader of version 1

module _ (l : List ℕ) (enable n d k : ℕ) (other : version_in l ≡ 0x02 → ⊥) (fits : k ≡ groups_of (facts_of (part_in l))) where
  one_form : either_formed_of (part_in l) l ≡ formed_of (facts_of (part_in l)) l
  unfolding either_formed_of
  one_form = rw (other_version 0x02 (worn_length_of (facts_of (part_in l))) (facts_of (part_in l)) l other) (same (formed_of (facts_of (part_in l)) l))
    where
      same : (b : Bool) → cond b true false ≡ b
      same true = refl
      same false = refl

  abbrev rest : Verdict
  rest = sooner_of (claim_of (not (enable_right_of (facts_of (part_in l)) enable)) WrongEnable) (claim_of (not (formed_of (facts_of (part_in l)) l)) BadImage)

  -- the counts are right, or there is no such part
  unheard : sooner_of (counts_verdict_of (facts_of (part_in l)) k) (sooner_of (lent_verdict_of (facts_of (part_in l)) n d) rest) ≡ sooner_of (lent_verdict_of (facts_of (part_in l)) n d) rest
  unfolding counts_verdict_of sooner_of
  unheard = go (facts_of (part_in l)).known refl
    where
      go : (b : Bool) → (facts_of (part_in l)).known ≡ b → sooner_of (counts_verdict_of (facts_of (part_in l)) k) (sooner_of (lent_verdict_of (facts_of (part_in l)) n d) rest) ≡ sooner_of (lent_verdict_of (facts_of (part_in l)) n d) rest
      go true e =
          let right : counts_verdict_of (facts_of (part_in l)) k ≡ (Ok tt) = rw (eq-eqb k (groups_of (facts_of (part_in l))) fits, e) refl in
          ap (λ (v : Verdict). sooner_of v (sooner_of (lent_verdict_of (facts_of (part_in l)) n d) rest)) right
      go false e =
          let later = later_sooner (rank_of NoPart) (claim_of (not (enable_right_of (facts_of (part_in l)) enable)) WrongEnable) (claim_of (not (formed_of (facts_of (part_in l)) l)) BadImage) (later_claim _ (not (enable_right_of (facts_of (part_in l)) enable)) WrongEnable (omega arith)) (later_claim _ (not (formed_of (facts_of (part_in l)) l)) BadImage (omega arith)) in
          lent_1 (facts_of (part_in l)) n d k rest e later
          ∙ sym (ap (λ (v : Verdict). sooner_of v rest) (lent_unknown (facts_of (part_in l)) n d e) ∙ given_first NoPart rest later)

  one_verdict : load_worn_verdict_of l enable n d k ≡ load_verdict_of l enable n d
  unfolding load_worn_verdict_of judged_worn_of load_verdict_of judged_of
  one_verdict = ap (cond (ltb (length l) 6) (Err BadImage)) (rw one_form unheard)

pub plain_loads_zero : PlainLoadsZero loading_worn loading
plain_loads_zero l enable m counts other fits =
    let v = load_verdict_of l enable (length m.cells) (length m.ident) in
    ap (load_worn_by l m counts) (one_verdict l enable (length m.cells) (length m.ident) (length counts) other fits) ∙ go v refl
  where
    zeroed : Verdict → AfterLoadWorn
    zeroed v = record { answer = load_by l v; stored = load_mem l m v; counts = counts_by (zeros (part_in l)) counts (load_by l v).verdict }

    go : (v : Verdict) → load_verdict_of l enable (length m.cells) (length m.ident) ≡ v → load_worn_by l m counts v ≡ zeroed v
    go (Ok _) e =
        let long = (load_fine l enable (length m.cells) (length m.ident) e).long in
        let all : plain_in (facts_of (part_in l)) l ≡ l = take_all (image_length_of (facts_of (part_in l))) l (omega (arith, long)) in
        λ i. record { answer = load_by l (Ok tt); stored = stored_in (facts_of (part_in l)) (all i); counts = sym (plain_counts (facts_of (part_in l)) l (groups_of (facts_of (part_in l))) other refl) i }
    go (Err r) e = refl
