-- Laws of the walk: its steps, gathered one by one, are the steps of the text, and these are its run.
-- Assumes nothing.
use Rattle.std.specs.Prelude.{Ok}
use Prim.Native.Nat.{ℕ, zero, suc, ◌+◌, ◌≤◌, ◌<◌}
use mathlib.Core.Path.{◌≡◌, ◌∙◌, sym, ap, refl}
use mathlib.Core.Bool.{false}
use mathlib.Core.List.{List, [], ◌∷◌, ◌++◌, append-nil}
use native.Mathlib.Numerals.{add-one}
use native.Mathlib.Nat.{not-suc-le-zero, le_of_suc-le-suc}
use native.Mathlib.Omega.{arith}
use lib.ListN.{length, get_or, take, drop, set, drop_of_length-le}
use lib.Seq.{drop-cons}
use borrow.Author.Tests.{le-ltb}
use Rattle.parts.specs.Table.{facts_of, id_size_of}
use Rattle.state.specs.declared.Chip.{Chip}
use Rattle.chip.specs.declared.Stepped.{Stepped}
use Rattle.chip.specs.Memory.{Mem, mem}
use Rattle.chip.specs.Model.{old, ours}
use Rattle.chip.specs.Delivery.{standby_of, delivered_of}
use Rattle.chip.specs.Runs.{levels_of, cycles_of}
use Rattle.chip.specs.Calls.{deliver_verdict_of, deliver_mem, step_of, run_verdict_of}
use Rattle.chip_laws.specs.Runs.{steps_of}
use Rattle.chip_laws.proofs.Range.{standby_in_range}
use Rattle.chip_laws.proofs.Runs.{run_begun, same_steps}
use Rattle.trace.specs.Trace.{answer_text_of, report_text_of, traced_verdict_of, traced_of, laying_of, printing_of}
use Rattle.trace.proofs.Laws.{take_all}
use Rattle.trace.proofs.Runs.{delivered_too}

-- ---- the turns

-- what is gathered before place i, and what the steps from there on give, is the whole
module _ (part en : ℕ) (es : List ℕ) (c₀ : Chip) (m₀ : Mem) where
  pub record Gathered (c : Chip) (m : Mem) (levels : List ℕ) (cycles i : ℕ) : Type 0 where
    pub shown : take i levels ++ (steps_of part en old c m (drop i es)).levels ≡ (steps_of part en old c₀ m₀ es).levels
    pub summed : cycles + (steps_of part en old c m (drop i es)).cycles ≡ (steps_of part en old c₀ m₀ es).cycles

  pub none_yet : (levels : List ℕ) → Gathered c₀ m₀ levels 0 0
  none_yet levels = record { shown = refl; summed = omega arith }

  -- one level more
  one_more : (l : List ℕ) (i x : ℕ) (r : List ℕ) → i < length l → take (suc i) (set l i x) ++ r ≡ take i l ++ (x ∷ r)
  one_more [] i x r h = absurd (not-suc-le-zero h)
  one_more (y ∷ l) zero x r h = refl
  one_more (y ∷ l) (suc i) x r h = ap (λ (t : List ℕ). y ∷ t) (one_more l i x r (le_of_suc-le-suc h))

  next_steps : (c : Chip) (m : Mem) (i : ℕ) → i < length es
      → ((steps_of part en old c m (drop i es)).levels
      ≡ (step_of part en old c m (get_or es i 0)).answer.level ∷ (steps_of part en old (step_of part en old c m (get_or es i 0)).answer.chip (step_of part en old c m (get_or es i 0)).mem (drop (suc i) es)).levels)
      × ((steps_of part en old c m (drop i es)).cycles
      ≡ (step_of part en old c m (get_or es i 0)).answer.cycles + (steps_of part en old (step_of part en old c m (get_or es i 0)).answer.chip (step_of part en old c m (get_or es i 0)).mem (drop (suc i) es)).cycles)
  unfolding steps_of
  next_steps c m i h = (ap (λ (t : List ℕ). (steps_of part en old c m t).levels) (drop-cons es i 0 h), ap (λ (t : List ℕ). (steps_of part en old c m t).cycles) (drop-cons es i 0 h))

  turned : (c : Chip) (m : Mem) (levels : List ℕ) (cycles i : ℕ) → i < length es → i < length levels → Gathered c m levels cycles i
      → Gathered (step_of part en old c m (get_or es i 0)).answer.chip (step_of part en old c m (get_or es i 0)).mem
      (set levels i (step_of part en old c m (get_or es i 0)).answer.level) (cycles + (step_of part en old c m (get_or es i 0)).answer.cycles) (suc i)
  turned c m levels cycles i h k g =
      let n = next_steps c m i h in
      record {
        shown = one_more levels i (step_of part en old c m (get_or es i 0)).answer.level _ k ∙ ap (λ (t : List ℕ). take i levels ++ t) (sym n.0) ∙ g.shown;
        summed = omega (arith, n.1, g.summed);
      }

  -- a turn of the loop
  pub turn_on : (c : Chip) (m : Mem) (levels : List ℕ) (cycles i : ℕ) (s : Stepped) (a d : List ℕ) → i < length es → i < length levels
      → s ≡ (step_of part en old c m (get_or es i 0)).answer → a ≡ (step_of part en old c m (get_or es i 0)).mem.cells → d ≡ (step_of part en old c m (get_or es i 0)).mem.ident
      → Gathered c m levels cycles i → Gathered s.chip (mem a d) (set levels i s.level) (cycles + s.cycles) (i + 1)
  turn_on c m levels cycles i s a d h k p q r g = rw (p, q, r, add-one) (turned c m levels cycles i h k g)

  -- all of them
  pub all_gathered : (c : Chip) (m : Mem) (levels : List ℕ) (cycles i : ℕ) → length es ≤ i → length levels ≤ i → Gathered c m levels cycles i
      → (cycles ≡ (steps_of part en old c₀ m₀ es).cycles) × (levels ≡ (steps_of part en old c₀ m₀ es).levels)
  unfolding steps_of
  all_gathered c m levels cycles i h k g =
      let left = drop_of_length-le es h in
      let end : take i levels ++ [] ≡ (steps_of part en old c₀ m₀ es).levels = ap (λ (t : List ℕ). take i levels ++ (steps_of part en old c m t).levels) (sym left) ∙ g.shown in
      let sum : cycles + 0 ≡ (steps_of part en old c₀ m₀ es).cycles = ap (λ (t : List ℕ). cycles + (steps_of part en old c m t).cycles) (sym left) ∙ g.summed in
      (omega (arith, sum), sym (append-nil levels) ∙ ap (λ (t : List ℕ). t ++ []) (sym (take_all levels i k)) ∙ end)

-- ---- the run

-- the steps of a text that is judged fine, from delivery, are its run
module _ (part en : ℕ) (es s d : List ℕ) (m : Mem) (n k : ℕ) where
  pub steps_run : traced_verdict_of part en es ≡ Ok tt → n ≡ (facts_of part).size → k ≡ id_size_of (facts_of part) → length s ≡ n → length d ≡ k
      → s ≡ (deliver_mem part m (deliver_verdict_of part n k)).cells → d ≡ (deliver_mem part m (deliver_verdict_of part n k)).ident
      → ((steps_of part en old (standby_of (facts_of part) false) (mem s d) es).cycles ≡ cycles_of (ours (facts_of part) en) (standby_of (facts_of part) false) es)
      × ((steps_of part en old (standby_of (facts_of part) false) (mem s d) es).levels ≡ levels_of (ours (facts_of part) en) (standby_of (facts_of part) false) (delivered_of part) es)
  unfolding traced_verdict_of
  steps_run h p q u w x y =
      let c = standby_of (facts_of part) false in
      let there : run_verdict_of part en old c (length s) (length d) es (length es) ≡ (Ok tt) = rw (u ∙ p, w ∙ q) h in
      let first : run_verdict_of part en old c n k es (length es) ≡ (Ok tt) = rw (p, q) h in
      let b = run_begun part en old c (mem s d) es (length es) there in
      let t = (standby_in_range part false (λ e. let z : ◌≡◌ {A = ℕ} 0 1 = cc in absurd (omega arith))).1 in
      let r = same_steps part en old c (mem s d) es b.accepted b.taken t in
      let held : mem s d ≡ deliver_mem part m (deliver_verdict_of part n k) = rw (x, y) in
      let held' : mem s d ≡ delivered_of part = held ∙ rw (delivered_too part en c n k es (length es) first) in
      (r.cycles, r.levels ∙ ap (λ (z : Mem). levels_of (ours (facts_of part) en) c z es) held')

-- ---- the answer

-- what is printed of the levels and the cycles gathered is what is printed of the run
pub printed_run : (out : List ℕ) (part en : ℕ) (es levels : List ℕ) (cycles : ℕ) → length levels ≤ 32768 → traced_verdict_of part en es ≡ Ok tt
    → levels ≡ levels_of (ours (facts_of part) en) (standby_of (facts_of part) false) (delivered_of part) es
    → cycles ≡ cycles_of (ours (facts_of part) en) (standby_of (facts_of part) false) es
    → printing_of out part (Ok tt) levels cycles ≡ laying_of out (traced_of part en es)
unfolding traced_of
printed_run out part en es levels cycles few fine l k =
    let lines : answer_text_of part levels cycles ≡ report_text_of part (traced_verdict_of part en es) (levels_of (ours (facts_of part) en) (standby_of (facts_of part) false) (delivered_of part) es) (cycles_of (ours (facts_of part) en) (standby_of (facts_of part) false) es) =
    rw (l, k, fine) refl in
    rw (le-ltb 32768 (length levels) few) (ap (laying_of out) lines)
