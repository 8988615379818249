-- What each event keeps, a run keeps, and a series of calls of `step` and `run`.
-- Assumes nothing.
use Rattle.std.specs.Prelude.{Ok, Err}
use mathlib.Core.Path.{◌≡◌, sym, ap, ◌∙◌, subst}
use Prim.Native.Nat.{ℕ, ◌+◌}
use native.Mathlib.Nat.{add_assoc, add-zero}
use mathlib.Core.List.{List, [], ◌∷◌, ◌++◌, append_assoc, append-nil}
use lib.ListN.{length, take, drop}
use lib.Seq.{take-append_seam}
use Rattle.parts.specs.Verdict.{Verdict}
use Rattle.parts.specs.Table.{facts_of}
use Rattle.chip.proofs.Laws.{levels_length}
use Rattle.state.specs.declared.Chip.{Chip}
use Rattle.chip.specs.Memory.{Mem}
use Rattle.chip.specs.Model.{Model, PowerCut, ours_with}
use Rattle.chip.specs.Runs.{after_of, memory_of, levels_of, cycles_of}
use Rattle.chip_promises.specs.States.{Every}
use Rattle.chip.specs.Calls.{step_left_of, step_verdict, step_of, run_left_of, run_verdict, run_of}
use Rattle.chip_promises.specs.Calls.{Call, one, many, Ending, after_step, after_run, call_by, calls_by, EveryCall}

-- ---- what each event keeps, with the cycles and the history so far

abbrev pub Invariant : Type 1
Invariant = Chip → Mem → ℕ → List ℕ → List ℕ → Type 0

abbrev pub Keeps : Model → (ℕ → Type 0) → Invariant → Type 0
Keeps M Q I =
    (c : Chip) (m : Mem) (n : ℕ) (hs xs : List ℕ) (e : ℕ) → Q e → I c m n hs xs
    → I (M.next c e) (M.store c m e) (n + M.begun c e) (hs ++ (e ∷ [])) (xs ++ (M.level c m e ∷ []))

pub keeps : (M : Model) (Q : ℕ → Type 0) (I : Invariant) → Keeps M Q I
    → (es : List ℕ) (c : Chip) (m : Mem) (n : ℕ) (hs xs : List ℕ) → Every Q es → I c m n hs xs
    → I (after_of M c es) (memory_of M c m es) (n + cycles_of M c es) (hs ++ es) (xs ++ levels_of M c m es)
unfolding after_of memory_of levels_of cycles_of
keeps M Q I step [] c m n hs xs q i = rw (add-zero, append-nil hs, append-nil xs) i
keeps M Q I step (e ∷ es) c m n hs xs q i =
    let c' : Chip = M.next c e in
    let m' : Mem = M.store c m e in
    let x : ℕ = M.level c m e in
    let r : I (after_of M c' es) (memory_of M c' m' es) (n + M.begun c e + cycles_of M c' es) ((hs ++ (e ∷ [])) ++ es) ((xs ++ (x ∷ [])) ++ levels_of M c' m' es) =
    keeps M Q I step es c' m' (n + M.begun c e) (hs ++ (e ∷ [])) (xs ++ (x ∷ [])) q.1 (step c m n hs xs e q.0 i) in
    subst (λ (z : List ℕ). I (after_of M c' es) (memory_of M c' m' es) (n + (M.begun c e + cycles_of M c' es)) (hs ++ (e ∷ es)) z) (append_assoc xs (x ∷ []) (levels_of M c' m' es))
    (subst (λ (z : List ℕ). I (after_of M c' es) (memory_of M c' m' es) (n + (M.begun c e + cycles_of M c' es)) z ((xs ++ (x ∷ [])) ++ levels_of M c' m' es)) (append_assoc hs (e ∷ []) es)
    (subst (λ (z : ℕ). I (after_of M c' es) (memory_of M c' m' es) z ((hs ++ (e ∷ [])) ++ es) ((xs ++ (x ∷ [])) ++ levels_of M c' m' es)) (add_assoc n (M.begun c e) (cycles_of M c' es)) r))

-- ---- calls

abbrev pub Holds : Invariant → Ending → Type 0
Holds I e = I e.chip e.mem e.cycles e.events e.levels

module _ (M : Model) (Q : ℕ → Type 0) (I : Invariant) (step : Keeps M Q I) where
  -- a call of `step`, whatever its verdict
  step_keeps : (code : ℕ) (e : Ending) (v : Verdict) → Q code → Holds I e → Holds I (after_step code (step_left_of M e.chip e.mem code v) e)
  unfolding after_step
  step_keeps code e (Ok _) q i = step e.chip e.mem e.cycles e.events e.levels code q i
  step_keeps code e (Err r) q i = rw add-zero i

  -- and of `run`
  run_keeps : (es a : List ℕ) (e : Ending) (v : Verdict) → Every Q es → Holds I e → Holds I (after_run es (run_left_of M e.chip e.mem es a v) e)
  unfolding after_run
  run_keeps es a e (Ok _) q i =
      let c : Chip = e.chip in
      let m : Mem = e.mem in
      let answered : take (length es) (levels_of M c m es ++ drop (length es) a) ≡ levels_of M c m es =
      ap (λ (n : ℕ). take n (levels_of M c m es ++ drop (length es) a)) (sym (levels_length M c m es)) ∙ take-append_seam (levels_of M c m es) (drop (length es) a) in
      rw answered (keeps M Q I step es c m e.cycles e.events e.levels q i)
  run_keeps es a e (Err r) q i = rw add-zero i

-- a series of calls, each with what it is given for a loss of power
module _ (part en : ℕ) (Q : ℕ → Type 0) (I : Invariant) (step : (w : PowerCut) → Keeps (ours_with w (facts_of part) en) Q I) where
  pub calls_keep : (xs : List Call) (e : Ending) → EveryCall Q xs → Holds I e → Holds I (calls_by step_of run_of part en e xs)
  unfolding calls_by call_by
  calls_keep [] e q i = i
  calls_keep (one w code ∷ xs) e q i =
      calls_keep xs _ q.1 (step_keeps (ours_with w (facts_of part) en) Q I (step w) code e (step_verdict part en w e.chip e.mem code) q.0 i)
  calls_keep (many w es a ∷ xs) e q i =
      calls_keep xs _ q.1 (run_keeps (ours_with w (facts_of part) en) Q I (step w) es a e (run_verdict part en w e.chip e.mem es a) q.0 i)

-- no condition on the events
abbrev pub Any : ℕ → Type 0
Any e = Unit {0}

pub every : (es : List ℕ) → Every Any es
every [] = tt
every (e ∷ es) = (tt, every es)

pub every_call : (xs : List Call) → EveryCall Any xs
every_call [] = tt
every_call (one w code ∷ xs) = (tt, every_call xs)
every_call (many w es a ∷ xs) = (every es, every_call xs)
