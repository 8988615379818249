-- A run of any driver on any chip: once no end is due and nothing is sent, no turn changes anything, so the run that the call takes is
-- the run up to there.
-- Assumes nothing.
use Rattle.std.specs.Prelude.{Ok}
use Prim.Native.Nat.{ℕ, zero, suc, ◌≤◌, ◌<◌}
use mathlib.Core.Path.{◌≡◌, refl, sym, ◌∙◌, ap}
use mathlib.Core.Bool.{Bool, false, cond, false≢true}
use mathlib.Core.List.{List, ◌++◌}
use lib.ListN.{drop}
use native.Mathlib.Omega.{arith}
use Rattle.parts.specs.declared.Facts.{Facts}
use Rattle.parts.specs.Verdict.{Verdict}
use Rattle.parts.specs.Table.{facts_of}
use Rattle.state.specs.declared.Chip.{Chip}
use Rattle.chip.specs.Memory.{Mem}
use Rattle.chip.specs.Model.{Model}
use Rattle.driver.specs.declared.Request.{Request}
use Rattle.driver.specs.declared.Driver.{Driver}
use Rattle.driver.specs.declared.Answer.{Answer}
use Rattle.driver.specs.declared.Answer.TheVariants.{Send, Done, Refused}
use Rattle.driver.specs.Machine.{Machine}
use Rattle.bench.specs.Together.{System, answered_by, asked_of, cycle_ended_of, end_due_of, turn_of, turns_of, last_of, enough}
use Rattle.bench.specs.Tape.{sends_of}
use Rattle.bench.specs.Calls.{outset_of, final_of, report_by, bench_by, bench_verdict, bench_over}

-- what the driver answers when it is asked next
abbrev pub says : Machine → System → Answer
says D s = (D.next s.driver s.level s.buffer).answer

pub record Rests (D : Machine) (d : ℕ) (s : System) : Type 0 where
  pub due : end_due_of d s ≡ false
  pub sent : sends_of (says D s) ≡ false

still_by : (M : Model) (s : System) (e : Driver) (b : List ℕ) (a : Answer) → sends_of a ≡ false → answered_by M s e b a ≡ s
still_by M s e b (Send x) h = absurd (false≢true (sym h))
still_by M s e b (Done polls bytes) h = refl
still_by M s e b (Refused r polls bytes) h = refl

module _ (D : Machine) (M : Model) (d : ℕ) where
  still : (s : System) → Rests D d s → turn_of D M d s ≡ s
  unfolding turn_of asked_of
  still s h =
      ap (λ (b : Bool). asked_of D M (cond b (cycle_ended_of M s) s)) h.due
      ∙ still_by M s (D.next s.driver s.level s.buffer).driver (D.leaves s.driver s.level s.buffer) (says D s) h.sent

  turns_still : (s : System) → turn_of D M d s ≡ s → (n : ℕ) → turns_of D M d n s ≡ s
  unfolding turns_of
  turns_still s h zero = refl
  turns_still s h (suc n) = ap (turns_of D M d n) h ∙ turns_still s h n

  last_still : (s : System) → turn_of D M d s ≡ s → (n : ℕ) → last_of D M d n (says D s) s ≡ says D s
  unfolding last_of
  last_still s h zero = refl
  last_still s h (suc n) = ap (last_of D M d n (says D s)) h ∙ last_still s h n

  turns_rest : (n k : ℕ) (s : System) → n ≤ k → Rests D d (turns_of D M d n s) → turns_of D M d k s ≡ turns_of D M d n s
  unfolding turns_of
  turns_rest zero k s l h = turns_still s (still s h) k
  turns_rest (suc n) zero s l h = absurd (omega (arith, l))
  turns_rest (suc n) (suc k) s l h = turns_rest n k (turn_of D M d s) (omega (arith, l)) h

  last_rest : (n k : ℕ) (a : Answer) (s : System) → n < k → Rests D d (turns_of D M d n s) → last_of D M d k a s ≡ says D (turns_of D M d n s)
  unfolding turns_of last_of
  last_rest n zero a s l h = absurd (omega (arith, l))
  last_rest zero (suc k) a s l h = ap (last_of D M d k (says D s)) (still s h) ∙ last_still s (still s h) k
  last_rest (suc n) (suc k) a s l h = last_rest n k (says D s) (turn_of D M d s) (omega (arith, l)) h

-- the call: what it answers and leaves, of the system after n turns
module _ (D : Machine) (M : Facts → ℕ → Model) (r : Request) (d : ℕ) (c : Chip) (m : Mem) (ys : List ℕ) (n : ℕ) where
  abbrev pub after : System
  after = turns_of D (M (facts_of r.part) r.enable) d n (outset_of r c m ys)

  module _ (fine : bench_verdict r r.enable d c m ys ≡ Ok tt) (few : n < enough) (h : Rests D d after) where
    final : final_of D (M (facts_of r.part) r.enable) r d c m ys ≡ after
    unfolding final_of
    final = turns_rest D (M (facts_of r.part) r.enable) d n enough (outset_of r c m ys) (omega (arith, few)) h

    pub report_is : (bench_over D M r r.enable d c m ys).report ≡ report_by after (says D after)
    report_is =
        ap (λ (v : Verdict). (bench_by D (M (facts_of r.part) r.enable) r d c m ys v).report) fine
        ∙ (ap (λ (s : System). report_by s (last_of D (M (facts_of r.part) r.enable) d enough (Done 0 0) (outset_of r c m ys))) final
        ∙ ap (report_by after) (last_rest D (M (facts_of r.part) r.enable) d n enough (Done 0 0) (outset_of r c m ys) few h))

    pub memory_is : (bench_over D M r r.enable d c m ys).mem ≡ after.mem
    memory_is = ap (λ (v : Verdict). (bench_by D (M (facts_of r.part) r.enable) r d c m ys v).mem) fine ∙ ap (λ (s : System). s.mem) final

    pub buffer_is : (bench_over D M r r.enable d c m ys).buffer ≡ after.buffer ++ drop r.length ys
    buffer_is =
        ap (λ (v : Verdict). (bench_by D (M (facts_of r.part) r.enable) r d c m ys v).buffer) fine
        ∙ ap (λ (s : System). s.buffer ++ drop r.length ys) final
