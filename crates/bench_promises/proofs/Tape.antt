-- The tape of the run: every call that is not refused is our driver's run, on any chip.
-- Assumes nothing.
use Rattle.std.specs.Prelude.{Ok, Err}
use Prim.Native.Nat.{ℕ, suc, ◌+◌, ◌-◌, ◌*◌, ◌≤◌, ◌<◌}
use mathlib.Core.Path.{◌≡◌, refl, sym, ◌∙◌, ap, subst}
use mathlib.Core.Bool.{Bool, true, false, cond, false≢true}
use mathlib.Core.List.{List, [], ◌∷◌, ◌++◌, append-nil}
use lib.ListN.{length, take, drop, length-take}
use lib.Dec.{eqb, ltb}
use native.Mathlib.Omega.{arith}
use borrow.Author.Tests.{eqb-true, le-ltb}
use Rattle.parts.specs.Verdict.{Verdict}
use Rattle.parts.specs.Table.{facts_of}
use Rattle.parts.specs.Refusals.{is_fine}
use Rattle.state.specs.declared.Chip.{Chip}
use Rattle.chip.specs.Memory.{Mem}
use Rattle.chip.specs.Model.{Model, ours}
use Rattle.driver.specs.declared.Request.{Request}
use Rattle.driver.specs.declared.Answer.{Answer}
use Rattle.driver.specs.declared.Answer.TheVariants.{Send, Done, Refused}
use Rattle.driver.specs.Request.{k_of}
use Rattle.driver.specs.Machine.{our_driver}
use Rattle.driver_promises.specs.Run.{DriverHeld, sent_by, answer_to, Finished, clocks_in, polls_in, address_bytes, bound_of}
use Rattle.driver_promises.specs.Promises.{Accepted, sent, answers, DoneOf}
use Rattle.driver_promises.proofs.Promises.{promises}
use Rattle.bench.specs.declared.Report.{Report}
use Rattle.bench.specs.Together.{System, start_of, turns_of, last_of, enough}
use Rattle.bench.specs.Tape.{tape_events_of, tape_levels_of}
use Rattle.bench.specs.Calls.{final_of, report_by, BenchLeft, bench_by, bench_verdict, bench_of}
use Rattle.bench.proofs.Laws.{granted, run_first, run_length}
use Rattle.bench_promises.specs.Together.{answer_of}
use Rattle.bench_promises.specs.Tape.{without_ends, told_on, Reports, Driven, EndsAt}
use Rattle.bench_promises.proofs.Steps.{drives_of}
use Rattle.bench_promises.proofs.Driven.{walks, turns_ended}
use Rattle.bench_promises.proofs.Placed.{tape_placed}
use Rattle.bench_promises.proofs.Turns.{last_answer, spare_turn}

reports : (y : System) (a : Answer) → Finished a → Reports a (report_by y a)
reports y (Send e) f = absurd f
reports y (Done q n) f = (refl, refl, refl)
reports y (Refused x q n) f = (refl, refl, refl)

nothing : (a : Answer) (es : List ℕ) → Finished a → es ++ sent_by a ≡ es
nothing (Send e) es f = absurd f
nothing (Done q n) es f = append-nil es
nothing (Refused x q n) es f = append-nil es

-- n turns, a name so that nobody counts them; the driver has finished before the last
module _ (r : Request) (xs : List ℕ) (a : Accepted r xs) (M : Model) (d n : ℕ) (c : Chip) (m : Mem) (spare : bound_of r + 1 < n) where
  abbrev Y : System
  Y = turns_of our_driver M d n (start_of r xs c m)

  pub last : last_of our_driver M d n (Done 0 0) (start_of r xs c m) ≡ answer_of Y
  last =
      let e : suc (n - 1) ≡ n = omega (arith, spare) in
      let f = (turns_ended r xs a M d (n - 1) c m (omega (arith, spare))).finished in
      ap (λ (i : ℕ). last_of our_driver M d i (Done 0 0) (start_of r xs c m)) (sym e)
      ∙ (last_answer M d (n - 1) (Done 0 0) (start_of r xs c m) f ∙ ap (λ (i : ℕ). answer_of (turns_of our_driver M d i (start_of r xs c m))) e)

module _ (r : Request) (ys : List ℕ) (a : Accepted r (take r.length ys)) (M : Model) (d n : ℕ) (c : Chip) (m : Mem) (spare : bound_of r + 1 < n) where
  abbrev first : System
  first = start_of r (take r.length ys) c m

  abbrev Z : System
  Z = turns_of our_driver M d n first

  its_own : Driven r ys (report_by Z (last_of our_driver M d n (Done 0 0) first)) (Z.buffer ++ drop r.length ys) (tape_events_of our_driver M d n first) (tape_levels_of our_driver M d n first)
  its_own =
      let xs = take r.length ys in
      let w = walks r M d n first (drives_of r xs a first [] refl) in
      let e = turns_ended r xs a M d n c m (omega (arith, spare)) in
      let h = w.after ∙ e.stays in
      record {
        events = sym (w.events ∙ nothing (answer_of Z) _ e.finished);
        answer = λ l. subst (λ (k : Answer). Reports k (report_by Z (last_of our_driver M d n (Done 0 0) first))) (sym (ap (λ (k : DriverHeld). answer_to our_driver k l) h ∙ e.same l))
            (subst (λ (k : Answer). Reports (answer_of Z) (report_by Z k)) (sym (last r xs a M d n c m spare)) (reports Z (answer_of Z) e.finished));
        buffer = ap (λ (k : DriverHeld). k.buffer ++ drop r.length ys) (sym h);
      }

module _ (r : Request) (en d : ℕ) (c : Chip) (m : Mem) (ys : List ℕ) (fine : bench_verdict r en d c m ys ≡ Ok tt) where
  abbrev M₀ : Model
  M₀ = ours (facts_of r.part) en

  pub accepted : Accepted r (take r.length ys)
  accepted =
      let n = length m.cells in
      let i = length m.ident in
      record { fine = (granted r en d c n i (length ys) fine).asked; size = omega (arith, length-take r.length ys, run_length r en d c n i (length ys) fine) }

  abbrev DrivenBy : BenchLeft → Type 0
  DrivenBy x = Driven r ys x.report x.buffer x.events x.levels

  by_turns : (n : ℕ) → n ≡ enough → DrivenBy (bench_by our_driver M₀ r d c m ys (Ok tt))
  unfolding final_of
  by_turns n e =
      let s = start_of r (take r.length ys) c m in
      let spare : bound_of r + 1 < n = subst (λ (i : ℕ). bound_of r + 1 < i) (sym e) (spare_turn r (take r.length ys) accepted) in
      subst (λ (i : ℕ). Driven r ys (report_by (turns_of our_driver M₀ d i s) (last_of our_driver M₀ d i (Done 0 0) s)) ((turns_of our_driver M₀ d i s).buffer ++ drop r.length ys) (tape_events_of our_driver M₀ d i s) (tape_levels_of our_driver M₀ d i s)) e
      (its_own r ys accepted M₀ d n c m spare)

  pub driven : DrivenBy (bench_of r en d c m ys)
  driven = subst (λ (v : Verdict). DrivenBy (bench_by our_driver M₀ r d c m ys v)) (sym fine) (by_turns enough refl)

-- ---- the clocks of a run that is done

without_clocks : (es : List ℕ) → clocks_in (without_ends es) ≡ clocks_in es
without_clocks [] = refl
without_clocks (e ∷ es) = go (eqb e 4) refl (without_clocks es)
  where
    go : (b : Bool) → eqb e 4 ≡ b → clocks_in (without_ends es) ≡ clocks_in es → clocks_in (cond b (without_ends es) (e ∷ without_ends es)) ≡ cond (ltb e 2) 1 0 + clocks_in es
    go true z k = let f = eqb-true e 4 z in omega (arith, ap {B = ℕ} (λ (t : Bool). cond t 1 0) (le-ltb e 2 (omega arith)))
    go false z k = omega arith

-- the answer was done, and the clocks on the tape are those of the events sent
done_as : (r : Request) (ys : List ℕ) (p : Report) (left es ls : List ℕ) → Accepted r (take r.length ys) → Driven r ys p left es ls → p.verdict ≡ Ok tt
    → DoneOf our_driver r (take r.length ys) (told_on es ls) 0 r.reads p.polls × (clocks_in es ≡ clocks_in (sent our_driver r (take r.length ys) (told_on es ls) 0))
done_as r ys p left es ls a v f = (go (answers our_driver r (take r.length ys) (told_on es ls) 0) refl (v.answer 0), sym (without_clocks es) ∙ ap clocks_in v.events)
  where
    go : (k : Answer) → answers our_driver r (take r.length ys) (told_on es ls) 0 ≡ k → Reports k p → DoneOf our_driver r (take r.length ys) (told_on es ls) 0 r.reads p.polls
    go (Send e) z k = absurd k
    go (Done q n) z k = subst (DoneOf our_driver r (take r.length ys) (told_on es ls) 0 r.reads) (sym k.1) (promises.done_all r (take r.length ys) a (told_on es ls) 0 q n z).plan
    go (Refused x q n) z k = absurd (false≢true (ap is_fine (sym k.0 ∙ f)))

module _ (r : Request) (ys : List ℕ) (p : Report) (left es ls : List ℕ) (a : Accepted r (take r.length ys)) (v : Driven r ys p left es ls) (f : p.verdict ≡ Ok tt) where
  pub done_clocks : r.reads ≡ false → clocks_in es ≡ 9 * (k_of r * (1 + address_bytes r) + r.length + p.polls)
  done_clocks w =
      let t = done_as r ys p left es ls a v f in
      t.1 ∙ (subst (λ (b : Bool). DoneOf our_driver r (take r.length ys) (told_on es ls) 0 b p.polls) w t.0).clocks

  pub read_clocks : r.reads ≡ true → 1 ≤ r.length → clocks_in es ≡ 9 * (2 + address_bytes r + r.length)
  read_clocks w h =
      let t = done_as r ys p left es ls a v f in
      t.1 ∙ (subst (λ (b : Bool). DoneOf our_driver r (take r.length ys) (told_on es ls) 0 b p.polls) w t.0).clocks h

-- the polls that are reported are the polls on the tape
pub polls_told : (r : Request) (ys : List ℕ) (p : Report) (left es ls : List ℕ) → Accepted r (take r.length ys) → Driven r ys p left es ls → p.polls ≡ polls_in false (without_ends es)
polls_told r ys p left es ls a v = go (answers our_driver r (take r.length ys) (told_on es ls) 0) refl (v.answer 0) ∙ ap (polls_in false) (sym v.events)
  where
    go : (k : Answer) → answers our_driver r (take r.length ys) (told_on es ls) 0 ≡ k → Reports k p → p.polls ≡ polls_in false (sent our_driver r (take r.length ys) (told_on es ls) 0)
    go (Send e) z k = absurd k
    go (Done q n) z k = k.1 ∙ (promises.polls_sent r (take r.length ys) a (told_on es ls) 0).done q n z
    go (Refused x q n) z k = k.1 ∙ (promises.polls_sent r (take r.length ys) a (told_on es ls) 0).refused x q n z

-- ---- the ends stand before poll number d
module _ (r : Request) (en d : ℕ) (c : Chip) (m : Mem) (ys : List ℕ) where
  pub ends_at : EndsAt d (bench_of r en d c m ys).events
  ends_at = go (bench_verdict r en d c m ys) refl
    where
      go : (v : Verdict) → bench_verdict r en d c m ys ≡ v → EndsAt d (bench_by our_driver (ours (facts_of r.part) en) r d c m ys v).events
      go (Ok _) f =
          let x = start_of r (take r.length ys) c m in
          let a = accepted r en d c m ys f in
          let o = run_first r en d c (length m.cells) (length m.ident) (length ys) f in
          tape_placed r d o (ours (facts_of r.part) en) enough x (drives_of r (take r.length ys) a x [] refl) false 0 (λ _. (refl, refl))
      go (Err z) f = refl
