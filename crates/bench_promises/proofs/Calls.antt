-- The run of driver and model keeps its promises.
-- Assumes nothing.
use Rattle.std.specs.Prelude.{Ok}
use Prim.Native.Nat.{ℕ, suc, ◌+◌, ◌-◌, ◌*◌, ◌≤◌, ◌<◌}
use mathlib.Core.Path.{◌≡◌, refl, sym, ◌∙◌, ap, subst}
use mathlib.Core.Bool.{Bool, true, false, cond, not, false≢true}
use mathlib.Core.Logic.{◌⊎◌, inl, inr, ⊎_elim}
use mathlib.Core.List.{List, ◌++◌}
use lib.ListN.{length, get_or, take, drop, length-take, length-drop, take-append-drop, get_or-eq_default}
use lib.Seq.{take_all, get_or-take, get_or-drop, ext_get_or}
use native.Mathlib.Omega.{arith}
use borrow.Author.Tests.{le-ltb, eqb-true, not-false}
use Rattle.parts.specs.declared.Refusal.TheVariants.{NoPart, WrongEnable, Beyond, NoData, PollsUsed}
use Rattle.parts.specs.Verdict.{Verdict}
use Rattle.parts.specs.Table.{facts_of, id_size_of, enable_right_of, buffers_right_of}
use Rattle.parts.specs.Refusals.{is_fine, claim_of, sooner_of}
use Rattle.parts.proofs.Claims.{sooner_fine}
use Rattle.parts.specs.Bytes.{AllBelow}
use Rattle.parts.proofs.Bytes.{below_at, below_all}
use Rattle.line.specs.declared.Target.{Target}
use Rattle.line.specs.declared.Target.TheVariants.{Array as TheArray, Ident as TheIdent}
use Rattle.line.specs.declared.Phase.TheVariants.{Idle}
use Rattle.state.specs.declared.Chip.{Chip}
use Rattle.state.specs.Range.{in_range_of}
use Rattle.chip.specs.Memory.{Mem, cells_of}
use Rattle.chip.proofs.Laws.{buffers_are}
use Rattle.chip_laws.specs.Range.{Typed}
use Rattle.driver.specs.declared.Request.{Request}
use Rattle.driver.specs.declared.Answer.{Answer}
use Rattle.driver.specs.declared.Answer.TheVariants.{Send, Done, Refused}
use Rattle.driver.specs.Request.{from_of, room_of, there_of, beyond_at, limit_of, judge_of, allowed_of, k_of}
use Rattle.driver.specs.Machine.{our_driver}
use Rattle.driver_promises.specs.Run.{Finished, address_bytes, bound_of}
use Rattle.bench.specs.declared.Report.{Report}
use Rattle.bench.specs.Together.{System, start_of, together_of, turns_of, last_of, enough}
use Rattle.bench.specs.Tape.{tape_events_of}
use Rattle.bench.specs.Calls.{other_length_of, short_of, late_of, final_of, report_by, BenchLeft, bench_by, bench_verdict, bench_of}
use Rattle.bench.proofs.Laws.{Granted, granted, granted_fine, run_first, run_length}
use Rattle.bench_promises.specs.Ground.{target_of}
use Rattle.bench_promises.specs.Together.{Begins, answer_of, reported_of, other_of, Safe, ReadRight}
use Rattle.bench_promises.specs.Ends.{Writable, Shut, Complete}
use Rattle.bench_promises.specs.Calls.{BenchCall, our_bench, Called, read_of, read_back_lem, RoomBack, Written, ReadThere, Ended, UsedUp, Protected, RefusesKept, BenchPromises}
use Rattle.bench_promises.specs.Tape.{polls_of_pages, CycleEach}
use Rattle.driver_promises.proofs.Numbers.{less_or_more}
use Rattle.bench_promises.proofs.Stored.{room_is, all_done, write_safe, read_right, read_ends, finished}
use Rattle.bench_promises.proofs.Rel.{Buffer}
use Rattle.bench_promises.proofs.Whole.{G, sane, start_holds, holds}
use Rattle.bench_promises.proofs.Turns.{choices, choices_asked, choices_same, turns_end, last_answer, spare_turn}
use Rattle.bench_promises.proofs.Late.{turns_refused}
use Rattle.bench_promises.proofs.Exact.{polls_exact}
use Rattle.bench_promises.proofs.Pages.{pages_exact}
use Rattle.bench_promises.proofs.Each.{Each, each_cycle, tape_each}
use Rattle.bench_promises.proofs.Live.{not_refusing}
use Rattle.bench_promises.proofs.Shut.{shut_refused}
use Rattle.bench_promises.proofs.Range.{stays_in_range}
use Rattle.bench_promises.proofs.Replay.{replayed}
use Rattle.bench_promises.proofs.Tape.{driven, done_clocks, read_clocks, ends_at}
use Rattle.chip.specs.Model.{ours}

-- the call of a row, on a chip at the request's enable
abbrev call_of : Request → ℕ → Chip → Mem → List ℕ → BenchCall
call_of r d c m ys = record { request = r; own = r.enable; d = d; chip = c; mem = m; buffer = ys }

-- ---- a call that is not refused
either : (t u : Target) → (u ≡ t) ⊎ (u ≡ other_of t)
either TheArray TheArray = inl refl
either TheArray TheIdent = inr refl
either TheIdent TheArray = inr refl
either TheIdent TheIdent = inl refl

module _ (r : Request) (d : ℕ) (c : Chip) (m : Mem) (ys : List ℕ) (k : Called (call_of r d c m ys)) where
  abbrev xs : List ℕ
  xs = take r.length ys

  none : Granted r r.enable d c (length m.cells) (length m.ident) (length ys)
  none = granted r r.enable d c (length m.cells) (length m.ident) (length ys) k.fine

  low_d : 1 ≤ d
  low_d = run_first r r.enable d c (length m.cells) (length m.ident) (length ys) k.fine

  sizes : (length m.cells ≡ (facts_of r.part).size) × (length m.ident ≡ id_size_of (facts_of r.part))
  sizes = buffers_are (facts_of r.part) (length m.cells) (length m.ident) none.held.lent

  -- the buffer is long enough, and a write's is as long as asked
  write_long : r.reads ≡ false → length ys ≡ r.length
  unfolding other_length_of
  write_long w = go r.reads none.fit w
    where
      go : (b : Bool) → other_length_of b r.length (length ys) ≡ false → b ≡ false → length ys ≡ r.length
      go true e f = absurd (false≢true (sym f))
      go false e f = eqb-true _ _ (not-false _ e)

  long : r.length ≤ length ys
  long = run_length r r.enable d c (length m.cells) (length m.ident) (length ys) k.fine

  xs_long : length xs ≡ r.length
  xs_long = omega (arith, length-take r.length ys, long)

  xs_bytes : AllBelow 256 xs
  xs_bytes =
      below_all xs λ i.
      ⊎_elim (λ h. subst (λ (x : ℕ). x < 256) (sym (get_or-take r.length ys i 0 h)) (below_at ys k.lent i))
      (λ h. subst (λ (x : ℕ). x < 256) (sym (get_or-eq_default xs 0 {n = i} (omega (arith, xs_long)))) (omega arith)) (less_or_more i r.length)

  begins : Begins r xs c m
  begins =
      record {
        accepted = record { fine = none.asked; size = xs_long };
        bytes = xs_bytes;
        idle = record { idle = k.idle; cells = sizes.0; ident = sizes.1; bytes = k.stored };
      }

-- ---- the final system is a run of choices; n: its turns, a name so that nobody counts them
module _ (n : ℕ) (turns : n ≡ enough) (r : Request) (d : ℕ) (c : Chip) (m : Mem) (ys : List ℕ) (k : Called (call_of r d c m ys)) where
  abbrev ws : List ℕ
  ws = take r.length ys

  abbrev bs : List Bool
  bs = choices (facts_of r.part) r.enable d n (start_of r ws c m)

  abbrev Y : System
  Y = together_of our_driver (ours (facts_of r.part) r.enable) bs (start_of r ws c m)

  final : final_of our_driver (ours (facts_of r.part) r.enable) r d c m ys ≡ Y
  unfolding final_of
  final = ap (λ (i : ℕ). turns_of our_driver (ours (facts_of r.part) r.enable) d i (start_of r ws c m)) (sym turns) ∙ choices_same (facts_of r.part) r.enable d n (start_of r ws c m)

  spare : bound_of r + 1 < n
  spare = subst (λ (i : ℕ). bound_of r + 1 < i) (sym turns) (spare_turn r ws (begins r d c m ys k).accepted)

  over_bound : bound_of r < n
  over_bound = omega (arith, spare)

  -- of the turns but the last: the driver has finished
  early : Finished (answer_of (turns_of our_driver (ours (facts_of r.part) r.enable) d (n - 1) (start_of r ws c m)))
  early =
      let bs' = choices (facts_of r.part) r.enable d (n - 1) (start_of r ws c m) in
      subst (λ (y : System). Finished (answer_of y)) (sym (choices_same (facts_of r.part) r.enable d (n - 1) (start_of r ws c m)))
      (finished r ws c m (begins r d c m ys k) bs' (omega (arith, spare, choices_asked (facts_of r.part) r.enable d (n - 1) (start_of r ws c m))))

  last : last_of our_driver (ours (facts_of r.part) r.enable) d enough (Done 0 0) (start_of r ws c m) ≡ answer_of Y
  last =
      let e : suc (n - 1) ≡ n = omega (arith, spare) in
      ap (λ (i : ℕ). last_of our_driver (ours (facts_of r.part) r.enable) d i (Done 0 0) (start_of r ws c m)) (sym (e ∙ turns))
      ∙ (last_answer (ours (facts_of r.part) r.enable) d (n - 1) (Done 0 0) (start_of r ws c m) early
      ∙ (ap (λ (i : ℕ). answer_of (turns_of our_driver (ours (facts_of r.part) r.enable) d i (start_of r ws c m))) e
      ∙ ap answer_of (choices_same (facts_of r.part) r.enable d n (start_of r ws c m))))

  report_is : (bench_of r r.enable d c m ys).report ≡ report_by Y (answer_of Y)
  report_is =
      ap (λ (v : Verdict). (bench_by our_driver (ours (facts_of r.part) r.enable) r d c m ys v).report) k.fine
      ∙ (ap (λ (y : System). report_by y (last_of our_driver (ours (facts_of r.part) r.enable) d enough (Done 0 0) (start_of r ws c m))) final ∙ ap (report_by Y) last)

  memory_is : (bench_of r r.enable d c m ys).mem ≡ Y.mem
  memory_is = ap (λ (v : Verdict). (bench_by our_driver (ours (facts_of r.part) r.enable) r d c m ys v).mem) k.fine ∙ ap (λ (y : System). y.mem) final

  buffer_is : (bench_of r r.enable d c m ys).buffer ≡ Y.buffer ++ drop r.length ys
  buffer_is = ap (λ (v : Verdict). (bench_by our_driver (ours (facts_of r.part) r.enable) r d c m ys v).buffer) k.fine ∙ ap (λ (y : System). y.buffer ++ drop r.length ys) final

  bytes_reported : (a : Answer) → (report_by Y a).bytes ≡ reported_of a
  bytes_reported (Send e) = refl
  bytes_reported (Done q n) = refl
  bytes_reported (Refused f q n) = refl

  lock_of : (a : Answer) → (report_by Y a).chip.line.core.locked ≡ Y.chip.line.core.locked
  lock_of (Send e) = refl
  lock_of (Done q n) = refl
  lock_of (Refused f q n) = refl

  cycles_of_lem : (a : Answer) → (report_by Y a).cycles ≡ Y.cycles
  cycles_of_lem (Send e) = refl
  cycles_of_lem (Done q n) = refl
  cycles_of_lem (Refused f q n) = refl

  ended : Finished (answer_of Y)
  ended = finished r ws c m (begins r d c m ys k) bs (omega (arith, over_bound, choices_asked (facts_of r.part) r.enable d n (start_of r ws c m)))

  chip_of : (a : Answer) → (report_by Y a).chip ≡ Y.chip
  chip_of (Send e) = refl
  chip_of (Done q n) = refl
  chip_of (Refused f q n) = refl

  in_range : Typed c → in_range_of (facts_of r.part) (bench_of r r.enable d c m ys).report.chip ≡ true
  in_range t =
      ap (λ (y : Report). in_range_of (facts_of r.part) y.chip) report_is
      ∙ (ap (in_range_of (facts_of r.part)) (chip_of (answer_of Y)) ∙ (stays_in_range r ws c m bs (begins r d c m ys k) t (none r d c m ys k).held.ranged).0)

  written : r.reads ≡ false → Written our_bench (call_of r d c m ys)
  written w =
      let z = write_safe r ws c m (begins r d c m ys k) bs w in
      let t = target_of r.place in
      let x = from_of r.place in
      let e = write_long r d c m ys k w in
      let same : ws ≡ ys = take_all r.length ys (omega arith) in
      let cell : (i : ℕ) → get_or (cells_of t (bench_of r r.enable d c m ys).mem) i 0 ≡ get_or (cells_of t Y.mem) i 0 = λ i. ap (λ (y : Mem). get_or (cells_of t y) i 0) memory_is in
      let asks : (i : ℕ) → get_or ws i 0 ≡ get_or ys i 0 = λ i. ap (λ (l : List ℕ). get_or l i 0) same in
      let b : (bench_of r r.enable d c m ys).report.bytes ≡ reported_of (answer_of Y) = ap (λ (y : Report). y.bytes) report_is ∙ bytes_reported (answer_of Y) in
      record {
        reported = λ i h. cell (x + i) ∙ (z.reported i (omega arith) ∙ asks i);
        done = λ h. b ∙ all (answer_of Y) refl ended (ap (λ (y : Report). y.verdict) (sym report_is) ∙ h);
        outside = λ i h. cell i ∙ z.outside i h;
        inside = λ i h. ⊎_elim (λ a. inl (cell (x + i) ∙ a)) (λ a. inr (cell (x + i) ∙ (a ∙ asks i))) (z.inside i h);
        other = ap (λ (y : Mem). cells_of (other_of t) y) memory_is ∙ z.other;
        sizes = ap (λ (y : Mem). length (cells_of t y)) memory_is ∙ z.sizes;
        lock = ap (λ (y : Report). y.chip.line.core.locked) report_is ∙ (lock_of (answer_of Y) ∙ z.lock);
        buffer = buffer_is ∙ (ap (λ (l : List ℕ). l ++ drop r.length ys) (subst (λ (b : Bool). Buffer (G r ws c m (begins r d c m ys k)) b Y.driver.counts.at Y.buffer) w (holds r ws c m (begins r d c m ys k) bs).rel.buffer) ∙ take-append-drop r.length ys);
        idle = λ h. ap (λ (y : Report). y.chip.line.phase) report_is ∙ idle_again (answer_of Y) refl ended (ap (λ (y : Report). y.verdict) (sym report_is) ∙ h) z;
        stored = λ t. subst (λ (y : Mem). AllBelow 256 (cells_of t y)) (sym memory_is) (still_bytes z t);
      }
    where
      idle_again : (a : Answer) → answer_of Y ≡ a → Finished a → (report_by Y a).verdict ≡ Ok tt → Safe r ws c m Y → (report_by Y a).chip.line.phase ≡ Idle
      idle_again (Send e) z f v q = absurd f
      idle_again (Done x n) z f v q = q.idle x n z
      idle_again (Refused x q n) z f v k = absurd (false≢true (ap is_fine v))

      was : (t : Target) (i : ℕ) → get_or (cells_of t m) i 0 < 256
      was t = below_at (cells_of t m) (k.stored t)

      -- outside what was asked it is as before, and inside as before or as asked
      still_here : Safe r ws c m Y → (i : ℕ) → get_or (cells_of (target_of r.place) Y.mem) i 0 < 256
      still_here z i =
          let x = from_of r.place in
          let P : ℕ → Type 0 = λ (n : ℕ). n < 256 in
          ⊎_elim (λ h. subst P (sym (z.outside i (inl h))) (was (target_of r.place) i))
          (λ h. ⊎_elim
          (λ o.
          let e : x + (i - x) ≡ i = omega arith in
          subst (λ (j : ℕ). get_or (cells_of (target_of r.place) Y.mem) j 0 < 256) e
          (⊎_elim (λ a. subst P (sym a) (was (target_of r.place) (x + (i - x)))) (λ a. subst P (sym a) (below_at ws (begins r d c m ys k).bytes (i - x))) (z.inside (i - x) (omega arith))))
          (λ o. subst P (sym (z.outside i (inr o))) (was (target_of r.place) i))
          (less_or_more i (x + r.length)))
          (less_or_more i x)

      still_bytes : Safe r ws c m Y → (t : Target) → AllBelow 256 (cells_of t Y.mem)
      still_bytes z t =
          below_all (cells_of t Y.mem) λ i.
          ⊎_elim (λ e. subst (λ (u : Target). get_or (cells_of u Y.mem) i 0 < 256) (sym e) (still_here z i))
          (λ e. subst (λ (u : Target). get_or (cells_of u Y.mem) i 0 < 256) (sym e) (subst (λ (l : List ℕ). get_or l i 0 < 256) (sym z.other) (was (other_of (target_of r.place)) i)))
          (either (target_of r.place) t)

      all : (a : Answer) → answer_of Y ≡ a → Finished a → (report_by Y a).verdict ≡ Ok tt → reported_of a ≡ r.length
      all (Send e) z f v = absurd f
      all (Done q n) z f v = all_done r ws c m (begins r d c m ys k) bs q n z
      all (Refused x q n) z f v = absurd (false≢true (ap is_fine v))

  taken : r.reads ≡ true → ReadThere our_bench (call_of r d c m ys)
  taken w =
      let z = read_right r ws c m (begins r d c m ys k) bs w in
      let a = read_ends r ws c m (begins r d c m ys k) bs w (omega (arith, over_bound, choices_asked (facts_of r.part) r.enable d n (start_of r ws c m))) in
      let p : (bench_of r r.enable d c m ys).report ≡ report_by Y (Done 0 r.length) = report_is ∙ ap (report_by Y) a in
      record {
        done = ap (λ (y : Report). y.verdict) p;
        bytes = ap (λ (y : Report). y.bytes) p;
        polls = ap (λ (y : Report). y.polls) p;
        cycles = ap (λ (y : Report). y.cycles) p ∙ z.cycles;
        clocks = λ h. sym (replayed (call_of r d c m ys)).clocks ∙ read_clocks r ys _ _ _ _ (begins r d c m ys k).accepted (driven r r.enable d c m ys k.fine) (ap (λ (y : Report). y.verdict) p) w h;
        buffer = buffer_is ∙ ap (λ (l : List ℕ). l ++ drop r.length ys) (got z a);
        memory = memory_is ∙ z.mem;
        lock = ap (λ (y : Report). y.chip.line.core.locked) p ∙ z.lock;
        idle = ap (λ (y : Report). y.chip.line.phase) p ∙ z.idle 0 r.length a;
      }
    where
      got : ReadRight r ws c m Y → answer_of Y ≡ Done 0 r.length → Y.buffer ≡ take r.length (drop (from_of r.place) (cells_of (target_of r.place) m))
      got z a =
          let s = cells_of (target_of r.place) m in
          let x = from_of r.place in
          let q = z.size in
          let room = room_is r c m (sane r ws c m (begins r d c m ys k)).good (begins r d c m ys k).idle in
          ext_get_or 0 Y.buffer (take r.length (drop x s)) (omega (arith, length-take r.length (drop x s), length-drop x s))
          (λ i h. z.read 0 r.length a i (omega arith) ∙ (sym (get_or-drop x s i 0) ∙ sym (get_or-take r.length (drop x s) i 0 (omega arith))))

  budget_is : r.reads ≡ false → allowed_of r ≡ r.budget
  unfolding allowed_of
  budget_is w = ap (λ (b : Bool). cond b 0 r.budget) w

  ends : r.reads ≡ false → Writable r.place c.line.core → d ≤ r.budget → Ended our_bench (call_of r d c m ys)
  ends w u h =
      let z : Complete r Y = subst (Complete r) (choices_same (facts_of r.part) r.enable d n (start_of r ws c m)) (turns_end r ws c m d n w (begins r d c m ys k) u (low_d r d c m ys k) (omega (arith, budget_is w)) over_bound) in
      let p : (bench_of r r.enable d c m ys).report ≡ report_by Y (Done z.polls r.length) = report_is ∙ ap (report_by Y) z.done in
      let q : (bench_of r r.enable d c m ys).report.polls ≡ k_of r * d = ap (λ (y : Report). y.polls) p ∙ polls_exact r ws c m d n w (begins r d c m ys k) u (low_d r d c m ys k) (omega (arith, budget_is w)) z.polls r.length z.done in
      let v = driven r r.enable d c m ys k.fine in
      record {
        done = ap (λ (y : Report). y.verdict) p;
        bytes = ap (λ (y : Report). y.bytes) p;
        cycles = ap (λ (y : Report). y.cycles) p ∙ z.cycles;
        polls = q;
        each = ap (λ (v : Verdict). polls_of_pages false 0 (bench_by our_driver (ours (facts_of r.part) r.enable) r d c m ys v).events) k.fine
            ∙ (ap (λ (i : ℕ). polls_of_pages false 0 (tape_events_of our_driver (ours (facts_of r.part) r.enable) d i (start_of r ws c m))) (sym turns)
            ∙ pages_exact r ws c m d n w (begins r d c m ys k) u (low_d r d c m ys k) (omega (arith, budget_is w)) z.polls r.length z.done);
        clocks = sym (replayed (call_of r d c m ys)).clocks
            ∙ (done_clocks r ys _ _ _ _ (begins r d c m ys k).accepted v (ap (λ (y : Report). y.verdict) p) w ∙ ap (λ (i : ℕ). 9 * (k_of r * (1 + address_bytes r) + r.length + i)) q);
      }

  each : r.reads ≡ false → Writable r.place c.line.core → CycleEach (ours (facts_of r.part) r.enable) c (bench_of r r.enable d c m ys).events
  each w u =
      let M = ours (facts_of r.part) r.enable in
      let b = begins r d c m ys k in
      let t = tape_each (G r ws c m b) (sane r ws c m b) (not_refusing r.place c u) w d (low_d r d c m ys k) n (start_of r ws c m) (start_holds r ws c m b) false 0 (λ _. (refl, refl)) in
      each_cycle M c false (bench_of r r.enable d c m ys).events
      (subst (λ (v : Verdict). Each M c false (bench_by our_driver M r d c m ys v).events) (sym k.fine) (subst (λ (i : ℕ). Each M c false (tape_events_of our_driver M d i (start_of r ws c m))) turns t))

  uses_up : r.reads ≡ false → Writable r.place c.line.core → 1 ≤ r.length → r.budget < d → UsedUp our_bench (call_of r d c m ys)
  uses_up w u o h =
      let z = subst (λ (y : System). (answer_of y ≡ Refused PollsUsed (allowed_of r) 0) × (y.cycles ≡ 1)) (choices_same (facts_of r.part) r.enable d n (start_of r ws c m)) (turns_refused r ws c m d n w (begins r d c m ys k) u o (omega (arith, budget_is w)) over_bound) in
      let p : (bench_of r r.enable d c m ys).report ≡ report_by Y (Refused PollsUsed (allowed_of r) 0) = report_is ∙ ap (report_by Y) z.0 in
      record {
        refused = ap (λ (y : Report). y.verdict) p;
        polls = ap (λ (y : Report). y.polls) p ∙ budget_is w;
        bytes = ap (λ (y : Report). y.bytes) p;
        cycles = ap (λ (y : Report). y.cycles) p ∙ z.1;
      }

  protects : r.reads ≡ false → Shut r.place c.line.core → 1 ≤ r.length → Protected our_bench (call_of r d c m ys)
  protects w u o =
      let z = shut_refused r ws c m bs w (begins r d c m ys k) u o (subst (λ (i : ℕ). bound_of r < i) (sym (choices_asked (facts_of r.part) r.enable d n (start_of r ws c m))) over_bound) in
      let p : (bench_of r r.enable d c m ys).report ≡ report_by Y (Refused (NoData 0) 0 0) = report_is ∙ ap (report_by Y) z.0 in
      record { refused = ap (λ (y : Report). y.verdict) p; bytes = ap (λ (y : Report). y.bytes) p; cycles = ap (λ (y : Report). y.cycles) p ∙ z.2; memory = memory_is ∙ z.1 }

untouched : RefusesKept our_bench
untouched k x e =
    let p = ap (bench_by our_driver (ours (facts_of k.request.part) k.own) k.request k.d k.chip k.mem k.buffer) e in
    record {
      verdict = ap (λ (y : BenchLeft). y.report.verdict) p;
      chip = ap (λ (y : BenchLeft). y.report.chip) p;
      memory = ap (λ (y : BenchLeft). y.mem) p;
      buffer = ap (λ (y : BenchLeft). y.buffer) p;
      polls = ap (λ (y : BenchLeft). y.report.polls) p;
      bytes = ap (λ (y : BenchLeft). y.report.bytes) p;
      cycles = ap (λ (y : BenchLeft). y.report.cycles) p;
      clocks = ap (λ (y : BenchLeft). y.report.clocks) p;
      events = ap (λ (y : BenchLeft). y.events) p;
      levels = ap (λ (y : BenchLeft). y.levels) p;
    }

-- the memories keep their lengths
kept_sizes : (r : Request) (d : ℕ) (c : Chip) (m : Mem) (ys : List ℕ) → Written our_bench (call_of r d c m ys) → (t : Target) → length (cells_of t (our_bench.memory (call_of r d c m ys))) ≡ length (cells_of t m)
kept_sizes r d c m ys z t =
    ⊎_elim (λ e. subst (λ (u : Target). length (cells_of u (our_bench.memory (call_of r d c m ys))) ≡ length (cells_of u m)) (sym e) z.sizes)
    (λ e. subst (λ (u : Target). length (cells_of u (our_bench.memory (call_of r d c m ys))) ≡ length (cells_of u m)) (sym e) (ap (λ (l : List ℕ). length l) z.other))
    (either (target_of r.place) t)

-- the same request as a read is not refused either
judged_read : (r : Request) → judge_of r ≡ Ok tt → judge_of (read_of r) ≡ Ok tt
unfolding judge_of sooner_of limit_of
judged_read r h =
    let (part, u) = sooner_fine (claim_of (not (facts_of r.part).known) NoPart) _ h in
    let (enable, v) = sooner_fine (claim_of (not (enable_right_of (facts_of r.part) r.enable)) WrongEnable) _ u in
    let (far, _) = sooner_fine (claim_of (beyond_at (from_of r.place) r.length (room_of (facts_of r.part) r.place) (there_of (facts_of r.part) r.place)) Beyond) _ v in
    rw (part, enable, far) refl

read_fits : (n b : ℕ) → other_length_of true n b ≡ false
unfolding other_length_of
read_fits n b = refl

read_room : (n b : ℕ) → n ≤ b → short_of true n b ≡ false
unfolding short_of
read_room n b h = le-ltb b n h

late_not : (e : ℕ) → 1 ≤ e → e ≤ 65535 → late_of e ≡ false
unfolding late_of
late_not e lo hi = rw (le-ltb e 1 lo, le-ltb 65535 e hi) refl

-- the read is not refused
read_fine : (r : Request) (d e : ℕ) (c : Chip) (m : Mem) (ys zs : List ℕ) → Called (call_of r d c m ys) → Typed c → r.reads ≡ false → 1 ≤ e → e ≤ 65535 → r.length ≤ length zs
    → bench_verdict (read_of r) r.enable e (our_bench.report (call_of r d c m ys)).chip (our_bench.memory (call_of r d c m ys)) zs ≡ Ok tt
read_fine r d e c m ys zs k typed w lo hi room =
    let f = facts_of r.part in
    let z = written enough refl r d c m ys k w in
    let no = none r d c m ys k in
    let b : buffers_right_of f (length (our_bench.memory (call_of r d c m ys)).cells) (length (our_bench.memory (call_of r d c m ys)).ident) ≡ true =
    ap (λ (i : ℕ). buffers_right_of f i (length (our_bench.memory (call_of r d c m ys)).ident)) (kept_sizes r d c m ys z TheArray)
    ∙ (ap (buffers_right_of f (length m.cells)) (kept_sizes r d c m ys z TheIdent) ∙ no.held.lent)
    in
    let g : in_range_of f (our_bench.report (call_of r d c m ys)).chip ≡ true = in_range enough refl r d c m ys k typed in
    granted_fine (read_of r) r.enable e (our_bench.report (call_of r d c m ys)).chip (length (our_bench.memory (call_of r d c m ys)).cells) (length (our_bench.memory (call_of r d c m ys)).ident) (length zs)
    record {
      asked = judged_read r no.asked;
      held = record { known = no.held.known; enabled = no.held.enabled; lent = b; ranged = g };
      fit = read_fits r.length (length zs);
      room = read_room r.length (length zs) room;
      ends = late_not e lo hi;
    }

reads_back : (r : Request) (d e : ℕ) (c : Chip) (m : Mem) (ys zs : List ℕ) → Called (call_of r d c m ys) → Typed c → r.reads ≡ false → (our_bench.report (call_of r d c m ys)).verdict ≡ Ok tt
    → RoomBack (call_of r d c m ys) e zs → our_bench.buffer (read_back_lem our_bench (call_of r d c m ys) e zs) ≡ ys ++ drop r.length zs
reads_back r d e c m ys zs k typed w done room' =
    let z = written enough refl r d c m ys k w in
    let v = read_fine r d e c m ys zs k typed w room'.low room'.high room'.long in
    let x = from_of r.place in
    let s = cells_of (target_of r.place) (our_bench.memory (call_of r d c m ys)) in
    let n = write_long r d c m ys k w in
    let a = z.done done in
    let room = room_is r c m (sane r (take r.length ys) c m (begins r d c m ys k)).good (begins r d c m ys k).idle in
    let size = z.sizes in
    let t = taken enough refl (read_of r) e (our_bench.report (call_of r d c m ys)).chip (our_bench.memory (call_of r d c m ys)) zs (record { fine = v; enabled = refl; idle = z.idle done; stored = z.stored; lent = room'.bytes }) refl in
    t.buffer
    ∙ ap (λ (l : List ℕ). l ++ drop r.length zs)
    (sym (ext_get_or 0 ys (take r.length (drop x s)) (omega (arith, length-take r.length (drop x s), length-drop x s))
    (λ i h. sym (z.reported i (omega arith)) ∙ (sym (get_or-drop x s i 0) ∙ sym (get_or-take r.length (drop x s) i 0 (omega arith))))))

-- the chip's own enable is the request's, so the call is that of its row
abbrev row_of : BenchCall → BenchCall
row_of k = call_of k.request k.d k.chip k.mem k.buffer

at_own : (P : BenchCall → Type 0) (k : BenchCall) → Called k → (Called (row_of k) → P (row_of k)) → P k
at_own P k q f =
    let j : ℕ → BenchCall = λ e. record { request = k.request; own = e; d = k.d; chip = k.chip; mem = k.mem; buffer = k.buffer } in
    subst (λ (e : ℕ). P (j e)) (sym q.enabled) (f (subst (λ (e : ℕ). Called (j e)) q.enabled q))

pub bench_promises_lem : BenchPromises our_bench
bench_promises_lem =
    record {
      writes = λ k q w. at_own (Written our_bench) k q (λ q'. written enough refl k.request k.d k.chip k.mem k.buffer q' w);
      reads = λ k q w. at_own (ReadThere our_bench) k q (λ q'. taken enough refl k.request k.d k.chip k.mem k.buffer q' w);
      reads_back = λ k e zs q t w v s.
          at_own (λ j. (our_bench.report j).verdict ≡ Ok tt → RoomBack j e zs → our_bench.buffer (read_back_lem our_bench j e zs) ≡ k.buffer ++ drop k.request.length zs) k q
          (λ q' v' s'. reads_back k.request k.d e k.chip k.mem k.buffer zs q' t w v' s') v s;
      ends = λ k q a h. at_own (Ended our_bench) k q (λ q'. ends enough refl k.request k.d k.chip k.mem k.buffer q' a.writes a.writable h);
      cycle_each = λ k q a.
          at_own (λ j. CycleEach (ours (facts_of j.request.part) j.own) j.chip (our_bench.events j)) k q
          (λ q'. each enough refl k.request k.d k.chip k.mem k.buffer q' a.writes a.writable);
      uses_up = λ k q a n h. at_own (UsedUp our_bench) k q (λ q'. uses_up enough refl k.request k.d k.chip k.mem k.buffer q' a.writes a.writable n h);
      protects = λ k q a n. at_own (Protected our_bench) k q (λ q'. protects enough refl k.request k.d k.chip k.mem k.buffer q' a.writes a.shut n);
      refuses = untouched;
      drives = λ k f. driven k.request k.own k.d k.chip k.mem k.buffer f;
      ends_at = λ k. ends_at k.request k.own k.d k.chip k.mem k.buffer;
      replays = replayed;
    }
