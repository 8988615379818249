-- Two runs that keep the four promises are one.
-- Assumes nothing.
use Rattle.std.specs.Prelude.{Ok, Err}
use Prim.Native.Nat.{ℕ, ◌+◌, ◌<◌}
use mathlib.Core.Path.{◌≡◌, refl, sym, ◌∙◌, ap, subst}
use mathlib.Core.Bool.{Bool, true, false, cond, ◌&&◌}
use mathlib.Core.List.{List, [], ◌∷◌, ◌++◌}
use lib.ListN.{length, get_or, take, drop}
use lib.Dec.{eqb}
use native.Mathlib.Omega.{arith}
use Rattle.parts.specs.declared.Refusal.{Refusal}
use Rattle.parts.specs.Verdict.{Verdict}
use Rattle.parts.specs.Table.{facts_of}
use Rattle.state.specs.declared.Chip.{Chip}
use Rattle.chip.specs.Memory.{Mem}
use Rattle.chip.specs.Model.{Model, ours}
use Rattle.chip.specs.Runs.{after_of, memory_of, levels_of, cycles_of}
use Rattle.driver.specs.declared.Request.{Request}
use Rattle.driver.specs.declared.Answer.{Answer}
use Rattle.driver.specs.declared.Answer.TheVariants.{Send, Done, Refused}
use Rattle.driver.specs.Machine.{our_driver}
use Rattle.driver_promises.specs.Run.{DriverHeld, begun, sent_by, answer_to, told, after_all, events_sent, Finished, clocks_in}
use Rattle.driver_promises.specs.Promises.{Accepted, after, answers}
use Rattle.driver_promises.proofs.Promises.{promises}
use Rattle.bench.specs.declared.Report.{Report}
use Rattle.bench.specs.Together.{System}
use Rattle.bench_promises.specs.Tape.{without_ends, levels_heard, told_on, Reports, odd_after, is_poll, tries_after, ends_put}
use Rattle.bench_promises.specs.Calls.{BenchCall, Bench, our_bench, verdict_of, BenchPromises}
use Rattle.bench_promises.specs.Pinned.{Settled, SameRun, BenchPinned, OnlyOurs}
use Rattle.bench_promises.proofs.Steps.{after_more, drives_of}
use Rattle.bench_promises.proofs.Driven.{Coded, sends_coded, not_end}
use Rattle.bench_promises.proofs.Tape.{accepted}
use Rattle.bench_promises.proofs.Calls.{bench_promises_lem}

module _ (r : Request) (xs : List ℕ) (a : Accepted r xs) where
  -- a driver on the way, after these levels
  record Reached (h : DriverHeld) : Type 0 where
    pub levels : List ℕ
    pub run : h ≡ after_all our_driver (begun r xs) levels

  next_reached : (h : DriverHeld) (l : ℕ) → Reached h → Reached (told our_driver h l)
  next_reached h l t = record { levels = t.levels ++ (l ∷ []); run = ap (λ (k : DriverHeld). told our_driver k l) t.run ∙ sym (after_more (begun r xs) t.levels l) }

  reached_coded : (c : Chip) (m : Mem) (h : DriverHeld) (l : ℕ) → Reached h → Coded (answer_to our_driver h l)
  reached_coded c m h l t =
      let y : System = record { driver = h.driver; level = l; buffer = h.buffer; chip = c; mem = m; cycles = 0; clocks = 0 } in
      sends_coded r y (drives_of r xs a y t.levels t.run)

  none : (k : Answer) (es : List ℕ) → Finished k → sent_by k ++ es ≡ es
  none (Send e) es f = absurd f
  none (Done q n) es f = refl
  none (Refused x q n) es f = refl

  -- who has finished stays so, and answers the same
  again : (h : DriverHeld) (l : ℕ) → Reached h → Finished (answer_to our_driver h l) → (told our_driver h l ≡ h) × ((i : ℕ) → answer_to our_driver h i ≡ answer_to our_driver h l)
  again h l t f =
      subst (λ (k : DriverHeld). Finished (answer_to our_driver k l) → (told our_driver k l ≡ k) × ((i : ℕ) → answer_to our_driver k i ≡ answer_to our_driver k l)) (sym t.run)
      (promises.one_each r xs a t.levels l).again f

  -- so it sends nothing, whatever it is told
  silent : (h : DriverHeld) (l : ℕ) → Reached h → Finished (answer_to our_driver h l) → (ls : List ℕ) → events_sent our_driver h (l ∷ ls) ≡ []
  silent h l t f [] = none (answer_to our_driver h l) [] f
  silent h l t f (i ∷ ls) =
      let w = again h l t f in
      none (answer_to our_driver h l) (events_sent our_driver (told our_driver h l) (i ∷ ls)) f
      ∙ (ap (λ (k : DriverHeld). events_sent our_driver k (i ∷ ls)) w.0 ∙ silent h i t (subst Finished (sym (w.1 i)) f) ls)

  -- ---- a driver and a chip, from any moment on: the events are one list
  module _ (M : Model) (d : ℕ) where
    -- the levels that the driver hears of these events, with the ends put
    abbrev hears : Chip → Mem → Bool → ℕ → List ℕ → List ℕ
    hears c m odd t ws = levels_heard (ends_put d odd t ws) (levels_of M c m (ends_put d odd t ws))

    abbrev Plays : DriverHeld → ℕ → Chip → Mem → Bool → ℕ → List ℕ → Type 0
    Plays h l c m odd t ws = events_sent our_driver h (l ∷ hears c m odd t ws) ≡ ws

    -- the chip when the driver's event comes: after the end, if one is put
    abbrev chip_at : Chip → Bool → Chip
    chip_at c b = cond b (M.next c 4) c

    abbrev mem_at : Chip → Mem → Bool → Mem
    mem_at c m b = cond b (M.store c m 4) m

    heard_put : (c : Chip) (m : Mem) (b : Bool) (w : ℕ) → w < 4 → (es : List ℕ)
        → levels_heard (cond b (4 ∷ []) [] ++ (w ∷ es)) (levels_of M c m (cond b (4 ∷ []) [] ++ (w ∷ es)))
        ≡ M.level (chip_at c b) (mem_at c m b) w ∷ levels_heard es (levels_of M (M.next (chip_at c b) w) (M.store (chip_at c b) (mem_at c m b) w) es)
    unfolding levels_of
    heard_put c m true w h es =
        let l = M.level (M.next c 4) (M.store c m 4) w in
        let ls = levels_heard es (levels_of M (M.next (M.next c 4) w) (M.store (M.next c 4) (M.store c m 4) w) es) in
        ap (λ (b : Bool). cond b ls (l ∷ ls)) (not_end w h)
    heard_put c m false w h es =
        let ls = levels_heard es (levels_of M (M.next c w) (M.store c m w) es) in
        ap (λ (b : Bool). cond b ls (M.level c m w ∷ ls)) (not_end w h)

    abbrev put : Bool → ℕ → ℕ → Bool
    put odd t w = is_poll odd w && eqb (t + 1) d

    -- of a driver that sends: the first event is its own, and the rest goes on from there
    first-is : (h : DriverHeld) (l : ℕ) (c : Chip) (m : Mem) (odd : Bool) (t w : ℕ) (ws : List ℕ) (e : ℕ) → answer_to our_driver h l ≡ Send e → Plays h l c m odd t (w ∷ ws) → w ≡ e
    first-is h l c m odd t w ws e q p =
        let hs = hears c m odd t (w ∷ ws) in
        sym (ap (λ (k : List ℕ). get_or k 0 0) (sym (ap (λ (k : Answer). sent_by k ++ events_sent our_driver (told our_driver h l) hs) q) ∙ p))

    rest-is : (h : DriverHeld) (l : ℕ) (c : Chip) (m : Mem) (odd : Bool) (t w : ℕ) (ws : List ℕ) (e : ℕ) → answer_to our_driver h l ≡ Send e → w < 4 → Plays h l c m odd t (w ∷ ws)
        → Plays (told our_driver h l) (M.level (chip_at c (put odd t w)) (mem_at c m (put odd t w)) w) (M.next (chip_at c (put odd t w)) w) (M.store (chip_at c (put odd t w)) (mem_at c m (put odd t w)) w)
        (odd_after odd w) (tries_after odd t w) ws
    rest-is h l c m odd t w ws e q o p =
        let hs = hears c m odd t (w ∷ ws) in
        ap (λ (k : List ℕ). events_sent our_driver (told our_driver h l) k) (sym (heard_put c m (put odd t w) w o (ends_put d (odd_after odd w) (tries_after odd t w) ws)))
        ∙ ap (λ (k : List ℕ). drop 1 k) (sym (ap (λ (k : Answer). sent_by k ++ events_sent our_driver (told our_driver h l) hs) q) ∙ p)

    -- one of them is empty, the other not
    not_both : (h : DriverHeld) (l : ℕ) (c : Chip) (m : Mem) (odd : Bool) (t w : ℕ) (ws : List ℕ) → Reached h → Plays h l c m odd t [] → Plays h l c m odd t (w ∷ ws) → ⊥
    not_both h l c m odd t w ws k p q = go (answer_to our_driver h l) refl
      where
        hs : List ℕ
        hs = hears c m odd t (w ∷ ws)

        over : Finished (answer_to our_driver h l) → ⊥
        over f = let z = ap (λ (i : List ℕ). length i) (sym (silent h l k f hs) ∙ q) in omega arith

        go : (i : Answer) → answer_to our_driver h l ≡ i → ⊥
        go (Send e) z = let y = ap (λ (i : List ℕ). length i) (sym (ap (λ (i : Answer). sent_by i ++ []) z) ∙ p) in omega arith
        go (Done i n) z = over (subst Finished (sym z) tt)
        go (Refused x i n) z = over (subst Finished (sym z) tt)

    one_tape : (ws vs : List ℕ) (h : DriverHeld) (l : ℕ) (c : Chip) (m : Mem) (odd : Bool) (t : ℕ) → Reached h → Plays h l c m odd t ws → Plays h l c m odd t vs → ws ≡ vs
    one_tape [] [] h l c m odd t k p q = refl
    one_tape [] (v ∷ vs) h l c m odd t k p q = absurd (not_both h l c m odd t v vs k p q)
    one_tape (w ∷ ws) [] h l c m odd t k p q = absurd (not_both h l c m odd t w ws k q p)
    one_tape (w ∷ ws) (v ∷ vs) h l c m odd t k p q =
        go (answer_to our_driver h l) refl (reached_coded c m h l k)
        (λ i j n x y. one_tape ws vs (told our_driver h l) i j n x y (next_reached h l k))
      where
        over : Finished (answer_to our_driver h l) → w ∷ ws ≡ v ∷ vs
        over f = let z = ap (λ (i : List ℕ). length i) (sym (silent h l k f (hears c m odd t (w ∷ ws))) ∙ p) in absurd (omega arith)

        go : (i : Answer) → answer_to our_driver h l ≡ i → Coded i
            → ((i : ℕ) (j : Chip) (n : Mem) (x : Bool) (y : ℕ) → Plays (told our_driver h l) i j n x y ws → Plays (told our_driver h l) i j n x y vs → ws ≡ vs) → w ∷ ws ≡ v ∷ vs
        go (Send e) z o f =
            let a = first-is h l c m odd t w ws e z p in
            let b = first-is h l c m odd t v vs e z q in
            let o' : w < 4 = omega arith in
            let same = b ∙ sym a in
            let q' = subst (λ (x : ℕ). Plays h l c m odd t (x ∷ vs)) same q in
            ap (λ (x : List ℕ). w ∷ x) (f _ _ _ _ _ (rest-is h l c m odd t w ws e z o' p) (rest-is h l c m odd t w vs e z o' q')) ∙ ap (λ (x : ℕ). x ∷ vs) (sym same)
        go (Done i n) z o f = over (subst Finished (sym z) tt)
        go (Refused x i n) z o f = over (subst Finished (sym z) tt)

-- ---- reports that agree in every field
report_same : (p q : Report) → p.verdict ≡ q.verdict → p.polls ≡ q.polls → p.bytes ≡ q.bytes → p.cycles ≡ q.cycles → p.clocks ≡ q.clocks → p.chip ≡ q.chip → p ≡ q
report_same p q a b e f g h =
    ap (λ (x : Verdict). record { verdict = x; polls = p.polls; bytes = p.bytes; cycles = p.cycles; clocks = p.clocks; chip = p.chip }) a
    ∙ (ap (λ (x : ℕ). record { verdict = q.verdict; polls = x; bytes = p.bytes; cycles = p.cycles; clocks = p.clocks; chip = p.chip }) b
    ∙ (ap (λ (x : ℕ). record { verdict = q.verdict; polls = q.polls; bytes = x; cycles = p.cycles; clocks = p.clocks; chip = p.chip }) e
    ∙ (ap (λ (x : ℕ). record { verdict = q.verdict; polls = q.polls; bytes = q.bytes; cycles = x; clocks = p.clocks; chip = p.chip }) f
    ∙ (ap (λ (x : ℕ). record { verdict = q.verdict; polls = q.polls; bytes = q.bytes; cycles = q.cycles; clocks = x; chip = p.chip }) g
    ∙ ap (λ (x : Chip). record { verdict = q.verdict; polls = q.polls; bytes = q.bytes; cycles = q.cycles; clocks = q.clocks; chip = x }) h))))

-- two reports of one answer
told_same : (a : Answer) (p q : Report) → Reports a p → Reports a q → (p.verdict ≡ q.verdict) × (p.polls ≡ q.polls) × (p.bytes ≡ q.bytes)
told_same (Send e) p q x y = absurd x
told_same (Done i n) p q x y = (x.0 ∙ sym y.0, x.1 ∙ sym y.1, x.2 ∙ sym y.2)
told_same (Refused f i n) p q x y = (x.0 ∙ sym y.0, x.1 ∙ sym y.1, x.2 ∙ sym y.2)

module _ (B C : Bench) (b : Settled B) (o : Settled C) (call : BenchCall) where
  abbrev r : Request
  r = call.request

  abbrev c : Chip
  c = call.chip

  abbrev m : Mem
  m = call.mem

  abbrev ys : List ℕ
  ys = call.buffer

  abbrev M₀ : Model
  M₀ = ours (facts_of r.part) call.own

  abbrev its_own : verdict_of call ≡ Ok tt → Accepted r (take r.length ys)
  its_own = accepted r call.own call.d c m ys

  refused_alike : (x : Refusal) → verdict_of call ≡ Err x → SameRun B C call
  refused_alike x f =
      let p = b.refuses call x f in
      let q = o.refuses call x f in
      record {
        report = report_same _ _ (p.verdict ∙ sym q.verdict) (p.polls ∙ sym q.polls) (p.bytes ∙ sym q.bytes) (p.cycles ∙ sym q.cycles) (p.clocks ∙ sym q.clocks) (p.chip ∙ sym q.chip);
        memory = p.memory ∙ sym q.memory;
        buffer = p.buffer ∙ sym q.buffer;
        events = p.events ∙ sym q.events;
        levels = p.levels ∙ sym q.levels;
      }

  module _ (f : verdict_of call ≡ Ok tt) where
    abbrev xs : List ℕ
    xs = take r.length ys

    plays : (X : Bench) → Settled X → Plays r xs (its_own f) M₀ call.d (begun r xs) 1 c m false 0 (without_ends (X.events call))
    plays X s =
        ap (λ (k : List ℕ). events_sent our_driver (begun r xs) (1 ∷ levels_heard k (levels_of M₀ c m k))) (sym (s.ends_at call))
        ∙ (ap (λ (k : List ℕ). events_sent our_driver (begun r xs) (1 ∷ levels_heard (X.events call) k)) (s.replays call).levels ∙ sym (s.drives call f).events)

    same_events : B.events call ≡ C.events call
    same_events =
        b.ends_at call
        ∙ (ap (ends_put call.d false 0) (one_tape r xs (its_own f) M₀ call.d _ _ (begun r xs) 1 c m false 0 (record { levels = []; run = refl }) (plays B b) (plays C o)) ∙ sym (o.ends_at call))

    same_levels : B.levels call ≡ C.levels call
    same_levels = sym (b.replays call).levels ∙ (ap (levels_of M₀ c m) same_events ∙ (o.replays call).levels)

    fine_alike : SameRun B C call
    fine_alike =
        let p = b.replays call in
        let q = o.replays call in
        let u = b.drives call f in
        let v = o.drives call f in
        let t : told_on (B.events call) (B.levels call) ≡ told_on (C.events call) (C.levels call) =
        ap (λ (k : List ℕ). told_on k (B.levels call)) same_events ∙ ap (told_on (C.events call)) same_levels
        in
        let w = told_same (answers our_driver r xs (told_on (C.events call) (C.levels call)) 0) _ _
        (subst (λ (k : List ℕ). Reports (answers our_driver r xs k 0) (B.report call)) t (u.answer 0)) (v.answer 0)
        in
        record {
          report = report_same _ _ w.0 w.1 w.2
              (sym p.cycles ∙ (ap (cycles_of M₀ c) same_events ∙ q.cycles)) (sym p.clocks ∙ (ap clocks_in same_events ∙ q.clocks)) (sym p.state ∙ (ap (after_of M₀ c) same_events ∙ q.state));
          memory = sym p.memory ∙ (ap (memory_of M₀ c m) same_events ∙ q.memory);
          buffer = u.buffer ∙ (ap (λ (k : List ℕ). (after our_driver r xs k 0).buffer ++ drop r.length ys) t ∙ sym v.buffer);
          events = same_events;
          levels = same_levels;
        }

pub bench_pinned : BenchPinned
bench_pinned B C b o call = go (verdict_of call) refl
  where
    go : (v : Verdict) → verdict_of call ≡ v → SameRun B C call
    go (Ok _) f = fine_alike B C b o call f
    go (Err x) f = refused_alike B C b o call x f

settled : (B : Bench) → BenchPromises B → Settled B
settled B p = record { refuses = p.refuses; drives = p.drives; ends_at = p.ends_at; replays = p.replays }

pub only_ours : OnlyOurs
only_ours B p = bench_pinned B our_bench (settled B p) (settled our_bench bench_promises_lem)
