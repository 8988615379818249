-- A run is its steps: what the first verdict found right stays right, so every later step's verdict is fine too.
-- Assumes nothing.
use Rattle.std.specs.Prelude.{Ok, Err}
use Prim.Native.Nat.{ℕ, suc, ◌+◌, ◌≤◌}
use native.Mathlib.Omega.{arith}
use mathlib.Core.Path.{◌≡◌, refl, sym, ap}
use mathlib.Core.Bool.{Bool, true, false, cond}
use mathlib.Core.List.{List, [], ◌∷◌, ◌++◌}
use lib.ListN.{length, drop, take}
use lib.Dec.{ltb}
use borrow.Author.Tests.{le-ltb, ltb-false}
use Rattle.parts.specs.declared.Facts.{Facts}
use Rattle.parts.specs.declared.Refusal.TheVariants.{BadEvent, ShortBuffer, TooMany}
use Rattle.parts.specs.Verdict.{Verdict}
use Rattle.parts.specs.declared.Loss.{Loss}
use Rattle.parts.specs.declared.Loss.TheVariants.{Old, Lent}
use Rattle.parts.specs.declared.Event.{Event}
use Rattle.parts.specs.declared.Event.TheVariants.{Clock, Start, Stop, Ends, PinLow, PinHigh, PinFloat, Reset, Unknown}
use Rattle.parts.specs.Table.{facts_of, enable_right_of, buffers_right_of}
use Rattle.parts.specs.Events.{event_with, event_right_of, loss_size_of}
use Rattle.parts.specs.Refusals.{claim_of, sooner_of}
use Rattle.parts.proofs.Laws.{sound}
use Rattle.parts.proofs.Claims.{refused_not, claim_fine, sooner_fine}
use Rattle.chip.proofs.Laws.{entered_length, cut_fine, fine_cut}
use Rattle.line.specs.declared.Target.TheVariants.{Array, Ident}
use Rattle.line.specs.declared.Cycle.TheVariants.{Writing, Locking}
use Rattle.line.specs.declared.Phase.{Phase}
use Rattle.line.specs.declared.Phase.TheVariants.{Idle, Receive, Send, Busy}
use Rattle.line.specs.declared.Line.{Line}
use Rattle.line.specs.Rules.{begun_of}
use Rattle.state.specs.declared.Chip.{Chip}
use Rattle.state.specs.Range.{in_range_of}
use Rattle.chip.specs.Model.{PowerCut, ours_with}
use Rattle.chip.specs.Memory.{Mem, counter_page_of, committed_of, cycle_stored_of, stored_of, risen_from, lost_of, store_with, state_of, chip_level_of}
use Rattle.chip.specs.Runs.{after_of, memory_of, levels_of, cycles_of}
use Rattle.chip.specs.Calls.{cut_verdict_of, step_verdict_of, step_verdict, step_by, step_mem, step_of, scan_of, run_verdict_of, run_verdict, run_by, run_mem, run_answers}
use Rattle.chip_laws.specs.Range.{Typed, AllTaken}
use Rattle.chip_laws.specs.Runs.{Steps, joined, steps_of, RunIsSteps, RunGoesOn}
use Rattle.chip_laws.proofs.Range.{takes, range_next}

-- ---- a call's verdict is fine where nothing is wrong, and only there

-- what both calls judge and no event changes, and the range
pub record Accepted (part enable : ℕ) (w : PowerCut) (c : Chip) (m : Mem) : Type 0 where
  pub known : (facts_of part).known ≡ true
  pub enabled : enable_right_of (facts_of part) enable ≡ true
  pub buffers : buffers_right_of (facts_of part) (length m.cells) (length m.ident) ≡ true
  pub range : in_range_of (facts_of part) c ≡ true
  pub page : length w.page ≡ loss_size_of (facts_of part) w.loss

cut_accepted : (part en : ℕ) (w : PowerCut) (c : Chip) (m : Mem) → cut_verdict_of part en w c (length m.cells) (length m.ident) ≡ Ok tt → Accepted part en w c m
cut_accepted part en w c m h =
    let (p, a) = cut_fine part en w c (length m.cells) (length m.ident) h in
    record { known = a.known; enabled = a.enabled; buffers = a.lent; range = a.ranged; page = p }

accepted_cut : (part en : ℕ) (w : PowerCut) (c : Chip) (m : Mem) → Accepted part en w c m → cut_verdict_of part en w c (length m.cells) (length m.ident) ≡ Ok tt
accepted_cut part en w c m a =
    fine_cut part en w c (length m.cells) (length m.ident) a.page record { known = a.known; enabled = a.enabled; lent = a.buffers; ranged = a.range }

pub step_fine_lem : (part en : ℕ) (w : PowerCut) (c : Chip) (m : Mem) (e : ℕ) → Accepted part en w c m → event_right_of (facts_of part).pin e ≡ true → step_verdict part en w c m e ≡ Ok tt
unfolding step_verdict_of sooner_of
step_fine_lem part en w c m e a h = rw (accepted_cut part en w c m a, h) refl

-- ---- the scan for refusal 5

scan-taken : (f : Facts) (k : ℕ) (es : List ℕ) → scan_of f.pin k es ≡ Ok tt → AllTaken f es
scan-taken f k [] h = tt
scan-taken f k (e ∷ es) h = go (event_right_of f.pin e) refl h (λ g. scan-taken f (suc k) es g)
  where
    go : (b : Bool) → event_right_of f.pin e ≡ b → cond b (scan_of f.pin (suc k) es) (Err (BadEvent k)) ≡ Ok tt
        → (scan_of f.pin (suc k) es ≡ Ok tt → AllTaken f es) → (event_right_of f.pin e ≡ true) × AllTaken f es
    go true d h r = (d, r h)
    go false d h r = refused_not h

taken_scan : (f : Facts) (k : ℕ) (es : List ℕ) → AllTaken f es → scan_of f.pin k es ≡ Ok tt
taken_scan f k [] h = refl
taken_scan f k (e ∷ es) h = rw h.0 (taken_scan f (suc k) es h.1)

-- what a fine verdict of a run says
pub record Begun (part enable : ℕ) (w : PowerCut) (c : Chip) (m : Mem) (es : List ℕ) (room : ℕ) : Type 0 where
  pub accepted : Accepted part enable w c m
  pub few : length es ≤ 32768
  pub taken : AllTaken (facts_of part) es
  pub fits : length es ≤ room

pub run_begun : (part en : ℕ) (w : PowerCut) (c : Chip) (m : Mem) (es : List ℕ) (room : ℕ)
    → run_verdict_of part en w c (length m.cells) (length m.ident) es room ≡ Ok tt → Begun part en w c m es room
unfolding run_verdict_of
run_begun part en w c m es room h =
    let (held, r) = sooner_fine (cut_verdict_of part en w c (length m.cells) (length m.ident)) _ h in
    let (many, s) = sooner_fine (claim_of (ltb 32768 (length es)) TooMany) _ r in
    let (scan, short) = sooner_fine (scan_of (facts_of part).pin 0 es) (claim_of (ltb room (length es)) ShortBuffer) s in
    record {
      accepted = cut_accepted part en w c m held;
      few = ltb-false 32768 (length es) (claim_fine _ TooMany many);
      taken = scan-taken (facts_of part) 0 es scan;
      fits = ltb-false room (length es) (claim_fine _ ShortBuffer short);
    }

pub begun_run : (part en : ℕ) (w : PowerCut) (c : Chip) (m : Mem) (es : List ℕ) (room : ℕ) → Begun part en w c m es room
    → run_verdict_of part en w c (length m.cells) (length m.ident) es room ≡ Ok tt
unfolding run_verdict_of sooner_of
begun_run part en w c m es room b =
    rw (accepted_cut part en w c m b.accepted, le-ltb 32768 (length es) b.few, taken_scan (facts_of part) 0 es b.taken, le-ltb room (length es) b.fits) refl

-- ---- an event keeps the lengths of what is stored

abbrev pub SameLengths : Mem → Mem → Type 0
SameLengths m n = (length n.cells ≡ length m.cells) × (length n.ident ≡ length m.ident)

stored_lengths : (f : Facts) (l : Line) (k : List ℕ) (m : Mem) (ph : Phase) → SameLengths m (stored_of f l k m ph)
unfolding stored_of cycle_stored_of committed_of
stored_lengths f l k m Idle = (refl, refl)
stored_lengths f l k m (Receive r) = (refl, refl)
stored_lengths f l k m (Send t) = (refl, refl)
stored_lengths f l k m (Busy (Writing Array)) = (entered_length m.cells (counter_page_of f l.core.counter) (take f.page k), refl)
stored_lengths f l k m (Busy (Writing Ident)) = (refl, entered_length m.ident (counter_page_of f l.core.counter) (take f.page k))
stored_lengths f l k m (Busy Locking) = (refl, refl)

lost_lengths : (f : Facts) (c : Chip) (page : List ℕ) (m : Mem) (w : Loss) → SameLengths m (lost_of f c page m w)
unfolding lost_of
lost_lengths f c page m Old = (refl, refl)
lost_lengths f c page m (Lent lock) = stored_lengths f c.line (risen_from f.group c.latch page 0 f.page) m c.line.phase

pub store_lengths : (page : List ℕ) (f : Facts) (c : Chip) (m : Mem) (e : Event) → SameLengths m (store_with page f c m e)
unfolding store_with
store_lengths page f c m (Clock v) = (refl, refl)
store_lengths page f c m Start = (refl, refl)
store_lengths page f c m Stop = (refl, refl)
store_lengths page f c m Ends = stored_lengths f c.line c.latch m c.line.phase
store_lengths page f c m PinLow = (refl, refl)
store_lengths page f c m PinHigh = (refl, refl)
store_lengths page f c m PinFloat = (refl, refl)
store_lengths page f c m (Reset w) = lost_lengths f c page m w
store_lengths page f c m Unknown = (refl, refl)

-- ---- steps

abbrev next_chip : ℕ → ℕ → PowerCut → Chip → ℕ → Chip
next_chip part en w c e = state_of (facts_of part) en c (event_with w.loss e)

abbrev next_mem : ℕ → PowerCut → Chip → Mem → ℕ → Mem
next_mem part w c m e = store_with w.page (facts_of part) c m (event_with w.loss e)

-- what was right stays right
module _ (part en : ℕ) (w : PowerCut) (c : Chip) (m : Mem) (e : ℕ) (a : Accepted part en w c m) (h : event_right_of (facts_of part).pin e ≡ true) (t : Typed c) where
  pub accepted_next : Accepted part en w (next_chip part en w c e) (next_mem part w c m e) × Typed (next_chip part en w c e)
  accepted_next =
      let r = range_next (facts_of part) (sound part) en c (event_with w.loss e) (takes (facts_of part) w.loss e h) t a.range in
      let s = store_lengths w.page (facts_of part) c m (event_with w.loss e) in
      (record { known = a.known; enabled = a.enabled; buffers = rw (s.0, s.1) a.buffers; range = r.0; page = a.page }, r.1)

pub record Same (part en : ℕ) (w : PowerCut) (c : Chip) (m : Mem) (es : List ℕ) (r : Steps) : Type 0 where
  pub fine : r.fine ≡ true
  pub chip : r.chip ≡ after_of (ours_with w (facts_of part) en) c es
  pub mem : r.mem ≡ memory_of (ours_with w (facts_of part) en) c m es
  pub levels : r.levels ≡ levels_of (ours_with w (facts_of part) en) c m es
  pub cycles : r.cycles ≡ cycles_of (ours_with w (facts_of part) en) c es

-- one step before the rest
same_join : (part en : ℕ) (w : PowerCut) (c : Chip) (m : Mem) (e : ℕ) (es : List ℕ)
    → Same part en w (next_chip part en w c e) (next_mem part w c m e) es (steps_of part en w (next_chip part en w c e) (next_mem part w c m e) es)
    → (v : Verdict) → v ≡ Ok tt
    → Same part en w c m (e ∷ es) (joined (step_by (ours_with w (facts_of part) en) c m e v) (steps_of part en w (step_by (ours_with w (facts_of part) en) c m e v).chip (step_mem (ours_with w (facts_of part) en) c m e v) es))
unfolding after_of memory_of levels_of cycles_of
same_join part en w c m e es r (Err x) h = refused_not h
same_join part en w c m e es r (Ok _) h =
    record {
      fine = r.fine;
      chip = r.chip;
      mem = r.mem;
      levels = ap (λ (l : List ℕ). chip_level_of (facts_of part) en c m (event_with w.loss e) ∷ l) r.levels;
      cycles = ap (λ (n : ℕ). begun_of c.line (event_with w.loss e) + n) r.cycles;
    }

pub same_steps : (part en : ℕ) (w : PowerCut) (c : Chip) (m : Mem) (es : List ℕ) → Accepted part en w c m → AllTaken (facts_of part) es → Typed c
    → Same part en w c m es (steps_of part en w c m es)
unfolding steps_of after_of memory_of levels_of cycles_of
same_steps part en w c m [] a h t = record { fine = refl; chip = refl; mem = refl; levels = refl; cycles = refl }
same_steps part en w c m (e ∷ es) a h t =
    let n = accepted_next part en w c m e a h.0 t in
    same_join part en w c m e es (same_steps part en w (next_chip part en w c e) (next_mem part w c m e) es n.0 h.1 n.1)
    (step_verdict part en w c m e) (step_fine_lem part en w c m e a h.0)

-- ---- the statements

run_same : (part en : ℕ) (w : PowerCut) (c : Chip) (m : Mem) (es answers : List ℕ) (s : Steps) → Same part en w c m es s → (v : Verdict) → v ≡ Ok tt
    → ((run_by (ours_with w (facts_of part) en) c es v).chip ≡ s.chip) × ((run_by (ours_with w (facts_of part) en) c es v).cycles ≡ s.cycles) × (run_mem (ours_with w (facts_of part) en) c m es v ≡ s.mem)
    × (run_answers (ours_with w (facts_of part) en) c m es answers v ≡ s.levels ++ drop (length es) answers)
run_same part en w c m es answers s r (Err x) h = refused_not h
run_same part en w c m es answers s r (Ok _) h =
    (sym r.chip, sym r.cycles, sym r.mem, ap (λ (l : List ℕ). l ++ drop (length es) answers) (sym r.levels))

pub run_is_steps : RunIsSteps
run_is_steps part en w c m es answers t h =
    let b = run_begun part en w c m es (length answers) h in
    let r = same_steps part en w c m es b.accepted b.taken t in
    let q = run_same part en w c m es answers (steps_of part en w c m es) r (run_verdict part en w c m es answers) h in
    record { fine = r.fine; chip = q.0; cycles = q.1; mem = q.2; levels = q.3 }

goes_on : (part en : ℕ) (w : PowerCut) (c : Chip) (m : Mem) (e : ℕ) (es : List ℕ) (room : ℕ) → Begun part en w (next_chip part en w c e) (next_mem part w c m e) es room
    → (v : Verdict) → v ≡ Ok tt
    → run_verdict_of part en w (step_by (ours_with w (facts_of part) en) c m e v).chip (length (step_mem (ours_with w (facts_of part) en) c m e v).cells) (length (step_mem (ours_with w (facts_of part) en) c m e v).ident) es room ≡ Ok tt
goes_on part en w c m e es room b (Err x) h = refused_not h
goes_on part en w c m e es room b (Ok _) h = begun_run part en w (next_chip part en w c e) (next_mem part w c m e) es room b

-- the answers of the three calls, by their verdicts
module _ (part en : ℕ) (w : PowerCut) (c : Chip) (m : Mem) (e : ℕ) (es : List ℕ) (a : ℕ) (answers : List ℕ) where
  abbrev Whole : Verdict → Verdict → Verdict → Type 0
  Whole u v x =
      ((run_by (ours_with w (facts_of part) en) c (e ∷ es) u).chip ≡ (run_by (ours_with w (facts_of part) en) (step_by (ours_with w (facts_of part) en) c m e v).chip es x).chip)
      × ((run_by (ours_with w (facts_of part) en) c (e ∷ es) u).cycles ≡ (step_by (ours_with w (facts_of part) en) c m e v).cycles + (run_by (ours_with w (facts_of part) en) (step_by (ours_with w (facts_of part) en) c m e v).chip es x).cycles)
      × (run_mem (ours_with w (facts_of part) en) c m (e ∷ es) u ≡ run_mem (ours_with w (facts_of part) en) (step_by (ours_with w (facts_of part) en) c m e v).chip (step_mem (ours_with w (facts_of part) en) c m e v) es x)
      × (run_answers (ours_with w (facts_of part) en) c m (e ∷ es) (a ∷ answers) u
      ≡ (step_by (ours_with w (facts_of part) en) c m e v).level ∷ run_answers (ours_with w (facts_of part) en) (step_by (ours_with w (facts_of part) en) c m e v).chip (step_mem (ours_with w (facts_of part) en) c m e v) es answers x)

  whole : (u v x : Verdict) → u ≡ Ok tt → v ≡ Ok tt → x ≡ Ok tt → Whole u v x
  unfolding after_of memory_of levels_of cycles_of
  whole (Ok _) (Ok _) (Ok _) p q r = (refl, refl, refl, refl)
  whole (Err y) v x p q r = refused_not p
  whole (Ok _) (Err y) x p q r = refused_not q
  whole (Ok _) (Ok _) (Err y) p q r = refused_not r

pub run_goes_on : RunGoesOn
run_goes_on part en w c m e es a answers t h =
    let b = run_begun part en w c m (e ∷ es) (length (a ∷ answers)) h in
    let f = step_fine_lem part en w c m e b.accepted b.taken.0 in
    let n = accepted_next part en w c m e b.accepted b.taken.0 t in
    let few : length (e ∷ es) ≤ 32768 = b.few in
    let fits : length (e ∷ es) ≤ length (a ∷ answers) = b.fits in
    let g =
    goes_on part en w c m e es (length answers)
    record { accepted = n.0; few = omega arith; taken = b.taken.1; fits = omega arith } (step_verdict part en w c m e) f in
    let q =
    whole part en w c m e es a answers (run_verdict part en w c m (e ∷ es) (a ∷ answers)) (step_verdict part en w c m e)
    (run_verdict part en w (step_of part en w c m e).answer.chip (step_of part en w c m e).mem es answers) h f g in
    record { step_fine = f; run_fine = g; chip = q.0; cycles = q.1; mem = q.2; levels = q.3 }
