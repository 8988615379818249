-- The promises of specs/Promises.antt are kept.
-- Assumes nothing.
use Rattle.std.specs.Prelude.{Ok, Err}
use Prim.Native.Nat.{ℕ, ◌≤◌}
use mathlib.Core.Path.{◌≡◌, ◌∙◌, sym, ap, refl}
use mathlib.Core.Bool.{Bool, true, not}
use mathlib.Core.List.{List, ◌++◌}
use lib.ListN.{length, take, drop}
use lib.Seq.{take_at}
use Rattle.parts.specs.declared.Facts.{Facts}
use Rattle.parts.specs.Verdict.{Verdict}
use Rattle.parts.specs.Table.{facts_of, enable_right_of}
use Rattle.parts.specs.declared.Loss.TheVariants.{Old}
use Rattle.parts.proofs.Laws.{sound}
use Rattle.parts.proofs.Tests.{both}
use borrow.Author.Tests.{not-true}
use Rattle.line.specs.declared.Target.TheVariants.{Ident}
use Rattle.line.specs.declared.Cycle.TheVariants.{Writing, Locking}
use Rattle.line.specs.declared.Phase.{Phase}
use Rattle.line.specs.declared.Phase.TheVariants.{Idle, Receive, Send, Busy}
use Rattle.line.specs.declared.Core.{Core}
use Rattle.line.specs.Rules.{lock_at_reset, next_of, act_of, reset_of}
use Rattle.state.specs.declared.Chip.{Chip}
use Rattle.state.specs.Range.{location_right_of, unlocked_right_of, cycle_right_of, phase_right_of, in_range_of}
use Rattle.state.proofs.Laws.{accepted_phase}
use Rattle.chip.specs.Memory.{Mem, state_of}
use Rattle.chip.specs.Delivery.{standby_of}
use Rattle.image.specs.Layout.{image_of, image_length_of, part_in, lock_in, stored_in}
use Rattle.image.specs.Calls.{save_verdict_of, save_out, load_verdict_of, load_by, AfterLoad, saving, loading}
use Rattle.image.specs.Promises.{BuffersFit, GivesBack, SavesSame, AcceptsOnly, AcceptsAll, SavesLockOnly, AsAfterReset}
use Rattle.image.proofs.Laws.{load_fine, CanLoad}
use Rattle.image.proofs.Form.{part_of_image, lock_of_image, length_of_image, stored_of_image, accepted, stored_fits, is_image, lock_allowed, standby_in_range, range_lockable, saves}

-- the verdict that is answered is the one that was judged
pub load_verdict : (l : List ℕ) (v : Verdict) → (load_by l v).verdict ≡ v
load_verdict l (Ok _) = refl
load_verdict l (Err r) = refl

pub accepts_only : AcceptsOnly loading
accepts_only l enable old h =
    let k = load_fine l enable (length old.cells) (length old.ident) (sym (load_verdict l _) ∙ h) in
    record { part = part_in l; lock = lock_in l; stored = stored_in (facts_of (part_in l)) l; known = k.known; fits = stored_fits l enable _ _ k; lockable = lock_allowed l enable _ _ k; bytes = is_image l enable _ _ k }

-- an image of a part, loaded
loads : (part enable : ℕ) (lock : Bool) (m old : Mem) → (facts_of part).known ≡ true → BuffersFit part m → (lock ≡ true → (facts_of part).ident ≡ true) → enable_right_of (facts_of part) enable ≡ true → BuffersFit part old
    → loading (image_of part lock m) enable old ≡ record { answer = record { verdict = Ok tt; part = part; chip = standby_of (facts_of part) lock }; stored = m }
loads part enable lock m old known t h e o =
    rw (accepted part lock m known t h enable old e o, part_of_image part lock m, lock_of_image part lock m, stored_of_image part lock m t) refl

pub accepts_all : AcceptsAll loading
accepts_all l enable old f e o =
    let same : part_in l ≡ f.part = rw f.bytes (part_of_image f.part f.lock f.stored) in
    rw f.bytes (ap (λ (r : AfterLoad). r.answer.verdict) (loads f.part enable f.lock f.stored old f.known f.fits f.lockable (rw same at e) (rw same at o)))

pub gives_back : GivesBack saving loading
gives_back part enable c m old out known e r t o room =
    let lock : Bool = c.line.core.locked in
    let v = saves part c m known r t (length out) room in
    let image : take (image_length_of (facts_of part)) (image_of part lock m ++ drop (image_length_of (facts_of part)) out) ≡ image_of part lock m = take_at (image_of part lock m) _ (image_length_of (facts_of part)) (length_of_image part lock m t) in
    (rw v refl, rw (v, image) (loads part enable lock m old known t (range_lockable (facts_of part) c r) e o))

-- what was loaded, saved
module _ (l : List ℕ) (enable : ℕ) (old : Mem) (out : List ℕ) (k : CanLoad l enable (length old.cells) (length old.ident)) (room : length l ≤ length out) where
  again : saving (part_in l) (standby_of (facts_of (part_in l)) (lock_in l)) (stored_in (facts_of (part_in l)) l) out ≡ record { answer = record { verdict = Ok tt; length = length l }; out = l ++ drop (length l) out }
  unfolding standby_of
  again =
      let f = facts_of (part_in l) in
      let r = standby_in_range f (lock_in l) (sound (part_in l)) (lock_allowed l enable _ _ k) in
      let fits : image_length_of f ≤ length out = rw k.long at room in
      let v = saves (part_in l) (standby_of f (lock_in l)) (stored_in f l) k.known r (stored_fits l enable _ _ k) (length out) fits in
      rw (v, ← k.long, ← is_image l enable _ _ k) refl

pub saves_same : SavesSame saving loading
saves_same l enable old out h room =
    let j : load_verdict_of l enable (length old.cells) (length old.ident) ≡ (Ok tt) = sym (load_verdict l _) ∙ h in
    let k = load_fine l enable (length old.cells) (length old.ident) j in
    rw j (again l enable old out k room)

-- ---- the chip

same_verdict : (part : ℕ) (c e : Chip) (n d room : ℕ) → in_range_of (facts_of part) c ≡ true → in_range_of (facts_of part) e ≡ true
    → save_verdict_of part c n d room ≡ save_verdict_of part e n d room
unfolding save_verdict_of
same_verdict part c e n d room a b = rw (a, b)

same_out : (part : ℕ) (c e : Chip) (m : Mem) (out : List ℕ) (v : Verdict) → c.line.core.locked ≡ e.line.core.locked → save_out part c m out v ≡ save_out part e m out v
same_out part c e m out (Ok _) h = rw h refl
same_out part c e m out (Err r) h = refl

pub saves_lock_only : SavesLockOnly saving
saves_lock_only part c e m out a b h =
    rw (same_verdict part c e (length m.cells) (length m.ident) (length out) a b, same_out part c e m out (save_verdict_of part e (length m.cells) (length m.ident) (length out)) h)

-- a page that is being locked is not locked yet
lock_old : (f : Facts) (c : Core) (k : List ℕ) (left : ℕ) (ph : Phase) → phase_right_of f c k left ph ≡ true → c.locked ≡ lock_at_reset Old c.locked ph
unfolding phase_right_of cycle_right_of unlocked_right_of
lock_old f c k left Idle e = refl
lock_old f c k left (Receive r) e = refl
lock_old f c k left (Send t) e = refl
lock_old f c k left (Busy (Writing t)) e = refl
lock_old f c k left (Busy Locking) e = not-true c.locked (both (location_right_of f c Ident) (not c.locked) e).1

pub as_after_reset : AsAfterReset
unfolding standby_of state_of next_of act_of reset_of
as_after_reset f enable c h =
    ap (λ (b : Bool). standby_of f b) (lock_old f c.line.core c.latch c.line.left c.line.phase (accepted_phase f c h))
