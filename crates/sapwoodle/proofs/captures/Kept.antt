-- `capturing`, `listing` and `tallying` keep what is promised of them.
-- Assumes nothing.
use Rattle.std.specs.Prelude.{Ok, Err}
use Prim.Native.Nat.{ℕ}
use mathlib.Core.Path.{◌≡◌, refl, ap, ◌∙◌}
use mathlib.Core.Bool.{Bool}
use mathlib.Core.List.{List}
use lib.ListN.{length}
use native.Mathlib.Omega.{arith}
use Rattle.parts.specs.declared.Refusal.TheVariants.{BadState}
use Rattle.parts.specs.Verdict.{Verdict}
use Rattle.parts.specs.Table.{facts_of}
use Rattle.parts.specs.Refusals.{verdict_number_of, sooner_of}
use Rattle.parts.proofs.Claims.{given_first}
use Rattle.state.specs.declared.Chip.{Chip}
use Rattle.chip.specs.Model.{Model, ours}
use Rattle.chip.specs.Memory.{Mem}
use Rattle.capture.specs.declared.Tally.{Tally}
use Rattle.capture.specs.Samples.{events_of, judge_of}
use Rattle.capture.specs.Tallies.{tally, counted_by, counted_of}
use Rattle.capture.specs.Calls.{seen_verdict_of, seen_by, seen_left_of, seeing_of, list_verdict_of, listed_by, listed_out}
use Rattle.capture.proofs.Sampled.{judge_later}
use Rattle.pack_chip.specs.Layout.{packed_chip_of, unpacked_chip_of}
use Rattle.pack_chip.specs.Promises.{ChipFits}
use Rattle.pack_chip.proofs.Kept.{chip_packs_back}
use Rattle.sapwoodle.specs.Answers.{chip_bytes_after}
use Rattle.sapwoodle.specs.Captures.{captured_bytes, capturing, listing, tallying}
use Rattle.sapwoodle.specs.Promises.{CaptureKeeps, EventsKeep, TallyKeeps, CaptureIsChips, CaptureRefuses4}
use Rattle.sapwoodle.proofs.chips.Kept.{over, out}

-- ---- a refused call changes nothing

capture_keeps_by : (M : Model) (c : Chip) (s : List ℕ) (m : Mem) (bus : Bool) (ss : List ℕ) (v : Verdict)
    → ((captured_bytes s (seen_left_of M c m bus ss v)).number ≡ 0 → ⊥)
    → ((captured_bytes s (seen_left_of M c m bus ss v)).state ≡ s) × ((captured_bytes s (seen_left_of M c m bus ss v)).stored ≡ m)
    × ((captured_bytes s (seen_left_of M c m bus ss v)).cycles ≡ 0) × ((captured_bytes s (seen_left_of M c m bus ss v)).level ≡ 2)
capture_keeps_by M c s m bus ss (Ok _) h = absurd (h refl)
capture_keeps_by M c s m bus ss (Err r) h = (refl, refl, refl, refl)

pub capture_keeps : CaptureKeeps capturing
capture_keeps part enable s m bus ss h =
    capture_keeps_by (ours (facts_of part) enable) (unpacked_chip_of s) s m bus ss
    (seen_verdict_of part enable (unpacked_chip_of s) (length m.cells) (length m.ident) ss) h

events_keep_by : (es out : List ℕ) (v : Verdict) → (verdict_number_of (listed_by es v).verdict ≡ 0 → ⊥) → ((listed_by es v).length ≡ 0) × (listed_out es out v ≡ out)
events_keep_by es out (Ok _) h = absurd (h refl)
events_keep_by es out (Err r) h = (refl, refl)

pub events_keep : EventsKeep listing
events_keep bus ss out h = events_keep_by (events_of bus ss) out (list_verdict_of bus ss (length out)) h

tally_keeps_by : (t : Tally) (bus : Bool) (ss : List ℕ) (v : Verdict) → (verdict_number_of v ≡ 0 → ⊥) → counted_by t bus ss v ≡ t
tally_keeps_by t bus ss (Ok _) h = absurd (h refl)
tally_keeps_by t bus ss (Err r) h = refl

pub tally_keeps : TallyKeeps tallying
unfolding counted_of
tally_keeps bus ss starts stops bytes unacknowledged h = tally_keeps_by (tally starts stops bytes unacknowledged) bus ss (judge_of ss) h

-- ---- on the bytes of a state

capture_state : (M : Model) (c : Chip) (m : Mem) (bus : Bool) (ss : List ℕ) (v : Verdict) → ChipFits c
    → chip_bytes_after (seen_by M c m bus ss v).verdict (seen_by M c m bus ss v).chip (packed_chip_of c) ≡ packed_chip_of (seen_by M c m bus ss v).chip
capture_state M c m bus ss (Ok _) f = over c (seen_by M c m bus ss (Ok tt)).chip f
capture_state M c m bus ss (Err r) f = refl

pub capture_is_chips : CaptureIsChips capturing
capture_is_chips part enable c m bus ss f = (
  ap (λ (k : Chip). captured_bytes (packed_chip_of c) (seeing_of part enable k m bus ss)) back,
  ap (λ (k : Chip). (captured_bytes (packed_chip_of c) (seeing_of part enable k m bus ss)).state) back
      ∙ capture_state (ours (facts_of part) enable) c m bus ss (seen_verdict_of part enable c (length m.cells) (length m.ident) ss) f,
)
  where
    back : unpacked_chip_of (packed_chip_of c) ≡ c
    back = (chip_packs_back c f).2

-- ---- bytes that hold no state

pub capture_refuses_4 : CaptureRefuses4 capturing
unfolding seen_verdict_of
capture_refuses_4 part enable s m bus ss k n a d h =
    ap (λ (w : Verdict). verdict_number_of (seen_by (ours (facts_of part) enable) (unpacked_chip_of s) m bus ss w).verdict)
    (ap (λ (w : Verdict). sooner_of w (judge_of ss)) (out part enable s m k n a d h) ∙ given_first BadState (judge_of ss) (judge_later _ ss (omega arith)))
