-- `benching` keeps what is promised of it.
-- Assumes nothing.
use Rattle.std.specs.Prelude.{None, Err}
use Prim.Native.Nat.{ℕ}
use mathlib.Core.Path.{◌≡◌, refl, sym, ap, ◌∙◌}
use mathlib.Core.Bool.{Bool, true, false, not}
use mathlib.Core.List.{List}
use lib.ListN.{length}
use borrow.Author.Tests.{eq-eqb}
use Rattle.parts.specs.Bytes.{AllBelow}
use Rattle.parts.proofs.Laws.{branch}
use Rattle.state.specs.declared.Chip.{Chip}
use Rattle.state.specs.Range.{in_range_of}
use Rattle.pack_chip.specs.Layout.{chip_length, packed_chip_of, pack_chip_into, holds_chip_of, unpacked_chip_of}
use Rattle.pack_chip.specs.Promises.{ChipFits}
use Rattle.pack_chip.proofs.Laws.{holds_long}
use Rattle.pack_chip.proofs.Kept.{chip_packs_back, chip_unpacks_back}
use Rattle.parts.specs.declared.Refusal.{Refusal}
use Rattle.parts.specs.declared.Refusal.TheVariants.{NoPart, WrongEnable, WrongBuffer, BadState, ShortBuffer, Beyond, BadLimit}
use Rattle.parts.specs.Verdict.{Verdict}
use Rattle.parts.specs.Table.{facts_of, enable_right_of, buffers_right_of}
use Rattle.parts.specs.Refusals.{spot_of, place_told, verdict_number_of, verdict_place_of, claim_of, lent_verdict_of}
use Rattle.chip.specs.Model.{ours}
use Rattle.chip.specs.Calls.{held_verdict_of}
use Rattle.driver.specs.declared.Request.{Request}
use Rattle.driver.specs.Request.{from_of, room_of, there_of, beyond_at, limit_of, judge_of}
use Rattle.driver.specs.Machine.{our_driver}
use Rattle.bench.specs.declared.Report.{Report}
use Rattle.bench.specs.Calls.{other_length_of, short_of, late_of, bench_verdict_of, refused_by, BenchLeft, bench_by, bench_of}
use Rattle.sapwoodle.specs.Runs.{chip_bytes_after_bench, benching}
use Rattle.sapwoodle.specs.Promises.{BenchKeeps, BenchIsBenchs}
use Rattle.sapwoodle.proofs.answers.Laws.{sooner_one}

into : (s : List ℕ) (c : Chip) → holds_chip_of s ≡ true → pack_chip_into s c ≡ packed_chip_of c
unfolding pack_chip_into
into s c h = rw (eq-eqb (length s) chip_length (holds_long s h)) refl

-- a chip left as it was leaves its bytes as they were
pub kept_same : (s : List ℕ) → AllBelow 256 s → chip_bytes_after_bench s (unpacked_chip_of s) ≡ s
unfolding chip_bytes_after_bench
kept_same s b =
    branch (λ (l : List ℕ). l ≡ s) (holds_chip_of s) (λ h. rw (into s (unpacked_chip_of s) h) (chip_unpacks_back s b h).1) (λ _. refl)

-- what refuses a run before it begins has no place
abbrev NoPlace : Verdict → Type 0
NoPlace v = verdict_place_of v ≡ 0

claim_none : (wrong : Bool) (r : Refusal) → spot_of r ≡ None → NoPlace (claim_of wrong r)
claim_none true r h = ap place_told h
claim_none false r h = refl

bench_none : (r : Request) (enable d : ℕ) (c : Chip) (n i b : ℕ) → NoPlace (bench_verdict_of r enable d c n i b)
unfolding bench_verdict_of judge_of held_verdict_of lent_verdict_of
bench_none r enable d c n i b =
    let f = facts_of r.part in
    sooner_one NoPlace _ _
    (sooner_one NoPlace _ _ (claim_none (not f.known) NoPart refl)
    (sooner_one NoPlace _ _ (claim_none (not (enable_right_of f r.enable)) WrongEnable refl)
    (sooner_one NoPlace _ _ (claim_none (beyond_at (from_of r.place) r.length (room_of f r.place) (there_of f r.place)) Beyond refl)
    (claim_none (limit_of r.reads r.budget) BadLimit refl))))
    (sooner_one NoPlace _ _
    (sooner_one NoPlace _ _ (sooner_one NoPlace _ _ (claim_none (not f.known) NoPart refl) (claim_none (not (buffers_right_of f n i)) WrongBuffer refl))
    (sooner_one NoPlace _ _ (claim_none (not (enable_right_of f enable)) WrongEnable refl) (claim_none (not (in_range_of f c)) BadState refl)))
    (sooner_one NoPlace _ _ (claim_none (other_length_of r.reads r.length b) BadState refl)
    (sooner_one NoPlace _ _ (claim_none (short_of r.reads r.length b) ShortBuffer refl) (claim_none (late_of d) BadLimit refl))))

pub bench_keeps : BenchKeeps benching
bench_keeps r enable d s m b x a h =
    let q : bench_of r enable d (unpacked_chip_of s) m b ≡ bench_by our_driver (ours (facts_of r.part) enable) r d (unpacked_chip_of s) m b (Err x) =
    ap (bench_by our_driver (ours (facts_of r.part) enable) r d (unpacked_chip_of s) m b) h in
    let count : (of : Report → ℕ) → of (bench_of r enable d (unpacked_chip_of s) m b).report ≡ of (refused_by x (unpacked_chip_of s)) = λ of. ap (λ (l : BenchLeft). of l.report) q in (
      count (λ p. verdict_number_of p.verdict),
      ap (λ (l : BenchLeft). chip_bytes_after_bench s l.report.chip) q ∙ kept_same s a,
      ap (λ (l : BenchLeft). l.mem) q,
      ap (λ (l : BenchLeft). l.buffer) q,
      count (λ p. verdict_place_of p.verdict) ∙ (ap verdict_place_of (sym h) ∙ bench_none r enable d (unpacked_chip_of s) (length m.cells) (length m.ident) (length b)),
      count (λ p. p.polls),
      count (λ p. p.bytes),
      count (λ p. p.cycles),
      count (λ p. p.clocks),
    )

kept_over : (c n : Chip) → ChipFits c → chip_bytes_after_bench (packed_chip_of c) n ≡ packed_chip_of n
unfolding chip_bytes_after_bench
kept_over c n f = rw (chip_packs_back c f).1 (into (packed_chip_of c) n (chip_packs_back c f).1)

pub bench_is_benchs : BenchIsBenchs benching
bench_is_benchs r enable d c m b f = rw ((chip_packs_back c f).2, kept_over c (bench_of r enable d c m b).report.chip f) refl
