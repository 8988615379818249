use Rattle.bench.specs.Held.{whole, Fit}
use Rattle.bench.specs.Together.{turns_of, last_of, enough}
use Rattle.bench.specs.Tape.{tape_events_of, tape_levels_of, laid_of}
use Rattle.driver.specs.declared.Answer.TheVariants.{Done}
use Rattle.driver.specs.Machine.{our_driver}
use Rattle.chip.specs.Memory.{mem}
use Rattle.parts.specs.Table.{facts_of}
use lib.ListN.{length}
use Rattle.wear.specs.Report.{most_of}
use Prim.Native.Nat.{◌≤◌, ◌+◌, ◌*◌}
use mathlib.Core.Path.{◌≡◌}
use Rattle.bench.proofs.Taped.{Left}
use Rattle.bench.proofs.Worn.{along}
use Rattle.chip.specs.Model.{ours}
use Rattle.bench.proofs.go.Given as goal

abbrev pub invariant-loop-left : goal.invariant-loop-left
invariant-loop-left l =
    (l.left ≤ 6000000)
    × (length l.array ≡ length l.initial.array)
    × (length l.id ≡ length l.initial.id)
    × (length l.buffer ≡ length l.initial.buffer)
    × ((l.held.cycles + l.left ≤ 6000000) × (l.held.clocks + l.left ≤ 6000000))
    × Fit l.part l.enable l.held.chip (length l.initial.array) (length l.initial.id)
    × (turns_of our_driver (ours (facts_of l.part) l.enable) l.d l.left (whole l.held l.buffer (mem l.array l.id)) ≡ turns_of our_driver (ours (facts_of l.part) l.enable) l.d enough (whole l.initial.held l.initial.buffer (mem l.initial.array l.initial.id)))
    × (length l.events ≡ length l.initial.events)
    × (length l.levels ≡ length l.initial.levels)
    × (l.sent + 2 * l.left ≤ 12000000)
    × Left (facts_of l.part) l.enable l.d l.left (whole l.held l.buffer (mem l.array l.id)) l.sent l.events l.levels (length (tape_events_of our_driver (ours (facts_of l.part) l.enable) l.d enough (whole l.initial.held l.initial.buffer (mem l.initial.array l.initial.id)))) (laid_of l.initial.events (tape_events_of our_driver (ours (facts_of l.part) l.enable) l.d enough (whole l.initial.held l.initial.buffer (mem l.initial.array l.initial.id)))) (laid_of l.initial.levels (tape_levels_of our_driver (ours (facts_of l.part) l.enable) l.d enough (whole l.initial.held l.initial.buffer (mem l.initial.array l.initial.id))))
    × (last_of our_driver (ours (facts_of l.part) l.enable) l.d l.left l.answer (whole l.held l.buffer (mem l.array l.id)) ≡ last_of our_driver (ours (facts_of l.part) l.enable) l.d enough (Done 0 0) (whole l.initial.held l.initial.buffer (mem l.initial.array l.initial.id)))
    × (length l.counts ≡ length l.initial.counts)
    × (along (facts_of l.part) l.enable l.d l.left (whole l.held l.buffer (mem l.array l.id)) l.counts ≡ along (facts_of l.part) l.enable l.d enough (whole l.initial.held l.initial.buffer (mem l.initial.array l.initial.id)) l.initial.counts)
    × (l.held.worst ≡ most_of l.counts)

abbrev pub decreases-loop-left : goal.decreases-loop-left
decreases-loop-left l =
    l.left
