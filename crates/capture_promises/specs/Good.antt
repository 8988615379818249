-- A capture of a board that is as the model says is not marked: the wires of a run of the model itself, drawn, are run as that run (document 02,
-- §3): proofs/Good.antt.
-- Assumes nothing.
use Rattle.std.specs.Prelude.{ℕ, ◌<◌, ◌≡◌, true, List, [], ◌∷◌, length, Ok}
use Rattle.parts.specs.Bytes.{AllBelow}
use Rattle.parts.specs.Table.{facts_of}
use Rattle.state.specs.declared.Chip.{Chip}
use Rattle.chip.specs.Memory.{Mem}
use Rattle.chip.specs.Model.{Model, ours}
use Rattle.chip.specs.Runs.{after_of, memory_of, levels_of, cycles_of}
use Rattle.chip_promises.specs.Numbers.{Ready}
use Rattle.capture.specs.declared.Mark.TheVariants.{Same}
use Rattle.capture.specs.Ends.{ends_in}
use Rattle.capture.specs.Marks.{place_of, clocks_in, compared_of}
use Rattle.capture.specs.Wires.{lined_of, drawn_of}
use Rattle.capture_promises.specs.Machines.{Seeing}
use Rattle.capture_promises.specs.Running.{stripped_of, EndsPlaced}

-- the levels of the line in a run over a master's events: low where master or chip pulls it low
abbrev pub on_line : Model → Chip → Mem → List ℕ → List ℕ
on_line M c m [] = []
on_line M c m (e ∷ es) = lined_of e (M.level c m e) ∷ on_line M (M.next c e) (M.store c m e) es

-- the model runs on the line's levels as on the master's: where it pulls low it does not look
abbrev pub LineLevels : Type 0
LineLevels =
    (part enable : ℕ) (c : Chip) (m : Mem) (es : List ℕ)
    → (after_of (ours (facts_of part) enable) c (on_line (ours (facts_of part) enable) c m es) ≡ after_of (ours (facts_of part) enable) c es)
    × (memory_of (ours (facts_of part) enable) c m (on_line (ours (facts_of part) enable) c m es) ≡ memory_of (ours (facts_of part) enable) c m es)
    × (levels_of (ours (facts_of part) enable) c m (on_line (ours (facts_of part) enable) c m es) ≡ levels_of (ours (facts_of part) enable) c m es)
    × (cycles_of (ours (facts_of part) enable) c (on_line (ours (facts_of part) enable) c m es) ≡ cycles_of (ours (facts_of part) enable) c es)

-- the master releases the line at every clock that is compared: the chip's data bits and acknowledges
abbrev pub Releases : Model → Chip → Mem → ℕ → List ℕ → Type 0
Releases M c m place [] = Unit {0}
Releases M c m place (e ∷ es) =
    (e < 2 → compared_of c.line place ≡ true → e ≡ 1) × Releases M (M.next c e) (M.store c m e) (place_of place e) es

-- a master's events: clocks, Starts, Stops and ends of cycles, the ends where the line shows them
pub record Mastered (M : Model) (c : Chip) (m : Mem) (es : List ℕ) : Type 0 where
  pub codes : AllBelow 5 es
  pub releases : Releases M c m 0 es
  pub shown : EndsPlaced M c (on_line M c m es)

-- the wires that an analyser would see
abbrev pub wires_of : Model → Chip → Mem → List ℕ → List ℕ
wires_of M c m es = drawn_of (stripped_of (on_line M c m es))

-- not marked, and the run itself: its cycles, its state, its stored bytes
abbrev pub GoodUnmarked : Seeing → Type 0
GoodUnmarked see =
    (part enable : ℕ) (c : Chip) (m : Mem) (es : List ℕ) → Ready part enable c m → Mastered (ours (facts_of part) enable) c m es
    → see part enable c m true (wires_of (ours (facts_of part) enable) c m es)
    ≡ record {
      answer =
          record {
            verdict = Ok tt;
            events = length (stripped_of es);
            clocks = clocks_in es;
            ends = ends_in es;
            cycles = cycles_of (ours (facts_of part) enable) c es;
            mark = Same;
            chip = after_of (ours (facts_of part) enable) c es;
          };
      mem = memory_of (ours (facts_of part) enable) c m es;
    }
