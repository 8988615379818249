-- All demands are kept: each field is a promise that is proved in the crate that its name comes from.
-- Assumes nothing.
use mathlib.Core.Path.{◌≡◌, refl}
use Prim.Native.Nat.{ℕ, ◌+◌, ◌<◌, ◌≤◌}
use mathlib.Core.Logic.{◌⊎◌}
use Rattle.parts.proofs.Tests.{either}
use Rattle.chip.specs.Memory.{cells_of}
use Rattle.chip_laws.proofs.Bytes.{byte_in_lem, byte_out}
use Rattle.chip_promises.proofs.Numbers.{deliver_numbers, step_numbers, run_numbers}
use Rattle.chip_promises.proofs.Refused.{refused_changes_nothing}
use Rattle.chip_promises.proofs.Pages.{calls_pages_from_delivery, counts_every_page}
use Rattle.chip_promises.proofs.Stops.{calls_cycles_are_stops_from_delivery}
use Rattle.chip_promises.proofs.Lock.{calls_lock_holds}
use Rattle.chip_promises.proofs.Pin.{calls_pin_protects}
use Rattle.page.proofs.Promise.{refuses_rightly}
use Rattle.image.proofs.Numbers.{save_numbers, load_numbers}
use Rattle.trace.proofs.Numbers.{trace_numbers}
use Rattle.driver.specs.declared.Answer.TheVariants.{Done}
use Rattle.driver.specs.Request.{from_of}
use Rattle.driver_promises.proofs.Numbers.{request_numbers}
use Rattle.bench_promises.specs.Ground.{target_of}
use Rattle.bench_promises.specs.Together.{Session, Reads, other_of, byte_in}
use Rattle.bench_promises.proofs.Sessions.{writes_safe, reads_right, reads_end, writes_end}
use Rattle.bench_promises.proofs.Accepted.{steps_accepted, calls_are_run}
use Rattle.bench_promises.proofs.Calls.{bench_promises_lem}
use Rattle.bench_promises.proofs.Numbers.{bench_numbers}
use Rattle.bench_promises.proofs.Trials.{trials_right}
use Rattle.sapwoodle.specs.Promises.{BytesKept}
use Rattle.sapwoodle.proofs.chips.Kept.{step_keeps, run_keeps, deliver_keeps}
use Rattle.sapwoodle.proofs.images.Kept.{save_keeps, load_keeps}
use Rattle.sapwoodle.proofs.hexes.Kept.{hex_read_keeps, hex_write_keeps}
use Rattle.sapwoodle.proofs.captures.Kept.{capture_keeps, events_keep, tally_keeps}
use Rattle.sapwoodle.proofs.drivers.Kept.{begin_keeps, next_keeps}
use Rattle.sapwoodle.proofs.runs.Kept.{bench_keeps}
use Rattle.determined.proofs.Functions.{every_answer}
use Rattle.determined.proofs.Machines.{every_machine}
use Rattle.demands.specs.Demands.{Demand1, now, says, Demand2, Demand3, Demands}

bytes_kept : BytesKept
bytes_kept = record { deliver = deliver_keeps; step = step_keeps; run = run_keeps; save = save_keeps; load = load_keeps; hex_read = hex_read_keeps; hex_write = hex_write_keeps; capture = capture_keeps; events = events_keep; tally = tally_keeps; begin = begin_keeps; next = next_keeps; bench = bench_keeps }

demand_1 : Demand1
demand_1 =
    record {
      answered = every_answer;
      code = every_machine;
      delivered = deliver_numbers;
      stepped = step_numbers;
      ran = run_numbers;
      requested = request_numbers;
      benched = bench_numbers;
      looked = refuses_rightly;
      saved = save_numbers;
      loaded = load_numbers;
      traced = trace_numbers;
      chip_kept = refused_changes_nothing;
      bytes_kept = bytes_kept;
    }

-- of a write, and of a read
module _ (w : Session) where
  unread : Reads w → (i : ℕ) → byte_in w.request (now w).mem i ≡ byte_in w.request w.mem i
  unread h i = rw (reads_right w h).mem refl

  all : (q n : ℕ) → says w ≡ Done q n → n ≡ w.request.length
  all q n e = either w.request.reads (λ h. (reads_right w h).done q n e) (λ h. (writes_safe w h).done q n e)

  around : (i : ℕ) → (i < from_of w.request.place) ⊎ (from_of w.request.place + w.request.length ≤ i) → byte_in w.request (now w).mem i ≡ byte_in w.request w.mem i
  around i o = either w.request.reads (λ h. unread h i) (λ h. (writes_safe w h).outside i o)

  other : cells_of (other_of (target_of w.request.place)) (now w).mem ≡ cells_of (other_of (target_of w.request.place)) w.mem
  other = either w.request.reads (λ h. rw (reads_right w h).mem refl) (λ h. (writes_safe w h).other)

  lock : (now w).chip.line.core.locked ≡ w.chip.line.core.locked
  lock = either w.request.reads (λ h. (reads_right w h).lock) (λ h. (writes_safe w h).lock)

demand_2 : Demand2
demand_2 =
    record {
      trials = trials_right;
      bytes = (byte_in_lem, byte_out);
      written = λ w h. (writes_safe w h).reported;
      all = all;
      read = λ w h. (reads_right w h).read;
      reads = reads_end;
      around = around;
      other = other;
      lock = lock;
      unread = λ w h. (reads_right w h).mem;
      calls = (calls_are_run, steps_accepted);
      run = bench_promises_lem;
    }

demand_3 : Demand3
demand_3 =
    record {
      pages = calls_pages_from_delivery;
      counted = counts_every_page;
      cycles = calls_cycles_are_stops_from_delivery;
      lock = calls_lock_holds;
      pin = calls_pin_protects;
      ends = λ w t. ((writes_end w t).polls, (writes_end w t).done);
      one_each = λ w t. (writes_end w t).cycles;
    }

pub demands : Demands
demands = record { first = demand_1; second = demand_2; third = demand_3 }
