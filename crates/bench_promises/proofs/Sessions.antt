-- What specs/Together.antt and specs/Ends.antt say of sessions, each from what is proved of a request, its buffer, a chip and its memory.
-- Assumes nothing.
use Rattle.bench_promises.specs.Together.{our_run, WritesSafe, ReadsRight, ReadsEnd, StaysInRange}
use Rattle.bench_promises.specs.Ends.{WritesEnd, DoneCycles, IdentOnce, WritesTaken, ShutRefused, our_turns, TurnsEnd, TurnsRefused}
use Rattle.bench_promises.proofs.Stored.{write_safe, read_right, read_ends}
use Rattle.bench_promises.proofs.Live.{done_cycles as one_each, write_ends, ident_one_cycle, never_ten}
use Rattle.bench_promises.proofs.Turns.{turns_end as turned-end}
use Rattle.bench_promises.proofs.Late.{turns_refused as turned-refused}
use Rattle.bench_promises.proofs.Range.{stays_in_range as stays}
use Rattle.bench_promises.proofs.Shut.{shut_refused as refused}

pub writes_safe : WritesSafe our_run
writes_safe w h = write_safe w.request w.buffer w.chip w.mem w.begins w.choices h

pub reads_right : ReadsRight our_run
reads_right w h = read_right w.request w.buffer w.chip w.mem w.begins w.choices h

pub reads_end : ReadsEnd our_run
reads_end w h n = read_ends w.request w.buffer w.chip w.mem w.begins w.choices h n

pub stays_in_range : StaysInRange our_run
stays_in_range w i =
    let (e, t) = stays w.request w.buffer w.chip w.mem w.choices w.begins i.typed i.ranged in
    record { typed = t; ranged = e }

pub writes_end : WritesEnd our_run
writes_end w t = write_ends w.request w.buffer w.chip w.mem w.begins w.choices t.writes t.allowed t.timely t.enough

pub done_cycles : DoneCycles our_run
done_cycles w h = one_each w.request w.buffer w.chip w.mem w.begins w.choices h

pub ident_once : IdentOnce our_run
ident_once w h t o = ident_one_cycle w.request w.buffer w.chip w.mem w.begins w.choices h t o

pub writes_taken : WritesTaken our_run
writes_taken w h u = never_ten w.request w.buffer w.chip w.mem w.begins w.choices u

pub shut_refused : ShutRefused our_run
shut_refused w h u some n = refused w.request w.buffer w.chip w.mem w.choices h w.begins u some n

pub turns_end : TurnsEnd our_turns
turns_end w d n h u lo hi o = turned-end w.request w.buffer w.chip w.mem d n h w.begins u lo hi o

pub turns_refused : TurnsRefused our_turns
turns_refused w d n h u some o z = turned-refused w.request w.buffer w.chip w.mem d n h w.begins u some o z
