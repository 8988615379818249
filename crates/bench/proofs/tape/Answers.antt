use native.Mathlib.Omega.{arith}
use Rattle.bench.proofs.Taped.{noted, counted, few_noted}
use Rattle.bench.proofs.tape.Goals as goal

pub note-requires : goal.note-requires
note-requires c = omega (arith, few_noted c.args.ended _ _ c.note-next.ensures.at)

pub returns : goal.returns
returns c =
    let a = c.args in
    let n = c.note-next in
    let m = c.note in record { at = counted a.ended a.sends 4 a.code a.at _ _ n.ensures.at m.ensures.at; events = noted a.ended a.sends 4 a.code a.at _ _ _ _ n.ensures.at n.ensures.events m.ensures.events; levels = noted a.ended a.sends 2 a.level a.at _ _ _ _ n.ensures.at n.ensures.levels m.ensures.levels }
