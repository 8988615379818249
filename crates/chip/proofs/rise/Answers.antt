use Prim.Native.Nat.{◌+◌, ◌*◌}
use mathlib.Core.Path.{◌≡◌, ◌∙◌, sym, refl}
use native.Mathlib.Omega.{arith}
use Rattle.chip.proofs.Groups.{group_room, groups_end, rise_none, rise_over, rise_on, rise_end}
use Rattle.chip.proofs.rise.Goals as goal
use Rattle.chip.proofs.rise.Goals.{then-touched, else-touched}

pub loop-j-init : goal.loop-j-init
loop-j-init c = let zero : 0 * c.args.g ≡ 0 = omega arith in (omega arith, rw zero (rise_none _ _ _ _ c.requires.4))

pub touched-requires : goal.touched-requires
touched-requires c = omega (arith, group_room c.loop-j.j _ _ c.loop-j-test.true c.requires.2, c.requires.0)

pub overflow_mul-j : goal.overflow_mul-j
overflow_mul-j c = omega (arith, group_room c.loop-j.j _ _ c.loop-j-test.true c.requires.2, c.requires.0)

pub lift-requires : goal.lift-requires
lift-requires c = (omega (arith, group_room c.loop-j.j _ _ c.loop-j-test.true c.requires.2, c.requires.0), c.loop-j.invariant.1.size)

pub loop-j-preserved : goal.loop-j-preserved
loop-j-preserved c =
    let l = c.loop-j in
    let g = c.args.g in
    let room = group_room l.j _ _ c.loop-j-test.true c.requires.2 in
    let next : (l.j + 1) * g ≡ l.j * g + g = omega arith in (
      omega arith,
      rw next
          (elim c.if-touched.branch [
            | then-touched w ↦ rw w.up-is (rise_on _ _ _ (l.j * g) l.j refl _ l.invariant.1 (omega (arith, room, c.requires.0)) _ (sym w.if-touched.true ∙ c.touched.ensures) w.lift.ensures)
            | else-touched w ↦ rw w.up-is (rise_over _ _ _ (l.j * g) l.j refl _ l.invariant.1 (omega (arith, room, c.requires.0)) (sym w.if-touched.false ∙ c.touched.ensures))
          ]),
    )

pub returns : goal.returns
returns c =
    let l = c.loop-j in
    let r = l.invariant.1 in
    record { whole = rise_end _ _ _ _ _ _ r (groups_end l.j c.args.p c.args.g c.loop-j-test.false c.requires.2) c.requires.0; size = r.size }
