use mathlib.Core.Path.{◌∙◌, refl, ap}
use Rattle.chip.specs.Memory.{Mem, mem, no_latch, lost_of}
use Rattle.chip.proofs.Groups.{lost_is}
use Rattle.chip.proofs.lose.Goals as goal

pub rise-requires : goal.rise-requires
unfolding no_latch
rise-requires c =
    let sound = c.facts_of-f.ensures.range in
    (sound.page_most, sound.group_pos, sound.groups, c.requires, refl)

pub store-requires : goal.store-requires
store-requires c = c.rise.ensures.size

pub returns-in-Old : goal.returns-in-Old
unfolding lost_of
returns-in-Old c = record { cells = simp c.in-Old.is; ident = simp c.in-Old.is }

pub returns-in-Lent : goal.returns-in-Lent
returns-in-Lent c =
    let a = c.args in
    let t = c.store.ensures in
    let rise = c.rise.ensures.whole in
    let whole =
    lost_is _ _ a.line a.latch.now a.page.now _ (mem a.array.now a.id.now) _ _ c.facts_of-f.ensures.value c.in-Lent.is rise in
    record { cells = t.cells ∙ ap (λ (m : Mem). m.cells) whole; ident = t.ident ∙ ap (λ (m : Mem). m.ident) whole }
