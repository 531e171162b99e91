use Rattle.std.proofs.Common.{◌<◌, length, sym, subst, ◌∙◌, ap}
use Rattle.box_store.specs.Shown.{box_shown}
use Rattle.box_store.specs.Store.{Store, HoldsChanges}
use Rattle.box_store.proofs.Trails.{changes_held, newest_changes}
use Rattle.box_store.proofs.store.BoxStore.changed.Goals as goal

pub returns-clause-held : goal.returns-clause-held
returns-clause-held c =
    subst (HoldsChanges c.args.self.now.marks c.args.self.now.box)
    (sym (newest_changes c.self.inside.changes.items _ c.self.inside.start _ _ c.as_slice.ensures.value c.self.invariant.kept ∙ ap (λ (s : Store). s.changed) c.self.view_is))
    (subst (λ (s : Store). HoldsChanges s.marks s.box s.changed) c.self.view_is
    (changes_held (box_shown c.self.inside) _ c.self.invariant.trail (subst (λ (s : Store). 0 < length s.marks) (sym c.self.view_is) c.requires.marked)))
