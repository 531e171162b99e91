use Rattle.std.proofs.Common.{subst, sym}
use Rattle.box_problem.specs.Box.{Box, Inside}
use Rattle.term_math.specs.Shown.{box_under}
use Rattle.term_math.proofs.Inner.{part_inside}
use Rattle.term_store.specs.Stores.{root_of}
use Rattle.term_store.proofs.store.TermStore.kleene_in.Goals as goal

pub kleene-requires-clause-inside : goal.kleene-requires-clause-inside
kleene-requires-clause-inside c =
    subst (λ (b : Box). Inside b (root_of c.args.self.now)) (sym c.replaced-changed.ensures)
    (part_inside (root_of c.args.self.now) (box_under c.args.view.now) c.args.part.now c.requires.inside c.requires.part)
