use Rattle.std.proofs.Common.{subst, sym}
use Rattle.box_problem.specs.Box.{Box, Inside}
use Rattle.term_math.specs.Shown.{box_under}
use Rattle.term_math.proofs.Inner.{part_inside}
use Rattle.term_store.specs.Stores.{root_of}
use Rattle.term_store.proofs.store.TermStore.range_in.Goals as goal

pub range_of-requires-clause-inside : goal.range_of-requires-clause-inside
range_of-requires-clause-inside c =
    subst (λ (b : Box). Inside b (root_of c.args.self.now)) (sym c.replaced-changed.ensures)
    (part_inside (root_of c.args.self.now) (box_under c.args.view.now) c.args.part.now c.requires.inside c.requires.part)
