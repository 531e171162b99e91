use Rattle.std.proofs.Common.{rules, subst, sym}
use Rattle.box_problem.specs.Box.{Box, Inside}
use Rattle.term_math.specs.Shown.{IsPart, box_under}
use Rattle.term_math.proofs.Inner.{part_inside}
use Rattle.term_program.specs.Programs.{root_in}
use Rattle.term_program.proofs.over.goal_ends_in.Goals as goal

pub goal_interval-found-requires-clause-inside : goal.goal_interval-found-requires-clause-inside
goal_interval-found-requires-clause-inside c =
    let part : IsPart (root_in c.args.program.now) c.part_of.result = search rules in
    subst (λ (b : Box). Inside b (root_in c.args.program.now)) (sym c.replaced-changed.ensures)
    (part_inside (root_in c.args.program.now) (box_under c.view_of.result) c.part_of.result
    (subst (λ (b : Box). Inside b (root_in c.args.program.now)) (sym c.view_of.ensures.under) c.requires.inside) part)
