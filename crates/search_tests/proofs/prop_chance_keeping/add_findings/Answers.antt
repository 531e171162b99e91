use Rattle.std.proofs.Common.{pos, rules}
use Rattle.sopl_base.specs.declared.reason.Side.TheVariants.{Ge}
use Rattle.box_problem.specs.Steps.{IsCut}
use Rattle.term_program.specs.Stated.{box_problem_of}
use Rattle.search_tests.proofs.GoingBack.{inside_raised}
use Rattle.search_tests.proofs.prop_chance_keeping.add_findings.Goals as goal

pub add_both-requires-clause-inside : goal.add_both-requires-clause-inside
add_both-requires-clause-inside c =
    let cut : IsCut c.args.store.now.box 0 Ge (pos 2) = search rules in
    inside_raised c.args.store.now.box c.raise.new.store.box (box_problem_of c.args.program.now).root 0 Ge (pos 2) c.requires.inside cut c.in_ok-raise.ensures.raised
