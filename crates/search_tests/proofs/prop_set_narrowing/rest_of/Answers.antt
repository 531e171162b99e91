use Rattle.std.proofs.Common.{◌∙◌, arith, ap, length, List}
use Rattle.sopl_base.specs.declared.interval.Interval.{Interval}
use Rattle.box_problem.specs.Box.{box_of}
use Rattle.term_program.specs.Stated.{box_problem_of}
use Rattle.search_tests.proofs.ProgramResting.{root_inside}
use Rattle.search_tests.proofs.prop_set_narrowing.rest_of.Goals as goal

pub new-requires : goal.new-requires
new-requires c = record { few = omega (arith, ap (λ (xs : List Interval). length xs) c.as_slice.ensures.value, c.in_ok-roots.ensures.few) }

pub fixpoint-requires-clause-inside : goal.fixpoint-requires-clause-inside
fixpoint-requires-clause-inside c =
    root_inside (box_problem_of c.args.program.now).root c.in_ok-roots.roots.items c.in_ok-store.store.box c.in_ok-roots.ensures.root (c.in_ok-store.ensures.root ∙ ap box_of c.as_slice.ensures.value)
