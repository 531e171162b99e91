use Rattle.std.proofs.Common.{◌∙◌, sym}
use Rattle.sopl_base.proofs.Booleans.{not_true}
use Rattle.term_program.specs.Programs.{problem_in, root_in}
use Rattle.prop_shave.proofs.Leaving.{closes_by, left_from_zero, left_to_whole}
use Rattle.prop_shave.proofs.weights.is_enough_with.Goals as goal

pub is_too_little-requires-clause-low : goal.is_too_little-requires-clause-low
is_too_little-requires-clause-low c =
    left_from_zero (root_in c.args.program.now) c.requires.turned.0 (problem_in c.args.program.now) c.args.instance c.in-Some.sum.value c.requires.made.problem c.requires.exists
    (c.in-Some.ensures.sum ∙ c.requires.turned.1)

pub is_too_little-requires-clause-high : goal.is_too_little-requires-clause-high
is_too_little-requires-clause-high c =
    left_to_whole (root_in c.args.program.now) c.requires.turned.0 (problem_in c.args.program.now) c.args.instance c.in-Some.sum.value c.requires.made.problem c.requires.exists
    (c.in-Some.ensures.sum ∙ c.requires.turned.1)

pub returns-in-Some : goal.returns-in-Some
returns-in-Some c = λ b is enough.
    sym (closes_by (root_in c.args.program.now) b (problem_in c.args.program.now) c.args.instance c.in-Some.sum.value c.is_too_little.result c.requires.made.problem c.requires.exists
    (c.in-Some.ensures.sum ∙ is) c.is_too_little.ensures)
    ∙ not_true c.is_too_little.result enough
