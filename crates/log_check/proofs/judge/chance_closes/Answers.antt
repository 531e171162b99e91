use Rattle.term_program.specs.Programs.{problem_in, root_in}
use Rattle.sopl_base.specs.declared.reason.Reason.TheVariants.{Chance}
use Rattle.std.proofs.Common.{None, rules}
use Rattle.prop_shave.proofs.Leaving.{closes_by, left_from_zero, left_to_whole}
use Rattle.log_check.proofs.Judging.{refutes_is}
use Rattle.log_check.proofs.judge.chance_closes.Goals as goal

pub is_too_little-requires-clause-low : goal.is_too_little-requires-clause-low
is_too_little-requires-clause-low c =
    left_from_zero (root_in c.args.program.now) c.args.store.now.box (problem_in c.args.program.now) c.args.instance c.in-Some.left.value c.requires.made.problem (search rules)
    c.in-Some.ensures.left

pub is_too_little-requires-clause-high : goal.is_too_little-requires-clause-high
is_too_little-requires-clause-high c =
    left_to_whole (root_in c.args.program.now) c.args.store.now.box (problem_in c.args.program.now) c.args.instance c.in-Some.left.value c.requires.made.problem (search rules)
    c.in-Some.ensures.left

pub returns-in-Some-clause-closes : goal.returns-in-Some-clause-closes
returns-in-Some-clause-closes c =
    refutes_is c.args.program.now (Chance c.args.instance) c.args.store.now.box None c.is_too_little.result
    (closes_by (root_in c.args.program.now) c.args.store.now.box (problem_in c.args.program.now) c.args.instance c.in-Some.left.value c.is_too_little.result c.requires.made.problem (search rules)
    c.in-Some.ensures.left c.is_too_little.ensures)
