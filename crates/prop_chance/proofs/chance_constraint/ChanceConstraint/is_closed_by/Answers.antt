use Rattle.std.proofs.Common.{◌∙◌, ap, sym}
use Rattle.sopl_base.specs.declared.reason.Reason.{Reason}
use Rattle.term_problem.specs.Refuted.{refutes}
use Rattle.term_program.specs.Programs.{problem_in, root_in}
use Rattle.prop_shave.proofs.Leaving.{closes_by, left_from_zero, left_to_whole}
use Rattle.prop_chance.proofs.chance_constraint.ChanceConstraint.is_closed_by.Goals as goal

pub is_too_little-requires-clause-low : goal.is_too_little-requires-clause-low
is_too_little-requires-clause-low c =
    left_from_zero (root_in c.args.probe.now.program.now) c.args.probe.now.store.now.box (problem_in c.args.probe.now.program.now) c.args.self.now.instance c.args.weight.now.left.value
    c.requires.asked.made.problem c.requires.exists c.requires.known.left

pub is_too_little-requires-clause-high : goal.is_too_little-requires-clause-high
is_too_little-requires-clause-high c =
    left_to_whole (root_in c.args.probe.now.program.now) c.args.probe.now.store.now.box (problem_in c.args.probe.now.program.now) c.args.self.now.instance c.args.weight.now.left.value
    c.requires.asked.made.problem c.requires.exists c.requires.known.left

pub returns : goal.returns
returns c =
    let q = c.args.probe.now in
    closes_by (root_in q.program.now) q.store.now.box (problem_in q.program.now) c.args.self.now.instance c.args.weight.now.left.value c.is_too_little.result c.requires.asked.made.problem
    c.requires.exists
    c.requires.known.left c.is_too_little.ensures
    ∙ sym (ap (λ (r : Reason). refutes (root_in q.program.now) (problem_in q.program.now) r q.store.now.box q.best) c.requires.reason)
