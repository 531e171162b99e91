use Rattle.std.proofs.Common.{List, subst, sym, ℕ}
use Rattle.sopl_base.specs.declared.reason.Reason.{Reason}
use Rattle.sopl_base.specs.declared.reason.Reason.TheVariants.{Chance}
use Rattle.prop_shave.specs.Probes.{HasAll}
use Rattle.term_problem.specs.Reasons.{reason_mentions}
use Rattle.term_program.specs.Programs.{problem_in, root_in}
use Rattle.prop_chance.proofs.chance_constraint.ChanceConstraint.finding_by_all.Goals as goal

pub finding-requires-clause-all : goal.finding-requires-clause-all
finding-requires-clause-all c =
    let root = root_in c.args.probe.now.program.now in
    let terms = problem_in c.args.probe.now.program.now in
    subst (λ (r : Reason). HasAll c.as_slice.result.now (reason_mentions root terms r)) (sym c.requires.reason)
    (subst (λ (cells : List ℕ). HasAll cells (reason_mentions root terms (Chance c.args.self.now.instance))) (sym c.as_slice.ensures.value) c.requires.constraint.all)
