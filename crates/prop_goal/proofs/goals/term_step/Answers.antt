use Rattle.std.proofs.Common.{◌∙◌, subst, sym}
use Rattle.sopl_base.specs.declared.reason.Reason.{Reason}
use Rattle.prop_shave.specs.Probes.{HasAll}
use Rattle.term_problem.specs.Reasons.{reason_mentions}
use Rattle.term_nodes.specs.Things.{term_at}
use Rattle.term_program.specs.Programs.{problem_in, root_in, things_in}
use Rattle.prop_goal.proofs.Defined.{always_rests}
use Rattle.prop_goal.proofs.Objectives.{undefined_cells}
use Rattle.prop_goal.proofs.goals.term_step.Goals as goal

pub first_step-requires-clause-all : goal.first_step-requires-clause-all
first_step-requires-clause-all c =
    let root = root_in c.args.probe.now.program.now in
    let terms = problem_in c.args.probe.now.program.now in
    subst (λ (r : Reason). HasAll c.term_cells.result.now (reason_mentions root terms r)) (sym c.requires.reason)
    (undefined_cells root terms c.args.scenario _ c.term_cells.result.now c.requires.term c.term_cells.ensures.cells)

pub returns-in-Always-clause-none : goal.returns-in-Always-clause-none
returns-in-Always-clause-none c =
    always_rests c.args.probe.now c.args.scenario (term_at (things_in c.args.probe.now.program.now) c.args.term.0) c.requires.asked c.requires.reason c.requires.term (sym c.range_of.ensures.mark
    ∙ c.in-Always.is)
