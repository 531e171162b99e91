use Rattle.std.proofs.Common.{arith, length, rules, subst, sym, ◌<◌}
use Rattle.sopl_base.specs.declared.reason.Reason.{Reason}
use Rattle.prop_shave.specs.Probes.{HasAll}
use Rattle.prop_shave.proofs.Finding.{found_quiet}
use Rattle.prop_shave.proofs.Opening.{open_all, open_more}
use Rattle.term_problem.specs.Reasons.{reason_mentions}
use Rattle.term_program.specs.Programs.{problem_in, root_in}
use Rattle.prop_goal.proofs.kept_worst.KeptWorst.step.Goals as goal

pub cells-preserved : goal.cells-preserved
cells-preserved c =
    let below : c.cells.at < length c.args.watched.now.cells.items = search rules in
    open_more c.args.probe.now c.args.watched.now.cells.items c.cells.at 0 c.cells.invariant below c.in_default-step_at.ensures.none

pub returns-clause-none : goal.returns-clause-none
returns-clause-none c =
    let q = c.args.probe.now in
    let list = c.args.watched.now.cells.items in
    found_quiet q list (subst (λ (r : Reason). HasAll list (reason_mentions (root_in q.program.now) (problem_in q.program.now) r)) (sym c.requires.reason) c.requires.watched.all) c.requires.whole
    (open_all q list c.cells.at (omega (arith, c.cells-test.false)) c.cells.invariant)
