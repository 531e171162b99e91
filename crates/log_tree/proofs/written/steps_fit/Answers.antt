use Rattle.std.proofs.Common.{rules, ◌<◌, ◌≤◌, length}
use Rattle.log_rows.specs.Ranges.{StepFits}
use Rattle.log_tree.proofs.Writing.{fit_all, fit_more}
use Rattle.log_tree.proofs.written.steps_fit.Goals as goal

pub steps-preserved : goal.steps-preserved
steps-preserved c =
    let exists : c.steps.step-index < length c.args.steps.now = search rules in
    fit_more StepFits c.args.steps.now c.steps.step-index _ exists c.steps.invariant c.step_fits.ensures

pub returns : goal.returns
returns c =
    let done : length c.args.steps.now ≤ c.steps.step-index = search rules in
    record { fit = fit_all StepFits c.args.steps.now c.steps.step-index done c.steps.invariant }
