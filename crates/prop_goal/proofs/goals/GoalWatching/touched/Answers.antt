use Rattle.std.proofs.Common.{None}
use Rattle.prop_goal.proofs.Objectives.{fits_kept, kept_fitted}
use Rattle.prop_goal.proofs.goals.GoalWatching.touched.Goals as goal

pub returns-clause-in_step : goal.returns-clause-in_step
returns-clause-in_step c = λ program before after agree step.
    record { keeps = c.tell.ensures.keeps program c.args.self.now.watched.cells.items before after agree step.keeps; rested = tt }

pub returns-clause-still_fits : goal.returns-clause-still_fits
returns-clause-still_fits c = λ q fits. fits_kept c.args.self.now c.tell.new.self None c.tell.ensures.atoms c.tell.ensures.fits q fits

pub returns-clause-fitted_before : goal.returns-clause-fitted_before
returns-clause-fitted_before c = λ q fits. kept_fitted c.args.self.now c.tell.new.self None c.tell.ensures.atoms c.tell.ensures.fitted q fits
