use Rattle.std.proofs.Common.{length}
use Rattle.prop_linear.proofs.comparisons.LinearWatching.touched.Goals as goal

pub returns-clause-in_step : goal.returns-clause-in_step
returns-clause-in_step c = λ program before after agree step.
    let k = c.args.self.now.constraint in
    record { sum = c.tell.ensures.sums k.constant k.parts.items before after agree step.sum; rested = tt }

pub returns-clause-fitted_before : goal.returns-clause-fitted_before
returns-clause-fitted_before c = λ program fits. record {
  constraint = fits.constraint;
  watched = fits.watched;
  listed = fits.listed;
  looks = fits.looks;
  places = c.tell.ensures.places_before (length c.args.self.now.constraint.parts.items) fits.places;
}
