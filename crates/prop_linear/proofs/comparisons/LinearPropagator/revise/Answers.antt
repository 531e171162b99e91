use Rattle.std.proofs.Common.{length}
use Rattle.prop_linear.proofs.comparisons.LinearPropagator.revise.Goals as goal

pub returns-clause-still_fits : goal.returns-clause-still_fits
returns-clause-still_fits c = λ program fits.
    c.ask.ensures.still_fits program (record {
      constraint = fits.constraint;
      watched = fits.watched;
      listed = fits.listed;
      looks = fits.looks;
      places = c.forget.ensures.places (length c.args.self.now.constraint.parts.items) fits.places;
    })

pub returns-clause-fitted_before : goal.returns-clause-fitted_before
returns-clause-fitted_before c = λ program fits.
    let before = c.ask.ensures.fitted_before program fits in
    record {
      constraint = before.constraint;
      watched = before.watched;
      listed = before.listed;
      looks = before.looks;
      places = c.requires.fits.places;
    }
