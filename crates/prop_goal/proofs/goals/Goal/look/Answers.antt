use Rattle.std.proofs.Common.{refl}
use Rattle.prop_goal.proofs.Objectives.{fits_kept, kept_fitted}
use Rattle.prop_goal.proofs.goals.Goal.look.Goals as goal

pub look-requires-clause-fits : goal.look-requires-clause-fits
look-requires-clause-fits c = c.requires.fits.kept

pub look-requires-clause-watched : goal.look-requires-clause-watched
look-requires-clause-watched c = c.requires.fits.watched

pub returns-in-Some-clause-looked : goal.returns-in-Some-clause-looked
returns-in-Some-clause-looked c = record {
  keeps = c.look.ensures.keeps;
  fits = fits_kept c.args.self.now c.look.new.self c.args.self.now.rested c.look.ensures.atoms c.look.ensures.fits;
  fitted = kept_fitted c.args.self.now c.look.new.self c.args.self.now.rested c.look.ensures.atoms c.look.ensures.fitted;
  scenarios = refl;
  watched = refl;
}
