use Rattle.std.proofs.Common.{length}
use Rattle.prop_goal.proofs.Objectives.{fits_kept, kept_fitted}
use Rattle.prop_goal.proofs.goals.GoalPropagator.revise.Goals as goal

pub ask-requires-clause-fits : goal.ask-requires-clause-fits
ask-requires-clause-fits c =
    let p = c.args.self.now in
    fits_kept p c.forget.new.self p.rested c.forget.ensures.atoms c.forget.ensures.fits c.args.program.now c.requires.fits

pub ask-requires-clause-keeps : goal.ask-requires-clause-keeps
ask-requires-clause-keeps c =
    let cells = c.args.self.now.watched.cells.items in
    c.forget.ensures.keeps (length cells) cells c.args.store.now.box c.requires.fits.kept

pub returns-clause-still_fits : goal.returns-clause-still_fits
returns-clause-still_fits c = λ q fits.
    let p = c.args.self.now in
    c.ask.ensures.still_fits q (fits_kept p c.forget.new.self p.rested c.forget.ensures.atoms c.forget.ensures.fits q fits)

pub returns-clause-fitted_before : goal.returns-clause-fitted_before
returns-clause-fitted_before c = λ q fits.
    let p = c.args.self.now in
    kept_fitted p c.forget.new.self p.rested c.forget.ensures.atoms c.forget.ensures.fitted q (c.ask.ensures.fitted_before q fits)
