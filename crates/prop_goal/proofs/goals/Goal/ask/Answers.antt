use Rattle.term_program.proofs.Lawful.{inside_root}
use Rattle.prop_goal.proofs.goals.Goal.ask.Goals as goal

pub finding-finding-requires-clause-inside : goal.finding-finding-requires-clause-inside
finding-finding-requires-clause-inside c = inside_root c.args.program.now c.args.store.now.box c.requires.inside

pub returns-clause-still_fits : goal.returns-clause-still_fits
returns-clause-still_fits c = λ p fits.
    let then = c.finding-finding.ensures.looked.fits p fits in
    record { made = then.made; scenarios = then.scenarios; partial = then.partial; watched = then.watched; kept = then.kept }

pub returns-clause-fitted_before : goal.returns-clause-fitted_before
returns-clause-fitted_before c = λ p fits.
    c.finding-finding.ensures.looked.fitted p
    (record { made = fits.made; scenarios = fits.scenarios; partial = fits.partial; watched = fits.watched; kept = fits.kept })
