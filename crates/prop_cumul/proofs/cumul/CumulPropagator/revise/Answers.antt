use Rattle.term_program.proofs.Lawful.{inside_root}
use Rattle.prop_cumul.proofs.Fitted.{fitted}
use Rattle.prop_cumul.proofs.cumul.CumulPropagator.revise.Goals as goal

pub probe-probe-requires-clause-inside : goal.probe-probe-requires-clause-inside
probe-probe-requires-clause-inside c = inside_root c.args.program.now c.args.store.now.box c.requires.inside

pub returns-clause-fitted_before : goal.returns-clause-fitted_before
returns-clause-fitted_before c = λ other fits. fitted c.args.self.now c.found.new.self c.args.program.now other c.found.ensures.kept c.requires.fits fits
