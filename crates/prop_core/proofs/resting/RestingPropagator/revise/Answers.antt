use Rattle.prop_core.proofs.Rested.{looked_at_before}
use Rattle.prop_core.proofs.resting.RestingPropagator.revise.Goals as goal

pub returns-clause-fitted_before : goal.returns-clause-fitted_before
returns-clause-fitted_before g c = λ p fit.
    looked_at_before (g.M.Propagator.problem p) (g.M.Propagator.reasons c.args.self.now.member) (g.M.Propagator.reasons c.ask.new.self.member) c.args.self.now.cells.items c.ask.new.self.cells.items
    c.ask.ensures.same_reasons c.ask.ensures.same_cells (c.ask.ensures.fitted_before p) fit
