use Rattle.prop_goal.proofs.KeptParts.{alike_back}
use Rattle.prop_goal.proofs.Worst.{worst_fits}
use Rattle.prop_goal.proofs.kept_worst.KeptWorst.forget.Goals as goal

pub returns-clause-fits : goal.returns-clause-fits
returns-clause-fits c = λ program fits. worst_fits c.args.self.now (record { parts = c.forget.new.self }) c.forget.ensures.alike program fits

pub returns-clause-fitted : goal.returns-clause-fitted
returns-clause-fitted c = λ program fits.
    worst_fits (record { parts = c.forget.new.self }) c.args.self.now (alike_back c.args.self.now.parts c.forget.new.self c.forget.ensures.alike) program fits
