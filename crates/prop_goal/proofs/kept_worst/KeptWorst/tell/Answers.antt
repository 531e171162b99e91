use Rattle.prop_goal.proofs.KeptParts.{alike_back}
use Rattle.prop_goal.proofs.Worst.{worst_fits}
use Rattle.prop_goal.proofs.kept_worst.KeptWorst.tell.Goals as goal

pub returns-clause-fits : goal.returns-clause-fits
returns-clause-fits c = λ program fits. worst_fits c.args.self.now (record { parts = c.tell.new.self }) c.tell.ensures.alike program fits

pub returns-clause-fitted : goal.returns-clause-fitted
returns-clause-fitted c = λ program fits.
    worst_fits (record { parts = c.tell.new.self }) c.args.self.now (alike_back c.args.self.now.parts c.tell.new.self c.tell.ensures.alike) program fits
