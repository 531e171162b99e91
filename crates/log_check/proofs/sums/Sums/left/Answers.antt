use Rattle.std.proofs.Common.{refl, rules}
use Rattle.log_check.proofs.Keeping.{weight_renewed}
use Rattle.log_check.proofs.sums.Sums.left.Goals as goal

pub returns-clause-in_step : goal.returns-clause-in_step
returns-clause-in_step c =
    weight_renewed c.args.program.now c.args.store.now.box c.args.self.now _ c.args.instance c.renewed.new.self (search rules) c.renewed.ensures.later refl refl refl c.renewed.ensures.keeps
    c.requires.in_step
