use Rattle.std.proofs.Common.{◌<◌, rules}
use Rattle.prop_linear.proofs.Narrow.{all_narrow}
use Rattle.prop_linear.proofs.balances.Balance.step_by.Goals as goal

pub returns-then-greatest-least-clause-none : goal.returns-then-greatest-least-clause-none
returns-then-greatest-least-clause-none c =
    let less : c.greatest.result < c.least_width-least.result = search rules in
    all_narrow c.args.self.now c.args.widths.now c.greatest.result c.least_width-least.result c.requires.summed c.requires.whole c.requires.widths c.greatest.ensures c.least_width-least.ensures less
