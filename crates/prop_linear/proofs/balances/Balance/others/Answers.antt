use Rattle.prop_linear.proofs.Summing.{others_are, others_fit}
use Rattle.prop_linear.proofs.balances.Balance.others.Goals as goal

pub without-requires : goal.without-requires
without-requires c = record {
  fits = others_fit c.args.self.now c.args.part.now c.part-own.result c.requires.summed c.requires.own_part c.part-own.ensures;
}

pub returns : goal.returns
returns c = others_are c.args.self.now c.args.part.now c.part-own.result c.without.result c.part-own.ensures c.without.ensures.low c.without.ensures.high
