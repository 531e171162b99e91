use Rattle.std.proofs.Common.{◌<ℤ◌, rules}
use Rattle.prop_linear.proofs.Summing.{turn_in}
use Rattle.prop_linear.proofs.balances.Balance.lower.Goals as goal

pub returns-then-end-clause-turn : goal.returns-then-end-clause-turn
returns-then-end-clause-turn c =
    let wide : c.end-end.result.lo <ℤ c.end-end.result.hi = search rules in
    turn_in c.args.self.now c.args.part.now c.turn.result c.end-end.result c.requires.summed c.requires.own_part c.turn.ensures.op c.turn.ensures.k c.turn.ensures.end c.turn.ensures.others
    c.end-end.ensures.cell c.end-end.ensures.low c.end-end.ensures.high wide
