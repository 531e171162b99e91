use Rattle.std.proofs.Common.{◌<◌, ◌∙◌, arith, length}
use Rattle.prop_core.proofs.Told.{woken_all}
use Rattle.prop_chance.proofs.Outdating.{woken_on}
use Rattle.prop_chance.proofs.outdated.Outdated.let_each_wait.Goals as goal

pub let_one_wait-requires : goal.let_one_wait-requires
let_one_wait-requires g c =
    let below : c.numbers.at < length (g.L.NumberList.numbers c.args.list.now) = omega (arith, c.numbers-test.true, c.len-at-end.ensures) in
    record { exists = omega (arith, c.number_at.ensures, c.requires.below c.numbers.at below, c.numbers.invariant.count) }

pub numbers-preserved : goal.numbers-preserved
numbers-preserved g c =
    let numbers = g.L.NumberList.numbers c.args.list.now in
    let below : c.numbers.at < length numbers = omega (arith, c.numbers-test.true, c.len-at-end.ensures) in
    record {
      woken = woken_on numbers c.args.self.now.waits.items c.numbers.self.waits.items c.let_one_wait.new.self.waits.items c.numbers.at c.number_at.result below c.number_at.ensures
          c.numbers.invariant.woken c.let_one_wait.ensures.woken;
      listed = λ are. c.let_one_wait.ensures.listed (c.numbers.invariant.listed are);
      count = c.let_one_wait.ensures.count ∙ c.numbers.invariant.count;
      told = c.let_one_wait.ensures.told ∙ c.numbers.invariant.told;
    }

pub returns : goal.returns
returns g c = record {
  woken = woken_all (g.L.NumberList.numbers c.args.list.now) c.args.self.now.waits.items c.numbers.self.waits.items c.numbers.at (omega (arith, c.numbers-test.false, c.len-at-end.ensures))
      c.numbers.invariant.woken;
  listed = c.numbers.invariant.listed;
  count = c.numbers.invariant.count;
  told = c.numbers.invariant.told;
}
