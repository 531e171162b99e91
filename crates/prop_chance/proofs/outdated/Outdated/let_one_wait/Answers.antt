use Rattle.std.proofs.Common.{◌≡◌, ◌∙◌, ap, length, length-set, refl, rules, true}
use Rattle.prop_core.specs.Watches.{waits_at}
use Rattle.prop_chance.proofs.Outdating.{listed_woken, woken_already, woken_now}
use Rattle.prop_chance.proofs.outdated.Outdated.let_one_wait.Goals as goal

pub returns-then-is_waiting-clause-woken : goal.returns-then-is_waiting-clause-woken
returns-then-is_waiting-clause-woken c =
    let waiting : waits_at c.args.self.now.waits.items c.args.number ≡ true = search rules in
    woken_already c.args.self.now.waits.items c.args.number c.requires.exists waiting

pub returns : goal.returns
returns c = record {
  woken = woken_now c.args.self.now.waits.items c.list.new.self.waits.items c.args.number c.requires.exists (ap (λ flags. flags.items) c.list.ensures.waits);
  listed = λ are. c.list.ensures.listed (listed_woken c.args.self.now _ c.args.number refl refl refl are);
  count = ap (λ flags. length flags.items) c.list.ensures.waits ∙ length-set c.args.self.now.waits.items c.args.number true;
  told = c.list.ensures.told;
}
