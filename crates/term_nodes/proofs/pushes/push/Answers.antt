use Rattle.std.proofs.Common.{ap, subst, sym, ◌∙◌}
use Rattle.term_nodes.specs.Things.{things}
use Rattle.term_nodes.specs.Built.{IsBuilt}
use Rattle.term_nodes.proofs.Growing.{things_more, built_more}
use Rattle.term_nodes.proofs.pushes.push.Goals as goal

pub returns-clause-things : goal.returns-clause-things
returns-clause-things c = ap things c.in_ok-push.ensures.items ∙ things_more c.args.items.now.items c.args.item

pub returns-clause-built : goal.returns-clause-built
returns-clause-built c = λ root all new. subst (IsBuilt root) (sym c.in_ok-push.ensures.items) (built_more root c.args.items.now.items c.args.item all new)
