use Rattle.std.proofs.Common.{◌∙◌, ap, sym, map, option_map}
use Rattle.brancher.specs.Picks.{chosen_rule, text_now}
use Rattle.brancher.proofs.Firsts.{chosen_named, chosen_first}
use Rattle.brancher.proofs.asking.chosen.Goals as goal

pub returns-in-Some : goal.returns-in-Some
returns-in-Some g c =
    ap (option_map _) c.first_named.ensures
    ∙ chosen_named (λ b. (goal.Brancher-dyn g (b.vtable, b.value)).label b.value) (λ b. (goal.Brancher-dyn g (b.vtable, b.value)).rule b.value) c.in-Some.name.now c.args.list.items
    ∙ ap (λ o. chosen_rule (map (λ b. ((goal.Brancher-dyn g (b.vtable, b.value)).label b.value, (goal.Brancher-dyn g (b.vtable, b.value)).rule b.value)) c.args.list.items) (option_map text_now o)) (sym c.in-Some.is)

pub returns-in-None : goal.returns-in-None
returns-in-None g c =
    ap (option_map _) c.first_of.ensures
    ∙ chosen_first (λ b. (goal.Brancher-dyn g (b.vtable, b.value)).label b.value) (λ b. (goal.Brancher-dyn g (b.vtable, b.value)).rule b.value) c.args.list.items
    ∙ ap (λ o. chosen_rule (map (λ b. ((goal.Brancher-dyn g (b.vtable, b.value)).label b.value, (goal.Brancher-dyn g (b.vtable, b.value)).rule b.value)) c.args.list.items) (option_map text_now o)) (sym c.in-None.is)
