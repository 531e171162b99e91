use Rattle.std.proofs.Common.{◌≡◌, ◌++◌, ◌∷◌, [], ◌∙◌, rules}
use Rattle.open_nodes.proofs.Arriving.{goes_on, pointed, pointed_last, some_above}
use Rattle.open_nodes.proofs.Remaking.{cells_on, numbers_on}
use Rattle.open_nodes.proofs.walk.BoxWalk.go_down.Goals as goal

pub descend-requires : goal.descend-requires
descend-requires c = record {
  above = some_above c.splits.self c.splits.downs.items c.pop.new.self.items c.in-Some.next c.args.split.now (search rules) c.splits.invariant.some;
}

pub splits-preserved : goal.splits-preserved
splits-preserved c =
    let some = c.splits.invariant.some in
    let popped : c.splits.downs.items ≡ c.pop.new.self.items ++ c.in-Some.next ∷ [] = search rules in
    let above = some_above c.splits.self c.splits.downs.items c.pop.new.self.items c.in-Some.next c.args.split.now popped some in
    let last = pointed_last c.splits.downs.items c.pop.new.self.items c.in-Some.next popped in
    record {
      going = λ root f given. goes_on root f c.splits.self c.descend.new.self c.splits.downs.items c.pop.new.self.items c.in-Some.next c.args.split.now popped
          (λ other over. c.in_ok-descend.ensures.gone other over) (c.splits.invariant.going root f given);
      some = (
        some.0,
        some.1,
        goes_on some.0 some.1 c.splits.self c.descend.new.self c.splits.downs.items c.pop.new.self.items c.in-Some.next c.args.split.now popped
            (λ other over. c.in_ok-descend.ensures.gone other over) some.2,
      );
      here = numbers_on (pointed c.splits.downs.items) (pointed c.pop.new.self.items) c.in-Some.next.now c.splits.self.here.items c.descend.new.self.here.items last
          (c.in_ok-descend.ensures.gone above.0 above.1).here ∙ c.splits.invariant.here;
      listed = cells_on (pointed c.splits.downs.items) (pointed c.pop.new.self.items) c.in-Some.next.now c.splits.remade.items c.descend.new.remade.items last
          c.in_ok-descend.ensures.listed ∙ c.splits.invariant.listed;
    }
