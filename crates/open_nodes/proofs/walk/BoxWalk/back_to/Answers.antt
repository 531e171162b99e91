use Rattle.std.proofs.Common.{◌≡◌, ◌<◌, ◌++◌, ◌∷◌, [], rules}
use Rattle.open_nodes.proofs.Remaking.{back_on}
use Rattle.open_nodes.proofs.Walking.{fewer, popped}
use Rattle.open_nodes.proofs.walk.BoxWalk.back_to.Goals as goal

pub splits-preserved : goal.splits-preserved
splits-preserved c =
    let is : c.splits.self.here.items ≡ c.pop.new.self.items ++ c.in-Some.last ∷ [] = search rules in
    let more : c.args.node < c.in-Some.last = search rules in
    record {
      at = λ root f stood. popped root f c.pop.new.self.items c.in-Some.last c.splits.self.store.marks c.undo.new.self c.undo.ensures
          (search rules);
      marks = fewer c.pop.new.self.items c.in-Some.last c.splits.self.store.marks c.undo.new.self c.undo.ensures (search rules);
      back = back_on c.args.node _ c.splits.self.here.items c.pop.new.self.items c.in-Some.last is more c.splits.invariant.back;
    }
