use Rattle.std.proofs.lemmas.Int.{to_z-of_z}
use Rattle.std.specs.Int.{w64}
use Rattle.unfold_tables.proofs.Placing.{first_added}
use Rattle.unfold_tables.proofs.elements.Elements.push.Goals as goal

pub returns-in_ok-insert-clause-added : goal.returns-in_ok-insert-clause-added
returns-in_ok-insert-clause-added c =
    first_added c.args.self.now.first.entries c.args.self.now.again.items _ _ _ _ _ (c.is_new.ensures.last c.if-is_new.true) (c.is_new.ensures.absent c.if-is_new.true)
    c.in_ok-key.ensures.items (to_z-of_z w64 c.args.value c.ranges.value) c.in_ok-insert.ensures.entries
