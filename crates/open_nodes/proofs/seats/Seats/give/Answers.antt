use Rattle.std.proofs.Common.{ap, ◌∙◌, ◌++◌, ◌∷◌, []}
use Rattle.open_nodes.specs.declared.seats.Seat.{Seat}
use Rattle.open_nodes.proofs.Joining.{given}
use Rattle.open_nodes.proofs.seats.Seats.give.Goals as goal

pub returns : goal.returns
returns c =
    let between : Seat = record { nodes = c.push_back.new.self } in
    let after : Seat = record { nodes = c.push_back-2.new.self } in
    record {
      gives = given c.args.self.now.seats.items c.args.seat c.index_mut.result.now c.index_mut-2.result.now between after c.args.older c.args.newer c.requires.exists
          (c.in_ok-push_back.ensures.items ∙ ap (λ (s : Seat). s.nodes.items ++ c.args.older ∷ []) c.index_mut.ensures.value)
          (c.in_ok-push_back-2.ensures.items ∙ ap (λ (s : Seat). s.nodes.items ++ c.args.newer ∷ []) c.index_mut-2.ensures.value);
    }
