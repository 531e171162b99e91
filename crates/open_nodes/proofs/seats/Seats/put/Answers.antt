use Rattle.std.proofs.Common.{◌∙◌, ap, ◌++◌, ◌∷◌, []}
use Rattle.open_nodes.specs.declared.seats.Seat.{Seat}
use Rattle.open_nodes.proofs.Joining.{one_given}
use Rattle.open_nodes.proofs.seats.Seats.put.Goals as goal

pub returns : goal.returns
returns c =
    let after : Seat = record { nodes = c.push_back.new.self } in
    record {
      puts = one_given c.args.self.now.seats.items c.args.seat c.index_mut.result.now after c.args.node c.requires.exists
          (c.in_ok-push_back.ensures.items ∙ ap (λ (s : Seat). s.nodes.items ++ c.args.node ∷ []) c.index_mut.ensures.value);
    }
