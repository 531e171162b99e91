use Rattle.std.proofs.Common.{sym, ap, ◌∙◌, rules}
use Rattle.open_nodes.specs.declared.seats.Seat.{Seat}
use Rattle.open_nodes.proofs.Joining.{first_more, none_left, same_lists, stolen}
use Rattle.open_nodes.proofs.seats.Seats.steal.Goals as goal

pub returns-in-Some-clause-steals : goal.returns-in-Some-clause-steals
returns-in-Some-clause-steals c =
    let after : Seat = record { nodes = c.pop_front.new.self } in
    stolen c.args.self.now.seats.items c.seats.self.seats.items c.seats.at c.index_mut.result.now after c.in-Some.node c.seats.invariant.same (search rules) c.seats.invariant.first
    (sym (ap (λ (s : Seat). s.nodes.items) c.index_mut.ensures.value) ∙ c.in-Some.ensures.items)

pub seats-preserved : goal.seats-preserved
seats-preserved c =
    let after : Seat = record { nodes = c.pop_front.new.self } in
    let is = sym c.in_default.ensures.items ∙ ap (λ (s : Seat). s.nodes.items) c.index_mut.ensures.value in
    record {
      same = same_lists c.seats.self.seats.items c.seats.at c.index_mut.result.now after (search rules) ∙ c.seats.invariant.same;
      first = first_more c.seats.self.seats.items c.seats.at c.index_mut.result.now after (search rules) (search rules) (search rules) c.seats.invariant.first;
    }

pub returns-clause-none : goal.returns-clause-none
returns-clause-none c =
    none_left c.args.self.now.seats.items c.seats.self.seats.items c.seats.at c.len-at-end.result c.seats.invariant.same (search rules) (search rules) c.seats.invariant.first
