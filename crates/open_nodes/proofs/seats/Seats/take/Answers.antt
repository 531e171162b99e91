use Rattle.std.proofs.Common.{inl, sym, ap, ◌∙◌, rules}
use Rattle.std.proofs.lemmas.List.{append-nil}
use Rattle.open_nodes.specs.Takes.{lists_of}
use Rattle.open_nodes.specs.declared.seats.Seat.{Seat}
use Rattle.open_nodes.proofs.Joining.{own_none, same_lists, steal_none, steal_same, steal_takes, taken_own}
use Rattle.open_nodes.proofs.seats.Seats.take.Goals as goal

pub returns-in-Some-clause-takes : goal.returns-in-Some-clause-takes
returns-in-Some-clause-takes c =
    let after : Seat = record { nodes = c.pop_back.new.self } in
    inl (taken_own c.args.self.now.seats.items c.args.seat c.index_mut.result.now after c.in-Some.node c.requires.exists
    (sym (ap (λ (s : Seat). s.nodes.items) c.index_mut.ensures.value) ∙ c.in-Some.ensures.items))

pub returns-in-None-clause-takes : goal.returns-in-None-clause-takes
returns-in-None-clause-takes c =
    let after : Seat = record { nodes = c.pop_back.new.self } in
    let same = sym (c.in-None.ensures.items ∙ append-nil c.pop_back.new.self.items) ∙ ap (λ (s : Seat). s.nodes.items) c.index_mut.ensures.value in
    steal_takes c.steal.result (lists_of c.args.self.now) _ (lists_of c.steal.new.self) c.args.seat (same_lists c.args.self.now.seats.items c.args.seat c.index_mut.result.now after same)
    (own_none c.args.self.now.seats.items c.args.seat c.index_mut.result.now after c.requires.exists same (search rules)) c.steal.ensures.steals

pub returns-in-None-clause-none : goal.returns-in-None-clause-none
returns-in-None-clause-none c =
    let after : Seat = record { nodes = c.pop_back.new.self } in
    let same = sym (c.in-None.ensures.items ∙ append-nil c.pop_back.new.self.items) ∙ ap (λ (s : Seat). s.nodes.items) c.index_mut.ensures.value in
    steal_none c.steal.result (lists_of c.args.self.now) _ (same_lists c.args.self.now.seats.items c.args.seat c.index_mut.result.now after same) c.steal.ensures.none

pub returns-in-None-clause-same : goal.returns-in-None-clause-same
returns-in-None-clause-same c =
    let after : Seat = record { nodes = c.pop_back.new.self } in
    let same = sym (c.in-None.ensures.items ∙ append-nil c.pop_back.new.self.items) ∙ ap (λ (s : Seat). s.nodes.items) c.index_mut.ensures.value in
    steal_same c.steal.result (lists_of c.args.self.now) _ (lists_of c.steal.new.self) (same_lists c.args.self.now.seats.items c.args.seat c.index_mut.result.now after same) c.steal.ensures.same
