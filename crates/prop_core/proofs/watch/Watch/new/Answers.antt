use Rattle.std.proofs.Common.{◌<◌, ◌≤◌, [], ap, arith, length, map, rules, sym, ◌∙◌}
use Rattle.std.proofs.lemmas.List.{get_or-map, length-map}
use Rattle.prop_core.proofs.Listed.{watch_of_all, watch_of_more, watch_of_none}
use Rattle.prop_core.proofs.watch.Watch.new.Goals as goal

pub members-init : goal.members-init
members-init g c = watch_of_none (map g.P.Propagator.watches c.args.list.now) c.in_ok-watch.watch c.args.cells c.in_ok-watch.ensures

pub members-preserved : goal.members-preserved
members-preserved g c =
    let exists : c.members.at < length c.args.list.now = search rules in
    watch_of_more (map g.P.Propagator.watches c.args.list.now) c.members.watch c.add_cells.new.self c.args.cells c.members.at c.watched_cells.result.now
    (omega (arith, exists, length-map c.args.list.now g.P.Propagator.watches))
    (c.watched_cells.ensures ∙ (ap g.P.Propagator.watches c.index-list-at.is ∙ sym (get_or-map g.P.Propagator.watches c.args.list.now c.members.at c.index-list-at.result [] exists)))
    c.members.invariant c.in_ok-add_cells.ensures

pub returns : goal.returns
returns g c =
    let past : length c.args.list.now ≤ c.members.at = search rules in
    watch_of_all (map g.P.Propagator.watches c.args.list.now) c.members.watch c.args.cells c.members.at (omega (arith, past, length-map c.args.list.now g.P.Propagator.watches)) c.members.invariant
