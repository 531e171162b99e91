use Rattle.std.proofs.Common.{rules, ◌<◌, length, arith, refl, ◌∙◌}
use Rattle.sopl_io.proofs.Calling.{calls_more, stops_later}
use Rattle.sopl_io.proofs.Gathering.{none_gathered, on_err}
use Rattle.sopl_io.specs.Calls.{no_call}
use Rattle.sopl_search.proofs.OpenTexts.{opens_more, opens_prefix}
use Rattle.sopl_search.proofs.listing.put_opens.Goals as goal

pub returns-in_err-put_open-clause-prefix : goal.returns-in_err-put_open-clause-prefix
returns-in_err-put_open-clause-prefix g c =
    let exists : c.nodes.at < length c.args.nodes.now = search rules in
    on_err _ (opens_prefix _ _ _ _ _ c.args.first c.args.nodes.now c.nodes.at c.index-nodes-at.result exists c.index-nodes-at.is c.nodes.invariant.gathered c.in_err-put_open.ensures.prefix)

pub nodes-init : goal.nodes-init
nodes-init g c = record {
  gathered = none_gathered (g.K.Sink.taken c.args.sink.now) c.args.gather.now.kept;
  size = refl;
  calls = no_call;
  names = refl;
  later = omega arith;
}

pub returns-in_err-put_open-clause-outcomes : goal.returns-in_err-put_open-clause-outcomes
returns-in_err-put_open-clause-outcomes g c =
    stops_later (g.K.Sink.outcomes c.args.sink.now) (g.K.Sink.outcomes c.nodes.sink) _ c.from_residual.result c.nodes.invariant.calls (search rules)

pub nodes-preserved : goal.nodes-preserved
nodes-preserved g c =
    let exists : c.nodes.at < length c.args.nodes.now = search rules in
    record {
      gathered = opens_more _ _ _ _ _ _ c.args.first c.args.nodes.now c.nodes.at c.index-nodes-at.result exists c.index-nodes-at.is c.nodes.invariant.gathered c.in_ok-put_open.ensures.all;
      size = c.put_open.ensures.size ∙ c.nodes.invariant.size;
      calls = calls_more _ _ _ c.nodes.invariant.calls c.in_ok-put_open.ensures.outcomes.all;
      names = c.put_open.ensures.names ∙ c.nodes.invariant.names;
      later = omega (arith, c.nodes.invariant.later, c.put_open.ensures.cause.later);
    }
