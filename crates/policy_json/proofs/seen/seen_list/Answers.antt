use Rattle.std.proofs.Common.{◌-◌, map, ap, sym, ◌∙◌}
use Rattle.std.proofs.lemmas.Result.{IfOk-weaker}
use Rattle.std.specs.List.{range_with_len}
use Rattle.policy_json.specs.Stages.{StageParts}
use Rattle.policy_json.specs.Steps.{drawn_in, parts_in}
use Rattle.policy_json.proofs.Ready.{end_within, run_order, stage_at, stage_within}
use Rattle.policy_json.proofs.seen.seen_list.Goals as goal

pub bounds-point-stage : goal.bounds-point-stage
bounds-point-stage c = stage_within (parts_in c.args.point.now) c.requires.ready c.args.stage c.requires.from c.requires.to

pub drawn_list-requires-clause-order : goal.drawn_list-requires-clause-order
drawn_list-requires-clause-order c =
    let is = c.stage.view_is
    ∙ (sym c.index-point-stage.is
    ∙ stage_at (parts_in c.args.point.now) c.requires.ready c.args.stage c.index-point-stage.result c.requires.from c.requires.to c.index-point-stage.is) in
    run_order (parts_in c.args.point.now) c.requires.ready c.args.stage c.stage.inside.first c.stage.inside.end (ap (λ (s : StageParts). s.first) is) (ap (λ (s : StageParts). s.end) is)

pub drawn_list-requires-clause-within : goal.drawn_list-requires-clause-within
drawn_list-requires-clause-within c =
    let is = c.stage.view_is
    ∙ (sym c.index-point-stage.is
    ∙ stage_at (parts_in c.args.point.now) c.requires.ready c.args.stage c.index-point-stage.result c.requires.from c.requires.to c.index-point-stage.is) in
    end_within (parts_in c.args.point.now) c.args.stage c.stage.inside.end (ap (λ (s : StageParts). s.end) is)

pub returns : goal.returns
returns c =
    let is = c.stage.view_is
    ∙ (sym c.index-point-stage.is
    ∙ stage_at (parts_in c.args.point.now) c.requires.ready c.args.stage c.index-point-stage.result c.requires.from c.requires.to c.index-point-stage.is) in
    IfOk-weaker c.drawn_list.result _ _
    (λ list shown. shown ∙ ap (λ (s : StageParts). map (drawn_in (parts_in c.args.point.now) c.args.scenario) (range_with_len s.first (s.end - s.first))) is)
    c.drawn_list.ensures
