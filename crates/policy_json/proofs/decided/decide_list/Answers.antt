use Rattle.std.proofs.Common.{◌≡◌, ◌<◌, List, ℕ, length, map, get_or, sym, ap, subst, arith, ◌∙◌}
use Rattle.std.proofs.lemmas.List.{take_all}
use Rattle.sopl_ast.specs.Instances.{Decision}
use Rattle.policy_json.specs.Stages.{StageParts, numbers_of}
use Rattle.policy_json.specs.Steps.{decided_in, parts_in}
use Rattle.policy_json.proofs.Numbers.{numbers_below}
use Rattle.policy_json.proofs.Ready.{stage_at, stage_within}
use Rattle.policy_json.proofs.decided.decide_list.Goals as goal

pub bounds-point-stage : goal.bounds-point-stage
bounds-point-stage c = stage_within (parts_in c.args.point.now) c.requires.ready c.args.stage c.requires.from c.requires.to

pub decided-requires-clause-decided : goal.decided-requires-clause-decided
decided-requires-clause-decided c =
    let ds : List Decision = c.args.point.now.decisions.now in
    let numbers : c.as_slice-number-items.result.now ≡ numbers_of c.args.stage ds =
    c.as_slice-number-items.ensures.value
    ∙ ap (λ (s : StageParts). s.decisions)
    (c.stage.view_is
    ∙ (sym c.index-point-stage.is
    ∙ stage_at (parts_in c.args.point.now) c.requires.ready c.args.stage c.index-point-stage.result c.requires.from c.requires.to c.index-point-stage.is)) in
    subst (λ (list : List ℕ). get_or list c.numbers.number-index 0 < length ds) (sym numbers)
    (numbers_below c.args.stage ds c.numbers.number-index 0 (subst (λ (list : List ℕ). c.numbers.number-index < length list) numbers c.numbers-test.true))

pub returns : goal.returns
returns c =
    let numbers : c.as_slice-number-items.result.now ≡ numbers_of c.args.stage c.args.point.now.decisions.now =
    c.as_slice-number-items.ensures.value
    ∙ ap (λ (s : StageParts). s.decisions)
    (c.stage.view_is
    ∙ (sym c.index-point-stage.is
    ∙ stage_at (parts_in c.args.point.now) c.requires.ready c.args.stage c.index-point-stage.result c.requires.from c.requires.to c.index-point-stage.is)) in
    c.numbers.invariant
    ∙ ap (map (decided_in (parts_in c.args.point.now) c.args.scenario))
    (take_all c.numbers.number-index c.as_slice-number-items.result.now (omega arith) ∙ numbers)
