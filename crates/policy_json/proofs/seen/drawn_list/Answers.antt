use Rattle.std.proofs.Common.{◌≡◌, ◌-◌, map, arith, ap, ◌∙◌}
use Rattle.std.specs.List.{range_with_len}
use Rattle.serde_json.specs.View.{view}
use Rattle.policy_json.specs.Steps.{drawn_in, parts_in}
use Rattle.policy_json.proofs.StageSteps.{run_more}
use Rattle.policy_json.proofs.seen.drawn_list.Goals as goal

pub numbers-init : goal.numbers-init
numbers-init c =
    let none : 0 ≡ c.args.first - c.args.first = omega arith in
    ap (map view) c.new-list.ensures.items ∙ ap (λ n. map (drawn_in (parts_in c.args.point.now) c.args.scenario) (range_with_len c.args.first n)) none

pub numbers-preserved : goal.numbers-preserved
numbers-preserved c =
    run_more view (drawn_in (parts_in c.args.point.now) c.args.scenario) c.args.first c.numbers.number c.numbers.list.items c.push.new.self.items c.in_ok-drawn.field-0
    c.numbers.auto.number c.numbers.invariant c.in_ok-drawn.ensures c.in_ok-push.ensures.items

pub returns : goal.returns
returns c =
    let all : c.numbers.number ≡ c.args.end = omega (arith, c.numbers.auto.number-end c.requires.order) in
    c.numbers.invariant ∙ ap (λ n. map (drawn_in (parts_in c.args.point.now) c.args.scenario) (range_with_len c.args.first (n - c.args.first))) all
