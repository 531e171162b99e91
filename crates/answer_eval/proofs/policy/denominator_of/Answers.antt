use Rattle.std.proofs.Common.{rules, ◌≡◌, ◌∙◌, SFits, ap, if◌then◌else◌, option_map, pos}
use Rattle.std.specs.Int.{w128}
use Rattle.std.proofs.lemmas.Int.{to_z-of_z}
use Rattle.sopl_ast.specs.WholeModel.{goal_tree, whole}
use Rattle.answer_eval.proofs.Denominators.{no_goal, some_goal}
use Rattle.answer_eval.proofs.policy.denominator_of.Goals as goal

pub returns-in-None : goal.returns-in-None
returns-in-None c = λ weighs. no_goal (whole c.args.model.now) (ap (option_map goal_tree) c.in-None.is)

pub returns-in-Some : goal.returns-in-Some
returns-in-Some c =
    let fits : SFits w128 c.goal_denominator.result = search rules in
    let plain : SFits w128 c.args.total = search rules in
    let over : c.goal_denominator.result ≡ (if c.in-Some.goal.worst then pos 1 else c.args.total) =
    c.goal_denominator.ensures ∙ ap (λ t. if c.in-Some.goal.worst then pos 1 else t) (to_z-of_z w128 c.args.total plain) in
    λ weighs.
    to_z-of_z w128 c.goal_denominator.result fits
    ∙ some_goal (whole c.args.model.now) (goal_tree c.in-Some.goal) (ap (option_map goal_tree) c.in-Some.is) c.args.total c.goal_denominator.result weighs
    over
