use Rattle.std.proofs.Common.{rules, arith, string_bytes, sym, subst, ◌≤◌}
use Rattle.answer_lines.specs.Shown.{prefix_of}
use Rattle.policy_json.proofs.LastStages.{last_stage_few}
use Rattle.policy_json.specs.LastStage.{last_stage}
use Rattle.answer_lines.proofs.Steps.{text_start, text_step, text_whole}
use Rattle.answer_lines.proofs.text.tree_text.Goals as goal

pub prefix-requires : goal.prefix-requires
prefix-requires c = record { stages = subst (λ n. n ≤ 24) (sym c.greatest_stage.ensures.stage) (last_stage_few c.args.decisions.now c.requires.bounded) }

pub scenarios-init : goal.scenarios-init
scenarios-init c =
    text_start c.args.stochs.now c.args.tree.now (last_stage c.args.decisions.now) c.greatest_stage.result (string_bytes c.in_ok-text.text) c.greatest_stage.ensures.stage c.in_ok-text.ensures

pub scenarios-preserved : goal.scenarios-preserved
scenarios-preserved c =
    text_step c.args.stochs.now c.args.tree.now (prefix_of c.args.tree.now (last_stage c.args.decisions.now)) (string_bytes c.scenarios.text) (string_bytes c.add_scene.new.text) c.scenarios.scenario
    c.scenarios.invariant c.in_ok-add_scene.ensures

pub returns : goal.returns
returns c =
    record {
      text =
          text_whole c.args.decisions.now c.args.stochs.now c.args.tree.now c.requires.tree (omega (arith, last_stage_few c.args.decisions.now c.requires.bounded))
          (string_bytes c.scenarios.text) (string_bytes c.push_str.new.self) c.scenarios.scenario (search rules) c.scenarios.invariant c.in_ok-push_str.ensures.bytes;
    }
