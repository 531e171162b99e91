use Rattle.std.proofs.Common.{◌≡◌, ◌++◌, false, string_bytes}
use Rattle.policy_json.specs.LastStage.{last_stage}
use Rattle.answer_lines.specs.Shown.{all_shown, prefix_of, pieces}
use Rattle.answer_lines.proofs.text.tree_text.Given as goal

abbrev pub invariant-scenarios : goal.invariant-scenarios
invariant-scenarios l = string_bytes l.text ≡ prefix_of l.tree (last_stage l.decisions) ++ pieces false (all_shown l.stochs l.tree l.scenario)
