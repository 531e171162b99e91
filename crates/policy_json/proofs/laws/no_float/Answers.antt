use Rattle.std.proofs.Common.{◌-◌, []}
use Rattle.policy_json.specs.LastStage.{last_stage}
use Rattle.policy_json.proofs.Plain.{node_plain}
use Rattle.policy_json.proofs.laws.no_float.Goals as goal

pub returns : goal.returns
returns c = λ problem policy. node_plain problem.decisions problem.stochastics policy (last_stage problem.decisions - 1) 1 []
