use Rattle.std.proofs.Common.{◌≡◌, ◌++◌, drop, map}
use Rattle.serde_json.specs.View.{view}
use Rattle.answer_eval.specs.EvalData.{sum_data}
use Rattle.answer_eval.proofs.lines.sum_values.Given as goal

abbrev pub invariant-sums : goal.invariant-sums
invariant-sums l = map view l.list.items ++ map (sum_data l.total) (drop l.sum-index l.sums) ≡ map (sum_data l.total) l.sums
