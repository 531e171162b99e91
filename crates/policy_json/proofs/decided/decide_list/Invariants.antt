use Rattle.std.proofs.Common.{◌≡◌, map, take}
use Rattle.serde_json.specs.View.{view}
use Rattle.policy_json.specs.Steps.{decided_in, parts_in}
use Rattle.policy_json.proofs.decided.decide_list.Given as goal

abbrev pub invariant-numbers : goal.invariant-numbers
invariant-numbers l = map view l.list.items ≡ map (decided_in (parts_in l.point) l.scenario) (take l.number-index l.number-items)
