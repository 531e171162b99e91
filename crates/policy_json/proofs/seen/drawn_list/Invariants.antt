use Rattle.std.proofs.Common.{◌≡◌, ◌-◌, map}
use Rattle.std.specs.List.{range_with_len}
use Rattle.serde_json.specs.View.{view}
use Rattle.policy_json.specs.Steps.{drawn_in, parts_in}
use Rattle.policy_json.proofs.seen.drawn_list.Given as goal

abbrev pub invariant-numbers : goal.invariant-numbers
invariant-numbers l = map view l.list.items ≡ map (drawn_in (parts_in l.point) l.scenario) (range_with_len l.first (l.number - l.first))
