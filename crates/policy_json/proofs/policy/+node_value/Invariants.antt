use Rattle.std.proofs.Common.{◌≡◌, ◌-◌, ◌≤◌, length, map}
use Rattle.std.specs.List.{range_with_len}
use Rattle.serde_json.specs.View.{view}
use Rattle.policy_json.specs.Steps.{branch_in, branches_in, first_in, parts_in}
use Rattle.policy_json.proofs.policy.+node_value.Given as goal

abbrev pub decreases-node_value : goal.decreases-node_value
decreases-node_value l = l.later

abbrev pub decreases-branches : goal.decreases-branches
decreases-branches l = l.end - l.first

abbrev pub invariant-branches : goal.invariant-branches
invariant-branches l =
    (l.first ≡ first_in (parts_in l.point).tree l.stage l.scenario (length l.next.items))
    × ((map view l.next.items ≡ map (branch_in (parts_in l.point) (l.later - 1) l.stage l.scenario) (range_with_len 0 (length l.next.items)))
    × (length l.next.items ≤ branches_in (parts_in l.point).tree l.stage))
