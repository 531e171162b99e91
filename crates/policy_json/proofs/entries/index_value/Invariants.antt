use Rattle.std.proofs.Common.{◌≡◌, map, take}
use Rattle.serde_json.specs.View.{view}
use Rattle.policy_json.specs.Entries.{whole_number}
use Rattle.policy_json.proofs.entries.index_value.Given as goal

abbrev pub invariant-index : goal.invariant-index
invariant-index l = map view l.list.items ≡ map whole_number (take l.item-index l.item-items)
