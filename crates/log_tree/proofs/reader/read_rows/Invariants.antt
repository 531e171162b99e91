use Rattle.std.proofs.Common.{◌+◌, ◌≤◌, length}
use Rattle.log_tree.specs.Cutting.{lines_in}
use Rattle.log_tree.specs.Slots.{SlotsFit}
use Rattle.log_tree.proofs.Rows.{LeadsRows}
use Rattle.log_tree.proofs.reader.read_rows.Given as goal

abbrev pub invariant-nodes : goal.invariant-nodes
invariant-nodes l = record {
  leads : LeadsRows l.growing.rows.items l.number (lines_in l.left) (lines_in l.text);
  keeps : SlotsFit l.growing.rows.items l.growing.slots.items;
  room : l.number + length l.left ≤ 2 + length l.text;
}

abbrev pub decreases-nodes : goal.decreases-nodes
decreases-nodes l = length l.left
