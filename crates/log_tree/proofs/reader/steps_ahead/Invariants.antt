use Rattle.std.proofs.Common.{◌≡◌, ◌+◌, ◌≤◌, length}
use Rattle.log_tree.specs.Cutting.{lines_in}
use Rattle.log_tree.specs.Progress.{steps_ahead}
use Rattle.log_tree.proofs.reader.steps_ahead.Given as goal

abbrev pub invariant-lines : goal.invariant-lines
invariant-lines l = record {
  counted : l.count + steps_ahead (lines_in l.left) ≡ steps_ahead (lines_in l.text);
  room : l.count + length l.left ≤ length l.text;
}

abbrev pub decreases-lines : goal.decreases-lines
decreases-lines l = length l.left
