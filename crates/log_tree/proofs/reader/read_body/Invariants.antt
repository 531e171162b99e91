use Rattle.std.proofs.Common.{◌+◌, ◌≤◌, [], length}
use Rattle.log_tree.specs.Cutting.{lines_in}
use Rattle.log_tree.proofs.Bodies.{Leads}
use Rattle.log_tree.proofs.reader.read_body.Given as goal

abbrev pub invariant-lines : goal.invariant-lines
invariant-lines l = record {
  leads : Leads l.steps l.number (lines_in l.left) [] l.first (lines_in l.text);
  room : l.number + length l.left ≤ l.first + length l.text;
  shorter : length l.left ≤ length l.text;
}

abbrev pub decreases-lines : goal.decreases-lines
decreases-lines l = length l.left
