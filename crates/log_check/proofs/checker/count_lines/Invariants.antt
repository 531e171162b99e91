use Rattle.std.proofs.Common.{◌≡◌, ◌+◌, drop}
use Rattle.log_check.specs.Walks.{lines_of}
use Rattle.log_check.proofs.checker.count_lines.Given as goal

abbrev pub invariant-rows : goal.invariant-rows
invariant-rows l = l.count + lines_of (drop l.at l.rows) ≡ 2 + lines_of l.rows
