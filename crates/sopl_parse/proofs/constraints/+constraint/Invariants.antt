-- Each call goes down in the openings that are left, or in its rank among the phrases.
use Rattle.std.proofs.Common.{◌+◌, ◌*◌}
use Rattle.sopl_parse.proofs.constraints.+constraint.Given as goal

abbrev pub decreases-constraints : goal.decreases-constraints
decreases-constraints l = 8 * l.reader.now.depth + 7

abbrev pub decreases-constraints-chain : goal.decreases-constraints-chain
decreases-constraints-chain l = 8 * l.reader.now.depth + 6

abbrev pub decreases-next_constraint : goal.decreases-next_constraint
decreases-next_constraint l = 8 * l.reader.now.depth + 5

abbrev pub decreases-quantified : goal.decreases-quantified
decreases-quantified l = 8 * l.reader.now.depth + 4

abbrev pub decreases-constraint : goal.decreases-constraint
decreases-constraint l = 8 * l.reader.now.depth + 3

abbrev pub decreases-forall_values : goal.decreases-forall_values
decreases-forall_values l = 8 * l.reader.now.depth + 2

abbrev pub decreases-block : goal.decreases-block
decreases-block l = 8 * l.reader.now.depth + 1
