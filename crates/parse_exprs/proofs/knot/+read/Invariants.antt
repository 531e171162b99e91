-- Each level is read by those below it.
use Rattle.parse_exprs.proofs.knot.+read.Given as goal

abbrev pub decreases-read : goal.decreases-read
decreases-read l = l.depth
