-- Each call goes down in the openings that are left, or in its rank among the phrases.
use Rattle.std.proofs.Common.{◌+◌, ◌*◌}
use Rattle.sopl_parse.proofs.inits.+init.Given as goal

abbrev pub decreases-init_list : goal.decreases-init_list
decreases-init_list l = 7 * l.reader.now.depth + 6

abbrev pub decreases-more_inits : goal.decreases-more_inits
decreases-more_inits l = 7 * l.reader.now.depth + 5

abbrev pub decreases-more_inits-chain : goal.decreases-more_inits-chain
decreases-more_inits-chain l = 7 * l.reader.now.depth + 4

abbrev pub decreases-next_init : goal.decreases-next_init
decreases-next_init l = 7 * l.reader.now.depth + 3

abbrev pub decreases-init : goal.decreases-init
decreases-init l = 7 * l.reader.now.depth + 2

abbrev pub decreases-many : goal.decreases-many
decreases-many l = 7 * l.reader.now.depth + 1
