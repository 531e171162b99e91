-- Each call goes down in weight.
use Rattle.std.proofs.Common.{map}
use Rattle.sopl_ast.specs.Inits.{init_tree}
use Rattle.sopl_ast.specs.WholeWeight.{weight_init, weight_of_inits}
use Rattle.compile_tests.proofs.printed.+init.Given as goal

abbrev pub decreases-put_init : goal.decreases-put_init
decreases-put_init l = weight_init (init_tree l.init.now)

abbrev pub decreases-put_inits : goal.decreases-put_inits
decreases-put_inits l = weight_of_inits (map init_tree l.parts.now)
