-- Each call goes down in weight.
use Rattle.std.proofs.Common.{map}
use Rattle.sopl_ast.specs.Whole.{conses}
use Rattle.sopl_ast.specs.Constraints.{cons_tree}
use Rattle.sopl_ast.specs.WholeWeight.{weight_cons, weight_conses}
use Rattle.compile_tests.proofs.printed.+cons.Given as goal

abbrev pub decreases-put_cons : goal.decreases-put_cons
decreases-put_cons l = weight_cons (cons_tree l.cons.now)

abbrev pub decreases-put_conses : goal.decreases-put_conses
decreases-put_conses l = weight_conses (conses (map cons_tree l.conses.now))
