use Rattle.std.proofs.Common.{drop, map}
use Rattle.sopl_ast.specs.Decls.{declaration}
use Rattle.sopl_unfold.specs.Shown.{declared_in}
use Rattle.sopl_unfold.proofs.Loops.{Leads}
use Rattle.sopl_unfold.proofs.declared.declare_all.Given as goal

abbrev pub invariant-decls : goal.invariant-decls
invariant-decls l = Leads l.decls l.fn.count.counted (map declaration (drop l.decl-index l.decl-items)) (declared_in l.found) l.count.counted
