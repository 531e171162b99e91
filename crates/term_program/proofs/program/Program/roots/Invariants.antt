use Rattle.term_program.specs.Programs.{root_in}
use Rattle.term_program.proofs.Roots.{AreFirst}
use Rattle.term_program.proofs.program.Program.roots.Given as goal

abbrev pub invariant-cells : goal.invariant-cells
invariant-cells l = AreFirst (root_in l.self) l.cell l.roots.items
