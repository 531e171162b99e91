use Rattle.std.proofs.Common.{arith, rules, w32, Fits}
use Rattle.term_program.specs.Programs.{root_in}
use Rattle.term_program.proofs.Roots.{few_roots}
use Rattle.term_program.proofs.program.Program.roots.Goals as goal

pub returns-clause-few : goal.returns-clause-few
returns-clause-few c =
    let fits : Fits w32 c.cells-cell-end.result = search rules in
    few_roots (root_in c.args.self.now) c.cells.cell c.cells-cell-end.result c.cells.roots.items c.requires.made.draft.store.root_is_box
    (omega (arith, c.cells-test.false, c.cells-cell-end.ensures)) c.cells.invariant c.cells-cell-end.ensures (omega (arith, fits))
