-- The limits on the terms of a text's problem.
use Rattle.std.specs.Prelude.{Option}
use Rattle.sopl_base.specs.declared.fault.Excess.{Excess}
use Rattle.sopl_ast.specs.Cells.{cells}
use Rattle.sopl_ast.specs.Instances.{Problem}
use Rattle.sopl_ast.specs.Limits.{node_excess, usual_limits}
use Rattle.sopl_ast.specs.Numbers.{or_else}
use Rattle.compile_laws.specs.Root.{root_box}
use Rattle.compile_laws.specs.Whole.{problem_terms}
use Rattle.compile_laws.specs.Measured.{measured_excess}

-- the first limit that the terms of a problem pass: their nodes (206), then the size of a term, and then that of the objective (207)
abbrev pub program_excess : Problem → Option Excess
program_excess problem = or_else (node_excess usual_limits problem) (measured_excess (root_box (cells problem)) (problem_terms problem))
