-- What a program is before it has a constraint.
use Rattle.std.specs.Prelude.{Bool, false, [], None}
use Rattle.std.specs.Option.{option_map_or}
use Rattle.compile_laws.specs.Whole.{problem_terms}
use Rattle.term_problem.specs.Problems.{ProblemTerms}
use Rattle.sopl_ast.specs.Instances.{Objective, Problem}
use Rattle.sopl_base.specs.declared.direction.Direction.{Direction}
use Rattle.sopl_base.specs.declared.direction.Direction.TheVariants.{Nothing}

-- a problem's scenarios alone
abbrev pub bare_terms : Problem → ProblemTerms
bare_terms problem = record (problem_terms problem) { hards = []; chances = []; goal = None }

-- the direction of a problem's objective, and whether its worst scenario counts
abbrev pub direction_of : Problem → Direction
direction_of problem = option_map_or (λ (o : Objective). o.direction) problem.objective Nothing

abbrev pub worst_of : Problem → Bool
worst_of problem = option_map_or (λ (o : Objective). o.worst) problem.objective false
