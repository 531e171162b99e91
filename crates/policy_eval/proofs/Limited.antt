-- What limits that are not passed say.
use Rattle.std.proofs.Common.{◌≡◌, refl, sym, ◌-◌, Option, Some, None, option_map}
use Rattle.std.proofs.lemmas.Option.{none-some}
use Rattle.sopl_ast.specs.Instances.{Problem}
use Rattle.sopl_ast.specs.Limits.{usual_limits, node_excess}
use Rattle.sopl_ast.specs.Cells.{cells}
use Rattle.lang_laws.proofs.Shared.{first_none, passed, then_none}
use Rattle.box_problem.specs.Box.{Box}
use Rattle.compile_laws.specs.Measured.{first_large, goal_excess, large_excess, measured_excess, measured_terms, term_excess}
use Rattle.compile_laws.specs.Root.{root_box}
use Rattle.compile_laws.specs.Texts.{program_excess}
use Rattle.compile_laws.specs.Whole.{problem_terms}

map_none : {A B : Type 0} (f : A → B) (a : Option A) → option_map f a ≡ None → a ≡ None
map_none f None none = refl
map_none f (Some x) none = absurd (none-some (f x) (sym none))

module _ (problem : Problem) where
  abbrev root : Box
  root = root_box (cells problem)

  measured_none : program_excess problem ≡ None → measured_excess root (problem_terms problem) ≡ None
  measured_none allowed = then_none (node_excess usual_limits problem) (measured_excess root (problem_terms problem)) allowed

  -- no term is too large, nor is the objective
  pub no_large : program_excess problem ≡ None → first_large root (measured_terms (problem_terms problem)) ≡ None
  no_large allowed = map_none large_excess (first_large root (measured_terms (problem_terms problem))) (first_none (term_excess root (problem_terms problem)) (goal_excess root (problem_terms problem)) (measured_none allowed))

  pub no_large_goal : program_excess problem ≡ None → goal_excess root (problem_terms problem) ≡ None
  no_large_goal allowed = then_none (term_excess root (problem_terms problem)) (goal_excess root (problem_terms problem)) (measured_none allowed)
