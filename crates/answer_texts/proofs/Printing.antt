-- What is printed of an outcome.
use Rattle.std.proofs.Common.{◌≡◌, ◌∙◌, ℕ, ℤ, List, Result, Ok, Err, IfOk, Some, None, refl, ap, subst}
use Rattle.std.specs.declared.alloc.AllocError.{AllocError}
use Rattle.serde_json.specs.Data.{Data}
use Rattle.serde_json.specs.View.{view}
use Rattle.serde_json.specs.declared.value.Value.{Value}
use Rattle.sopl_ast.specs.Cells.{cells, policy_at}
use Rattle.sopl_ast.specs.Instances.{Decision, Problem, Stochastic}
use Rattle.sopl_ast.specs.Optimal.{denominator}
use Rattle.sopl_scen.specs.Layout.{cells_for}
use Rattle.term_problem.specs.Problems.{ProblemTerms, denominator_in}
use Rattle.compile_laws.proofs.Best.{values_are_same}
use Rattle.term_program.specs.Programs.{problem_in as terms_in}
use Rattle.term_program.specs.declared.program.Program.{Program}
use Rattle.sopl_search.specs.declared.outcome.Found.{Found}
use Rattle.policy_json.specs.Nodes.{outermost_node, policy_data}
use Rattle.answer_lines.specs.AnswerData.{bound_object, bounded_data, found_object, fraction, line_of, optimal_data, optimal_object}
use Rattle.answer_texts.specs.Solving.{IsProgramOf}
use Rattle.answer_texts.specs.Logs.{valued_at}

-- the policy of a point, by the variables that a text states
pub printed_policy : (problem : Problem) (ds : List Decision) (ss : List Stochastic) (values point : List ℤ) (result : Result Value AllocError)
    → ds ≡ problem.decisions → ss ≡ problem.stochastics → values ≡ point
    → IfOk result (λ policy. view policy ≡ outermost_node ds ss (policy_at (cells_for ds ss) values))
    → IfOk result (λ policy. view policy ≡ policy_data problem (policy_at (cells problem) point))
printed_policy problem ds ss values point result decided drawn same printed =
    subst (λ (d : Data). IfOk result (λ policy. view policy ≡ d))
    (λ i. outermost_node (decided i) (drawn i) (policy_at (cells_for (decided i) (drawn i)) (same i))) printed

-- the denominator of a program is that of its problem
pub same_denominator : (problem : Problem) (program : Program) → IsProgramOf problem program → denominator_in (terms_in program) ≡ denominator problem
same_denominator problem program is = ap (λ (t : ProblemTerms). denominator_in t) is.terms ∙ (values_are_same problem).denominator

module _ (problem : Problem) (program : Program) (is : IsProgramOf problem program) (over : ℤ) (told : over ≡ denominator_in (terms_in program)) where
  whole : over ≡ denominator problem
  whole = told ∙ same_denominator problem program is

  -- the line of an optimal point
  pub optimal_printed : (value : ℤ) (point : List ℤ) (policy : Data) (line : List ℕ) → policy ≡ policy_data problem (policy_at (cells problem) point)
      → line ≡ line_of (optimal_object policy (fraction value over)) → line ≡ line_of (optimal_data problem (policy_at (cells problem) point) value)
  optimal_printed value point policy line node written = written ∙ (λ i. line_of (optimal_object (node i) (fraction value (whole i))))

  -- the line of a bound, where a point was found
  pub found_printed : (found : Found) (bound : ℤ) (policy : Data) (line : List ℕ) → policy ≡ policy_data problem (policy_at (cells problem) found.cells)
      → line ≡ line_of (found_object (fraction bound over) policy (fraction found.value over))
      → line ≡ line_of (bounded_data problem (Some (valued_at problem found)) bound)
  found_printed found bound policy line node written =
      written ∙ (λ i. line_of (found_object (fraction bound (whole i)) (node i) (fraction found.value (whole i))))

  -- and where none was
  pub bound_printed : (bound : ℤ) (line : List ℕ) → line ≡ line_of (bound_object (fraction bound over)) → line ≡ line_of (bounded_data problem None bound)
  bound_printed bound line written = written ∙ (λ i. line_of (bound_object (fraction bound (whole i))))
