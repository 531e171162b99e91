-- What is known of a problem's policies where a search ended before it was done.
use Rattle.std.specs.Prelude.{ℤ, Option, IfSome}
use Rattle.sopl_base.specs.Better.{IsBetter}
use Rattle.sopl_ast.specs.Instances.{Problem}
use Rattle.sopl_ast.specs.Optimal.{direction_of}
use Rattle.compile_laws.specs.Bounds.{IsWorth, IsBoundOf}
use Rattle.answer_lines.specs.AnswerData.{Valued}

-- what was found satisfies and has its value, no policy is better than the bound, and the bound is better than what was found
pub record IsBounded (problem : Problem) (found : Option Valued) (bound : ℤ) : Type 0 where
  pub found_is : IfSome found (λ (f : Valued). IsWorth problem f.policy f.value)
  pub bound_is : IsBoundOf problem bound
  pub hopeful : IfSome found (λ (f : Valued). IsBetter (direction_of problem) bound f.value)
