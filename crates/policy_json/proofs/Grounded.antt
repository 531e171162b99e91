-- What a ground problem states, as its policies are printed and read.
use mathlib.Core.Bool.{Bool-set}
use Rattle.std.proofs.Common.{◌≡◌, ◌∙◌, ℕ, ℤ, true, List, length, refl, sym, subst}
use Rattle.std.proofs.Math.Logic.{∥∥₁_elim}
use Rattle.std.specs.List.{list_all}
use Rattle.sopl_ast.specs.Cells.{IsPoint, cells}
use Rattle.sopl_ast.specs.Instances.{Decision, Problem, Stochastic, names_in}
use Rattle.sopl_ast.specs.Origin.{IsFromTokens}
use Rattle.sopl_ast.specs.Pieces.{is_word}
use Rattle.sopl_ast.specs.Unfolding.{problem_of, text_events}
use Rattle.sopl_ast.specs.Whole.{ModelTree}
use Rattle.unfold_laws.specs.Passing.{NothingFails}
use Rattle.unfold_laws.proofs.Names.{names_are_words}
use Rattle.sopl_scen.specs.Layout.{AreStated, IsTreeOf, Layout}
use Rattle.sopl_scen.proofs.GroundStated.{ground_stated}
use Rattle.sopl_scen.proofs.Stated.{constraints_in}
use Rattle.sopl_policy.proofs.Keeping.{point_long}

module _ (model : ModelTree) (from : ∥ IsFromTokens model ∥₁) (passes : NothingFails (text_events model)) (ds : List Decision) (ss : List Stochastic)
    (decided : ds ≡ (problem_of model).decisions) (drawn : ss ≡ (problem_of model).stochastics) where
  -- its variables are as a text states them
  pub ground_states : (constraints : ℕ) × AreStated ds ss constraints
  ground_states = (constraints_in (problem_of model), ground_stated model from passes ds ss (constraints_in (problem_of model)) decided drawn refl)

  -- and their names have the form of names
  pub ground_spells : list_all is_word (names_in ds ss) ≡ true
  ground_spells =
      subst (λ d. list_all is_word (names_in d ss) ≡ true) (sym decided)
      (subst (λ s. list_all is_word (names_in (problem_of model).decisions s) ≡ true) (sym drawn)
      (∥∥₁_elim from (Bool-set _ _) (names_are_words model)))

  -- a tree of the problem is one of these variables
  pub ground_laid : (tree : Layout) → IsTreeOf (problem_of model).decisions (problem_of model).stochastics tree → IsTreeOf ds ss tree
  ground_laid tree laid = subst (λ d. IsTreeOf d ss tree) (sym decided) (subst (λ s. IsTreeOf (problem_of model).decisions s tree) (sym drawn) laid)

pub values_long : (problem : Problem) (tree : Layout) (values : List ℤ) → IsTreeOf problem.decisions problem.stochastics tree → IsPoint (cells problem) values
    → length values ≡ tree.cells
values_long problem tree values laid is = point_long (cells problem) values is ∙ sym laid.celled
