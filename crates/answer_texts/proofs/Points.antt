-- What a text states, as its answer is printed from it.
use mathlib.Core.Bool.{Bool-set}
use Rattle.std.proofs.Common.{◌≡◌, ℕ, true, List, refl, sym, subst}
use Rattle.std.proofs.Math.Logic.{∥∥₁_elim}
use Rattle.std.specs.List.{list_all}
use Rattle.sopl_ast.specs.Instances.{Decision, Stochastic, names_in}
use Rattle.sopl_ast.specs.Pieces.{is_word}
use Rattle.sopl_scen.specs.Layout.{AreStated}
use Rattle.sopl_scen.proofs.GroundStated.{ground_stated}
use Rattle.sopl_scen.proofs.Stated.{constraints_in}
use Rattle.unfold_laws.proofs.Names.{names_are_words}
use Rattle.compile_laws.specs.WellMade.{IsUnfolded}
use Rattle.scen_accept.specs.Stated.{States, model_in, problem_in}
use Rattle.scen_accept.specs.declared.accepted.AcceptedProblem.{AcceptedProblem}
use Rattle.scen_accept.proofs.NamesFormed.{model_from_tokens}

-- an accepted text was read, has no mistake and is unfolded whole
pub text_unfolded : (text : List ℕ) (stated : AcceptedProblem) → States text stated → IsUnfolded (model_in stated)
text_unfolded text stated states =
    record { from = model_from_tokens text (model_in stated) states.spelled; typed = states.accepted.typed; passes = states.accepted.unfolded }

-- its variables are as a text states them
pub variables_stated : (stated : AcceptedProblem) (ds : List Decision) (ss : List Stochastic) → ds ≡ (problem_in stated).decisions → ss ≡ (problem_in stated).stochastics
    → (constraints : ℕ) × AreStated ds ss constraints
variables_stated stated ds ss decided drawn = (
  constraints_in (problem_in stated),
  ground_stated (model_in stated) stated.ground.typed.origin stated.ground.unfolded.passes ds ss (constraints_in (problem_in stated)) decided drawn refl,
)

-- and their names have the form of names
pub names_spelled : (stated : AcceptedProblem) (ds : List Decision) (ss : List Stochastic) → ds ≡ (problem_in stated).decisions → ss ≡ (problem_in stated).stochastics
    → list_all is_word (names_in ds ss) ≡ true
names_spelled stated ds ss decided drawn =
    subst (λ d. list_all is_word (names_in d ss) ≡ true) (sym decided)
    (subst (λ s. list_all is_word (names_in (problem_in stated).decisions s) ≡ true) (sym drawn)
    (∥∥₁_elim stated.ground.typed.origin (Bool-set _ _) (names_are_words (model_in stated))))
