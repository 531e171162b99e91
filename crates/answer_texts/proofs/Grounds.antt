-- What an accepted text states is what its printing asks for.
use mathlib.Core.Bool.{Bool-set}
use Rattle.std.proofs.Common.{◌≡◌, ◌<◌, ◌^◌, ◌∙◌, true, List, length, map, arith, sym, ap, subst}
use Rattle.std.proofs.Math.Logic.{∥∥₁_elim}
use Rattle.std.proofs.lemmas.Bool.{and_parts}
use Rattle.std.proofs.lemmas.List.Folds.{list_all-append}
use Rattle.std.specs.List.{AllByRecursion, list_all}
use Rattle.sopl_ast.specs.Instances.{Decision, Stochastic, names_in}
use Rattle.sopl_ast.specs.Pieces.{is_word}
use Rattle.unfold_laws.specs.Bounds.{IsBoundedDecision}
use Rattle.unfold_laws.proofs.Counts.{instances_are_counted}
use Rattle.unfold_laws.proofs.Whole.{decisions_are_bounded}
use Rattle.unfold_laws.proofs.Names.{names_are_words}
use Rattle.scen_accept.specs.Stated.{model_in, problem_in}
use Rattle.scen_accept.specs.declared.accepted.AcceptedProblem.{AcceptedProblem}

-- the domains of the decisions
pub stated_bounded : (stated : AcceptedProblem) (ds : List Decision) → ds ≡ (problem_in stated).decisions → AllByRecursion IsBoundedDecision ds
stated_bounded stated ds same =
    subst (AllByRecursion IsBoundedDecision) (sym same) (decisions_are_bounded (model_in stated) stated.ground.unfolded.passes)

-- the names have the form of names
all_words : (stated : AcceptedProblem) → list_all is_word (names_in (problem_in stated).decisions (problem_in stated).stochastics) ≡ true
all_words stated = ∥∥₁_elim stated.ground.typed.origin (Bool-set _ _) (names_are_words (model_in stated))

pub stated_words : (stated : AcceptedProblem) (ss : List Stochastic) → ss ≡ (problem_in stated).stochastics → list_all is_word (map (λ (s : Stochastic). s.name) ss) ≡ true
stated_words stated ss same =
    ap (λ l. list_all is_word (map (λ (s : Stochastic). s.name) l)) same
    ∙ (and_parts _ _
    (sym (list_all-append is_word (map (λ (d : Decision). d.name) (problem_in stated).decisions) (map (λ (s : Stochastic). s.name) (problem_in stated).stochastics))
    ∙ all_words stated)).1

-- the stochastic variables are few
pub stated_few : (stated : AcceptedProblem) (ss : List Stochastic) → ss ≡ (problem_in stated).stochastics → length ss < 2 ^ 32
stated_few stated ss same =
    subst (λ l. length l < 2 ^ 32) (sym same) (omega (arith, instances_are_counted (model_in stated) stated.ground.unfolded.passes))
