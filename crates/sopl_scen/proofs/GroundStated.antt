-- What a ground problem states is what a tree asks for.
use Rattle.std.proofs.Common.{◌≡◌, ℕ, List, [], ◌∷◌, arith, sym, subst}
use denote.Struct.Props.{props}
use Rattle.std.proofs.Math.Logic.{∥∥₁_elim, ∥∥₁_map}
use Rattle.std.specs.List.{AllByRecursion}
use Rattle.sopl_ast.specs.Whole.{ModelTree}
use Rattle.sopl_ast.specs.Origin.{IsFromTokens}
use Rattle.sopl_ast.specs.Instances.{Decision, Stochastic}
use Rattle.sopl_ast.specs.Unfolding.{problem_of, text_events}
use Rattle.unfold_laws.specs.Passing.{NothingFails}
use Rattle.unfold_laws.proofs.Whole.{decisions_are_bounded, stochastics_are_bounded}
use Rattle.unfold_laws.proofs.Outcomes.{stochastics_have_outcomes}
use Rattle.unfold_laws.proofs.Counts.{instances_are_counted}
use Rattle.scen_laws.specs.Laws.{HasOutcome}
use Rattle.scen_laws.proofs.Stages.{stochastics_ascend}
use Rattle.sopl_scen.specs.Layout.{AreStated}
use Rattle.sopl_scen.proofs.Stated.{constraints_in}

-- that each variable has outcomes is a proposition, so it may be known of a model whose tokens are not
outcomes_there : (ss : List Stochastic) → ∥ AllByRecursion HasOutcome ss ∥₁ → AllByRecursion HasOutcome ss
outcomes_there [] held = tt
outcomes_there (s ∷ ss) held = (∥∥₁_elim held (search props) (λ h. h.0), outcomes_there ss (∥∥₁_map held (λ h. h.1)))

-- a model that is typed and passes states what a tree asks for
pub ground_stated : (model : ModelTree) → ∥ IsFromTokens model ∥₁ → NothingFails (text_events model) → (ds : List Decision) (ss : List Stochastic) (constraints : ℕ)
    → ds ≡ (problem_of model).decisions → ss ≡ (problem_of model).stochastics → constraints ≡ constraints_in (problem_of model)
    → AreStated ds ss constraints
ground_stated model from passes ds ss constraints decided drawn beside =
    subst (λ d. AreStated d ss constraints) (sym decided)
    (subst (λ s. AreStated (problem_of model).decisions s constraints) (sym drawn)
    (subst (λ n. AreStated (problem_of model).decisions (problem_of model).stochastics n) (sym beside)
    (record {
      decisions = decisions_are_bounded model passes;
      outcomes = outcomes_there (problem_of model).stochastics (∥∥₁_map from (stochastics_have_outcomes model));
      stochastics = stochastics_are_bounded model passes;
      ordered = stochastics_ascend model;
      few = omega (arith, instances_are_counted model passes);
    })))
