-- The problem of a text that was read and is unfolded whole comes stage by stage.
use Rattle.std.proofs.Common.{◌≤◌, ℕ, List, [], ◌∷◌, length, All}
use Rattle.std.specs.List.{AllByRecursion}
use Rattle.std.proofs.lemmas.List.Elements.{All-nil, All-cons}
use Rattle.sopl_ast.specs.Instances.{Stochastic, distribution}
use Rattle.sopl_ast.specs.Unfolding.{problem_of, text_events}
use Rattle.sopl_ast.specs.Whole.{ModelTree}
use Rattle.unfold_laws.specs.Bounds.{IsBoundedStochastic}
use Rattle.unfold_laws.specs.Passing.{NothingFails}
use Rattle.unfold_laws.proofs.Outcomes.{stochastics_have_outcomes}
use Rattle.unfold_laws.proofs.Whole.{stochastics_are_bounded}
use Rattle.scen_laws.specs.Laws.{HasOutcome, IsByStage}
use Rattle.scen_laws.proofs.Stages.{stochastics_ascend}
use Rattle.policy_json.specs.Staged.{Ascend, TextsAreStaged}

-- stages of which none is below one that stands before it ascend
ascend_from : (from : ℕ) (ss : List Stochastic) → AllByRecursion (λ (s : Stochastic). from ≤ s.stage) ss → IsByStage ss → Ascend from ss
ascend_from from [] all ordered = tt
ascend_from from (s ∷ ss) all ordered = (all.0, ascend_from s.stage ss ordered.0 ordered.1)

-- stages begin with 1
from_one : (ss : List Stochastic) → AllByRecursion IsBoundedStochastic ss → AllByRecursion (λ (s : Stochastic). 1 ≤ s.stage) ss
from_one [] all = tt
from_one (s ∷ ss) all = (all.0.stage.0, from_one ss all.1)

outcomes_there : (ss : List Stochastic) → AllByRecursion HasOutcome ss → All (λ (s : Stochastic). 1 ≤ length (distribution s)) ss
outcomes_there [] all = All-nil (λ (s : Stochastic). 1 ≤ length (distribution s))
outcomes_there (s ∷ ss) all = All-cons (λ (s : Stochastic). 1 ≤ length (distribution s)) s ss all.0 (outcomes_there ss all.1)

-- the stages of the stochastic variables ascend from 1 on
pub texts_ascend : (model : ModelTree) → NothingFails (text_events model) → Ascend 1 (problem_of model).stochastics
texts_ascend model passes =
    ascend_from 1 (problem_of model).stochastics (from_one (problem_of model).stochastics (stochastics_are_bounded model passes)) (stochastics_ascend model)

pub texts_are_staged : TextsAreStaged
texts_are_staged model from passes =
    record {
      ascending = texts_ascend model passes;
      outcomes = outcomes_there (problem_of model).stochastics (stochastics_have_outcomes model from);
    }
