-- What is read for a ground problem.
use Rattle.std.proofs.Common.{◌≡◌, ◌∙◌, ℕ, List, Result, Ok, Err, IfOk, sym, subst}
use Rattle.std.specs.declared.alloc.AllocError.{AllocError}
use Rattle.sopl_ast.specs.Cells.{cells}
use Rattle.sopl_ast.specs.Instances.{Decision, Stochastic}
use Rattle.sopl_ast.specs.Unfolding.{problem_of, text_events}
use Rattle.sopl_ast.specs.Whole.{ModelTree}
use Rattle.unfold_laws.specs.Passing.{NothingFails}
use Rattle.unfold_laws.proofs.Whole.{decisions_are_bounded}
use Rattle.policy_read.specs.declared.policy.PolicyReading as kept
use Rattle.policy_read.specs.Policies.{HoldsPoint, policy_in, policy_reading}
use Rattle.policy_read.proofs.Inside.{reading_lies}

module _ (model : ModelTree) (ds : List Decision) (ss : List Stochastic) (bytes : List ℕ) where
  pub read_so : (result : Result kept.PolicyReading AllocError) → ds ≡ (problem_of model).decisions → ss ≡ (problem_of model).stochastics
      → IfOk result (λ reading. policy_reading reading ≡ policy_in ds ss bytes)
      → IfOk result (λ reading. policy_reading reading ≡ policy_in (problem_of model).decisions (problem_of model).stochastics bytes)
  read_so (Ok reading) decided drawn is = is ∙ (λ i. policy_in (decided i) (drawn i) bytes)
  read_so (Err error) decided drawn is = tt

pub reading_inside : (model : ModelTree) → NothingFails (text_events model) → (ds : List Decision) (ss : List Stochastic) (bytes : List ℕ)
    (result : Result kept.PolicyReading AllocError) → ds ≡ (problem_of model).decisions → ss ≡ (problem_of model).stochastics
    → IfOk result (λ reading. policy_reading reading ≡ policy_in ds ss bytes)
    → IfOk result (λ reading. HoldsPoint (cells (problem_of model)) (policy_reading reading))
reading_inside model passes ds ss bytes (Ok reading) decided drawn is =
    subst (HoldsPoint (cells (problem_of model))) (sym (is ∙ (λ i. policy_in (decided i) (drawn i) bytes)))
    (reading_lies (problem_of model).decisions (problem_of model).stochastics bytes (decisions_are_bounded model passes))
reading_inside model passes ds ss bytes (Err error) decided drawn is = tt
