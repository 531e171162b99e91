-- Lists all of whose steps were read.
use Rattle.std.proofs.Common.{inl, inr, ℕ, ◌+◌, ◌<◌, ◌≤◌, List, length, get_or, All, arith, sym, ap, subst, ◌∙◌}
use Rattle.std.proofs.lemmas.Bool.{cases_eq}
use Rattle.std.proofs.lemmas.List.{get_or_default}
use Rattle.sopl_base.specs.declared.reason.Step.{Step}
use Rattle.log_rows.specs.Ranges.{StepFits}

-- the steps before this place fit
abbrev pub FitBelow : List Step → ℕ → Type 0
FitBelow steps i = (k : ℕ) (d : Step) → k < i → k < length steps → StepFits (get_or steps k d)

pub one_more_fits : (steps : List Step) (i : ℕ) (e : Step) → FitBelow steps i → StepFits (get_or steps i e) → FitBelow steps (i + 1)
one_more_fits steps i e below here k d before exists =
    elim (cases_eq k i) [
      | inl last ↦ subst (λ (s : Step). StepFits s) (get_or_default steps i e d (subst (λ (n : ℕ). n < length steps) last exists) ∙ ap (λ (n : ℕ). get_or steps n d) (sym last)) here
      | inr other ↦ below k d (omega (arith, before, other)) exists
    ]

pub all_fit : (steps : List Step) (i : ℕ) → length steps ≤ i → FitBelow steps i → All StepFits steps
all_fit steps i all below = λ k d exists. below k d (omega (arith, all, exists)) exists
