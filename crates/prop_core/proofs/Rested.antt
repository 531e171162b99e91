-- A propagator that has rested.
use Rattle.std.proofs.Common.{◌≡◌, ℕ, ℤ, true, List, Option, Some, None, refl, sym, ap, subst}
use Rattle.std.specs.List.Sorted.{IsStrictlyIncreasing}
use Rattle.std.specs.Option.{option_eq}
use Rattle.std.specs.Ordering.{int_eq}
use Rattle.sopl_base.specs.declared.reason.Reason.{Reason}
use Rattle.sopl_base.proofs.Tests.{equal_tested}
use Rattle.box_problem.specs.Box.{Box}
use Rattle.box_problem.specs.BoxProblem.{BoxProblem}
use Rattle.box_problem.specs.Rightness.{Quiets}
use Rattle.prop_core.specs.declared.finding.Finding.{Finding}
use Rattle.prop_core.specs.declared.finding.Finding.TheVariants.{Quiet}
use Rattle.prop_core.specs.Findings.{Finds}
use Rattle.prop_core.specs.Watches.{FitsAndLooksAt, HasRested, LooksAt}

same_best : (v w : Option ℤ) → option_eq int_eq v w ≡ true → v ≡ w
same_best None None is = refl
same_best None (Some y) is = absurd (cc)
same_best (Some x) None is = absurd (cc)
same_best (Some x) (Some y) is = ap Some (equal_tested x y is)

pub same_rested : (rested : Option (Option ℤ)) (v : Option ℤ) → option_eq (option_eq int_eq) rested (Some v) ≡ true → rested ≡ Some v
same_rested None v is = absurd (cc)
same_rested (Some w) v is = ap Some (same_best w v is)

-- what rests after a finding
pub rests_quiet : (problem : BoxProblem) (reasons : List Reason) (v : Option ℤ) (b : Box) (finding : Finding) → finding ≡ Quiet → Finds problem reasons v b finding → Quiets problem reasons v b
rests_quiet problem reasons v b finding is finds = subst (λ (f : Finding). Finds problem reasons v b f) is finds

-- it rests against the same value
pub quiet_again : (problem : BoxProblem) (reasons : List Reason) (rested : Option (Option ℤ)) (v : Option ℤ) (b : Box) → rested ≡ Some v → HasRested problem reasons rested b → Quiets problem reasons v b
quiet_again problem reasons rested v b is held = subst (λ (r : Option (Option ℤ)). HasRested problem reasons r b) is held

-- a propagator that has the same reasons still looks at these cells alone
pub still_looks_at : {F G : Type 0} (problem : BoxProblem) (before after : List Reason) (cells same : List ℕ) → after ≡ before → same ≡ cells → (F → G) → FitsAndLooksAt F problem before cells
    → FitsAndLooksAt G problem after same
still_looks_at problem before after cells same reasons_are cells_are still fit = record {
  fits = still fit.fits;
  looks = subst (λ (list : List ℕ). LooksAt problem after list) (sym cells_are) (subst (λ (reasons : List Reason). LooksAt problem reasons cells) (sym reasons_are) fit.looks);
  ascend = subst IsStrictlyIncreasing (sym cells_are) fit.ascend;
}

-- and did so before
pub looked_at_before : {F G : Type 0} (problem : BoxProblem) (before after : List Reason) (cells same : List ℕ) → after ≡ before → same ≡ cells → (G → F) → FitsAndLooksAt G problem after same
    → FitsAndLooksAt F problem before cells
looked_at_before problem before after cells same reasons_are cells_are back fit = still_looks_at problem after before same cells (sym reasons_are) (sym cells_are) back fit
