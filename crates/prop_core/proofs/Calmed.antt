-- Members that wait no more.
use Rattle.std.proofs.Common.{◌≡◌, inl, inr, ℕ, ◌+◌, ◌<◌, ◌≤◌, ℤ, Bool, true, false, List, [], length, Option, get_or, set, sym, ap, subst, ◌∙◌, arith}
use Rattle.std.proofs.lemmas.Bool.{cases_eq}
use Rattle.std.proofs.Math.Seq.{get_or-set_same, get_or-set_other}
use Rattle.sopl_base.specs.declared.reason.Reason.{Reason}
use Rattle.box_problem.specs.Box.{Box}
use Rattle.box_problem.specs.BoxProblem.{BoxProblem}
use Rattle.box_problem.specs.Rightness.{Quiets}
use Rattle.prop_core.specs.Watches.{AreCalm, waits_at}

-- a member rests now, and waits no more
pub calm_more : (problem : BoxProblem) (lists : List (List Reason)) (v : Option ℤ) (b : Box) (waits : List Bool) (at : ℕ) → AreCalm problem lists v b waits
    → Quiets problem (get_or lists at []) v b → AreCalm problem lists v b (set waits at false)
calm_more problem lists v b waits at calm quiet k below rests =
    elim (cases_eq k at) [
      | inl is ↦ subst (λ (i : ℕ). Quiets problem (get_or lists i []) v b) (sym is) quiet
      | inr other ↦ calm k below (sym (get_or-set_other waits at k false true other) ∙ rests)
    ]

pub done_more : (waits : List Bool) (start at : ℕ) → at < length waits → ((k : ℕ) → start ≤ k → k < at → waits_at waits k ≡ false)
    → (k : ℕ) → start ≤ k → k < at + 1 → waits_at (set waits at false) k ≡ false
done_more waits start at exists done k from below =
    elim (cases_eq k at) [
      | inl is ↦ ap (λ (i : ℕ). get_or (set waits at false) i true) is ∙ get_or-set_same waits at false true exists
      | inr other ↦ get_or-set_other waits at k false true other ∙ done k from (omega (arith, below, other))
    ]
