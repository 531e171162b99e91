-- What was counted is never less behind a step.
use Rattle.std.proofs.Common.{◌≡◌, refl, sym, ap, subst, ◌∙◌, ℕ, ◌+◌, ◌≤◌, nat_lt, ℤ, pos, Bool, true, false, cond, List, [], ◌∷◌, Option, Result, Ok, Err, T, is_err, arith}
use Rattle.sopl_base.specs.declared.fault.Fault.{Fault}
use Rattle.sopl_base.specs.declared.fault.Fault.TheVariants.{Limit}
use Rattle.sopl_base.specs.declared.codes.TheConstants as codes
use Rattle.sopl_ast.specs.Known.{Known}
use Rattle.sopl_ast.specs.UnfoldEvents.{UnfoldEvent, Counted, Refused, Passed, excess, first_failure, most_counted}
use Rattle.sopl_ast.specs.Tree.{Trees, Range}
use Rattle.unfold_constants.specs.Evaluation as w
use Rattle.unfold_constants.specs.Evaluation.{Step}
use Rattle.unfold_constants.specs.Traversal as k
use Rattle.unfold_constants.proofs.Steps.{Agrees, At}
use Rattle.unfold_constants.proofs.EvaluationAgreement.{agree_numbers, agree_range}
use Rattle.unfold_constants.proofs.TraversalAgreement.{meets_trees}

abbrev number_or : ℕ → Result ℕ Fault → ℕ
number_or d (Ok n) = n
number_or d (Err fault) = d

abbrev count_or : {A : Type 0} → ℕ → Result (A × ℕ) Fault → ℕ
count_or d (Ok x) = x.1
count_or d (Err fault) = d

met_grows : (events : List UnfoldEvent) (count behind : ℕ) → first_failure count events ≡ Ok behind → count ≤ behind
met_grows [] count behind is = omega (arith, ap (number_or count) is)
met_grows (Counted ∷ later) count behind is = on (nat_lt count most_counted) is (met_grows later (count + 1) behind)
  where
    on : (b : Bool) → cond b (first_failure (count + 1) later) (Err (Limit (excess codes.UNFOLDING (pos (most_counted + 1)) (pos most_counted)))) ≡ Ok behind
        → (first_failure (count + 1) later ≡ Ok behind → count + 1 ≤ behind) → count ≤ behind
    on true so next = omega (arith, next so)
    on false so next = absurd (subst (λ r. T (is_err r)) so tt)
met_grows (Refused refusal ∷ later) count behind is = absurd (subst (λ r. T (is_err r)) is tt)
met_grows (Passed passed ∷ later) count behind is = absurd (subst (λ r. T (is_err r)) is tt)

-- a step that agrees with what is met
pub step_grows : {A : Type 0} {s : Step A} {ms : List UnfoldEvent} {v : Option A} → Agrees s ms v → (count : ℕ) (x : A) (behind : ℕ)
    → ◌≡◌ {A = Result (A × ℕ) Fault} (s count) (Ok (x, behind)) → count ≤ behind
step_grows {A} {s} {ms} {v} a count x behind is = on (first_failure count ms) refl (a.at count)
  where
    on : (m : Result ℕ Fault) → first_failure count ms ≡ m → At m (s count) v → count ≤ behind
    on (Ok n) met_is found = omega (arith, met_grows ms count n met_is, ap (count_or n) (sym (found.2) ∙ is))
    on (Err f) met_is failed = absurd (subst (λ r. T (is_err r)) (sym failed ∙ is) tt)

pub numbers_grow : (known : Known) (whole : ℕ) (found : List ℤ) (es : Trees) (count : ℕ) (xs : List ℤ) (behind : ℕ)
    → ◌≡◌ {A = Result (List ℤ × ℕ) Fault} (w.numbers known whole found es count) (Ok (xs, behind)) → count ≤ behind
numbers_grow known whole found es count xs behind is = step_grows (agree_numbers es known whole found) count xs behind is

pub range_grows : (known : Known) (whole : Option ℕ) (range : Range) (count : ℕ) (ns : List ℤ) (behind : ℕ)
    → ◌≡◌ {A = Result (List ℤ × ℕ) Fault} (w.range_numbers known whole range count) (Ok (ns, behind)) → count ≤ behind
range_grows known whole range count ns behind is = step_grows (agree_range range known whole) count ns behind is

pub walk_grows : (known : Known) (es : Trees) (count behind : ℕ)
    → ◌≡◌ {A = Result (Unit {0} × ℕ) Fault} (k.walk_all known es count) (Ok (tt, behind)) → count ≤ behind
walk_grows known es count behind is = step_grows (meets_trees es known) count tt behind is

pub ruleset growing = (numbers_grow, range_grows, walk_grows)
