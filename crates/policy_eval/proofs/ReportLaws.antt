-- One thing alone is told of a policy.
use Rattle.std.proofs.Common.{◌≡◌, sym, ap, subst, ◌∙◌, ℕ, ℤ, List, All, IfSome}
use Rattle.std.proofs.lemmas.Option.{same_Some}
use Rattle.sopl_ast.specs.Instances.{Hard, Objective, Problem}
use Rattle.sopl_ast.specs.Optimal.{Satisfies, weight_of}
use Rattle.sopl_ast.specs.Policies.{Policy}
use Rattle.sopl_ast.specs.Scenarios.{scenarios}
use Rattle.policy_eval.specs.Reports.{Judgement, satisfied, hard, chance, objective, HoldsIn, IsHeld, IsReached, IsValued, IsFirstOther, IsSatisfied, FailsHard, FailsChance, FailsObjective}
use Rattle.policy_eval.specs.Reports.{IsReport, ReportsAreOne, IsSatisfying, SatisfyingAreTold}
use Rattle.policy_eval.proofs.Firsts.{no_other, same_number, same_first}

module _ (problem : Problem) (policy : Policy) where
  -- constraints that fail, and all hold
  hard_against : (i s : ℕ) → FailsHard problem policy i s → All (IsHeld problem policy) problem.hards → ⊥
  hard_against i s fails all = no_other (IsHeld problem policy) problem.hards i fails.constraint all fails.first

  chance_against : (i : ℕ) (z : ℤ) → FailsChance problem policy i z → All (IsReached problem policy) problem.chances → ⊥
  chance_against i z fails all = no_other (IsReached problem policy) problem.chances i fails.constraint all fails.first

  objective_against : (s : ℕ) → FailsObjective problem policy s → Satisfies problem policy → ⊥
  objective_against s fails satisfies =
      no_other (IsValued problem policy fails.asked) (scenarios problem.stochastics) s fails.place
      (subst (λ o. IfSome o (λ asked. All (IsValued problem policy asked) (scenarios problem.stochastics))) fails.stands satisfies.objective) fails.earliest

  -- two of a kind
  same_satisfied : (v w : ℤ) (xs ys : List ℤ) → IsSatisfied problem policy v xs → IsSatisfied problem policy w ys → satisfied v xs ≡ satisfied w ys
  same_satisfied v w xs ys one other =
      let value : v ≡ w = same_Some v w (sym one.worth ∙ other.worth) in
      let sums : xs ≡ ys = one.weights ∙ sym other.weights in
      λ i. satisfied (value i) (sums i)

  same_hard : (i j s r : ℕ) → FailsHard problem policy i s → FailsHard problem policy j r → hard i s ≡ hard j r
  same_hard i j s r one other =
      let instance : i ≡ j = same_number (IsHeld problem policy) problem.hards i j one.constraint other.constraint one.first other.first in
      let constraint : other.constraint ≡ one.constraint = sym (same_first (IsHeld problem policy) problem.hards i j one.constraint other.constraint one.first other.first) in
      let earliest : IsFirstOther (HoldsIn problem policy one.constraint) (scenarios problem.stochastics) r other.place =
      subst (λ (h : Hard). IsFirstOther (HoldsIn problem policy h) (scenarios problem.stochastics) r other.place) constraint other.earliest in
      let scenario : s ≡ r = same_number (HoldsIn problem policy one.constraint) (scenarios problem.stochastics) s r one.place other.place one.earliest earliest in
      λ k. hard (instance k) (scenario k)

  same_chance : (i j : ℕ) (x y : ℤ) → FailsChance problem policy i x → FailsChance problem policy j y → chance i x ≡ chance j y
  same_chance i j x y one other =
      let instance : i ≡ j = same_number (IsReached problem policy) problem.chances i j one.constraint other.constraint one.first other.first in
      let constraint : one.constraint ≡ other.constraint = same_first (IsReached problem policy) problem.chances i j one.constraint other.constraint one.first other.first in
      let sum : x ≡ y = one.weight ∙ ap (weight_of problem policy) constraint ∙ sym other.weight in
      λ k. chance (instance k) (sum k)

  same_objective : (s r : ℕ) → FailsObjective problem policy s → FailsObjective problem policy r → objective s ≡ objective r
  same_objective s r one other =
      let asked : other.asked ≡ one.asked = same_Some other.asked one.asked (sym other.stands ∙ one.stands) in
      let earliest : IsFirstOther (IsValued problem policy one.asked) (scenarios problem.stochastics) r other.place =
      subst (λ (o : Objective). IsFirstOther (IsValued problem policy o) (scenarios problem.stochastics) r other.place) asked other.earliest in
      ap objective (same_number (IsValued problem policy one.asked) (scenarios problem.stochastics) s r one.place other.place one.earliest earliest)

  reports_one : (one other : Judgement) → IsReport problem policy one → IsReport problem policy other → one ≡ other
  reports_one (satisfied v xs) (satisfied w ys) a b = same_satisfied v w xs ys a b
  reports_one (satisfied v xs) (hard i s) a b = absurd (hard_against i s b a.satisfies.hards)
  reports_one (satisfied v xs) (chance i z) a b = absurd (chance_against i z b a.satisfies.chances)
  reports_one (satisfied v xs) (objective s) a b = absurd (objective_against s b a.satisfies)
  reports_one (hard i s) (satisfied w ys) a b = absurd (hard_against i s a b.satisfies.hards)
  reports_one (hard i s) (hard j r) a b = same_hard i j s r a b
  reports_one (hard i s) (chance j z) a b = absurd (hard_against i s a b.hards)
  reports_one (hard i s) (objective r) a b = absurd (hard_against i s a b.hards)
  reports_one (chance i z) (satisfied w ys) a b = absurd (chance_against i z a b.satisfies.chances)
  reports_one (chance i z) (hard j r) a b = absurd (hard_against j r b a.hards)
  reports_one (chance i z) (chance j y) a b = same_chance i j z y a b
  reports_one (chance i z) (objective r) a b = absurd (chance_against i z a b.chances)
  reports_one (objective s) (satisfied w ys) a b = absurd (objective_against s a b.satisfies)
  reports_one (objective s) (hard j r) a b = absurd (hard_against j r b a.hards)
  reports_one (objective s) (chance j z) a b = absurd (chance_against j z b a.chances)
  reports_one (objective s) (objective r) a b = same_objective s r a b

  told : (judgement : Judgement) → IsReport problem policy judgement → Satisfies problem policy → IsSatisfying judgement
  told (satisfied v xs) is satisfies = tt
  told (hard i s) is satisfies = absurd (hard_against i s is satisfies.hards)
  told (chance i z) is satisfies = absurd (chance_against i z is satisfies.chances)
  told (objective s) is satisfies = absurd (objective_against s is satisfies)

  back : (judgement : Judgement) → IsReport problem policy judgement → IsSatisfying judgement → Satisfies problem policy
  back (satisfied v xs) is so = is.satisfies
  back (hard i s) is so = absurd so
  back (chance i z) is so = absurd so
  back (objective s) is so = absurd so

pub reports_are_one : ReportsAreOne
reports_are_one problem policy one other a b = reports_one problem policy one other a b

pub satisfying_are_told : SatisfyingAreTold
satisfying_are_told problem policy judgement is = (back problem policy judgement is, told problem policy judgement is)
