-- The weight of a scenario, and thresholds.
use Rattle.std.proofs.Common.{◌≡◌, ◌∙◌, ℕ, zero, suc, ℤ, pos, ◌≤ℤ◌, ◌*ℤ◌, int_lt, false, ap₂, ◌^◌, List, [], ◌∷◌, Option, Some, None, map, option_map, slice_get, unwrap_or, ap, refl, subst, sym}
use Rattle.std.specs.List.{AllByRecursion}
use Rattle.std.specs.Option.{option_map_or}
use Rattle.box_problem.specs.Box.{Box}
use Rattle.term_language.specs.declared.answers.Truth.{Truth}
use Rattle.term_language.specs.declared.answers.Truth.TheVariants.{False}
use Rattle.term_language.specs.Rules.{Near, truth}
use Rattle.term_language.specs.Terms.{Cond}
use Rattle.term_problem.specs.Problems.{ChanceTerms, ProblemTerms}
use Rattle.term_problem.specs.Refuted.{is_false}
use Rattle.term_nodes.specs.Things.{Thing}
use Rattle.term_program.specs.declared.draft.ChanceConditions.{ChanceConditions}
use Rattle.term_program.specs.Drafts.{IsThreshold, chance_of}
use Rattle.term_program.specs.Programs.{kept}
use Rattle.prop_shave.specs.ChanceSums.{condition_in, truth_over, weight_at, weight_over}

pub weight_is : (terms : ProblemTerms) (scenario : ℕ) (weight : ℤ) → slice_get terms.weights scenario ≡ Some weight → weight ≡ weight_at terms scenario
weight_is terms scenario weight at = sym (ap (λ (found : Option ℤ). unwrap_or found (pos 0)) at)

pub over_is : (root b : Box) (terms : ProblemTerms) (instance scenario : ℕ) (cond : Cond) (found : Truth) (sum : ℤ) → condition_in terms instance scenario ≡ Some cond → found
    ≡ truth Near root b cond → sum ≡ kept (is_false found) (weight_at terms scenario) → sum ≡ weight_over root terms instance b scenario
over_is root b terms instance scenario cond found sum at is weighed =
    weighed
    ∙ ap (λ (t : Truth). kept (is_false t) (weight_at terms scenario)) is
    ∙ sym (ap (λ (o : Option Cond). option_map_or (λ c. kept (is_false (truth Near root b c)) (weight_at terms scenario)) o (pos 0)) at)

-- the truth of a condition that is looked up
pub truth_is : (root b : Box) (terms : ProblemTerms) (instance scenario : ℕ) (cond : Cond) (found : Truth) → condition_in terms instance scenario ≡ Some cond → found ≡ truth Near root b cond
    → found ≡ truth_over root terms instance b scenario
truth_is root b terms instance scenario cond found at is =
    is ∙ sym (ap (λ (o : Option Cond). option_map_or (truth Near root b) o False) at)

pub truth_weighs : (root b : Box) (terms : ProblemTerms) (instance scenario : ℕ) (found : Truth) (sum : ℤ) → found ≡ truth_over root terms instance b scenario → sum
    ≡ kept (is_false found) (weight_at terms scenario) → sum ≡ weight_over root terms instance b scenario
truth_weighs root b terms instance scenario found sum is weighed =
    weighed ∙ ap (λ (t : Truth). kept (is_false t) (weight_at terms scenario)) is ∙ by_condition (condition_in terms instance scenario)
  where
    by_condition : (o : Option Cond) → kept (is_false (option_map_or (truth Near root b) o False)) (weight_at terms scenario)
        ≡ option_map_or (λ cond. kept (is_false (truth Near root b cond)) (weight_at terms scenario)) o (pos 0)
    by_condition None = refl
    by_condition (Some cond) = refl

-- the threshold of a constraint
pub record IsFraction (p q : ℤ) : Type 0 where
  pub from_zero : pos 0 ≤ℤ p
  pub to_whole : p ≤ℤ q
  pub positive : pos 1 ≤ℤ q
  pub small : q ≤ℤ pos (2 ^ 20)

fraction_of : (c : ChanceConditions) (p q : ℤ) → Some c.p ≡ Some p → Some c.q ≡ Some q → IsThreshold c → IsFraction p q
fraction_of c p q p_is q_is threshold =
    subst (λ (x : ℤ). IsFraction x q) (same c.p p p_is)
    (subst (IsFraction c.p) (same c.q q q_is)
    (record { from_zero = threshold.from_zero; to_whole = threshold.to_whole; positive = threshold.positive; small = threshold.small }))
  where
    same : (x y : ℤ) → Some x ≡ Some y → x ≡ y
    same x y is = ap (λ (o : Option ℤ). unwrap_or o x) is

pub fraction_at : (things : List Thing) (chances : List ChanceConditions) (i : ℕ) (p q : ℤ) → AllByRecursion IsThreshold chances
    → option_map (λ (chance : ChanceTerms). chance.p) (slice_get (map (chance_of things) chances) i) ≡ Some p
    → option_map (λ (chance : ChanceTerms). chance.q) (slice_get (map (chance_of things) chances) i) ≡ Some q → IsFraction p q
fraction_at things [] i p q all p_is q_is = absurd (cc)
fraction_at things (c ∷ chances) zero p q all p_is q_is = fraction_of c p q p_is q_is all.0
fraction_at things (c ∷ chances) (suc i) p q all p_is q_is = fraction_at things chances i p q all.1 p_is q_is

-- what two look-ups give
two_looked_up : (found : Option ChanceTerms) (p q left whole : ℤ) → option_map (λ (chance : ChanceTerms). chance.p) found ≡ Some p → option_map (λ (chance : ChanceTerms). chance.q) found
    ≡ Some q → option_map_or (λ (chance : ChanceTerms). int_lt (chance.q *ℤ left) (chance.p *ℤ whole)) found false ≡ int_lt (q *ℤ left) (p *ℤ whole)
two_looked_up None p q left whole p_is q_is = absurd (cc)
two_looked_up (Some chance) p q left whole p_is q_is =
    ap₂ (λ (x y : ℤ). int_lt (y *ℤ left) (x *ℤ whole)) (same chance.p p p_is) (same chance.q q q_is)
  where
    same : (x y : ℤ) → Some x ≡ Some y → x ≡ y
    same x y is = ap (λ (o : Option ℤ). unwrap_or o x) is

pub too_little : (terms : ProblemTerms) (instance : ℕ) (p q left : ℤ) → option_map (λ (chance : ChanceTerms). chance.p) (slice_get terms.chances instance) ≡ Some p
    → option_map (λ (chance : ChanceTerms). chance.q) (slice_get terms.chances instance) ≡ Some q → int_lt (q *ℤ left) (p *ℤ terms.whole)
    ≡ option_map_or (λ (chance : ChanceTerms). int_lt (chance.q *ℤ left) (chance.p *ℤ terms.whole)) (slice_get terms.chances instance) false
too_little terms instance p q left p_is q_is = sym (two_looked_up (slice_get terms.chances instance) p q left terms.whole p_is q_is)
