-- The weight that no value of a cell takes away.
use Rattle.std.proofs.Common.{◌≡◌, ◌∙◌, ℕ, zero, suc, ◌<◌, ◌≤◌, ◌+◌, ◌*◌, ℤ, pos, negsuc, ap₂, ◌+ℤ◌, ◌-ℤ◌, ◌*ℤ◌, ◌≤ℤ◌, int_lt, Bool, true, false, List, [], ◌∷◌, Option, Some, None, slice_get, length, get_or, drop}
use Rattle.std.proofs.Common.{if◌then◌else◌, unwrap_or, arith, refl, ap, subst, sym}
use Rattle.std.specs.List.{AllByRecursion, filter}
use Rattle.std.specs.Option.{option_and_then, option_map_or}
use Rattle.std.proofs.lemmas.Int.{ints}
use Rattle.std.proofs.lemmas.List.{at_drop_all, at_drop_more}
use Rattle.std.proofs.Math.IntN.{pos-*ℤ-pos}
use Rattle.sopl_base.proofs.Integers.{*ℤ-+ℤ}
use Rattle.sopl_base.proofs.Lists.{all_at}
use Rattle.sopl_base.proofs.Tests.{lt_untest, lt_untested}
use Rattle.sopl_base.specs.declared.reason.Reason.TheVariants.{Chance}
use Rattle.box_problem.specs.Box.{Box, Inside, IsBox}
use Rattle.box_problem.proofs.Boxes.{points_of_parts}
use Rattle.box_problem.proofs.Shared.{lows_inside}
use Rattle.term_language.specs.declared.answers.Truth.{Truth}
use Rattle.term_language.specs.declared.answers.Truth.TheVariants.{False, Unknown, True}
use Rattle.term_language.specs.Laws.{IsProperCond, Tells}
use Rattle.term_language.specs.Rules.{Near, truth}
use Rattle.term_language.specs.Terms.{Cond}
use Rattle.term_language.specs.Values.{holds}
use Rattle.term_language.proofs.FormValues.{by_bool}
use Rattle.term_language.proofs.Soundness.{truths_tell}
use Rattle.term_problem.specs.Problems.{ChanceTerms, IsChance, IsProblem, ProblemTerms}
use Rattle.term_problem.specs.Refuted.{is_false, refutes}
use Rattle.term_problem.specs.Search.{numbers_to}
use Rattle.term_program.specs.Programs.{kept, with_interval}
use Rattle.prop_shave.proofs.Leaving.{closes_by, same_weight, some_there}
use Rattle.prop_shave.specs.Sums.{sum_over}
use Rattle.prop_shave.specs.ChanceSums.{at_risk, condition_in, is_touched, left_over, sure_over, sure_weight, touched_by, truth_over, weight_at, weight_over}

-- a condition that is True over a box is False over no part of it
by_truths : (t : Truth) (b : Bool) → Tells t b → Tells True b → is_false t ≡ false
by_truths False true here there = absurd here
by_truths False false here there = absurd there
by_truths Unknown b here there = refl
by_truths True b here there = refl

pub true_there : (root b c : Box) (cond : Cond) → IsBox b → Inside c b → IsProperCond cond → truth Near root b cond ≡ True → is_false (truth Near root c cond) ≡ false
true_there root b c cond is_box inside proper is =
    let within = lows_inside c inside.is_box in
    by_truths (truth Near root c cond) (holds c.lows cond) (truths_tell Near root c c.lows cond inside.is_box within proper)
    (subst (λ (t : Truth). Tells t (holds c.lows cond)) is (truths_tell Near root b c.lows cond is_box (points_of_parts c b c.lows inside within) proper))

-- the conditions of chance constraints are proper
pub proper_there : (terms : ProblemTerms) (instance scenario : ℕ) (cond : Cond) → AllByRecursion (λ (chance : ChanceTerms). AllByRecursion IsProperCond chance.conditions) terms.chances
    → condition_in terms instance scenario ≡ Some cond → IsProperCond cond
proper_there terms instance scenario cond all at =
    by_chance (slice_get terms.chances instance) refl at
  where
    by_chance : (o : Option ChanceTerms) → slice_get terms.chances instance ≡ o → option_and_then (λ (chance : ChanceTerms). slice_get chance.conditions scenario) o ≡ Some cond → IsProperCond cond
    by_chance None there is = absurd (cc)
    by_chance (Some chance) there is =
        all_at IsProperCond chance.conditions scenario cond (all_at (λ (c : ChanceTerms). AllByRecursion IsProperCond c.conditions) terms.chances instance chance all there) is

-- weights are not negative
pub weighs_there : (terms : ProblemTerms) (scenario : ℕ) → AllByRecursion (λ (weight : ℤ). pos 1 ≤ℤ weight) terms.weights → pos 0 ≤ℤ weight_at terms scenario
weighs_there terms scenario all = each terms.weights scenario all
  where
    each : (ws : List ℤ) (i : ℕ) → AllByRecursion (λ (weight : ℤ). pos 1 ≤ℤ weight) ws → pos 0 ≤ℤ unwrap_or (slice_get ws i) (pos 0)
    each [] i all = omega (arith, ints)
    each (w ∷ ws) zero all = let one = all.0 in omega (arith, ints, one)
    each (w ∷ ws) (suc i) all = each ws i all.1

-- what is kept of a weight, less what is at risk, lies between nothing and what is kept of it
sure_up : (t : Truth) (w : ℤ) → pos 0 ≤ℤ w → pos 0 ≤ℤ (kept (is_false t) w -ℤ at_risk t w)
sure_up False w up = omega (arith, ints)
sure_up Unknown w up = omega (arith, ints)
sure_up True w up = omega (arith, ints, up)

sure_down : (t : Truth) (w : ℤ) → pos 0 ≤ℤ w → (kept (is_false t) w -ℤ at_risk t w) ≤ℤ kept (is_false t) w
sure_down False w up = omega (arith, ints)
sure_down Unknown w up = omega (arith, ints, up)
sure_down True w up = omega (arith, ints)

-- and is no more than what is kept of it over a part
sure_below : (s t : Truth) (w : ℤ) → pos 0 ≤ℤ w → (s ≡ True → is_false t ≡ false) → (kept (is_false s) w -ℤ at_risk s w) ≤ℤ kept (is_false t) w
sure_below False t w up stays = by_bool (λ f. (kept true w -ℤ pos 0) ≤ℤ kept f w) (is_false t) (λ met. omega (arith, ints)) (λ unmet. omega (arith, ints, up))
sure_below Unknown t w up stays = by_bool (λ f. (kept false w -ℤ w) ≤ℤ kept f w) (is_false t) (λ met. omega (arith, ints)) (λ unmet. omega (arith, ints, up))
sure_below True t w up stays = subst (λ (f : Bool). (kept false w -ℤ pos 0) ≤ℤ kept f w) (sym (stays refl)) (omega (arith, ints))

module _ (root b : Box) (terms : ProblemTerms) (instance cell : ℕ) (problem : IsProblem terms) (is_box : IsBox b) where
  over_kept : (box : Box) (scenario : ℕ) → weight_over root terms instance box scenario ≡ kept (is_false (truth_over root terms instance box scenario)) (weight_at terms scenario)
  over_kept box scenario = by_condition (condition_in terms instance scenario)
    where
      by_condition : (o : Option Cond) → option_map_or (λ cond. kept (is_false (truth Near root box cond)) (weight_at terms scenario)) o (pos 0)
          ≡ kept (is_false (option_map_or (truth Near root box) o False)) (weight_at terms scenario)
      by_condition None = refl
      by_condition (Some cond) = refl

  -- a scenario
  each_up : (scenario : ℕ) → pos 0 ≤ℤ sure_over root terms instance b cell scenario
  each_up scenario =
      let w = weight_at terms scenario in
      let t = truth_over root terms instance b scenario in
      let up = weighs_there terms scenario problem.weighs in
      let same = over_kept b scenario in
      by_bool (λ f. pos 0 ≤ℤ (if f then weight_over root terms instance b scenario -ℤ at_risk t w else weight_over root terms instance b scenario)) (is_touched root terms instance cell scenario)
      (λ met. let sure = sure_up t w up in omega (arith, ints, same, sure))
      (λ unmet. let sure = sure_up t w up in let less = sure_down t w up in omega (arith, ints, same, sure, less))

  each_down : (scenario : ℕ) → sure_over root terms instance b cell scenario ≤ℤ weight_over root terms instance b scenario
  each_down scenario =
      let w = weight_at terms scenario in
      let t = truth_over root terms instance b scenario in
      let up = weighs_there terms scenario problem.weighs in
      let same = over_kept b scenario in
      by_bool (λ f. (if f then weight_over root terms instance b scenario -ℤ at_risk t w else weight_over root terms instance b scenario) ≤ℤ weight_over root terms instance b scenario)
      (is_touched root terms instance cell scenario)
      (λ met. let less = sure_down t w up in omega (arith, ints, same, less))
      (λ unmet. omega (arith, ints))

  each_below : (lo hi : ℤ) → Inside (with_interval b cell lo hi) b → (scenario : ℕ) → sure_over root terms instance b cell scenario
      ≤ℤ weight_over root terms instance (with_interval b cell lo hi) scenario
  each_below lo hi inside scenario =
      let c = with_interval b cell lo hi in
      let w = weight_at terms scenario in
      let t = truth_over root terms instance b scenario in
      let up = weighs_there terms scenario problem.weighs in
      let same = over_kept b scenario in
      let other = over_kept c scenario in
      by_bool (λ f. is_touched root terms instance cell scenario ≡ f → (if f then weight_over root terms instance b scenario -ℤ at_risk t w else weight_over root terms instance b scenario)
      ≤ℤ weight_over root terms instance c scenario) (is_touched root terms instance cell scenario)
      (λ met is. let below = sure_below t (truth_over root terms instance c scenario) w up (stays c inside scenario) in omega (arith, ints, same, other, below))
      (λ unmet is. let equal = same_weight root b terms instance cell scenario lo hi (condition_in terms instance scenario) refl is in omega (arith, ints, equal)) refl
    where
      stays : (c : Box) → Inside c b → (scenario : ℕ) → truth_over root terms instance b scenario ≡ True → is_false (truth_over root terms instance c scenario) ≡ false
      stays c inside scenario is = by_condition (condition_in terms instance scenario) refl is
        where
          by_condition : (o : Option Cond) → condition_in terms instance scenario ≡ o → option_map_or (truth Near root b) o False ≡ True
              → is_false (option_map_or (truth Near root c) o False) ≡ false
          by_condition None at there = absurd (cc)
          by_condition (Some cond) at there = true_there root b c cond is_box inside (proper_there terms instance scenario cond problem.proper.chances at) there

sum_up : (f : ℕ → ℤ) (list : List ℕ) → ((k : ℕ) → pos 0 ≤ℤ f k) → pos 0 ≤ℤ sum_over f list
sum_up f [] each = omega (arith, ints)
sum_up f (x ∷ list) each = let rest = sum_up f list each in let here = each x in omega (arith, ints, rest, here)

sum_below : (f g : ℕ → ℤ) (list : List ℕ) → ((k : ℕ) → f k ≤ℤ g k) → sum_over f list ≤ℤ sum_over g list
sum_below f g [] each = omega (arith, ints)
sum_below f g (x ∷ list) each = let rest = sum_below f g list each in let here = each x in omega (arith, ints, rest, here)

-- all of them
pub sure_from_zero : (root b : Box) (terms : ProblemTerms) (instance cell : ℕ) (left : ℤ) → IsProblem terms → IsBox b → left ≡ sure_weight root terms instance b cell → pos 0 ≤ℤ left
sure_from_zero root b terms instance cell left problem is_box is =
    subst (λ (z : ℤ). pos 0 ≤ℤ z) (sym is)
    (sum_up (sure_over root terms instance b cell) (numbers_to (length terms.weights)) (each_up root b terms instance cell problem is_box))

pub sure_below_left : (root b : Box) (terms : ProblemTerms) (instance cell : ℕ) → IsProblem terms → IsBox b → sure_weight root terms instance b cell ≤ℤ left_over root terms instance b
sure_below_left root b terms instance cell problem is_box =
    sum_below (sure_over root terms instance b cell) (weight_over root terms instance b) (numbers_to (length terms.weights)) (each_down root b terms instance cell problem is_box)

sure_below_part : (root b : Box) (terms : ProblemTerms) (instance cell : ℕ) (lo hi : ℤ) → IsProblem terms → IsBox b → Inside (with_interval b cell lo hi) b
    → sure_weight root terms instance b cell ≤ℤ left_over root terms instance (with_interval b cell lo hi)
sure_below_part root b terms instance cell lo hi problem is_box inside =
    sum_below (sure_over root terms instance b cell) (weight_over root terms instance (with_interval b cell lo hi)) (numbers_to (length terms.weights))
    (each_below root b terms instance cell problem is_box lo hi inside)

-- a multiple of what is more is more
from_zero : (a : ℤ) → pos 0 ≤ℤ a → (n : ℕ) × (a ≡ pos n)
from_zero (pos n) up = (n, refl)
from_zero (negsuc n) up = absurd (omega (arith, ints, up))

mul_up : (q x y : ℤ) → pos 1 ≤ℤ q → x ≤ℤ y → (q *ℤ x) ≤ℤ (q *ℤ y)
mul_up q x y positive order =
    let factor = from_zero q (omega (arith, ints, positive)) in
    let gap = from_zero (y -ℤ x) (omega (arith, ints, order)) in
    let same : x +ℤ (y -ℤ x) ≡ y = omega (arith, ints) in
    let whole : q *ℤ y ≡ (q *ℤ x) +ℤ (q *ℤ (y -ℤ x)) = ap (λ (z : ℤ). q *ℤ z) (sym same) ∙ *ℤ-+ℤ q x (y -ℤ x) in
    let part : q *ℤ (y -ℤ x) ≡ pos (factor.0 * gap.0) = ap₂ (λ (a b : ℤ). a *ℤ b) factor.1 gap.1 ∙ pos-*ℤ-pos factor.0 gap.0 in
    omega (arith, ints, whole, part)

-- where it is enough, the constraint closes no part in which the cell has another interval
enough : (q p whole less more : ℤ) → pos 1 ≤ℤ q → less ≤ℤ more → int_lt (q *ℤ less) (p *ℤ whole) ≡ false → int_lt (q *ℤ more) (p *ℤ whole) ≡ false
enough q p whole less more positive order untested =
    let before = lt_untested (q *ℤ less) (p *ℤ whole) untested in
    let grown = mul_up q less more positive order in
    lt_untest (q *ℤ more) (p *ℤ whole) (omega (arith, ints, before, grown))

pub sure_open : (root b : Box) (terms : ProblemTerms) (instance cell : ℕ) (lo hi left : ℤ) (closed : Bool) → IsProblem terms → IsBox b → instance < length terms.chances
    → Inside (with_interval b cell lo hi) b → left ≡ sure_weight root terms instance b cell → closed
    ≡ option_map_or (λ (chance : ChanceTerms). int_lt (chance.q *ℤ left) (chance.p *ℤ terms.whole)) (slice_get terms.chances instance) false → closed ≡ false
    → refutes root terms (Chance instance) (with_interval b cell lo hi) None ≡ false
sure_open root b terms instance cell lo hi left closed problem is_box exists inside is told open_ =
    let c = with_interval b cell lo hi in
    let chance = some_there terms.chances instance exists in
    let kind = all_at (IsChance terms) terms.chances instance chance.0 problem.chances chance.1 in
    let below = sure_below_part root b terms instance cell lo hi problem is_box inside in
    let tests : (sum : ℤ) → Option ChanceTerms → Bool = λ sum found. option_map_or (λ (x : ChanceTerms). int_lt (x.q *ℤ sum) (x.p *ℤ terms.whole)) found false in
    let here : int_lt (chance.0.q *ℤ left) (chance.0.p *ℤ terms.whole) ≡ false = sym (ap (tests left) chance.1) ∙ sym told ∙ open_ in
    sym (closes_by root c terms instance (left_over root terms instance c) (tests (left_over root terms instance c) (slice_get terms.chances instance)) problem exists refl refl)
    ∙ ap (tests (left_over root terms instance c)) chance.1
    ∙ enough chance.0.q chance.0.p terms.whole left (left_over root terms instance c) kind.positive (omega (arith, ints, is, below)) here

-- one scenario less, and none left
pub less_more : (risk : ℕ → ℤ) (list : List ℕ) (i d : ℕ) (start old new here : ℤ) → i < length list → (old -ℤ sum_over risk (drop i list)) ≡ start → here ≡ risk (get_or list i d) → new
    ≡ old -ℤ here → (new -ℤ sum_over risk (drop (i + 1) list)) ≡ start
less_more risk list i d start old new here below so_far is put =
    let more = at_drop_more (λ xs. sum_over risk xs) list i d below in
    omega (arith, ints, more, so_far, is, put)

pub less_all : (risk : ℕ → ℤ) (list : List ℕ) (i : ℕ) (start now : ℤ) → length list ≤ i → (now -ℤ sum_over risk (drop i list)) ≡ start → now ≡ start
less_all risk list i start now past so_far =
    let none = at_drop_all (λ xs. sum_over risk xs) list i past in
    omega (arith, ints, none, so_far)

less_there : (f risk : ℕ → ℤ) (test : ℕ → Bool) (list : List ℕ) → sum_over (λ k. if test k then f k -ℤ risk k else f k) list ≡ (sum_over f list -ℤ sum_over risk (filter test list))
less_there f risk test [] = omega (arith, ints)
less_there f risk test (x ∷ list) =
    let rest = less_there f risk test list in
    by_bool (λ t. ((if t then f x -ℤ risk x else f x) +ℤ sum_over (λ k. if test k then f k -ℤ risk k else f k) list)
    ≡ ((f x +ℤ sum_over f list) -ℤ sum_over risk (if t then x ∷ filter test list else filter test list))) (test x)
    (λ met. omega (arith, ints, rest)) (λ unmet. omega (arith, ints, rest))

-- what is at risk in a scenario
abbrev pub risk_in : Box → ProblemTerms → ℕ → Box → ℕ → ℤ
risk_in root terms instance b scenario = at_risk (truth_over root terms instance b scenario) (weight_at terms scenario)

pub sure_is : (root b : Box) (terms : ProblemTerms) (instance cell : ℕ) (list : List ℕ) (left now : ℤ) → left ≡ left_over root terms instance b → list ≡ touched_by root terms instance cell
    → now ≡ (left -ℤ sum_over (risk_in root terms instance b) list) → now ≡ sure_weight root terms instance b cell
sure_is root b terms instance cell list left now is touched put =
    let whole = less_there (weight_over root terms instance b) (risk_in root terms instance b) (is_touched root terms instance cell) (numbers_to (length terms.weights)) in
    let sums = ap (sum_over (risk_in root terms instance b)) touched in
    omega (arith, ints, whole, sums, is, put)
