-- The weight that is left over a box, and over a part in which one cell has another interval.
use Rattle.std.proofs.Common.{◌≡◌, ◌∙◌, ℕ, zero, suc, ◌+◌, ◌<◌, ℤ, pos, ◌+ℤ◌, ◌*ℤ◌, ◌≤ℤ◌, int_lt, Bool, false, List, [], ◌∷◌, Option, Some, None}
use Rattle.std.proofs.Common.{slice_get, unwrap_or, length, arith, refl, ap, subst, sym}
use Rattle.std.specs.List.{range_with_len}
use Rattle.std.specs.Option.{option_and_then, option_map_or}
use Rattle.std.proofs.lemmas.Int.{ints}
use Rattle.sopl_base.specs.declared.reason.Reason.TheVariants.{Chance}
use Rattle.sopl_base.proofs.Lists.{all_at}
use Rattle.box_problem.specs.Box.{Box}
use Rattle.term_language.specs.declared.answers.Truth.{Truth}
use Rattle.term_language.specs.Rules.{Near, truth}
use Rattle.term_language.specs.Terms.{Cond}
use Rattle.term_language.specs.Mentions.{cond_mentions}
use Rattle.term_language.proofs.Agreement.{truths_agree}
use Rattle.term_problem.specs.Problems.{ChanceTerms, IsChance, IsProblem, ProblemTerms}
use Rattle.term_problem.specs.Refuted.{is_false, refutes, weight_left}
use Rattle.term_problem.specs.Search.{numbers_to}
use Rattle.term_program.specs.Programs.{kept, with_interval}
use Rattle.term_program.proofs.Weighing.{left_up, left_whole, left_step}
use Rattle.prop_shave.proofs.Adding.{differs_there}
use Rattle.prop_shave.proofs.Mentioned.{untouched, with_agrees}
use Rattle.prop_shave.specs.Sums.{has_cell, sum_over, turn_of}
use Rattle.prop_shave.specs.ChanceSums.{condition_in, is_touched, left_over, touched_by, weight_at, weight_over}

-- the weight that is left is that of the definitions
abbrev item : Box → Box → List ℤ → List Cond → ℕ → ℤ
item root b weights conditions i =
    option_map_or (λ cond. kept (is_false (truth Near root b cond)) (unwrap_or (slice_get weights i) (pos 0))) (slice_get conditions i) (pos 0)

by_items : (root b : Box) (weights : List ℤ) (conditions : List Cond) (f : ℕ → ℤ) (start : ℕ) → length conditions ≡ length weights → ((i : ℕ) → f (start + i) ≡ item root b weights conditions i)
    → weight_left root b weights conditions ≡ sum_over f (range_with_len start (length weights))
by_items root b [] conditions f start each same = refl
by_items root b (weight ∷ weights) [] f start each same = absurd (omega (arith, each))
by_items root b (weight ∷ weights) (cond ∷ conditions) f start each same =
    let rest =
    by_items root b weights conditions f (start + 1) (omega (arith, each))
    (λ i. ap f (let shifted : (start + 1) + i ≡ start + suc i = omega arith in shifted) ∙ same (suc i))
    in
    let first : f start ≡ kept (is_false (truth Near root b cond)) weight = ap f (let at : start ≡ start + 0 = omega arith in at) ∙ same zero in
    let step = left_step root b weight weights cond conditions in
    omega (arith, ints, rest, first, step)

left_is : (root b : Box) (terms : ProblemTerms) (instance : ℕ) (chance : ChanceTerms) → slice_get terms.chances instance ≡ Some chance → length chance.conditions ≡ length terms.weights
    → left_over root terms instance b ≡ weight_left root b terms.weights chance.conditions
left_is root b terms instance chance at each =
    sym
    (by_items root b terms.weights chance.conditions (weight_over root terms instance b) 0 each
    (λ i.
    ap (weight_over root terms instance b) (let same : 0 + i ≡ i = omega arith in same)
    ∙ ap (λ (found : Option ChanceTerms). option_map_or (λ cond. kept (is_false (truth Near root b cond)) (weight_at terms i)) (option_and_then (λ (c : ChanceTerms). slice_get c.conditions i) found)
    (pos 0)) at))

pub some_there : {A : Type 0} (xs : List A) (i : ℕ) → i < length xs → (x : A) × (slice_get xs i ≡ Some x)
some_there [] i below = absurd (omega (arith, below))
some_there (x ∷ xs) zero below = (x, refl)
some_there (x ∷ xs) (suc i) below = some_there xs i (omega (arith, below))

-- it lies between nothing and the whole
pub left_from_zero : (root b : Box) (terms : ProblemTerms) (instance : ℕ) (left : ℤ) → IsProblem terms → instance < length terms.chances → left ≡ left_over root terms instance b → pos 0 ≤ℤ left
left_from_zero root b terms instance left problem exists is =
    let chance = some_there terms.chances instance exists in
    let each = (all_at (IsChance terms) terms.chances instance chance.0 problem.chances chance.1).each in
    subst (λ (z : ℤ). pos 0 ≤ℤ z) (sym (is ∙ left_is root b terms instance chance.0 chance.1 each))
    (left_up root b terms.weights chance.0.conditions problem.weighs)

pub left_to_whole : (root b : Box) (terms : ProblemTerms) (instance : ℕ) (left : ℤ) → IsProblem terms → instance < length terms.chances → left ≡ left_over root terms instance b → left ≤ℤ terms.whole
left_to_whole root b terms instance left problem exists is =
    let chance = some_there terms.chances instance exists in
    let each = (all_at (IsChance terms) terms.chances instance chance.0 problem.chances chance.1).each in
    subst (λ (z : ℤ). z ≤ℤ terms.whole) (sym (is ∙ left_is root b terms instance chance.0 chance.1 each))
    (left_whole root b terms.weights chance.0.conditions terms.whole problem.weighs problem.whole)

-- and tells whether the constraint closes the box
pub closes_by : (root b : Box) (terms : ProblemTerms) (instance : ℕ) (left : ℤ) (closed : Bool) → IsProblem terms → instance < length terms.chances → left ≡ left_over root terms instance b
    → closed ≡ option_map_or (λ (chance : ChanceTerms). int_lt (chance.q *ℤ left) (chance.p *ℤ terms.whole)) (slice_get terms.chances instance) false → closed
    ≡ refutes root terms (Chance instance) b None
closes_by root b terms instance left closed problem exists is told =
    let chance = some_there terms.chances instance exists in
    let each = (all_at (IsChance terms) terms.chances instance chance.0 problem.chances chance.1).each in
    let tests : (sum : ℤ) → Option ChanceTerms → Bool = λ sum found. option_map_or (λ (c : ChanceTerms). int_lt (c.q *ℤ sum) (c.p *ℤ terms.whole)) found false in
    told
    ∙ ap (tests left) chance.1
    ∙ ap (λ (sum : ℤ). int_lt (chance.0.q *ℤ sum) (chance.0.p *ℤ terms.whole)) (is ∙ left_is root b terms instance chance.0 chance.1 each)
    ∙ sym (ap (λ (found : Option ChanceTerms). option_map_or (λ (c : ChanceTerms). int_lt (c.q *ℤ weight_left root b terms.weights c.conditions) (c.p *ℤ terms.whole)) found false) chance.1)

-- where the condition does not mention the cell, the weight is the same
pub same_weight : (root b : Box) (terms : ProblemTerms) (instance cell scenario : ℕ) (lo hi : ℤ) (found : Option Cond) → condition_in terms instance scenario ≡ found
    → is_touched root terms instance cell scenario ≡ false → weight_over root terms instance (with_interval b cell lo hi) scenario ≡ weight_over root terms instance b scenario
same_weight root b terms instance cell scenario lo hi None at apart =
    let over : Box → Option Cond → ℤ = λ box o. option_map_or (λ cond. kept (is_false (truth Near root box cond)) (weight_at terms scenario)) o (pos 0) in
    ap (over (with_interval b cell lo hi)) at ∙ sym (ap (over b) at)
same_weight root b terms instance cell scenario lo hi (Some cond) at apart =
    let over : Box → Option Cond → ℤ = λ box o. option_map_or (λ c. kept (is_false (truth Near root box c)) (weight_at terms scenario)) o (pos 0) in
    ap (over (with_interval b cell lo hi)) at
    ∙ ap (λ (t : Truth). kept (is_false t) (weight_at terms scenario))
    (truths_agree Near root (with_interval b cell lo hi) b cond (with_agrees (cond_mentions root cond) b cell lo hi
    (untouched cell (cond_mentions root cond) (sym (ap (λ (o : Option Cond). has_cell cell (option_map_or (cond_mentions root) o [])) at) ∙ apart))))
    ∙ sym (ap (over b) at)

-- so only the scenarios count in which the condition mentions the cell
pub left_with : (root b : Box) (terms : ProblemTerms) (instance cell : ℕ) (lo hi : ℤ) (list : List ℕ) (left now : ℤ) → left ≡ left_over root terms instance b → list
    ≡ touched_by root terms instance cell → now ≡ (left +ℤ sum_over (turn_of (weight_over root terms instance b) (weight_over root terms instance (with_interval b cell lo hi))) list)
    → now ≡ left_over root terms instance (with_interval b cell lo hi)
left_with root b terms instance cell lo hi list left now is touched turned =
    let f = weight_over root terms instance b in
    let g = weight_over root terms instance (with_interval b cell lo hi) in
    let whole =
    differs_there f g (is_touched root terms instance cell) (numbers_to (length terms.weights))
    (λ k apart. same_weight root b terms instance cell k lo hi (condition_in terms instance k) refl apart)
    in
    let sums = ap (sum_over (turn_of f g)) touched in
    omega (arith, ints, whole, sums, is, turned)
