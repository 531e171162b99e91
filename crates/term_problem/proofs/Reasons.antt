-- Each reason over boxes that agree on the cells that it mentions.
use Rattle.std.proofs.Common.{◌≡◌, ℕ, ℤ, pos, ◌+ℤ◌, ◌*ℤ◌, int_lt, Bool, true, false, List, [], ◌∷◌, ◌++◌, Option, Some, None, if◌then◌else◌, slice_get, get_or, arith, refl, sym, ap, ap₂, ◌∙◌}
use Rattle.std.specs.List.{All, Contains, flat_map}
use Rattle.std.specs.Option.{option_map_or, option_and_then}
use Rattle.std.proofs.lemmas.Int.{ints}
use Rattle.std.proofs.lemmas.List.{get_or_default}
use Rattle.sopl_base.specs.declared.direction.Direction.{Direction}
use Rattle.sopl_base.specs.declared.reason.Reason.{Reason}
use Rattle.sopl_base.specs.declared.reason.Reason.TheVariants.{Hard, Chance, Undefined, Bound}
use Rattle.box_problem.specs.Box.{Box}
use Rattle.term_language.specs.declared.answers.Truth.{Truth}
use Rattle.term_language.specs.Ends.{Ends, ends, plus, scaled}
use Rattle.term_language.specs.Forms.{Form, whole}
use Rattle.term_language.specs.Rules.{Near, form, atoms, interval, mark, truth}
use Rattle.term_language.specs.Terms.{Term, Cond}
use Rattle.term_language.specs.Mentions.{cond_mentions, mentions}
use Rattle.term_language.specs.MentionLaws.{BoxesAgree}
use Rattle.term_language.proofs.Agreement.{intervals_agree, marks_agree, truths_agree}
use Rattle.term_language.proofs.Forms.{Over, over_combined, over_form}
use Rattle.term_language.proofs.Parts.{Same, same_whole}
use Rattle.term_language.proofs.Reaching.{Reach, reach_all, first, second}
use Rattle.term_problem.specs.Objective.{expected_form, expected_atoms, goal_ends, worse_ends, worst_ends}
use Rattle.term_problem.specs.Problems.{ChanceTerms, GoalTerms, ProblemTerms, direction_in}
use Rattle.term_problem.specs.Refuted.{is_false, is_never, none_better, refutes, weight_left}
use Rattle.term_problem.specs.Reasons.{reason_mentions}

-- what holds of each cell holds of all
pub all_of : (P : ℕ → Type 0) (cells : List ℕ) → Reach P cells → All P cells
all_of P cells each k d exists =
    each (get_or cells k d) (k, exists, get_or_default cells k (get_or cells k d) d exists)

-- conditions
same_truth : (root b c : Box) (cond : Cond) → Reach (Same b c) (cond_mentions root cond) → truth Near root b cond ≡ truth Near root c cond
same_truth root b c cond reach = truths_agree Near root b c cond (all_of (Same b c) (cond_mentions root cond) reach)

abbrev counted : ℤ → Truth → ℤ → ℤ
counted weight found later = if is_false found then later else weight +ℤ later

same_weight : (root b c : Box) (weights : List ℤ) (conditions : List Cond) → Reach (Same b c) (flat_map (cond_mentions root) conditions) → weight_left root b weights conditions
    ≡ weight_left root c weights conditions
same_weight root b c [] conditions reach = refl
same_weight root b c (weight ∷ weights) [] reach = refl
same_weight root b c (weight ∷ weights) (cond ∷ later) reach =
    ap₂ (counted weight)
    (same_truth root b c cond (first (Same b c) (cond_mentions root cond) (flat_map (cond_mentions root) later) reach))
    (same_weight root b c weights later (second (Same b c) (cond_mentions root cond) (flat_map (cond_mentions root) later) reach))

-- terms
same_interval : (root b c : Box) (t : Term) → Reach (Same b c) (mentions root t) → interval Near root b t ≡ interval Near root c t
same_interval root b c t reach = intervals_agree Near root b c t (all_of (Same b c) (mentions root t) reach)

-- what two sums have besides the same form is the same where they are
same_rest : (c : Box) (f : Form) (x y : Ends) → whole c f x ≡ whole c f y → x ≡ y
same_rest c f x y same =
    let low_same : x.low ≡ y.low = omega (arith, ints, ap (λ (e : Ends). e.low) same) in
    let high_same : x.high ≡ y.high = omega (arith, ints, ap (λ (e : Ends). e.high) same) in
    ap₂ ends low_same high_same

same_atoms : (root b c : Box) (t : Term) → Reach (Same b c) (mentions root t) → atoms Near root b t ≡ atoms Near root c t
same_atoms root b c t reach =
    same_rest c (form root t) (atoms Near root b t) (atoms Near root c t)
    (sym (same_whole b c (form root t) (atoms Near root b t) (atoms Near root b t) (over_form (Same b c) root t reach) refl)
    ∙ same_interval root b c t reach)

same_expected : (root b c : Box) (weights : List ℤ) (terms : List Term) → Reach (Same b c) (flat_map (mentions root) terms) → expected_atoms root b weights terms ≡ expected_atoms root c weights terms
same_expected root b c [] terms reach = refl
same_expected root b c (weight ∷ weights) [] reach = refl
same_expected root b c (weight ∷ weights) (t ∷ later) reach =
    ap₂ (λ (x y : Ends). plus (scaled weight x) y)
    (same_atoms root b c t (first (Same b c) (mentions root t) (flat_map (mentions root) later) reach))
    (same_expected root b c weights later (second (Same b c) (mentions root t) (flat_map (mentions root) later) reach))

over_expected : (P : ℕ → Type 0) (root : Box) (weights : List ℤ) (terms : List Term) → Reach P (flat_map (mentions root) terms) → Over P (expected_form root weights terms).cells
over_expected P root [] terms reach = tt
over_expected P root (weight ∷ weights) [] reach = tt
over_expected P root (weight ∷ weights) (t ∷ later) reach =
    over_combined P weight (expected_form root weights later).cells (form root t).cells
    (over_expected P root weights later (second P (mentions root t) (flat_map (mentions root) later) reach))
    (over_form P root t (first P (mentions root t) (flat_map (mentions root) later) reach))

same_worst : (direction : Direction) (root b c : Box) (terms : List Term) → Reach (Same b c) (flat_map (mentions root) terms) → worst_ends direction root b terms ≡ worst_ends direction root c terms
same_worst direction root b c [] reach = refl
same_worst direction root b c (last ∷ []) reach = same_interval root b c last (first (Same b c) (mentions root last) [] reach)
same_worst direction root b c (t ∷ second_one ∷ later) reach =
    ap₂ (worse_ends direction)
    (same_interval root b c t (first (Same b c) (mentions root t) (flat_map (mentions root) (second_one ∷ later)) reach))
    (same_worst direction root b c (second_one ∷ later) (second (Same b c) (mentions root t) (flat_map (mentions root) (second_one ∷ later)) reach))

abbrev over_box : Box → Box → List ℤ → GoalTerms → Bool → Ends
over_box root b weights goal worst =
    if worst then worst_ends goal.direction root b goal.terms else whole b (expected_form root weights goal.terms) (expected_atoms root b weights goal.terms)

same_goal : (root b c : Box) (weights : List ℤ) (goal : GoalTerms) (worst : Bool) → Reach (Same b c) (flat_map (mentions root) goal.terms) → over_box root b weights goal worst
    ≡ over_box root c weights goal worst
same_goal root b c weights goal true reach = same_worst goal.direction root b c goal.terms reach
same_goal root b c weights goal false reach =
    same_whole b c (expected_form root weights goal.terms) (expected_atoms root b weights goal.terms) (expected_atoms root c weights goal.terms)
    (over_expected (Same b c) root weights goal.terms reach) (same_expected root b c weights goal.terms reach)

same_goal_ends : (root b c : Box) (terms : ProblemTerms) (goal : Option GoalTerms) → Reach (Same b c) (option_map_or (λ (g : GoalTerms). flat_map (mentions root) g.terms) goal [])
    → goal_ends root b (record terms { goal = goal }) ≡ goal_ends root c (record terms { goal = goal })
same_goal_ends root b c terms None reach = refl
same_goal_ends root b c terms (Some goal) reach = same_goal root b c terms.weights goal goal.worst reach

-- each reason
same_hard : (root b c : Box) (found : Option Cond) → Reach (Same b c) (option_map_or (cond_mentions root) found []) → option_map_or (λ cond. is_false (truth Near root b cond)) found false
    ≡ option_map_or (λ cond. is_false (truth Near root c cond)) found false
same_hard root b c None reach = refl
same_hard root b c (Some cond) reach = ap is_false (same_truth root b c cond reach)

abbrev too_few : Box → Box → ProblemTerms → ChanceTerms → Bool
too_few root b terms chance = int_lt (chance.q *ℤ weight_left root b terms.weights chance.conditions) (chance.p *ℤ terms.whole)

same_chance : (root b c : Box) (terms : ProblemTerms) (found : Option ChanceTerms)
    → Reach (Same b c) (option_map_or (λ (chance : ChanceTerms). flat_map (cond_mentions root) chance.conditions) found []) → option_map_or (too_few root b terms) found false
    ≡ option_map_or (too_few root c terms) found false
same_chance root b c terms None reach = refl
same_chance root b c terms (Some chance) reach =
    ap (λ (left : ℤ). int_lt (chance.q *ℤ left) (chance.p *ℤ terms.whole)) (same_weight root b c terms.weights chance.conditions reach)

same_never : (root b c : Box) (found : Option Term) → Reach (Same b c) (option_map_or (mentions root) found []) → option_map_or (λ t. is_never (mark Near root b t)) found false
    ≡ option_map_or (λ t. is_never (mark Near root c t)) found false
same_never root b c None reach = refl
same_never root b c (Some t) reach = ap is_never (marks_agree Near root b c t (all_of (Same b c) (mentions root t) reach))

same_undefined : (root b c : Box) (scenario : ℕ) (goal : Option GoalTerms) → Reach (Same b c) (option_map_or (λ (g : GoalTerms). option_map_or (mentions root) (slice_get g.terms scenario) []) goal [])
    → option_map_or (λ (g : GoalTerms). option_map_or (λ t. is_never (mark Near root b t)) (slice_get g.terms scenario) false) goal false
    ≡ option_map_or (λ (g : GoalTerms). option_map_or (λ t. is_never (mark Near root c t)) (slice_get g.terms scenario) false) goal false
same_undefined root b c scenario None reach = refl
same_undefined root b c scenario (Some goal) reach = same_never root b c (slice_get goal.terms scenario) reach

same_bound : (root b c : Box) (terms : ProblemTerms) (v : Option ℤ) → goal_ends root b terms ≡ goal_ends root c terms → refutes root terms Bound b v ≡ refutes root terms Bound c v
same_bound root b c terms None same = refl
same_bound root b c terms (Some value) same = ap (λ (e : Ends). none_better (direction_in terms) e value) same

-- the law
by_reason : (root b c : Box) (terms : ProblemTerms) (reason : Reason) (v : Option ℤ) → Reach (Same b c) (reason_mentions root terms reason) → refutes root terms reason b v
    ≡ refutes root terms reason c v
by_reason root b c terms (Hard instance scenario) v reach =
    same_hard root b c (option_and_then (λ conditions. slice_get conditions scenario) (slice_get terms.hards instance)) reach
by_reason root b c terms (Chance instance) v reach = same_chance root b c terms (slice_get terms.chances instance) reach
by_reason root b c terms (Undefined scenario) v reach = same_undefined root b c scenario terms.goal reach
by_reason root b c terms Bound v reach = same_bound root b c terms v (same_goal_ends root b c terms terms.goal reach)

pub reasons_agree : (root b c : Box) (terms : ProblemTerms) (reason : Reason) (v : Option ℤ) → BoxesAgree (reason_mentions root terms reason) b c → refutes root terms reason b v
    ≡ refutes root terms reason c v
reasons_agree root b c terms reason v agree =
    by_reason root b c terms reason v (reach_all (Same b c) (reason_mentions root terms reason) agree)
