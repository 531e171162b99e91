-- Sizes in a row: which passes the limit first.
use Rattle.std.proofs.Common.{◌≡◌, ◌↔◌, ◌⊎◌, inl, inr, refl, sym, ap, subst, ◌∙◌, arith, ℕ, ◌-◌, ◌<◌, ◌≤◌, ◌^◌, nat_le, ℤ, pos, ◌≤ℤ◌, ◌<ℤ◌, int_le, Bool, true, false, List, []}
use Rattle.std.proofs.Common.{◌∷◌, ◌++◌, Option, Some, None, IfSome, option_map, option_and_then, unwrap_or, Result, Ok, Err, if◌then◌else◌}
use Rattle.std.proofs.lemmas.Bool.Decides.{leb_tells}
use Rattle.std.proofs.lemmas.Int.{ints}
use Rattle.std.specs.Int.{int_min}
use Rattle.std.specs.List.{AllByRecursion}
use Rattle.sopl_base.specs.declared.fault.Excess.{Excess}
use Rattle.sopl_base.specs.declared.fault.Fault.{Fault}
use Rattle.sopl_base.specs.declared.fault.Fault.TheVariants.{Limit}
use Rattle.sopl_base.specs.declared.codes.TheConstants as codes
use Rattle.sopl_ast.specs.Limits.{first_above}
use Rattle.sopl_ast.specs.Numbers.{or_else}
use Rattle.sopl_ast.specs.UnfoldEvents.{excess}
use Rattle.box_problem.specs.Box.{Box}
use Rattle.term_language.specs.Sizes.{size}
use Rattle.term_language.specs.Terms.{Term}
use Rattle.term_language.proofs.FormValues.{by_bool}
use Rattle.term_problem.specs.Problems.{GoalTerms, ProblemTerms}
use Rattle.compile_laws.specs.SizeLaws.{NoneIsLarge, IsFirstLarge, FirstIsFound, LargeInTurn, FaultsInTurn, FaultsEnd, GoalIsAllowed, IsLargeGoal, GoalIsRefused}
use Rattle.compile_laws.specs.Measured.{most_size, first_large, large_excess, goal_number, goal_excess, goal_excess_of, IsSizeFault, Measures}

-- one term in front of others
pub large_in_turn : LargeInTurn
large_in_turn root [] ys = refl
large_in_turn root (t ∷ xs) ys =
    by_bool (λ c. (if c then first_large root (xs ++ ys) else Some (size root t)) ≡ or_else (if c then first_large root xs else Some (size root t)) (first_large root ys))
    (nat_le (size root t) most_size) (λ small. large_in_turn root xs ys) (λ large. refl)

-- a size is at most the limit, or above it
by_size : (P : Bool → Type 0) (n : ℕ) → (n ≤ most_size → P true) → (most_size < n → P false) → P (nat_le n most_size)
by_size P n small large = by_test (leb_tells n most_size)
  where
    by_test : ((nat_le n most_size ≡ true) × (n ≤ most_size)) ⊎ ((nat_le n most_size ≡ false) × (most_size < n)) → P (nat_le n most_size)
    by_test (inl at_most) = subst P (sym at_most.0) (small at_most.1)
    by_test (inr above) = subst P (sym above.0) (large above.1)

no_size : (n : ℕ) → Some n ≡ None → ⊥
no_size n is = cc

same_size : (m n : ℕ) → Some m ≡ Some n → m ≡ n
same_size m n is = ap (λ o. unwrap_or o m) is

-- none of them is too large
abbrev pub AreSmall : Box → List Term → Type 0
AreSmall root terms = AllByRecursion (λ t. size root t ≤ most_size) terms

pub all_small : (root : Box) (terms : List Term) → first_large root terms ≡ None → AreSmall root terms
all_small root [] none = tt
all_small root (t ∷ later) none =
    by_size (λ c. (if c then first_large root later else Some (size root t)) ≡ None → AreSmall root (t ∷ later)) (size root t)
    (λ small is. (small, all_small root later is)) (λ large is. absurd (no_size (size root t) is)) none

pub none_large : (root : Box) (terms : List Term) → AreSmall root terms → first_large root terms ≡ None
none_large root [] all = refl
none_large root (t ∷ later) all =
    by_size (λ c. (if c then first_large root later else Some (size root t)) ≡ None) (size root t)
    (λ small. none_large root later all.1) (λ large. absurd (omega (arith, large, all.0)))

pub none_is_large : NoneIsLarge
none_is_large root terms = (all_small root terms, none_large root terms)

-- the first that is too large
found : (root : Box) (terms : List Term) (n : ℕ) → first_large root terms ≡ Some n → IsFirstLarge root terms n
found root [] n is = absurd (cc)
found root (t ∷ later) n is =
    by_size (λ c. (if c then first_large root later else Some (size root t)) ≡ Some n → IsFirstLarge root (t ∷ later) n) (size root t)
    (λ small found_later. behind small (found root later n found_later)) (λ large this. here large (same_size (size root t) n this)) is
  where
    behind : size root t ≤ most_size → IsFirstLarge root later n → IsFirstLarge root (t ∷ later) n
    behind small f =
        record {
          before = t ∷ f.before;
          first = f.first;
          later = f.later;
          stands = ap (λ ts. t ∷ ts) f.stands;
          measured = f.measured;
          large = f.large;
          others = (small, f.others);
        }

    here : most_size < size root t → size root t ≡ n → IsFirstLarge root (t ∷ later) n
    here large same =
        record { before = []; first = t; later = later; stands = refl; measured = same; large = subst (λ m. most_size < m) same large; others = tt }

pub at_once : (root : Box) (t : Term) (later : List Term) (n : ℕ) → size root t ≡ n → most_size < n → first_large root (t ∷ later) ≡ Some n
at_once root t later n same large =
    by_size (λ c. (if c then first_large root later else Some (size root t)) ≡ Some n) (size root t)
    (λ small. absurd (omega (arith, small, large, same))) (λ above. ap Some same)

is_found : (root : Box) (terms : List Term) (n : ℕ) → IsFirstLarge root terms n → first_large root terms ≡ Some n
is_found root terms n f =
    ap (first_large root) f.stands
    ∙ (large_in_turn root f.before (f.first ∷ f.later)
    ∙ (ap (λ o. or_else o (first_large root (f.first ∷ f.later))) (none_large root f.before f.others)
    ∙ at_once root f.first f.later n f.measured f.large))

pub first_is_found : FirstIsFound
first_is_found root terms n = (found root terms n, is_found root terms n)

-- faults of sizes
abbrev as_fault : ℕ → Fault
as_fault n = Limit (large_excess n)

pub faults_in_turn : FaultsInTurn
faults_in_turn root xs ys fault none (inl memory) = inl memory
faults_in_turn root xs ys fault none (inr is) =
    inr (ap (option_map as_fault) (large_in_turn root xs ys ∙ ap (λ o. or_else o (first_large root ys)) none) ∙ is)

stays : (a b : Option ℕ) (fault : Fault) → option_map as_fault a ≡ Some fault → option_map as_fault (or_else a b) ≡ Some fault
stays None b fault is = absurd (cc)
stays (Some n) b fault is = is

pub faults_end : FaultsEnd
faults_end root xs ys fault (inl memory) = inl memory
faults_end root xs ys fault (inr is) =
    inr (ap (option_map as_fault) (large_in_turn root xs ys) ∙ stays (first_large root xs) (first_large root ys) fault is)

-- a call that measures terms, where none of those before them is too large
pub measures_in_turn : {A : Type 0} (root : Box) (xs ys : List Term) (result : Result A Fault) → first_large root xs ≡ None → Measures root ys result
    → Measures root (xs ++ ys) result
measures_in_turn root xs ys (Ok x) none is = large_in_turn root xs ys ∙ (ap (λ o. or_else o (first_large root ys)) none ∙ is)
measures_in_turn root xs ys (Err fault) none is = faults_in_turn root xs ys fault none is

-- the objective
no_excess : (e : Excess) → Some e ≡ None → ⊥
no_excess e is = cc

within : (n limit : ℤ) (e : Excess) → ((if int_le n limit then None else Some e) ≡ None) ↔ (false ≡ false → n ≤ℤ limit)
within n limit e = (small, allowed)
  where
    small : (if int_le n limit then None else Some e) ≡ None → false ≡ false → n ≤ℤ limit
    small is same =
        by_bool (λ c. int_le n limit ≡ c → (if c then None else Some e) ≡ None → n ≤ℤ limit) (int_le n limit)
        (λ c test none. grind (arith, ints)) (λ c test none. absurd (no_excess e none)) refl is

    allowed : (false ≡ false → n ≤ℤ limit) → (if int_le n limit then None else Some e) ≡ None
    allowed most = at_most (most refl)
      where
        at_most : n ≤ℤ limit → (if int_le n limit then None else Some e) ≡ None
        at_most h = by_bool (λ c. int_le n limit ≡ c → (if c then None else Some e) ≡ None) (int_le n limit) (λ c test. refl) (λ c test. absurd (grind (arith, ints))) refl

pub goal_is_allowed : GoalIsAllowed
goal_is_allowed root terms = by_goal terms.goal
  where
    by_goal : (goal : Option GoalTerms) → (option_and_then (goal_excess_of root terms) goal ≡ None)
        ↔ IfSome goal (λ (goal : GoalTerms). goal.worst ≡ false → goal_number root terms goal ≤ℤ pos (2 ^ 126))
    by_goal None = (λ is. tt, λ all. refl)
    by_goal (Some goal) = by_worst goal.worst
      where
        by_worst : (worst : Bool) → ((if worst then None else first_above codes.TERM_SIZE (2 ^ 126) (goal_number root terms goal ∷ [])) ≡ None)
            ↔ (worst ≡ false → goal_number root terms goal ≤ℤ pos (2 ^ 126))
        by_worst true = (λ is same. absurd (cc), λ most. refl)
        by_worst false =
            within (goal_number root terms goal) (pos (2 ^ 126)) (excess codes.TERM_SIZE (int_min (goal_number root terms goal) (pos (2 ^ 127 - 1))) (pos (2 ^ 126)))

-- a number that is above the limit, with what is told of it
above : (n limit : ℤ) (e told : Excess) → (if int_le n limit then None else Some told) ≡ Some e → (limit <ℤ n) × (e ≡ told)
above n limit e told is =
    by_bool (λ c. int_le n limit ≡ c → (if c then None else Some told) ≡ Some e → (limit <ℤ n) × (e ≡ told)) (int_le n limit)
    (λ c test none. absurd (no_excess e (sym none))) (λ c test some. (grind (arith, ints), ap (λ o. unwrap_or o told) (sym some))) refl is

told_above : (n limit : ℤ) (told : Excess) → limit <ℤ n → (if int_le n limit then None else Some told) ≡ Some told
told_above n limit told large =
    by_bool (λ c. int_le n limit ≡ c → (if c then None else Some told) ≡ Some told) (int_le n limit) (λ c test. absurd (grind (arith, ints))) (λ c test. refl) refl

abbrev goal_told : Box → ProblemTerms → GoalTerms → Excess
goal_told root terms goal = excess codes.TERM_SIZE (int_min (goal_number root terms goal) (pos (2 ^ 127 - 1))) (pos (2 ^ 126))

-- an expected objective that is too large
large_goal : (root : Box) (terms : ProblemTerms) (e : Excess) (goal : GoalTerms) → terms.goal ≡ Some goal → goal_excess_of root terms goal ≡ Some e
    → IsLargeGoal root terms e
large_goal root terms e goal stands is =
    by_bool (λ worst. goal.worst ≡ worst → (if worst then None else first_above codes.TERM_SIZE (2 ^ 126) (goal_number root terms goal ∷ [])) ≡ Some e → IsLargeGoal root terms e)
    goal.worst (λ w worst none. absurd (no_excess e (sym none))) (λ w expected some. made expected (above (goal_number root terms goal) (pos (2 ^ 126)) e (goal_told root terms goal) some)) refl is
  where
    made : goal.worst ≡ false → (pos (2 ^ 126) <ℤ goal_number root terms goal) × (e ≡ goal_told root terms goal) → IsLargeGoal root terms e
    made expected both = record { objective = goal; stands = stands; expected = expected; large = both.0; told = both.1 }

pub goal_is_refused : GoalIsRefused
goal_is_refused root terms e = (λ is. by_goal terms.goal refl is, refused)
  where
    by_goal : (goal : Option GoalTerms) → terms.goal ≡ goal → option_and_then (goal_excess_of root terms) goal ≡ Some e → IsLargeGoal root terms e
    by_goal None stands is = absurd (no_excess e (sym is))
    by_goal (Some goal) stands is = large_goal root terms e goal stands is

    refused : IsLargeGoal root terms e → goal_excess root terms ≡ Some e
    refused f =
        ap (option_and_then (goal_excess_of root terms)) f.stands
        ∙ (ap (λ worst. if worst then None else first_above codes.TERM_SIZE (2 ^ 126) (goal_number root terms f.objective ∷ [])) f.expected
        ∙ (told_above (goal_number root terms f.objective) (pos (2 ^ 126)) (goal_told root terms f.objective) f.large ∙ ap Some (sym f.told)))

-- faults where the same is too large
pub same_fault : (root : Box) (xs ys : List Term) (fault : Fault) → first_large root xs ≡ first_large root ys → IsSizeFault root xs fault → IsSizeFault root ys fault
same_fault root xs ys fault same (inl memory) = inl memory
same_fault root xs ys fault same (inr is) = inr (ap (option_map (λ n. Limit (large_excess n))) (sym same) ∙ is)
