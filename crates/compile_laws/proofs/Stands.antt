-- The elements of each name of a text are those of an array.
use Rattle.std.proofs.Common.{◌≡◌, ◌∙◌, refl, sym, ap, subst, arith, ℕ, zero, suc, ◌+◌, ◌<◌, nat_eq, ℤ, Bool, true, false, true≢false, List, [], ◌∷◌, ◌++◌, length, map, filter}
use Rattle.std.proofs.Common.{◌⊎◌, inl, inr, Option, Some, if◌then◌else◌}
use Rattle.std.proofs.lemmas.Bool.{eq-eqb}
use Rattle.std.proofs.lemmas.List.{map-append}
use Rattle.std.specs.List.{AllByRecursion, range_with_len}
use Rattle.std.specs.Str.{bytes_eq}
use Rattle.sopl_ast.specs.Whole.{conses}
use Rattle.sopl_ast.specs.Known.{Constant}
use Rattle.sopl_ast.specs.Mistakes.{Entity, entity_of, no_names, declare_all, of_declarations, of_goal, of_constraints}
use Rattle.sopl_ast.specs.Instances.{Decision, Outcome, Stochastic}
use Rattle.sopl_ast.specs.Scenarios.{Scenario, scenarios, scenarios_after, outcomes_after, preceded_by}
use Rattle.sopl_ast.specs.Declarations.{Declared, nothing_declared, behind_all}
use Rattle.sopl_ast.specs.Unfolding.{by_stage, problem_of}
use Rattle.unfold_laws.specs.Bounds.{IsStage, IsBoundedStochastic}
use Rattle.unfold_laws.proofs.Declared.{declared_bounded}
use Rattle.unfold_laws.proofs.Whole.{text_parts}
use Rattle.policy_tree.proofs.Members.{In, In-Contains, In-before, In-after, from_append, from_map, In-flat_map, from_flat_map, In-filter, from_filter}
use Rattle.term_language.specs.Terms.{Item, Fixed, Free}
use Rattle.term_language.specs.Arrays.{Entry, item_in, same_index}
use Rattle.term_language.proofs.Elements.{same_index_refl}
use Rattle.compile_laws.specs.Instances.{constant_elements, seen_elements, decided_elements}
use Rattle.compile_laws.specs.Laws.{IsArray}
use Rattle.compile_laws.specs.Stands.{ArraysStand, ScenariosAreWhole}
use Rattle.compile_laws.proofs.Arrays.{full_array}
use Rattle.compile_laws.proofs.Initials.{none_both}
use Rattle.compile_laws.proofs.Owned.{IsOwned, in_named, from_named}
use Rattle.compile_laws.proofs.Declared.{of_constants, of_stochastics, of_decisions, all_named, declared_owned}

-- Scenarios.

whole_scenario : (stochastics : List Stochastic) (places : List ℕ) (s : Scenario) → In s (scenarios_after places stochastics)
    → length s.values ≡ length stochastics
whole_scenario [] places s (inl e) = ap (λ (t : Scenario). length t.values) (sym e)
whole_scenario [] places s (inr h) = absurd h
whole_scenario (first ∷ later) places s h =
    let of_outcome = from_flat_map (λ (drawn : ℕ × Outcome). map (preceded_by drawn.1) (scenarios_after (places ++ drawn.0 ∷ []) later)) (outcomes_after places first) s h in
    let after : List ℕ = places ++ of_outcome.0.0 ∷ [] in
    let of_later = from_map (preceded_by of_outcome.0.1) (scenarios_after after later) s of_outcome.2 in
    ap (λ (t : Scenario). length t.values) (sym of_later.2) ∙ ap suc (whole_scenario later after of_later.0 of_later.1)

pub scenarios_are_whole : ScenariosAreWhole
scenarios_are_whole stochastics s h = whole_scenario stochastics [] s (In-Contains (scenarios stochastics) s h)

-- Stochastic variables by stage.

in_range : (n first j : ℕ) → j < n → In (first + j) (range_with_len first n)
in_range zero first j below = absurd (omega (arith, below))
in_range (suc n) first zero below = inl (omega arith)
in_range (suc n) first (suc j) below = inr (subst (λ k. In k (range_with_len (first + 1) n)) (omega arith) (in_range n (first + 1) j (omega (arith, below))))

is_stage : (stage : ℕ) → IsStage stage → In stage (range_with_len 1 24)
is_stage zero is = let h = is.0 in absurd (omega (arith, h))
is_stage (suc j) is = let h = is.1 in subst (λ k. In k (range_with_len 1 24)) (omega arith) (in_range 24 1 j (omega (arith, h)))

all_in : {A : Type 0} (P : A → Type 0) (xs : List A) → AllByRecursion P xs → (x : A) → In x xs → P x
all_in P [] all x h = absurd h
all_in P (y ∷ ys) all x (inl e) = subst P e all.0
all_in P (y ∷ ys) all x (inr h) = all_in P ys all.1 x h

in_stages : (ss : List Stochastic) → AllByRecursion IsBoundedStochastic ss → (s : Stochastic) → In s ss → In s (by_stage ss)
unfolding by_stage
in_stages ss all s h =
    In-flat_map (λ stage. filter (λ (t : Stochastic). nat_eq t.stage stage) ss) (range_with_len 1 24) s.stage s
    (is_stage s.stage (all_in IsBoundedStochastic ss all s h).stage)
    (In-filter (λ (t : Stochastic). nat_eq t.stage s.stage) ss s h (eq-eqb s.stage s.stage refl))

from_stages : (ss : List Stochastic) (s : Stochastic) → In s (by_stage ss) → In s ss
unfolding by_stage
from_stages ss s h =
    let of_stage = from_flat_map (λ stage. filter (λ (t : Stochastic). nat_eq t.stage stage) ss) (range_with_len 1 24) s h in
    (from_filter (λ (t : Stochastic). nat_eq t.stage of_stage.0) ss s of_stage.2).0

-- the indices of a name's stochastic variables are the same by stage
named_in_stages : (name : List ℕ) (ss : List Stochastic) → AllByRecursion IsBoundedStochastic ss → (index : List ℤ) → In index (of_stochastics name ss)
    → In index (of_stochastics name (by_stage ss))
named_in_stages name ss all index h =
    let found = from_named (λ (s : Stochastic). s.name) (λ (s : Stochastic). s.index) name ss index h in
    subst (λ i. In i (of_stochastics name (by_stage ss))) found.3
    (in_named (λ (s : Stochastic). s.name) (λ (s : Stochastic). s.index) name (by_stage ss) found.0 (in_stages ss all found.0 found.1) found.2)

named_from_stages : (name : List ℕ) (ss : List Stochastic) (index : List ℤ) → In index (of_stochastics name (by_stage ss)) → In index (of_stochastics name ss)
named_from_stages name ss index h =
    let found = from_named (λ (s : Stochastic). s.name) (λ (s : Stochastic). s.index) name (by_stage ss) index h in
    subst (λ i. In i (of_stochastics name ss)) found.3
    (in_named (λ (s : Stochastic). s.name) (λ (s : Stochastic). s.index) name ss found.0 (from_stages ss found.0 found.1) found.2)

-- Elements.

abbrev index_in : Entry → List ℤ
index_in e = e.index

one_more : (b : Bool) (index : List ℤ) (item : Item) (es : List Entry) (is : List (List ℤ)) → map index_in es ≡ is
    → map index_in (if b then (record { index = index; item = item }) ∷ es else es) ≡ (if b then index ∷ is else is)
one_more true index item es is later = ap (λ others. index ∷ others) later
one_more false index item es is later = later

constants_named : (name : List ℕ) (ks : List Constant) → map index_in (constant_elements name ks) ≡ of_constants name ks
constants_named name [] = refl
constants_named name (k ∷ ks) =
    one_more (bytes_eq name k.name) k.index (Fixed k.value) (constant_elements name ks) (of_constants name ks) (constants_named name ks)

seen_named : (name : List ℕ) (ss : List Stochastic) (values : List ℤ) → length values ≡ length ss → map index_in (seen_elements name ss values) ≡ of_stochastics name ss
seen_named name [] values same = refl
seen_named name (s ∷ ss) [] same = absurd (omega (arith, same))
seen_named name (s ∷ ss) (v ∷ values) same =
    one_more (bytes_eq name s.name) s.index (Fixed v) (seen_elements name ss values) (of_stochastics name ss) (seen_named name ss values (omega (arith, same)))

decided_named : (name : List ℕ) (ds : List Decision) (numbers : List ℕ) → length numbers ≡ length ds → map index_in (decided_elements name ds numbers) ≡ of_decisions name ds
decided_named name [] numbers same = refl
decided_named name (d ∷ ds) [] same = absurd (omega (arith, same))
decided_named name (d ∷ ds) (n ∷ numbers) same =
    one_more (bytes_eq name d.name) d.index (Free n) (decided_elements name ds numbers) (of_decisions name ds) (decided_named name ds numbers (omega (arith, same)))

-- an item stands at each index of elements
found_back : (es : List Entry) (index : List ℤ) → In index (map index_in es) → (item : Item) × (item_in es index ≡ Some item)
found_back [] index h = absurd h
found_back (e ∷ es) index h = by_first (same_index e.index index) refl h (found_back es index)
  where
    by_first : (b : Bool) → same_index e.index index ≡ b → In index (map index_in (e ∷ es)) → (In index (map index_in es) → (item : Item) × (item_in es index ≡ Some item))
        → (item : Item) × ((if b then Some e.item else item_in es index) ≡ Some item)
    by_first true is here later = (e.item, refl)
    by_first false is (inl same) later = absurd (true≢false (sym (subst (λ i. same_index e.index i ≡ true) same (same_index_refl e.index)) ∙ is))
    by_first false is (inr there) later = later there

swapped : (cs xs ys ds : List (List ℤ)) (index : List ℤ) → (In index xs → In index ys) → In index (cs ++ (xs ++ ds)) → In index (cs ++ (ys ++ ds))
swapped cs xs ys ds index to h = first (from_append cs (xs ++ ds) index h)
  where
    later : In index xs ⊎ In index ds → In index (ys ++ ds)
    later (inl g) = In-before ys ds index (to g)
    later (inr g) = In-after ys ds index g

    first : In index cs ⊎ In index (xs ++ ds) → In index (cs ++ (ys ++ ds))
    first (inl g) = In-before cs (ys ++ ds) index g
    first (inr g) = In-after cs (ys ++ ds) index (later (from_append xs ds index g))

-- the elements of a name that owns its indices
array_of_name : (found : Declared) (name : List ℕ) (known : Option Entity) → IsOwned known (all_named name found) → AllByRecursion IsBoundedStochastic found.stochastics
    → (values : List ℤ) (numbers : List ℕ) → length values ≡ length (by_stage found.stochastics) → length numbers ≡ length found.decisions
    → IsArray (constant_elements name found.known.constants ++ (seen_elements name (by_stage found.stochastics) values ++ decided_elements name found.decisions numbers))
array_of_name found name known owned bounded values numbers valued numbered =
    full_array owned.sets es
    (record {
      there = λ index h. found_back es index (subst (In index) (sym same)
          (swapped constants seen by_stages decided index (named_in_stages name found.stochastics bounded index) (owned.exact.all index h)));
      only = λ index h. owned.exact.only index (swapped constants by_stages seen decided index (named_from_stages name found.stochastics index) (subst (In index) same h));
    })
  where
    constants : List (List ℤ)
    constants = of_constants name found.known.constants

    seen : List (List ℤ)
    seen = of_stochastics name found.stochastics

    by_stages : List (List ℤ)
    by_stages = of_stochastics name (by_stage found.stochastics)

    decided : List (List ℤ)
    decided = of_decisions name found.decisions

    es : List Entry
    es = constant_elements name found.known.constants ++ (seen_elements name (by_stage found.stochastics) values ++ decided_elements name found.decisions numbers)

    same : map index_in es ≡ constants ++ (by_stages ++ decided)
    same =
        map-append index_in (constant_elements name found.known.constants) (seen_elements name (by_stage found.stochastics) values ++ decided_elements name found.decisions numbers)
        ∙ (λ i.
        constants_named name found.known.constants i
        ++ (map-append index_in (seen_elements name (by_stage found.stochastics) values) (decided_elements name found.decisions numbers)
        ∙ (λ j. seen_named name (by_stage found.stochastics) values valued j ++ decided_named name found.decisions numbers numbered j)) i)

pub arrays_stand : ArraysStand
unfolding problem_of
arrays_stand model typed passes bound s numbers valued numbered name =
    let declared = text_parts model passes in
    let right = none_both (of_declarations no_names model.decls) (of_goal (declare_all model.decls no_names) model.goal ++ of_constraints (declare_all model.decls no_names) (conses model.body)) typed in
    array_of_name (behind_all model.decls nothing_declared) name (entity_of (declare_all model.decls no_names) name)
    (declared_owned model.decls name right.0 declared.0) (declared_bounded model.decls declared.0).stochastics s.values numbers valued numbered
