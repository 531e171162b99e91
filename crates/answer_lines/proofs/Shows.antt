-- What is shown of a tree is what the definitions say.
use Rattle.std.proofs.Common.{◌≡◌, ◌+◌, ◌<◌, ◌≤◌, ◌∙◌, ℕ, zero, suc, ℤ, pos, List, [], ◌∷◌, length, map, drop, Some, slice_get, arith, refl, sym, ap, subst}
use Rattle.std.specs.List.{range_with_len}
use Rattle.sopl_ast.specs.Instances.{Decision, Stochastic}
use Rattle.sopl_ast.specs.Scenarios.{Scenario, scenarios}
use Rattle.sopl_scen.specs.Layout.{IsTreeOf, Layout, count_in, value_in, weight_in}
use Rattle.policy_json.specs.Entries.{entry_of, seen_entries, whole_number}
use Rattle.policy_json.specs.LastStage.{last_stage}
use Rattle.answer_lines.specs.Answer.{history_count, scenario_data, scenario_object, tree_data, tree_object}
use Rattle.answer_lines.specs.Shown.{all_shown, count_shown, counts_shown, entries_from, shown}

-- what stands at a place is the first of what is left from there on
left_at : (xs : List ℤ) (j : ℕ) (v : ℤ) → slice_get xs j ≡ Some v → drop j xs ≡ v ∷ drop (suc j) xs
left_at [] j v is = absurd (cc)
left_at (x ∷ xs) zero v is = let same : x ≡ v = cc in ap (λ y. y ∷ xs) same
left_at (x ∷ xs) (suc j) v is = left_at xs j v is

-- the values that are looked up are those of the scenario
entries_are : (tree : Layout) (scenario : ℕ) (values : List ℤ) (j : ℕ) (ss : List Stochastic)
    → ((k : ℕ) → k < length ss → slice_get values (j + k) ≡ Some (value_in tree (j + k) scenario))
    → entries_from tree scenario j ss ≡ seen_entries ss (drop j values)
entries_are tree scenario values j [] each = refl
entries_are tree scenario values j (s ∷ ss) each =
    ap (λ l. entry_of s.name s.index (value_in tree j scenario) ∷ l) (entries_are tree scenario values (j + 1) ss (λ k below. moved k (each (suc k) (omega (arith, below)))))
    ∙ (ap (λ n. entry_of s.name s.index (value_in tree j scenario) ∷ seen_entries ss (drop n values)) next
    ∙ sym (ap (seen_entries (s ∷ ss)) (left_at values j (value_in tree j scenario) here)))
  where
    next : j + 1 ≡ suc j
    next = omega arith

    here : slice_get values j ≡ Some (value_in tree j scenario)
    here = subst (λ n. slice_get values n ≡ Some (value_in tree n scenario)) (omega arith) (each zero (omega arith))

    moved : (k : ℕ) → slice_get values (j + suc k) ≡ Some (value_in tree (j + suc k) scenario) → slice_get values ((j + 1) + k) ≡ Some (value_in tree ((j + 1) + k) scenario)
    moved k is = subst (λ n. slice_get values n ≡ Some (value_in tree n scenario)) (omega arith) is

shown_is : (ds : List Decision) (ss : List Stochastic) (tree : Layout) → IsTreeOf ds ss tree → (i : ℕ) (s : Scenario) → slice_get (scenarios ss) i ≡ Some s
    → shown ss tree i ≡ scenario_data ss s
shown_is ds ss tree is i s at =
    ap (λ l. scenario_object l (weight_in tree i)) (entries_are tree i s.values 0 ss (λ k below. subst (λ n. slice_get s.values n ≡ Some (value_in tree n i)) (omega arith) (is.drawn k i s below at)))
    ∙ ap (λ w. scenario_object (seen_entries ss s.values) w) (is.weighed i s at)

-- a list by its places
by_places : {X Y : Type 0} (f : X → Y) (g : ℕ → Y) (first : ℕ) (xs : List X) → ((k : ℕ) (x : X) → slice_get xs k ≡ Some x → g (first + k) ≡ f x)
    → map g (range_with_len first (length xs)) ≡ map f xs
by_places f g first [] each = refl
by_places f g first (x ∷ xs) each =
    ap (λ y. y ∷ map g (range_with_len (first + 1) (length xs))) (subst (λ n. g n ≡ f x) (omega arith) (each zero x refl))
    ∙ ap (λ l. f x ∷ l) (by_places f g (first + 1) xs (λ k y at. subst (λ n. g n ≡ f y) (omega arith) (each (suc k) y at)))

pub all_are : (ds : List Decision) (ss : List Stochastic) (tree : Layout) → IsTreeOf ds ss tree → all_shown ss tree (count_in tree) ≡ map (scenario_data ss) (scenarios ss)
all_are ds ss tree is =
    ap (all_shown ss tree) is.count ∙ by_places (scenario_data ss) (shown ss tree) 0 (scenarios ss) (λ k s at. ap (shown ss tree) (omega arith) ∙ shown_is ds ss tree is k s at)

-- the stages up to the last one
counts_from : (ds : List Decision) (ss : List Stochastic) (tree : Layout) → IsTreeOf ds ss tree → (first n : ℕ) → 1 ≤ first → first + n ≤ 25
    → map (count_shown tree) (range_with_len first n) ≡ map (history_count ss) (range_with_len first n)
counts_from ds ss tree is first zero from to = refl
counts_from ds ss tree is first (suc n) from to =
    ap (λ z. whole_number (pos z) ∷ map (count_shown tree) (range_with_len (first + 1) n)) (is.counted first (from, omega arith))
    ∙ ap (λ l. history_count ss first ∷ l) (counts_from ds ss tree is (first + 1) n (omega arith) (omega arith))

-- the answer is that of the tree
pub tree_shown : (ds : List Decision) (ss : List Stochastic) (tree : Layout) → IsTreeOf ds ss tree → (last : ℕ) → last ≡ last_stage ds → last ≤ 24
    → tree_object tree.total (counts_shown tree last) (all_shown ss tree (count_in tree)) ≡ tree_data ds ss
tree_shown ds ss tree is last same few =
    let counts : counts_shown tree last ≡ map (history_count ss) (range_with_len 1 (last_stage ds)) =
    counts_from ds ss tree is 1 last (omega arith) (omega arith) ∙ ap (λ n. map (history_count ss) (range_with_len 1 n)) same in
    λ i. tree_object (is.whole i) (counts i) (all_are ds ss tree is i)
