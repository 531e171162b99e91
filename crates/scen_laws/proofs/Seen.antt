-- What has been seen when a stage is chosen.
use Rattle.std.proofs.Common.{◌≡◌, ◌++◌, ◌≤◌, ℕ, zero, suc, ℤ, nat_lt, not, Bool, true, false, cond, List, [], ◌∷◌, length, map, filter, take, drop, arith, refl, sym, ap, ◌∙◌}
use Rattle.std.proofs.Math.ListN.{replicate}
use Rattle.std.proofs.lemmas.Bool.{ltb-true, ltb-false}
use Rattle.std.proofs.lemmas.Cmp.{int_eq_equiv, lists_equiv}
use Rattle.std.proofs.lemmas.List.{append-nil}
use Rattle.std.proofs.lemmas.List.Folds.{flat_map-map}
use Rattle.std.specs.List.{AllByRecursion, IsDistinct, flat_map}
use Rattle.sopl_base.proofs.Lists.{all_append, flat_map-flat_map, map-flat_map, map-map}
use Rattle.sopl_ast.specs.Known.{same_values}
use Rattle.sopl_ast.specs.Instances.{Outcome, Stochastic, distribution}
use Rattle.sopl_ast.specs.Scenarios.{Scenario, preceded_by, scenarios}
use Rattle.sopl_ast.specs.Histories.{history, distinct}
use Rattle.lang_laws.proofs.Independence.{scenarios_begin}
use Rattle.unfold_laws.specs.Bounds.{IsBoundedStochastic}
use Rattle.scen_laws.specs.Laws.{HasOutcome, IsByStage, seen_before, rows, values_of, HistoriesArePrefixes, HistoriesAreRows}
use Rattle.scen_laws.proofs.Counts.{some_scenario, first_part, last_part}
use Rattle.scen_laws.proofs.Rows.{rows_differ}
use Rattle.scen_laws.proofs.Stages.{AllFrom, from_later}

-- of these no value is seen
none_seen : (stage : ℕ) (ss : List Stochastic) (values : List ℤ) → AllFrom stage ss → history stage ss values ≡ []
none_seen stage [] values all = refl
none_seen stage (s ∷ ss) [] all = refl
none_seen stage (s ∷ ss) (v ∷ vs) all = on (nat_lt s.stage stage) refl (none_seen stage ss vs all.1)
  where
    on : (b : Bool) → nat_lt s.stage stage ≡ b → history stage ss vs ≡ [] → cond b (v ∷ history stage ss vs) (history stage ss vs) ≡ []
    on true is later = absurd (omega (arith, ltb-true s.stage stage is, all.0))
    on false is later = later

pub histories_are_prefixes : HistoriesArePrefixes
histories_are_prefixes stage [] values ascend long = refl
histories_are_prefixes stage (s ∷ ss) [] ascend long = absurd (omega (arith, long))
histories_are_prefixes stage (s ∷ ss) (v ∷ vs) ascend long =
    on (nat_lt s.stage stage) refl (histories_are_prefixes stage ss vs ascend.1 (omega (arith, long)))
  where
    on : (b : Bool) → nat_lt s.stage stage ≡ b → history stage ss vs ≡ take (seen_before stage ss) vs
        → cond b (v ∷ history stage ss vs) (history stage ss vs) ≡ take (cond b (suc (seen_before stage ss)) 0) (v ∷ vs)
    on true is later = ap (λ more. v ∷ more) later
    on false is later = none_seen stage ss vs (from_later stage s.stage (ltb-false s.stage stage is) ss ascend.0)

-- Each history of a prefix, once for each scenario of the variables behind it.

abbrev seen_in : ℕ → List Stochastic → Scenario → List ℤ
seen_in stage ss x = history stage ss x.values

constant : (f : Scenario → List ℤ) (c : List ℤ) → ((x : Scenario) → f x ≡ c) → (xs : List Scenario) → map f xs ≡ replicate (length xs) c
constant f c is [] = refl
constant f c is (x ∷ xs) = λ i. is x i ∷ constant f c is xs i

map-replicate : (f : List ℤ → List ℤ) (m : ℕ) (r : List ℤ) → map f (replicate m r) ≡ replicate m (f r)
map-replicate f zero r = refl
map-replicate f (suc m) r = ap (λ more. f r ∷ more) (map-replicate f m r)

-- so many copies of each
copied : ℕ → List (List ℤ) → List (List ℤ)
copied m rs = flat_map (replicate m) rs

-- a value in front of each
abbrev headed : ℤ → List ℤ → List ℤ
headed v r = v ∷ r

copied_headed : (v : ℤ) (m : ℕ) (rs : List (List ℤ)) → map (headed v) (copied m rs) ≡ copied m (map (headed v) rs)
unfolding copied
copied_headed v m rs =
    map-flat_map (headed v) (replicate m) rs
    ∙ ((λ i. flat_map (λ r. map-replicate (headed v) m r i) rs) ∙ sym (flat_map-map (replicate m) (headed v) rs))

-- the rows of one more variable in front
rows_headed : (s : Stochastic) (ss : List Stochastic) → rows (s ∷ ss) ≡ flat_map (λ (o : Outcome). map (headed o.value) (rows ss)) (distribution s)
rows_headed s ss =
    ap (map values_of) (scenarios_begin s ss)
    ∙ (map-flat_map values_of (λ (o : Outcome). map (preceded_by o) (scenarios ss)) (distribution s)
    ∙ (λ i. flat_map (λ (o : Outcome). each o i) (distribution s)))
  where
    each : (o : Outcome) → map values_of (map (preceded_by o) (scenarios ss)) ≡ map (headed o.value) (rows ss)
    each o = map-map values_of (preceded_by o) (scenarios ss) ∙ sym (map-map (headed o.value) values_of (scenarios ss))

-- what is seen, where the first variable's value is
seen_headed : (stage : ℕ) (s : Stochastic) (ss : List Stochastic) → nat_lt s.stage stage ≡ true
    → map (seen_in stage (s ∷ ss)) (scenarios (s ∷ ss)) ≡ flat_map (λ (o : Outcome). map (headed o.value) (map (seen_in stage ss) (scenarios ss))) (distribution s)
seen_headed stage s ss is =
    ap (map (seen_in stage (s ∷ ss))) (scenarios_begin s ss)
    ∙ (map-flat_map (seen_in stage (s ∷ ss)) (λ (o : Outcome). map (preceded_by o) (scenarios ss)) (distribution s)
    ∙ (λ i. flat_map (λ (o : Outcome). each o i) (distribution s)))
  where
    each : (o : Outcome) → map (seen_in stage (s ∷ ss)) (map (preceded_by o) (scenarios ss)) ≡ map (headed o.value) (map (seen_in stage ss) (scenarios ss))
    each o =
        map-map (seen_in stage (s ∷ ss)) (preceded_by o) (scenarios ss)
        ∙ ((λ i. map (λ (x : Scenario). cond (is i) (o.value ∷ seen_in stage ss x) (seen_in stage ss x)) (scenarios ss))
        ∙ sym (map-map (headed o.value) (seen_in stage ss) (scenarios ss)))

-- how many scenarios the variables behind a prefix have
abbrev behind_count : ℕ → List Stochastic → ℕ
behind_count n ss = length (scenarios (drop n ss))

seen_rows : (stage : ℕ) (ss : List Stochastic) → IsByStage ss
    → map (seen_in stage ss) (scenarios ss) ≡ copied (behind_count (seen_before stage ss) ss) (rows (take (seen_before stage ss) ss))
unfolding copied
seen_rows stage [] ascend = refl
seen_rows stage (s ∷ ss) ascend = on (nat_lt s.stage stage) refl (seen_rows stage ss ascend.1)
  where
    on : (b : Bool) → nat_lt s.stage stage ≡ b
        → map (seen_in stage ss) (scenarios ss) ≡ copied (behind_count (seen_before stage ss) ss) (rows (take (seen_before stage ss) ss))
        → map (seen_in stage (s ∷ ss)) (scenarios (s ∷ ss))
        ≡ copied (behind_count (cond b (suc (seen_before stage ss)) 0) (s ∷ ss)) (rows (take (cond b (suc (seen_before stage ss)) 0) (s ∷ ss)))
    on true is later =
        let m : ℕ = behind_count (seen_before stage ss) ss in
        let prefix : List Stochastic = take (seen_before stage ss) ss in
        seen_headed stage s ss is
        ∙ ((λ i. flat_map (λ (o : Outcome). map (headed o.value) (later i)) (distribution s))
        ∙ ((λ i. flat_map (λ (o : Outcome). copied_headed o.value m (rows prefix) i) (distribution s))
        ∙ (sym (flat_map-flat_map (replicate m) (λ (o : Outcome). map (headed o.value) (rows prefix)) (distribution s))
        ∙ ap (copied m) (sym (rows_headed s prefix)))))
    on false is later =
        constant (seen_in stage (s ∷ ss)) []
        (λ x. none_seen stage (s ∷ ss) x.values (ltb-false s.stage stage is, from_later stage s.stage (ltb-false s.stage stage is) ss ascend.0))
        (scenarios (s ∷ ss))
        ∙ sym (append-nil (replicate (length (scenarios (s ∷ ss))) []))

-- Each of these once.

abbrev Differs : List ℤ → List (List ℤ) → Type 0
Differs x list = AllByRecursion (λ y. same_values x y ≡ false) list

abbrev others : List ℤ → List (List ℤ) → List (List ℤ)
others x ys = filter (λ other. not (same_values x other)) ys

same_itself : (x : List ℤ) → same_values x x ≡ true
same_itself x = (lists_equiv int_eq_equiv).refl x

-- what differs from x is kept
others_kept : (x : List ℤ) (ys : List (List ℤ)) → Differs x ys → others x ys ≡ ys
others_kept x [] differ = refl
others_kept x (y ∷ ys) differ =
    (λ i. cond (not (differ.0 i)) (y ∷ others x ys) (others x ys)) ∙ ap (λ more. y ∷ more) (others_kept x ys differ.1)

others_differ : (x y : List ℤ) (ys : List (List ℤ)) → Differs x ys → Differs x (others y ys)
others_differ x y [] differ = tt
others_differ x y (z ∷ ys) differ = on (not (same_values y z)) (others_differ x y ys differ.1)
  where
    on : (b : Bool) → Differs x (others y ys) → Differs x (cond b (z ∷ others y ys) (others y ys))
    on true more = (differ.0, more)
    on false more = more

distinct_differ : (x : List ℤ) (ys : List (List ℤ)) → Differs x ys → Differs x (distinct ys)
distinct_differ x [] differ = tt
distinct_differ x (y ∷ ys) differ = (differ.0, others_differ x y (distinct ys) (distinct_differ x ys differ.1))

-- copies of x, before others
copies_once : (x : List ℤ) (m : ℕ) (ys : List (List ℤ)) → Differs x ys → distinct (replicate (suc m) x ++ ys) ≡ x ∷ distinct ys
copies_once x zero ys differ = ap (λ more. x ∷ more) (others_kept x (distinct ys) (distinct_differ x ys differ))
copies_once x (suc m) ys differ =
    ap (λ more. x ∷ others x more) (copies_once x m ys differ)
    ∙ ((λ i. x ∷ cond (not (same_itself x i)) (x ∷ others x (distinct ys)) (others x (distinct ys)))
    ∙ ap (λ more. x ∷ more) (others_kept x (distinct ys) (distinct_differ x ys differ)))

copies_differ : (x y : List ℤ) (m : ℕ) → same_values x y ≡ false → Differs x (replicate m y)
copies_differ x y zero is = tt
copies_differ x y (suc m) is = (is, copies_differ x y m is)

copied_differ : (x : List ℤ) (m : ℕ) (ys : List (List ℤ)) → Differs x ys → Differs x (copied m ys)
unfolding copied
copied_differ x m [] differ = tt
copied_differ x m (y ∷ ys) differ =
    all_append (λ z. same_values x z ≡ false) (replicate m y) (copied m ys) (copies_differ x y m differ.0) (copied_differ x m ys differ.1)

each_once : (m : ℕ) → 1 ≤ m → (xs : List (List ℤ)) → IsDistinct same_values xs → distinct (copied m xs) ≡ xs
unfolding copied IsDistinct
each_once zero some xs differ = absurd (omega (arith, some))
each_once (suc m) some [] differ = refl
each_once (suc m) some (x ∷ xs) differ =
    copies_once x m (copied (suc m) xs) (copied_differ x (suc m) xs differ.0)
    ∙ ap (λ more. x ∷ more) (each_once (suc m) some xs differ.1)

pub histories_are_rows : HistoriesAreRows
histories_are_rows stage ss ascend some all =
    let n : ℕ = seen_before stage ss in
    ap distinct (seen_rows stage ss ascend)
    ∙ each_once (behind_count n ss) (some_scenario (drop n ss) (last_part HasOutcome n ss some)) (rows (take n ss))
    (rows_differ (take n ss) (first_part IsBoundedStochastic n ss all))
