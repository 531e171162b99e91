-- The levels show the scenarios of the prefixes.
use Rattle.std.proofs.Common.{◌≡◌, ◌+◌, ◌≤◌, ◌<◌, ◌++◌, ℕ, zero, suc, pos, ◌*ℤ◌, List, [], ◌∷◌, length, map, get_or, take, append_assoc, arith, refl, sym, ap, subst, ◌∙◌, length-append}
use Rattle.std.proofs.Math.Seq.{get_or-append_seam}
use Rattle.std.proofs.lemmas.List.{map-append}
use Rattle.std.proofs.lemmas.List.Elements.{All-from_recursion}
use Rattle.std.specs.List.{AllByRecursion, flat_map}
use Rattle.sopl_base.proofs.Lists.{all_append, map-map}
use Rattle.sopl_ast.specs.Instances.{Outcome, Stochastic}
use Rattle.sopl_ast.specs.Scenarios.{Scenario, scenarios}
use Rattle.scen_laws.specs.Laws.{extended}
use Rattle.scen_laws.proofs.Splits.{scenarios_extend}
use Rattle.sopl_scen.specs.declared.nodes.Node.{Node}
use Rattle.sopl_scen.specs.Levels.{child_of, children, level_at, outcomes_at, no_variable}

-- the scenario of no variable
abbrev pub nothing : Scenario
nothing = record { values = []; weight = pos 1 }

-- the scenario of a node behind these
abbrev pub shown : List Scenario → Node → Scenario
shown above node = record { values = (get_or above node.parent nothing).values ++ node.value ∷ []; weight = node.weight }

-- nodes and scenarios weigh the same
abbrev pub SameWeights : List Node → List Scenario → Type 0
SameWeights [] [] = Unit {0}
SameWeights [] (p ∷ ps) = ⊥
SameWeights (n ∷ ns) [] = ⊥
SameWeights (n ∷ ns) (p ∷ ps) = (n.weight ≡ p.weight) × SameWeights ns ps

same_length : (ns : List Node) (ps : List Scenario) → SameWeights ns ps → length ns ≡ length ps
same_length [] [] same = refl
same_length [] (p ∷ ps) same = absurd same
same_length (n ∷ ns) [] same = absurd same
same_length (n ∷ ns) (p ∷ ps) same = ap suc (same_length ns ps same.1)

-- a node of an outcome shows it behind the scenario of the node above
child_shown : (above : List Scenario) (first : ℕ) (node : Node) (p : Scenario) (o : Outcome) → get_or above first nothing ≡ p → node.weight ≡ p.weight
    → shown above (child_of first node o) ≡ extended p o
child_shown above first node p o is same = λ i. record { values = (is i).values ++ o.value ∷ []; weight = same i *ℤ o.weight }

children_shown : (os : List Outcome) (done left : List Scenario) (nodes : List Node) → SameWeights nodes left
    → map (shown (done ++ left)) (children (length done) nodes os) ≡ flat_map (λ (p : Scenario). map (extended p) os) left
children_shown os done [] [] same = refl
children_shown os done [] (n ∷ ns) same = absurd same
children_shown os done (p ∷ ps) [] same = absurd same
children_shown os done (p ∷ ps) (n ∷ ns) same =
    let above : List Scenario = done ++ p ∷ ps in
    let first : map (shown above) (map (child_of (length done) n) os) ≡ map (extended p) os =
    map-map (shown above) (child_of (length done) n) os
    ∙ (λ i. map (λ o. child_shown above (length done) n p o (get_or-append_seam done p ps nothing) same.0 i) os) in
    let later : map (shown above) (children (length done + 1) ns os) ≡ flat_map (λ (q : Scenario). map (extended q) os) ps =
    subst (λ list. map (shown list) (children (length done + 1) ns os) ≡ flat_map (λ (q : Scenario). map (extended q) os) ps) (append_assoc done (p ∷ []) ps)
    (subst (λ k. map (shown ((done ++ p ∷ []) ++ ps)) (children k ns os) ≡ flat_map (λ (q : Scenario). map (extended q) os) ps)
    (length-append done (p ∷ [])) (children_shown os (done ++ p ∷ []) ps ns same.1)) in
    map-append (shown above) (map (child_of (length done) n) os) (children (length done + 1) ns os) ∙ (λ i. first i ++ later i)

shown_same : (above : List Scenario) (nodes : List Node) → SameWeights nodes (map (shown above) nodes)
shown_same above [] = tt
shown_same above (n ∷ ns) = (refl, shown_same above ns)

-- one variable more in a prefix
prefix_more : (ss : List Stochastic) (j : ℕ) → j < length ss → take (suc j) ss ≡ take j ss ++ get_or ss j no_variable ∷ []
prefix_more [] j within = absurd (omega (arith, within))
prefix_more (s ∷ ss) zero within = refl
prefix_more (s ∷ ss) (suc j) within = ap (λ more. s ∷ more) (prefix_more ss j (omega (arith, within)))

-- the next level shows the scenarios of the next prefix behind those of this one
shown_next : (ss : List Stochastic) (j : ℕ) → j < length ss → SameWeights (level_at ss j) (scenarios (take j ss))
    → map (shown (scenarios (take j ss))) (level_at ss (suc j)) ≡ scenarios (take (suc j) ss)
shown_next ss j within same =
    children_shown (outcomes_at ss j) [] (scenarios (take j ss)) (level_at ss j) same
    ∙ (sym (scenarios_extend (take j ss) (get_or ss j no_variable)) ∙ ap scenarios (sym (prefix_more ss j within)))

-- nodes weigh as scenarios
pub level_same : (ss : List Stochastic) (j : ℕ) → j ≤ length ss → SameWeights (level_at ss j) (scenarios (take j ss))
level_same ss zero within = (refl, tt)
level_same ss (suc j) within =
    subst (SameWeights (level_at ss (suc j))) (shown_next ss j (omega (arith, within)) (level_same ss j (omega (arith, within))))
    (shown_same (scenarios (take j ss)) (level_at ss (suc j)))

pub level_shown : (ss : List Stochastic) (j : ℕ) → j < length ss
    → map (shown (scenarios (take j ss))) (level_at ss (suc j)) ≡ scenarios (take (suc j) ss)
level_shown ss j within = shown_next ss j within (level_same ss j (omega (arith, within)))

pub level_long : (ss : List Stochastic) (j : ℕ) → j ≤ length ss → length (level_at ss j) ≡ length (scenarios (take j ss))
level_long ss j within = same_length (level_at ss j) (scenarios (take j ss)) (level_same ss j within)

-- Parents.

mapped_below : (bound first : ℕ) (node : Node) → first < bound → (os : List Outcome) → AllByRecursion (λ (n : Node). n.parent < bound) (map (child_of first node) os)
mapped_below bound first node below [] = tt
mapped_below bound first node below (o ∷ os) = (below, mapped_below bound first node below os)

children_below : (bound first : ℕ) (nodes : List Node) (os : List Outcome) → first + length nodes ≤ bound
    → AllByRecursion (λ (n : Node). n.parent < bound) (children first nodes os)
children_below bound first [] os few = tt
children_below bound first (n ∷ ns) os few =
    all_append (λ (m : Node). m.parent < bound) (map (child_of first n) os) (children (first + 1) ns os)
    (mapped_below bound first n (omega (arith, few)) os) (children_below bound (first + 1) ns os (omega (arith, few)))

-- the parent of a node is a node of the level above
pub parent_below : (ss : List Stochastic) (j n : ℕ) (d : Node) → n < length (level_at ss (suc j))
    → (get_or (level_at ss (suc j)) n d).parent < length (level_at ss j)
parent_below ss j n d within =
    All-from_recursion (λ (m : Node). m.parent < length (level_at ss j)) (level_at ss (suc j))
    (children_below (length (level_at ss j)) 0 (level_at ss j) (outcomes_at ss j) (omega arith)) n d within
