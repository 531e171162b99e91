-- How many scenarios there are.
use Rattle.std.proofs.Common.{◌≡◌, ◌++◌, ◌≤◌, ◌*◌, ℕ, zero, suc, pos, ◌*ℤ◌, List, [], ◌∷◌, length, map, take, drop, arith, refl, sym, ap, ◌∙◌, length-append}
use Rattle.std.proofs.Math.IntN.{pos-*ℤ-pos}
use Rattle.std.proofs.Math.Nat.{mul-le-mul}
use Rattle.std.proofs.lemmas.List.{length-map, take-append-drop}
use Rattle.std.proofs.lemmas.List.Elements.{All-from_recursion}
use Rattle.std.specs.List.{AllByRecursion, flat_map}
use Rattle.sopl_ast.specs.Instances.{Outcome, Stochastic, distribution}
use Rattle.sopl_ast.specs.Scenarios.{Scenario, preceded_by, scenarios}
use Rattle.lang_laws.proofs.Independence.{scenarios_begin}
use Rattle.lang_laws.proofs.ScenarioLaws as laws
use Rattle.scen_laws.specs.Laws.{HasOutcome, followed, ScenariosAreCounted, PrefixesAreFewer, CountsMultiply}
use Rattle.scen_laws.proofs.Splits.{behind, split}

-- each outcome comes before as many scenarios
length_each : (xs : List Scenario) (os : List Outcome) → length (flat_map (λ o. map (preceded_by o) xs) os) ≡ length os * length xs
length_each xs [] = omega arith
length_each xs (o ∷ os) =
    omega (arith, length-append (map (preceded_by o) xs) (flat_map (λ e. map (preceded_by e) xs) os), length-map xs (preceded_by o), length_each xs os)

pub counts_multiply : CountsMultiply
counts_multiply [] = refl
counts_multiply (s ∷ ss) =
    ap pos (ap length (scenarios_begin s ss) ∙ length_each (scenarios ss) (distribution s))
    ∙ (sym (pos-*ℤ-pos (length (distribution s)) (length (scenarios ss))) ∙ ap (λ z. pos (length (distribution s)) *ℤ z) (counts_multiply ss))

-- each scenario comes before as many
length_behind : (ys : List Stochastic) (ps : List Scenario) → length (flat_map (behind ys) ps) ≡ length ps * length (scenarios ys)
unfolding behind
length_behind ys [] = omega arith
length_behind ys (p ∷ ps) =
    omega (arith, length-append (behind ys p) (flat_map (behind ys) ps), length-map (scenarios ys) (followed p), length_behind ys ps)

pub scenarios_are_counted : ScenariosAreCounted
scenarios_are_counted xs ys = ap length (split xs ys) ∙ length_behind ys (scenarios xs)

-- there is a scenario
pub some_scenario : (ss : List Stochastic) → AllByRecursion HasOutcome ss → 1 ≤ length (scenarios ss)
some_scenario ss all = laws.some_scenario ss (All-from_recursion HasOutcome ss all)

-- parts of variables
pub first_part : (P : Stochastic → Type 0) (n : ℕ) (ss : List Stochastic) → AllByRecursion P ss → AllByRecursion P (take n ss)
first_part P zero ss all = tt
first_part P (suc n) [] all = tt
first_part P (suc n) (s ∷ ss) all = (all.0, first_part P n ss all.1)

pub last_part : (P : Stochastic → Type 0) (n : ℕ) (ss : List Stochastic) → AllByRecursion P ss → AllByRecursion P (drop n ss)
last_part P zero ss all = all
last_part P (suc n) [] all = tt
last_part P (suc n) (s ∷ ss) all = last_part P n ss all.1

pub prefixes_are_fewer : PrefixesAreFewer
prefixes_are_fewer n ss all =
    let prefix : 1 ≤ length (scenarios (take n ss)) = some_scenario (take n ss) (first_part HasOutcome n ss all) in
    let back : 1 ≤ length (scenarios (drop n ss)) = some_scenario (drop n ss) (last_part HasOutcome n ss all) in
    let same : length (scenarios (take n ss)) ≤ length (scenarios (take n ss)) = omega arith in
    let whole : length (scenarios (take n ss ++ drop n ss)) ≡ length (scenarios ss) = ap (λ list. length (scenarios list)) (take-append-drop n ss) in
    (prefix, omega (arith, whole, scenarios_are_counted (take n ss) (drop n ss), mul-le-mul same back))
