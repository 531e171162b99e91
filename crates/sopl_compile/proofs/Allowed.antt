-- What the limits on scenarios and instances say of a problem's scenarios and cells.
use Rattle.std.proofs.Common.{arith, ◌≡◌, refl, ap, ℕ, suc, ◌+◌, ◌*◌, ◌<◌, ◌≤◌, ◌^◌, ◌-◌, ℤ, pos, ◌≤ℤ◌, int_le, Bool, not, List, [], ◌∷◌, length}
use Rattle.std.proofs.Common.{length-append, map, filter, Option, None}
use Rattle.std.proofs.lemmas.Int.{ints}
use Rattle.std.proofs.lemmas.List.{length-map}
use Rattle.std.proofs.lemmas.List.Filters.{length-filter_both}
use Rattle.std.specs.Int.{int_min}
use Rattle.std.specs.List.{enumerate_from, flat_map}
use Rattle.box_problem.specs.Box.{Box, box_of}
use Rattle.compile_names.specs.declared.setting.Scenarios.{Scenarios}
use Rattle.compile_scene.specs.Scenes.{root_in}
use Rattle.sopl_scen.specs.Layout.{cells_for}
use Rattle.sopl_ast.specs.Cells.{Cell, cells, cells_of}
use Rattle.sopl_ast.specs.Histories.{distinct, histories, history, same_values}
use Rattle.sopl_ast.specs.Instances.{Decision, Problem, Stochastic}
use Rattle.sopl_ast.specs.Limits.{first_above, prefixes, size_excess, usual_limits, weight_excess, scenario_excess, copy_excess, bit_excess, instance_count}
use Rattle.sopl_ast.specs.Numbers.{or_else}
use Rattle.sopl_ast.specs.Scenarios.{Scenario, scenarios, total_weight}
use Rattle.sopl_ast.specs.UnfoldEvents.{excess}
use Rattle.sopl_base.specs.declared.fault.Excess.{Excess}
use Rattle.sopl_base.specs.declared.interval.Interval.{Interval}
use Rattle.sopl_base.proofs.Tests.{le_tested}
use Rattle.sopl_base.specs.declared.codes.TheConstants as codes
use Rattle.lang_laws.proofs.Limits.{light_within, whole_within}
use Rattle.lang_laws.proofs.Shared.{first_none, passed, then_none}
use Rattle.sopl_compile.specs.Posed.{IsSettingOf}

-- Cells.

filter_few : {A : Type 0} (p : A → Bool) (xs : List A) → length (filter p xs) ≤ length xs
filter_few p xs = omega (arith, length-filter_both p (λ x. not (p x)) (λ x. refl) xs)

distinct_few : (xs : List (List ℤ)) → length (distinct xs) ≤ length xs
distinct_few [] = omega arith
distinct_few (x ∷ xs) = omega (arith, filter_few (λ other. not (same_values x other)) (distinct xs), distinct_few xs)

histories_few : (stage : ℕ) (ss : List Stochastic) → length (histories stage ss) ≤ length (scenarios ss)
histories_few stage ss =
    let seen : Scenario → List ℤ = λ (s : Scenario). history stage ss s.values in
    omega (arith, distinct_few (map seen (scenarios ss)), length-map (scenarios ss) seen)

-- a decision has at most one cell for each scenario
cells_few : (ss : List Stochastic) (n : ℕ) (ds : List Decision) (others : ℕ) → length (flat_map (cells_of ss) (enumerate_from n ds)) ≤ (length ds + others) * length (scenarios ss)
cells_few ss n [] others = omega arith
cells_few ss n (d ∷ ds) others =
    let cell : List ℤ → Cell = λ seen. record { key = (n, seen); lo = d.lo; hi = d.hi } in
    let split : suc (length ds + others) * length (scenarios ss) ≡ length (scenarios ss) + (length ds + others) * length (scenarios ss) = omega arith in
    omega (
      arith,
      split,
      length-append (cells_of ss (n, d)) (flat_map (cells_of ss) (enumerate_from (n + 1) ds)),
      length-map (histories d.stage ss) cell,
      histories_few d.stage ss,
      cells_few ss (n + 1) ds others,
    )

module _ (problem : Problem) (within : size_excess usual_limits problem ≡ None) where
  abbrev behind_scenarios : Option Excess
  behind_scenarios = or_else (copy_excess usual_limits problem) (bit_excess usual_limits problem)

  abbrev behind_weight : Option Excess
  behind_weight = or_else (scenario_excess usual_limits problem) behind_scenarios

  pub light : total_weight problem.stochastics ≤ℤ pos (2 ^ 100)
  light = light_within problem within

  pub few_scenarios : length (scenarios problem.stochastics) ≤ usual_limits.scenarios
  few_scenarios = by problem.stochastics (first_none (scenario_excess usual_limits problem) behind_scenarios (then_none (weight_excess usual_limits problem) behind_weight within))
    where
      by : (ss : List Stochastic) → first_above codes.SCENARIOS usual_limits.scenarios (map (λ (prefix : List Stochastic). pos (length (scenarios prefix))) (prefixes ss)) ≡ None → length (scenarios ss) ≤ usual_limits.scenarios
      by [] none = omega arith
      by (s ∷ ss) none =
          let most : pos (length (scenarios (s ∷ ss))) ≤ℤ pos usual_limits.scenarios = whole_within codes.SCENARIOS usual_limits.scenarios (λ (prefix : List Stochastic). pos (length (scenarios prefix))) s ss none in
          omega (arith, ints, most)

  few_cells : length (cells problem) ≤ usual_limits.copies
  few_cells =
      let copies : ℕ = instance_count problem * length (scenarios problem.stochastics) in
      let behind_copies : Option Excess = bit_excess usual_limits problem in
      let none : copy_excess usual_limits problem ≡ None =
      first_none (copy_excess usual_limits problem) behind_copies
      (then_none (scenario_excess usual_limits problem) behind_scenarios (then_none (weight_excess usual_limits problem) behind_weight within)) in
      let told : Excess = excess codes.COPIES (int_min (pos copies) (pos (2 ^ 127 - 1))) (pos usual_limits.copies) in
      let most : pos copies ≤ℤ pos usual_limits.copies = le_tested (pos copies) (pos usual_limits.copies) (passed (int_le (pos copies) (pos usual_limits.copies)) told None none) in
      let all = cells_few problem.stochastics 0 problem.decisions (length problem.stochastics + (length problem.hards + length problem.chances)) in
      omega (arith, ints, most, all)

  pub few_domains : (setting : Scenarios) (domains : List Interval) → IsSettingOf problem setting → box_of domains ≡ root_in setting → length domains < 2 ^ 32
  few_domains setting domains of is =
      let low : Interval → ℤ = λ (i : Interval). i.lo in
      let cell_low : Cell → ℤ = λ (c : Cell). c.lo in
      let own : List Cell = cells_for setting.decisions.now setting.stochs.now in
      let as_many : length (map low domains) ≡ length (map cell_low own) = ap (λ (b : Box). length b.lows) is in
      let same : length own ≡ length (cells problem) = λ i. length (cells_for (of.decisions i) (of.stochastics i)) in
      omega (arith, as_many, length-map domains low, length-map own cell_low, same, few_cells)
