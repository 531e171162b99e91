-- What a scenario gives a stochastic variable, and what the policy gives a decision.
use Rattle.std.proofs.Common.{arith, ◌≡◌, refl, sym, ap, subst, ◌∙◌, ℕ, ◌+◌, ◌<◌, ℤ, pos, Bool, true, false, List, [], ◌∷◌, get_or, length, map, slice_get, Option, Some, None, option_and_then, if◌then◌else◌}
use Rattle.std.specs.FinMap.{get}
use Rattle.std.specs.List.{range_with_len}
use Rattle.std.proofs.lemmas.Option.{none-some, same_Some, slice_get-get_or, slice_get_within}
use Rattle.sopl_base.proofs.Lists.{by_elements}
use Rattle.sopl_ast.specs.Cells.{policy_at}
use Rattle.sopl_ast.specs.Histories.{history}
use Rattle.sopl_ast.specs.Instances.{Decision, Stochastic, Problem}
use Rattle.sopl_ast.specs.Policies.{Policy}
use Rattle.sopl_ast.specs.Known.{Known, is_at, nothing_known}
use Rattle.sopl_ast.specs.Meanings.{decided_value, or_else, seen_value}
use Rattle.sopl_ast.specs.Scenarios.{Scenario, scenarios}
use Rattle.sopl_scen.specs.Layout.{Layout, IsTreeOf, cell_at, cell_in, cells_for, decisions_in, value_in}
use Rattle.scen_laws.proofs.Histories.{values_long}
use Rattle.policy_tree.proofs.Bijection.{cell_value}
use Rattle.policy_values.specs.Labels.{decided_label, drawn_label, number_at}
use Rattle.policy_values.specs.Played.{IsPlayed, drawn_values, place_of}
use Rattle.policy_values.specs.declared.played.PlayedScenario.{PlayedScenario}
use Rattle.policy_values.proofs.Found.{IsDecided, decision_found, decision_none}

module _ (name : List ℕ) (index : List ℤ) (value : ℕ → ℤ) where
  -- a stochastic variable with a number has the scenario's value
  seen_some : (n : ℕ) (ss : List Stochastic) (j : ℕ) → number_at name index n (map drawn_label ss) ≡ Some j
      → seen_value name index ss (map value (range_with_len n (length ss))) ≡ Some (value j)
  seen_some n [] j found = absurd (none-some j found)
  seen_some n (s ∷ ss) j found = by_test (is_at name index s.name s.index) (seen_some (n + 1) ss j) found where
    by_test : (b : Bool) → (number_at name index (n + 1) (map drawn_label ss) ≡ Some j → seen_value name index ss (map value (range_with_len (n + 1) (length ss))) ≡ Some (value j))
        → (if b then Some n else number_at name index (n + 1) (map drawn_label ss)) ≡ Some j
        → (if b then Some (value n) else seen_value name index ss (map value (range_with_len (n + 1) (length ss)))) ≡ Some (value j)
    by_test true later here = ap (λ k. Some (value k)) (same_Some n j here)
    by_test false later there = later there

  seen_none : (n : ℕ) (ss : List Stochastic) → number_at name index n (map drawn_label ss) ≡ None → seen_value name index ss (map value (range_with_len n (length ss))) ≡ None
  seen_none n [] none = refl
  seen_none n (s ∷ ss) none = by_test (is_at name index s.name s.index) (seen_none (n + 1) ss) none where
    by_test : (b : Bool) → (number_at name index (n + 1) (map drawn_label ss) ≡ None → seen_value name index ss (map value (range_with_len (n + 1) (length ss))) ≡ None)
        → (if b then Some n else number_at name index (n + 1) (map drawn_label ss)) ≡ None
        → (if b then Some (value n) else seen_value name index ss (map value (range_with_len (n + 1) (length ss)))) ≡ None
    by_test true later here = absurd (none-some n (sym here))
    by_test false later there = later there

-- what a tree gives in a scenario are the scenario's values
pub drawn_are : (ds : List Decision) (ss : List Stochastic) (tree : Layout) (i : ℕ) (s : Scenario) → IsTreeOf ds ss tree → slice_get (scenarios ss) i ≡ Some s
    → drawn_values tree (length ss) i ≡ s.values
drawn_are ds ss tree i s laid at =
    let whole : length s.values ≡ length ss = values_long ss i s at in
    ap (λ n. map (λ j. value_in tree j i) (range_with_len 0 n)) (sym whole)
    ∙ by_elements (λ j. value_in tree j i) 0 s.values
    (λ j below. laid.drawn j i s (omega (arith, below, whole)) at ∙ ap (λ k. Some (value_in tree k i)) (omega arith))

-- in place of what is not there
abbrev no_scenario : Scenario
no_scenario = record { weight = pos 0; values = [] }

-- a problem that has no more than these decisions and stochastic variables
abbrev bare : List Decision → List Stochastic → Problem
bare ds ss = record { known = nothing_known; decisions = ds; stochastics = ss; conditions = []; hards = []; chances = []; objective = None }

module _ (played : PlayedScenario) (is : IsPlayed played) where
  abbrev ds : List Decision
  ds = played.variables.now.decisions.now

  abbrev ss : List Stochastic
  ss = played.variables.now.stochs.now

  abbrev tree : Layout
  tree = played.tree.now

  abbrev here : Scenario
  here = get_or (scenarios ss) played.scenario no_scenario

  at_here : slice_get (scenarios ss) played.scenario ≡ Some here
  at_here = slice_get-get_or (scenarios ss) played.scenario no_scenario (omega (arith, is.exists, is.laid.count))

  abbrev policy : Policy
  policy = policy_at (cells_for ds ss) played.policy.now

  abbrev decided_in : ℕ → ℤ
  decided_in j = get_or played.policy.now (cell_in tree j played.scenario) (pos 0)

  cell_below : (j : ℕ) (d : Decision) → slice_get ds j ≡ Some d → cell_in tree j played.scenario < length (cells_for ds ss)
  cell_below j d stands =
      slice_get_within (cells_for ds ss) (cell_in tree j played.scenario) (cell_at j d (history d.stage ss here.values)) (is.laid.placed j played.scenario d here stands at_here)

  -- the policy's value at the key of a decision
  kept : (j : ℕ) (d : Decision) → slice_get ds j ≡ Some d → get policy (j, history d.stage ss (drawn_values tree (length ss) played.scenario)) ≡ Some (decided_in j)
  kept j d stands =
      ap (λ (values : List ℤ). get policy (j, history d.stage ss values)) (drawn_are ds ss tree played.scenario here is.laid at_here)
      ∙ cell_value (bare ds ss) played.policy.now (cell_in tree j played.scenario) (cell_at j d (history d.stage ss here.values)) (decided_in j)
      (is.laid.placed j played.scenario d here stands at_here)
      (slice_get-get_or played.policy.now (cell_in tree j played.scenario) (pos 0) (omega (arith, cell_below j d stands, is.decided)))

  pub decided_some : (name : List ℕ) (index : List ℤ) (known : Known) (j : ℕ) → number_at name index 0 (map decided_label ds) ≡ Some j
      → decided_value name index (place_of played known) ≡ Some (decided_in j)
  decided_some name index known j found =
      let d : IsDecided name index 0 ds j = decision_found name index 0 ds j found in
      let same : j ≡ d.before = omega (arith, d.number) in
      ap (λ o. option_and_then (λ (f : ℕ × ℕ). get policy (f.0, history f.1 ss (drawn_values tree (length ss) played.scenario))) o) d.found
      ∙ kept j d.decision (subst (λ k. slice_get ds k ≡ Some d.decision) (sym same) d.stands)

  pub decided_none : (name : List ℕ) (index : List ℤ) (known : Known) → number_at name index 0 (map decided_label ds) ≡ None → decided_value name index (place_of played known) ≡ None
  decided_none name index known none =
      ap (λ o. option_and_then (λ (f : ℕ × ℕ). get policy (f.0, history f.1 ss (drawn_values tree (length ss) played.scenario))) o) (decision_none name index 0 ds none)

  -- a variable
  pub variable_seen : (name : List ℕ) (index : List ℤ) (j : ℕ) (rest : Option ℤ) → number_at name index 0 (map drawn_label ss) ≡ Some j
      → Some (value_in tree j played.scenario) ≡ or_else (seen_value name index ss (drawn_values tree (length ss) played.scenario)) rest
  variable_seen name index j rest found = sym (ap (λ o. or_else o rest) (seen_some name index (λ k. value_in tree k played.scenario) 0 ss j found))

  pub variable_other : (name : List ℕ) (index : List ℤ) (rest : Option ℤ) → number_at name index 0 (map drawn_label ss) ≡ None
      → rest ≡ or_else (seen_value name index ss (drawn_values tree (length ss) played.scenario)) rest
  variable_other name index rest none = sym (ap (λ o. or_else o rest) (seen_none name index (λ k. value_in tree k played.scenario) 0 ss none))

  -- a decision with a number has a cell, and its value is there
  pub cell_exists : (j : ℕ) → j < length ds → cell_in tree j played.scenario < length played.policy.now
  cell_exists j below = omega (arith, cell_below j (get_or ds j (no_decision)) (slice_get-get_or ds j no_decision below), is.decided) where
    no_decision : Decision
    no_decision = record { name = []; index = []; lo = pos 0; hi = pos 0; stage = 0 }

  pub decision_placed : (j : ℕ) → j < length ds → j < decisions_in tree
  decision_placed j below = omega (arith, below, is.laid.decisions)

  pub variable_drawn : (j : ℕ) → j < length ss → j < tree.variables
  variable_drawn j below = omega (arith, below, is.laid.variables)

-- what is not known of a name
pub unknown : (known found rest : Option ℤ) → found ≡ known → found ≡ None → rest ≡ or_else known rest
unknown known found rest is none = sym (ap (λ o. or_else o rest) (sym is ∙ none))
