-- The place of a scenario.
use Rattle.std.proofs.Common.{◌≡◌, refl, sym, ap, ◌∙◌, ℕ, zero, suc, ℤ, pos, List, [], ◌∷◌, get_or, length, map, slice_get, Some}
use Rattle.std.proofs.lemmas.Option.{none-some, same_Some}
use Rattle.std.specs.List.{range_with_len}
use Rattle.sopl_ast.specs.Instances.{Binding}
use Rattle.sopl_ast.specs.Optimal.{place_in}
use Rattle.sopl_ast.specs.Scenarios.{Scenario, scenarios}
use Rattle.sopl_scen.specs.Layout.{IsTreeOf, weight_in}
use Rattle.unfold_laws.specs.Conditions.{placed}
use Rattle.unfold_tables.specs.Tables.{table_known}
use Rattle.policy_values.specs.Played.{place_of}
use Rattle.policy_values.proofs.Seen.{drawn_are}
use Rattle.policy_eval.specs.Tried.{played_at, policy_of, posed, scenario_count}
use Rattle.policy_eval.specs.declared.trial.Trial.{Trial}
use Rattle.policy_eval.proofs.Listed.{listed_by}

module _ (trial : Trial) (laid : IsTreeOf trial.variables.now.decisions.now trial.variables.now.stochs.now trial.tree.now) where
  pub many : scenario_count trial ≡ length (scenarios trial.variables.now.stochs.now)
  many = laid.count

  pub place_is : (bound : List Binding) (i : ℕ) (s : Scenario) → slice_get (scenarios trial.variables.now.stochs.now) i ≡ Some s
      → place_of (played_at trial i) (placed (table_known trial.table.now) bound) ≡ place_in (posed trial) (policy_of trial) bound s
  place_is bound i s at =
      let values = drawn_are trial.variables.now.decisions.now trial.variables.now.stochs.now trial.tree.now i s laid at in
      λ j. record {
        known = placed (table_known trial.table.now) bound;
        decisions = trial.variables.now.decisions.now;
        stochastics = trial.variables.now.stochs.now;
        scenario = values j;
        policy = policy_of trial;
      }

  pub weights_are : trial.tree.now.weights ≡ map (λ (s : Scenario). s.weight) (scenarios trial.variables.now.stochs.now)
  weights_are =
      from_numbers trial.tree.now.weights
      ∙ ap (λ n. map (weight_in trial.tree.now) (range_with_len 0 n)) many
      ∙ listed_by (weight_in trial.tree.now) (λ (s : Scenario). s.weight) (scenarios trial.variables.now.stochs.now) (λ i s at. laid.weighed i s at)
    where
      read : (ws : List ℤ) (i : ℕ) (w : ℤ) → slice_get ws i ≡ Some w → get_or ws i (pos 0) ≡ w
      read [] i w at = absurd (none-some w at)
      read (v ∷ vs) zero w at = same_Some v w at
      read (v ∷ vs) (suc i) w at = read vs i w at

      same : (ws : List ℤ) → map (λ w. w) ws ≡ ws
      same [] = refl
      same (w ∷ ws) = ap (λ rest. w ∷ rest) (same ws)

      from_numbers : (ws : List ℤ) → ws ≡ map (λ i. get_or ws i (pos 0)) (range_with_len 0 (length ws))
      from_numbers ws = sym (listed_by (λ i. get_or ws i (pos 0)) (λ w. w) ws (λ i w at. read ws i w at) ∙ same ws)
