-- A trial of a policy in the words of the definitions.
use Rattle.std.specs.Prelude.{◌≡◌, ◌<◌, ◌≤◌, ◌^◌, ℕ, ℤ, pos, ◌+ℤ◌, ◌*ℤ◌, ◌≤ℤ◌, Bool, true, false, List, [], ◌∷◌, length, map, All, Option, Some, None, IfSome, IsSome, option_map, slice_get, FitsSigned, Result, Ok, Err}
use Rattle.std.specs.Int.{w128}
use Rattle.std.specs.List.{AllByRecursion, range_with_len}
use Rattle.std.specs.Option.{option_map_or}
use Rattle.std.specs.declared.alloc.Global.{Global}
use Rattle.std.specs.declared.vec.Vec.{Vec}
use Rattle.sopl_base.specs.declared.limits.TheConstants as largest
use Rattle.sopl_ast.specs.Cells.{cells, policy_at}
use Rattle.sopl_ast.specs.Instances.{Binding, Chance, Hard, Problem}
use Rattle.sopl_ast.specs.Known.{Known}
use Rattle.sopl_ast.specs.Meanings.{meaning}
use Rattle.sopl_ast.specs.Numbers.{all_of, one_or_zero, total}
use Rattle.sopl_ast.specs.Optimal.{weight_of}
use Rattle.sopl_ast.specs.Policies.{Policy}
use Rattle.sopl_ast.specs.References.{now_of}
use Rattle.sopl_ast.specs.Tree.{Tree}
use Rattle.sopl_ast.specs.Unfolding.{objective_of}
use Rattle.sopl_ast.specs.WholeModel.{goal_tree}
use Rattle.sopl_ast.specs.declared.whole.Goal.{Goal}
use Rattle.sopl_scen.specs.Layout.{IsTreeOf, cells_for, count_in}
use Rattle.unfold_laws.specs.Conditions.{IsThreshold, placed}
use Rattle.unfold_tables.specs.Tables.{table_known}
use Rattle.policy_values.specs.Played.{place_of}
use Rattle.policy_values.specs.Safe.{IsSafe, IsTestable}
use Rattle.policy_values.specs.declared.played.PlayedScenario.{PlayedScenario}
use Rattle.policy_eval.specs.Reports.{IsHeld, IsReached, IsReport}
use Rattle.policy_eval.specs.Shown.{report_shown}
use Rattle.policy_eval.specs.declared.report.Report.{Report}
use Rattle.policy_eval.specs.declared.trial.Trial.{Trial}
use Rattle.policy_eval.specs.declared.trial.Valuation.{Valuation}
use Rattle.policy_eval.specs.declared.trial.Valuation.TheVariants.{Valued, Undefined}

-- the scenario with a number, under the policy
abbrev pub played_at : Trial → ℕ → PlayedScenario
played_at trial i = record { alloc = trial.alloc; variables = trial.variables; tree = trial.tree; policy = trial.policy; scenario = i }

-- the problem, and the policy
abbrev pub posed : Trial → Problem
posed trial =
    record {
      known = table_known trial.table.now;
      decisions = trial.variables.now.decisions.now;
      stochastics = trial.variables.now.stochs.now;
      conditions = map now_of trial.conditions.now;
      hards = trial.hards.now;
      chances = trial.chances.now;
      objective = option_map objective_of (option_map goal_tree trial.goal.now);
    }

abbrev pub policy_of : Trial → Policy
policy_of trial = policy_at (cells (posed trial)) trial.policy.now

abbrev pub scenario_count : Trial → ℕ
scenario_count trial = count_in trial.tree.now

-- an expression in the scenario with a number
abbrev pub truth_at : Trial → Known → Tree → ℕ → Bool
truth_at trial known e i = (meaning (place_of (played_at trial i) known) e).truth

abbrev pub value_at : Trial → Known → Tree → ℕ → Option ℤ
value_at trial known e i = (meaning (place_of (played_at trial i) known) e).value

-- the condition with a number, where binders give this
abbrev pub holds_at : Trial → ℕ → List Binding → ℕ → Bool
holds_at trial text bound i =
    option_map_or (λ condition. truth_at trial (placed (table_known trial.table.now) bound) condition i) (slice_get (map now_of trial.conditions.now) text) false

-- the first number at which a test fails, below another one
abbrev pub IsFirstFalse : (ℕ → Bool) → ℕ → Option ℕ → Type 0
IsFirstFalse test n None = (i : ℕ) → i < n → test i ≡ true
IsFirstFalse test n (Some k) = (k < n) × (test k ≡ false) × ((i : ℕ) → i < k → test i ≡ true)

-- all values, or the first number at which there is none
abbrev pub IsValuation : (ℕ → Option ℤ) → ℕ → Valuation → Type 0
IsValuation value n (Valued values) = all_of value (range_with_len 0 n) ≡ Some values.items
IsValuation value n (Undefined k) = (k < n) × (value k ≡ None) × ((i : ℕ) → i < k → IsSome (value i))

-- weights times numbers
abbrev pub weighted : List ℤ → List ℤ → ℤ
weighted [] xs = pos 0
weighted (w ∷ ws) [] = pos 0
weighted (w ∷ ws) (x ∷ xs) = (w *ℤ x) +ℤ weighted ws xs

-- the weight of the scenarios in whose numbers a test holds
abbrev pub weight_where : Trial → (ℕ → Bool) → ℤ
weight_where trial test = weighted trial.tree.now.weights (map (λ i. one_or_zero (test i)) (range_with_len 0 (scenario_count trial)))

-- each product, and each sum on the way, has 128 bits
abbrev pub FitOn : ℤ → List ℤ → List ℤ → Type 0
FitOn sum [] xs = Unit {0}
FitOn sum (w ∷ ws) [] = Unit {0}
FitOn sum (w ∷ ws) (x ∷ xs) = FitsSigned w128 (w *ℤ x) × FitsSigned w128 (sum +ℤ (w *ℤ x)) × FitOn (sum +ℤ (w *ℤ x)) ws xs

-- a condition that may be evaluated in each scenario
pub record IsTried (trial : Trial) (text : ℕ) (bound : List Binding) : Type 0 where
  pub condition : Tree
  pub stands : slice_get (map now_of trial.conditions.now) text ≡ Some condition
  pub safe : (i : ℕ) → i < scenario_count trial → IsTestable (place_of (played_at trial i) (placed (table_known trial.table.now) bound)) condition

-- an objective that may be evaluated in each scenario: its sum has 128 bits, where it is expected
pub record IsGoalTried (trial : Trial) (goal : Goal) : Type 0 where
  pub safe : (i : ℕ) → i < scenario_count trial → IsSafe (place_of (played_at trial i) (table_known trial.table.now)) goal.expr
  pub fits : (values : List ℤ) → all_of (value_at trial (table_known trial.table.now) goal.expr) (range_with_len 0 (scenario_count trial)) ≡ Some values → goal.worst ≡ false
      → FitOn (pos 0) trial.tree.now.weights values

-- a policy may be tried
pub record IsTrial (trial : Trial) : Type 0 where
  pub laid : IsTreeOf trial.variables.now.decisions.now trial.variables.now.stochs.now trial.tree.now
  pub decided : length trial.policy.now ≡ length (cells_for trial.variables.now.decisions.now trial.variables.now.stochs.now)
  pub hards : AllByRecursion (λ (h : Hard). IsTried trial h.text h.bound) trial.hards.now
  pub chances : AllByRecursion (λ (c : Chance). IsTried trial c.text c.bound × IsThreshold c.p c.q) trial.chances.now
  pub goal : IfSome trial.goal.now (IsGoalTried trial)
  pub weights : AllByRecursion (λ w. pos 1 ≤ℤ w) trial.tree.now.weights
  pub whole : total trial.tree.now.weights ≡ trial.tree.now.total
  pub most : trial.tree.now.total ≤ℤ largest.WEIGHT
  pub some : 0 < scenario_count trial
  pub few_hards : length trial.hards.now ≤ 2 ^ 32
  pub few_chances : length trial.chances.now ≤ 2 ^ 32

-- no hard constraint fails, or this is told
abbrev pub HardsTold : Trial → Option Report → Type 0
HardsTold trial None = All (IsHeld (posed trial) (policy_of trial)) trial.hards.now
HardsTold trial (Some report) = IsReport (posed trial) (policy_of trial) (report_shown report)

-- no chance constraint fails, and these are their sums; or this is told
pub record AreReached (trial : Trial) (sums : List ℤ) : Type 0 where
  pub reached : All (IsReached (posed trial) (policy_of trial)) trial.chances.now
  pub weights : sums ≡ map (weight_of (posed trial) (policy_of trial)) trial.chances.now

abbrev pub ChancesTold : Trial → Result (Vec ℤ Global) Report → Type 0
ChancesTold trial (Ok sums) = AreReached trial sums.items
ChancesTold trial (Err report) = IsReport (posed trial) (policy_of trial) (report_shown report)
