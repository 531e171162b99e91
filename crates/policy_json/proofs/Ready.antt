-- What is known of a point whose parts go together.
use Rattle.std.proofs.Common.{◌≡◌, ◌+◌, ◌-◌, ◌/◌, ◌≤◌, ◌<◌, ℕ, pos, [], length, get_or, slice_get, Some, true, arith, sym, subst, ◌∙◌}
use Rattle.std.specs.List.{AllByRecursion}
use Rattle.std.proofs.lemmas.Option.{slice_get-get_or, slice_get_within}
use Rattle.sopl_ast.specs.Instances.{Decision, Stochastic}
use Rattle.sopl_ast.specs.Scenarios.{Scenario, scenarios}
use Rattle.sopl_ast.specs.Histories.{history}
use Rattle.sopl_ast.specs.Pieces.{is_word}
use Rattle.unfold_laws.specs.Bounds.{IsBoundedDecision}
use Rattle.scen_laws.specs.Laws.{rows, seen_before}
use Rattle.sopl_scen.specs.Layout.{IsTreeOf, cell_at, cell_in, cells_for, count_in, decisions_in}
use Rattle.scen_laws.specs.BlockLaws.{AreOrderly, block_of, of_stage}
use Rattle.scen_laws.proofs.Prefixes.{seen_next, seen_within}
use Rattle.scen_laws.proofs.Blocks.{branches_are}
use Rattle.policy_json.specs.Stages.{StageParts, stage_in}
use Rattle.policy_json.specs.Steps.{Parts, IsReady, ready, block_in, branches_in, no_decision}
use Rattle.policy_json.proofs.StageSteps.{stage_found, stages_long}
use Rattle.policy_json.proofs.Words.{decision_word, stochastic_word}

-- no scenario, in place of one that is not there
abbrev pub no_scenario : Scenario
no_scenario = record { values = []; weight = pos 0 }

pub orderly : (parts : Parts) → IsReady parts → AreOrderly parts.stochastics
orderly parts (ready k stated is long staged words) = record { ordered = stated.ordered; outcomes = stated.outcomes; bounded = stated.stochastics }

pub tree_of : (parts : Parts) → IsReady parts → IsTreeOf parts.decisions parts.stochastics parts.tree
tree_of parts (ready k stated is long staged words) = is

pub values_many : (parts : Parts) → IsReady parts → length parts.values ≡ length (cells_for parts.decisions parts.stochastics)
values_many parts (ready k stated is long staged words) = long ∙ is.celled

pub bounded : (parts : Parts) → IsReady parts → AllByRecursion IsBoundedDecision parts.decisions
bounded parts (ready k stated is long staged words) = stated.decisions

-- Decisions and variables.

pub decided_within : (parts : Parts) → IsReady parts → (j : ℕ) → j < length parts.decisions → j < decisions_in parts.tree
decided_within parts (ready k stated is long staged words) j within = omega (arith, is.decisions, within)

pub drawn_within : (parts : Parts) → IsReady parts → (j : ℕ) → j < length parts.stochastics → j < parts.tree.variables
drawn_within parts (ready k stated is long staged words) j within = omega (arith, is.variables, within)

pub decided_word : (parts : Parts) → IsReady parts → (j : ℕ) (d : Decision) → j < length parts.decisions → d ≡ get_or parts.decisions j d → is_word d.name ≡ true
decided_word parts (ready k stated is long staged words) j d within at = decision_word parts.decisions parts.stochastics j d words within at

pub drawn_word : (parts : Parts) → IsReady parts → (j : ℕ) (s : Stochastic) → j < length parts.stochastics → s ≡ get_or parts.stochastics j s → is_word s.name ≡ true
drawn_word parts (ready k stated is long staged words) j s within at = stochastic_word parts.decisions parts.stochastics j s words within at

pub cell_within : (parts : Parts) → IsReady parts → (j i : ℕ) → j < length parts.decisions → i < count_in parts.tree → cell_in parts.tree j i < length parts.values
cell_within parts are j i within below =
    let is : IsTreeOf parts.decisions parts.stochastics parts.tree = tree_of parts are in
    let d : Decision = get_or parts.decisions j no_decision in
    let s : Scenario = get_or (scenarios parts.stochastics) i no_scenario in
    let found : slice_get (cells_for parts.decisions parts.stochastics) (cell_in parts.tree j i) ≡ Some (cell_at j d (history d.stage parts.stochastics s.values)) =
    is.placed j i d s (slice_get-get_or parts.decisions j no_decision within)
    (slice_get-get_or (scenarios parts.stochastics) i no_scenario (subst (λ n. i < n) is.count below)) in
    subst (λ n. cell_in parts.tree j i < n) (sym (values_many parts are))
    (slice_get_within (cells_for parts.decisions parts.stochastics) (cell_in parts.tree j i) (cell_at j d (history d.stage parts.stochastics s.values)) found)

-- Stages.

pub stage_at : (parts : Parts) → IsReady parts → (stage : ℕ) (x : StageParts) → 1 ≤ stage → stage ≤ 24 → x ≡ get_or parts.stages (stage - 1) x
    → x ≡ stage_in parts.decisions parts.stochastics stage
stage_at parts (ready k stated is long staged words) stage x from to at = stage_found parts.decisions parts.stochastics parts.stages stage x from to staged at

pub stage_within : (parts : Parts) → IsReady parts → (stage : ℕ) → 1 ≤ stage → stage ≤ 24 → stage - 1 < length parts.stages
stage_within parts (ready k stated is long staged words) stage from to = omega (arith, from, to, stages_long parts.decisions parts.stochastics parts.stages staged)

-- the variables of a stage are among all
pub end_within : (parts : Parts) (stage end : ℕ) → end ≡ seen_before (stage + 1) parts.stochastics → end ≤ length parts.stochastics
end_within parts stage end is = omega (arith, is, seen_within (stage + 1) parts.stochastics)

pub run_order : (parts : Parts) → IsReady parts → (stage first end : ℕ) → first ≡ seen_before stage parts.stochastics → end ≡ seen_before (stage + 1) parts.stochastics
    → first ≤ end
run_order parts are stage first end one two = omega (arith, one, two, seen_next stage parts.stochastics (orderly parts are).ordered)

-- Blocks.

pub block_same : (parts : Parts) → IsReady parts → (stage : ℕ) → 1 ≤ stage → stage ≤ 24 → block_in parts.tree stage ≡ block_of stage parts.stochastics
unfolding block_in
block_same parts (ready k stated is long staged words) stage from to = λ i. is.count i / is.counted stage (from, to) i

pub branches_same : (parts : Parts) → IsReady parts → (stage : ℕ) → 1 ≤ stage → stage < 24
    → branches_in parts.tree stage ≡ length (rows (of_stage stage parts.stochastics))
unfolding branches_in
branches_same parts (ready k stated is long staged words) stage from to =
    (λ i. is.counted (stage + 1) (omega arith, omega (arith, to)) i / is.counted stage (from, omega (arith, to)) i)
    ∙ branches_are stage parts.stochastics (record { ordered = stated.ordered; outcomes = stated.outcomes; bounded = stated.stochastics })
