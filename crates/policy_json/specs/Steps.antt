-- The nodes of a policy, as the program makes them from the tables of a tree. These steps are the code's own: no public clause cites them.
use Rattle.std.specs.Prelude.{◌≡◌, ℕ, zero, suc, ◌+◌, ◌-◌, ◌*◌, ◌/◌, ◌≤◌, ◌<◌, ℤ, pos, List, [], length, map, get_or, IsTrue}
use Rattle.std.specs.List.{list_all, range_with_len}
use Rattle.serde_json.specs.Data.{Data}
use Rattle.sopl_ast.specs.Instances.{Decision, Stochastic, names_in, independent}
use Rattle.sopl_ast.specs.Cells.{policy_at}
use Rattle.sopl_ast.specs.Histories.{histories}
use Rattle.sopl_ast.specs.Pieces.{is_word}
use Rattle.scen_laws.specs.BlockLaws.{block_of}
use Rattle.scen_laws.specs.Laws.{seen_before}
use Rattle.sopl_scen.specs.Layout.{Layout, AreStated, IsTreeOf, cell_in, cells_for, count_in, histories_in, history_in, value_in}
use Rattle.policy_json.specs.Entries.{entry_of}
use Rattle.policy_json.specs.declared.point.Point as declared
use Rattle.policy_json.specs.Nodes.{branch_of, node_of, outermost_node}
use Rattle.policy_json.specs.Stages.{StageParts, all_stages, numbers_of}

-- a point, with what it is a point of, and what each stage has
pub record Parts : Type 0 where
  pub decisions : List Decision
  pub stochastics : List Stochastic
  pub tree : Layout
  pub values : List ℤ
  pub stages : List StageParts

abbrev pub parts_in : declared.Point → Parts
parts_in point =
    record {
      decisions = point.decisions.now;
      stochastics = point.stochs.now;
      tree = point.tree.now;
      values = point.values.now;
      stages = point.stages.now;
    }

-- the parts go together. It is no record: the search for proofs would open it in each goal
pub data IsReady (parts : Parts) : Type 0 where
  ready :
      (constraints : ℕ) → AreStated parts.decisions parts.stochastics constraints → IsTreeOf parts.decisions parts.stochastics parts.tree
      → length parts.values ≡ parts.tree.cells → parts.stages ≡ all_stages parts.decisions parts.stochastics
      → IsTrue (list_all is_word (names_in parts.decisions parts.stochastics)) → IsReady parts

-- the outermost node of the point's policy
abbrev pub shown_in : Parts → Data
shown_in parts =
    outermost_node parts.decisions parts.stochastics (policy_at (cells_for parts.decisions parts.stochastics) parts.values)

-- no decision and no variable, in place of one that is not there
abbrev pub no_decision : Decision
no_decision = record { name = []; index = []; lo = pos 0; hi = pos 0; stage = 0 }

abbrev pub no_variable : Stochastic
no_variable = independent [] [] [] 0

-- the entry of the decision with this number in a scenario
unfoldable pub decided_in : Parts → ℕ → ℕ → Data
decided_in parts scenario number =
    entry_of (get_or parts.decisions number no_decision).name (get_or parts.decisions number no_decision).index
    (get_or parts.values (cell_in parts.tree number scenario) (pos 0))

-- the entries of the decisions of a stage in a scenario
abbrev pub decide_in : Parts → ℕ → ℕ → List Data
decide_in parts stage scenario = map (decided_in parts scenario) (numbers_of stage parts.decisions)

-- the entry of the stochastic variable with this number in a scenario
unfoldable pub drawn_in : Parts → ℕ → ℕ → Data
drawn_in parts scenario number =
    entry_of (get_or parts.stochastics number no_variable).name (get_or parts.stochastics number no_variable).index (value_in parts.tree number scenario)

-- the entries of the stochastic variables of a stage in a scenario
abbrev pub seen_in : Parts → ℕ → ℕ → List Data
seen_in parts stage scenario =
    map (drawn_in parts scenario)
    (range_with_len (seen_before stage parts.stochastics) (seen_before (stage + 1) parts.stochastics - seen_before stage parts.stochastics))

-- a scenario is the first one that has the history with this number: it begins a block of them
pub record Begins (stochastics : List Stochastic) (stage scenario number : ℕ) : Type 0 where
  pub exists : number < length (histories stage stochastics)
  pub at : scenario ≡ number * block_of stage stochastics + 0

-- the scenarios from one on that share its history of a stage, up to an end
pub record IsRunOf (tree : Layout) (stage scenario end : ℕ) : Type 0 where
  pub above : scenario < end
  pub within : end ≤ count_in tree
  pub same : (later : ℕ) → scenario ≤ later → later < end → history_in tree stage later ≡ history_in tree stage scenario
  pub other : end < count_in tree → ¬ (history_in tree stage end ≡ history_in tree stage scenario)

-- how many scenarios share a history of a stage
unfoldable pub block_in : Layout → ℕ → ℕ
block_in tree stage = count_in tree / histories_in tree stage

-- how many histories of the next stage go on from one of a stage
unfoldable pub branches_in : Layout → ℕ → ℕ
branches_in tree stage = histories_in tree (stage + 1) / histories_in tree stage

-- the first scenario of a block of the next stage, by its number within the block that begins with this scenario
abbrev pub first_in : Layout → ℕ → ℕ → ℕ → ℕ
first_in tree stage scenario i = scenario + i * block_in tree (stage + 1)

-- the node of a stage and of the history that a scenario is the first of, where so many stages come after it
abbrev pub node_in : Parts → (later : ℕ) → (stage : ℕ) → (scenario : ℕ) → Data
node_in parts zero stage scenario = node_of (decide_in parts stage scenario) []
node_in parts (suc later) stage scenario =
    node_of (decide_in parts stage scenario)
    (map (λ i. branch_of (seen_in parts stage (first_in parts.tree stage scenario i)) (node_in parts later (stage + 1) (first_in parts.tree stage scenario i)))
    (range_with_len 0 (branches_in parts.tree stage)))

-- what is seen after a stage in a block of the next one, and the node that follows
abbrev pub branch_in : Parts → ℕ → ℕ → ℕ → ℕ → Data
branch_in parts later stage scenario i =
    branch_of (seen_in parts stage (first_in parts.tree stage scenario i)) (node_in parts later (stage + 1) (first_in parts.tree stage scenario i))
