-- Policies whose JSON is of whole numbers of 64 signed bits.
use Rattle.std.specs.Prelude.{◌≡◌, ◌-◌, ◌^◌, ℕ, ℤ, pos, ◌<ℤ◌, List, Some, None, codes, length}
use Rattle.std.specs.List.{AllByRecursion}
use Rattle.serde_json.specs.Data.{Data}
use Rattle.serde_json.specs.Find.{get}
use Rattle.sopl_ast.specs.Cells.{IsPoint, cells, policy_at}
use Rattle.sopl_ast.specs.Instances.{Decision, Outcome, Problem, Stochastic, distribution}
use Rattle.sopl_ast.specs.Origin.{IsFromTokens}
use Rattle.sopl_ast.specs.Unfolding.{problem_of, text_events}
use Rattle.sopl_ast.specs.Whole.{ModelTree}
use Rattle.unfold_laws.specs.Bounds.{IsBoundedDecision}
use Rattle.unfold_laws.specs.Passing.{NothingFails}
use Rattle.policy_json.specs.LastStage.{last_stage}
use Rattle.policy_json.specs.Nodes.{policy_data}
use Rattle.policy_json.specs.Staged.{IsStaged}
use Rattle.policy_read.specs.Listed.{data_in}
use Rattle.policy_read.specs.Having.{Has}
use Rattle.policy_read.specs.Forms.{facing, first_difference, nodes_of}
use Rattle.policy_read.specs.Policies.{Point, form_for, node_read, policy_in}

-- a number below 2^63: JSON that shows it is read as one of 64 signed bits
abbrev pub IsReadable : ℤ → Type 0
IsReadable z = z <ℤ pos (2 ^ 63)

-- all indices of a problem, all values of its stochastic variables and those of a point are so
pub record AreReadable (problem : Problem) (values : List ℤ) : Type 0 where
  pub decided : AllByRecursion (λ (d : Decision). AllByRecursion IsReadable d.index) problem.decisions
  pub drawn : AllByRecursion (λ (s : Stochastic). AllByRecursion IsReadable s.index × AllByRecursion (λ (o : Outcome). IsReadable o.value) (distribution s)) problem.stochastics
  pub valued : AllByRecursion IsReadable values

-- no node of what is printed of a point's policy differs from the form's
abbrev pub PrintsInForm : Type 0
PrintsInForm =
    (problem : Problem) (values : List ℤ) → length values ≡ length (cells problem) → AreReadable problem values
    → first_difference (nodes_of (last_stage problem.decisions - 1)
    (facing (form_for problem.decisions problem.stochastics) (policy_data problem (policy_at (cells problem) values)))) ≡ None

-- what is printed of a point's policy is read as the point
abbrev pub PrintedIsRead : Type 0
PrintedIsRead =
    (problem : Problem) (values : List ℤ) → IsStaged problem → AllByRecursion IsBoundedDecision problem.decisions → IsPoint (cells problem) values → AreReadable problem values
    → node_read problem.decisions problem.stochastics (policy_data problem (policy_at (cells problem) values)) ≡ Point values

-- and so is each text whose data has it as its member `policy`
abbrev pub PolicyTextsAreRead : Type 0
PolicyTextsAreRead =
    (problem : Problem) (values : List ℤ) → IsStaged problem → AllByRecursion IsBoundedDecision problem.decisions → IsPoint (cells problem) values → AreReadable problem values
    → (text : List ℕ) (d : Data) → data_in text ≡ Some d → get (codes "policy") d ≡ Some (policy_data problem (policy_at (cells problem) values))
    → policy_in problem.decisions problem.stochastics text ≡ Point values

-- all indices and values of a text whose unfolding nothing stops are below 2^63, and so are those of its points
abbrev pub AcceptedAreReadable : Type 0
AcceptedAreReadable =
    (model : ModelTree) → NothingFails (text_events model) → (values : List ℤ) → IsPoint (cells (problem_of model)) values → AreReadable (problem_of model) values

-- so what is printed of a policy of an accepted text is read as the policy, in each text whose data has it as its member `policy`
abbrev pub AcceptedAreRead : Type 0
AcceptedAreRead =
    (model : ModelTree) → IsFromTokens model → NothingFails (text_events model) → (values : List ℤ) → IsPoint (cells (problem_of model)) values
    → (text : List ℕ) (d : Data) → data_in text ≡ Some d → get (codes "policy") d ≡ Some (policy_data (problem_of model) (policy_at (cells (problem_of model)) values))
    → policy_in (problem_of model).decisions (problem_of model).stochastics text ≡ Point values

-- the data of a text has a member `policy`, which has what this node has
pub record HasPolicy (shown : Data) (text : List ℕ) : Type 0 where
  pub data_of : Data
  pub read : data_in text ≡ Some data_of
  pub node : Data
  pub member : get (codes "policy") data_of ≡ Some node
  pub has : Has shown node

-- the other direction: a text that is read as a point has, as its member `policy`, all that is printed of the policy of this point
abbrev pub ReadIsThere : Type 0
ReadIsThere =
    (model : ModelTree) → IsFromTokens model → NothingFails (text_events model) → (values : List ℤ) (text : List ℕ)
    → policy_in (problem_of model).decisions (problem_of model).stochastics text ≡ Point values
    → HasPolicy (policy_data (problem_of model) (policy_at (cells (problem_of model)) values)) text
