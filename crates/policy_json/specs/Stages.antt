-- What each stage has, as the program keeps it. These steps are the code's own: no public clause cites them.
use Rattle.std.specs.Prelude.{ℕ, ◌+◌, List, map}
use Rattle.std.specs.List.{enumerate_from, range_with_len}
use Rattle.sopl_ast.specs.Instances.{Decision, Stochastic}
use Rattle.scen_laws.specs.Laws.{seen_before}
use Rattle.policy_json.specs.Nodes.{numbered_in_stage}

-- the numbers of a stage's decisions; and its stochastic variables, from the first up to the end
pub record StageParts : Type 0 where
  pub decisions : List ℕ
  pub first : ℕ
  pub end : ℕ

-- the number of a numbered decision
abbrev pub number_in : ℕ × Decision → ℕ
number_in d = d.0

-- the numbers of the decisions of a stage
unfoldable pub numbers_of : ℕ → List Decision → List ℕ
numbers_of stage decisions = map number_in (numbered_in_stage stage (enumerate_from 0 decisions))

-- a stage
abbrev pub stage_in : List Decision → List Stochastic → ℕ → StageParts
stage_in decisions stochastics stage =
    record {
      decisions = numbers_of stage decisions;
      first = seen_before stage stochastics;
      end = seen_before (stage + 1) stochastics;
    }

-- the numbers of the stages
unfoldable pub stage_numbers : List ℕ
stage_numbers = range_with_len 1 24

-- all stages
abbrev pub all_stages : List Decision → List Stochastic → List StageParts
all_stages decisions stochastics = map (stage_in decisions stochastics) stage_numbers
