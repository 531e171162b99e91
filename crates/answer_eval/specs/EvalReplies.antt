-- The replies of `eval` to a text and the bytes of a policy, each with its cause.
use Rattle.std.specs.Prelude.{◌≡◌, ℕ, ℤ, pos, List, Some}
use Rattle.sopl_base.specs.declared.fault.Excess.{Excess}
use Rattle.sopl_base.specs.declared.fault.Refusal.{Refusal}
use Rattle.sopl_ast.specs.Cells.{cells, policy_at}
use Rattle.sopl_ast.specs.Instances.{Problem}
use Rattle.sopl_ast.specs.Policies.{IsPolicy, Policy}
use Rattle.scen_accept.specs.Stated.{IsLaid, States, model_in}
use Rattle.scen_accept.specs.declared.accepted.AcceptedProblem.{AcceptedProblem}
use Rattle.policy_eval.specs.Reports.{FailsChance, FailsHard, FailsObjective, IsSatisfied}
use Rattle.policy_read.specs.Policies.{Point, policy_in, policy_refusal}
use Rattle.answer_lines.specs.AnswerData.{limit_data, line_of, refused_data, unreadable_data}
use Rattle.answer_texts.specs.Models.{IsSolvable}
use Rattle.answer_texts.specs.Replies.{IsLimitedOn, IsRefusedOn}
use Rattle.answer_texts.specs.Solved.{SolvedText}
use Rattle.answer_texts.specs.declared.command.Command.TheVariants.{Solve}
use Rattle.answer_texts.specs.declared.command.Detail.TheVariants.{Full}
use Rattle.answer_texts.specs.declared.status.Status.{Status}
use Rattle.answer_texts.specs.declared.status.Status.TheVariants.{Done, Failing, Refused, Limit, Unreadable}
use Rattle.answer_eval.specs.EvalData.{chance_data, hard_data, objective_data, satisfied_data}

-- the bytes hold a policy of a problem: what is read of them is a point of the cells, and this is its policy
pub record HoldsPolicy (problem : Problem) (bytes : List ℕ) (policy : Policy) : Type 0 where
  pub values : List ℤ
  pub reads : policy_in problem.decisions problem.stochastics bytes ≡ Point values
  pub same : policy ≡ policy_at (cells problem) values
  pub of_problem : IsPolicy problem policy

-- the reply to the bytes of a policy of a problem: its status, its line, and why it comes
pub data IsPolicyReply (problem : Problem) (bytes : List ℕ) : Status → List ℕ → Type 0 where
  -- the policy satisfies, has this value, and the scenarios in which the chance constraints are true weigh this
  satisfied : (policy : Policy) (value : ℤ) (sums : List ℤ) → HoldsPolicy problem bytes policy → IsSatisfied problem policy value sums
      → IsPolicyReply problem bytes Done (line_of (satisfied_data problem sums value))
  -- a hard constraint is false in a scenario
  hard_fails : (policy : Policy) (instance scenario : ℕ) → HoldsPolicy problem bytes policy → FailsHard problem policy instance scenario
      → IsPolicyReply problem bytes Failing (line_of (hard_data (pos instance) (pos scenario)))
  -- no hard constraint fails, and a chance constraint is not reached
  chance_fails : (policy : Policy) (instance : ℕ) (sum : ℤ) → HoldsPolicy problem bytes policy → FailsChance problem policy instance sum
      → IsPolicyReply problem bytes Failing (line_of (chance_data problem (pos instance) sum))
  -- no constraint fails, and the objective is undefined in a scenario
  objective_fails : (policy : Policy) (scenario : ℕ) → HoldsPolicy problem bytes policy → FailsObjective problem policy scenario
      → IsPolicyReply problem bytes Failing (line_of (objective_data (pos scenario)))
  -- the bytes hold no policy of the problem, by this code at this place
  unreadable : (refusal : Refusal) → policy_refusal (policy_in problem.decisions problem.stochastics bytes) ≡ Some refusal
      → IsPolicyReply problem bytes Unreadable (line_of (unreadable_data (pos refusal.at) (pos refusal.code)))

-- the reply to a text and the bytes of a policy
pub data IsEvalReply (text bytes : List ℕ) : Status → List ℕ → Type 0 where
  -- the text states a problem, and this is the reply to the policy of it
  evaluated : (problem : Problem) (status : Status) (line : List ℕ) → SolvedText text problem → IsPolicyReply problem bytes status line
      → IsEvalReply text bytes status line
  -- the text is refused, as `solve` refuses it
  text_refused : (refusal : Refusal) → IsRefusedOn text refusal (Solve Full) → IsEvalReply text bytes Refused (line_of (refused_data (pos refusal.at) (pos refusal.code)))
  -- the text passes this limit, as `solve` tells it
  text_limited : (excess : Excess) → IsLimitedOn text excess (Solve Full) → IsEvalReply text bytes Limit (line_of (limit_data excess))

-- the text states this, and it is solved
pub record IsStatedFor (text : List ℕ) (stated : AcceptedProblem) : Type 0 where
  pub states : States text stated
  pub laid_out : IsLaid stated
  pub solvable : IsSolvable (model_in stated)
