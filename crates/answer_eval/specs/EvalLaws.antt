-- What holds of the replies of `eval`.
use Rattle.std.specs.Prelude.{◌≡◌, ℕ, ℤ, List, Some, codes, map}
use Rattle.serde_json.specs.Data.{Data}
use Rattle.serde_json.specs.Find.{get}
use Rattle.sopl_ast.specs.Instances.{Problem}
use Rattle.sopl_ast.specs.Optimal.{Satisfies, numerator, weight_of}
use Rattle.sopl_ast.specs.Policies.{IsPolicy, Policy}
use Rattle.policy_json.specs.Nodes.{policy_data}
use Rattle.policy_read.specs.Listed.{data_in}
use Rattle.answer_lines.specs.AnswerData.{line_of}
use Rattle.answer_texts.specs.Solved.{SolvedText}
use Rattle.answer_texts.specs.declared.status.Status.{Status}
use Rattle.answer_texts.specs.declared.status.Status.TheVariants.{Done}
use Rattle.answer_eval.specs.EvalData.{satisfied_data}
use Rattle.answer_eval.specs.EvalReplies.{IsEvalReply}

-- all replies to the same text and the same bytes are one
abbrev pub EvalsEndOnce : Type 0
EvalsEndOnce = (text bytes : List ℕ) (a b : Status) (l m : List ℕ) → IsEvalReply text bytes a l → IsEvalReply text bytes b m → (a ≡ b) × (l ≡ m)

-- the bytes have, as their member `policy`, what is printed of a policy of the text that satisfies
pub record HoldSatisfying (text bytes : List ℕ) (problem : Problem) (policy : Policy) : Type 0 where
  pub is_solved : SolvedText text problem
  pub of_problem : IsPolicy problem policy
  pub satisfies : Satisfies problem policy
  pub given : Data
  pub reading : data_in bytes ≡ Some given
  pub printed : get (codes "policy") given ≡ Some (policy_data problem policy)

-- each reply to such bytes is that the policy satisfies, with its value and the weights of the chance constraints
abbrev pub SatisfyingAreAnswered : Type 0
SatisfyingAreAnswered =
    (text bytes : List ℕ) (problem : Problem) (policy : Policy) (value : ℤ) → HoldSatisfying text bytes problem policy → numerator problem policy ≡ Some value
    → (status : Status) (line : List ℕ) → IsEvalReply text bytes status line
    → (status ≡ Done) × (line ≡ line_of (satisfied_data problem (map (weight_of problem policy) problem.chances) value))
