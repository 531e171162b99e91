-- What holds of the replies of `check`.
use Rattle.std.specs.Prelude.{◌≡◌, ℕ, ◌<◌, ◌^◌, List, Option}
use Rattle.sopl_ast.specs.Instances.{Problem}
use Rattle.sopl_ast.specs.Optimal.{denominator}
use Rattle.log_rows.specs.declared.rows.Row.{Row}
use Rattle.log_rows.specs.declared.rows.Footer.{Footer}
use Rattle.log_rows.specs.Accepted.{Accepted}
use Rattle.log_tree.specs.Reads.{IsReading, read}
use Rattle.sopl_search.specs.Logged.{SearchPlan}
use Rattle.answer_lines.specs.AnswerData.{Valued, line_of}
use Rattle.answer_texts.specs.Logs.{IsLogOf, searched_problem}
use Rattle.answer_texts.specs.Solved.{SolvedText}
use Rattle.answer_texts.specs.declared.status.Status.{Status}
use Rattle.answer_texts.specs.declared.status.Status.TheVariants.{Done}
use Rattle.answer_check.specs.CheckData.{accepted_data}
use Rattle.answer_check.specs.Claims.{HoldsOfPolicies}
use Rattle.answer_check.specs.CheckReplies.{IsCheckReply}

-- two replies have the same status and the same line
pub record IsSameReply (a b : Status) (l m : List ℕ) : Type 0 where
  pub status : a ≡ b
  pub line : l ≡ m

-- so it is of all replies to the same text and the same bytes
abbrev pub ChecksEndOnce : Type 0
ChecksEndOnce =
    (text log : List ℕ) (a b : Status) (l m : List ℕ) → IsCheckReply text log a l → IsCheckReply text log b m → IsSameReply a b l m

-- what the claim of a log says of a problem's policies is true, and each reply is that the log is accepted with it
pub record IsAnsweredAccepted (text log : List ℕ) (problem : Problem) (claim : Footer) : Type 0 where
  pub true_of : HoldsOfPolicies problem claim
  pub replies : (status : Status) (line : List ℕ) → IsCheckReply text log status line
      → IsSameReply status Done line (line_of (accepted_data claim (denominator problem)))

-- so it is of each log of a text that is accepted over the boxes of the text's points
abbrev pub AcceptedLogsAreAnswered : Type 0
AcceptedLogsAreAnswered =
    (text log : List ℕ) (problem : Problem) (rows : List Row) (claim : Footer) → SolvedText text problem → IsReading log (read rows claim)
    → Accepted (searched_problem problem) rows claim → IsAnsweredAccepted text log problem claim

-- and of each log that goes with an answer of `solve`
abbrev pub WrittenLogsAreAccepted : Type 0
WrittenLogsAreAccepted =
    (text log : List ℕ) (problem : Problem) (plan : SearchPlan) (claim : Footer) (found : Option Valued) → SolvedText text problem → plan.budget < 2 ^ 32
    → IsLogOf problem plan claim found log → IsAnsweredAccepted text log problem claim
