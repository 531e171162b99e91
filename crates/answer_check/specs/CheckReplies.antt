-- The replies of `check` to a text and the bytes of a log, each with its cause.
use Rattle.std.specs.Prelude.{ℕ, List, pos}
use Rattle.sopl_base.specs.declared.fault.Excess.{Excess}
use Rattle.sopl_base.specs.declared.fault.Refusal.{Refusal}
use Rattle.sopl_ast.specs.Instances.{Problem}
use Rattle.sopl_ast.specs.Optimal.{denominator}
use Rattle.log_rows.specs.declared.rows.Row.{Row}
use Rattle.log_rows.specs.declared.rows.Footer.{Footer}
use Rattle.log_rows.specs.Accepted.{Accepted}
use Rattle.term_program.specs.declared.program.Program.{Program}
use Rattle.log_tree.specs.Reads.{IsReading, read, refused}
use Rattle.log_check.specs.Verdicts.{IsFirstWrong}
use Rattle.answer_lines.specs.AnswerData.{line_of, refused_data, limit_data}
use Rattle.answer_texts.specs.Logs.{searched_problem}
use Rattle.answer_texts.specs.Replies.{IsLimitedOn, IsRefusedOn}
use Rattle.answer_texts.specs.Solved.{SolvedText}
use Rattle.answer_texts.specs.Solving.{IsProgramOf}
use Rattle.answer_texts.specs.declared.command.Command.TheVariants.{Solve}
use Rattle.answer_texts.specs.declared.command.Detail.TheVariants.{Full}
use Rattle.answer_texts.specs.declared.status.Status.{Status}
use Rattle.answer_texts.specs.declared.status.Status.TheVariants.{Done, Failing, Refused, Limit, Unreadable}
use Rattle.answer_check.specs.CheckData.{accepted_data, rejected_data, unreadable_data}
use Rattle.answer_check.specs.Claims.{HoldsOfPolicies}

-- the reply to the bytes of a log of a problem: its status, its line, and why it comes
pub data IsLogReply (problem : Problem) (log : List ℕ) : Status → List ℕ → Type 0 where
  -- the bytes are a log, each line of it is right, and what it claims is true of all policies
  accepted : (rows : List Row) (claim : Footer) → IsReading log (read rows claim) → Accepted (searched_problem problem) rows claim → HoldsOfPolicies problem claim
      → IsLogReply problem log Done (line_of (accepted_data claim (denominator problem)))
  -- the bytes are a log, and this is its first line that is not right, with the node of it
  rejected : (rows : List Row) (claim : Footer) (node line : ℕ) → IsReading log (read rows claim) → IsFirstWrong (searched_problem problem) rows claim node line
      → IsLogReply problem log Failing (line_of (rejected_data (pos line) (pos node)))
  -- the bytes are no log: this line is the first mistake, by this code
  unreadable : (code line : ℕ) → IsReading log (refused code line) → IsLogReply problem log Unreadable (line_of (unreadable_data (pos line) (pos code)))

-- the reply to a text and the bytes of a log
pub data IsCheckReply (text log : List ℕ) : Status → List ℕ → Type 0 where
  -- the text states a problem, and this is the reply to the log of it
  checked : (problem : Problem) (status : Status) (line : List ℕ) → SolvedText text problem → IsLogReply problem log status line → IsCheckReply text log status line
  -- the text is refused, as `solve` refuses it
  refused_text : (refusal : Refusal) → IsRefusedOn text refusal (Solve Full) → IsCheckReply text log Refused (line_of (refused_data (pos refusal.at) (pos refusal.code)))
  -- the text passes this limit, as `solve` tells it
  limited_text : (excess : Excess) → IsLimitedOn text excess (Solve Full) → IsCheckReply text log Limit (line_of (limit_data excess))

-- the text states a problem that is solved, and the program is that of the problem
pub record IsProgramFor (text : List ℕ) (program : Program) : Type 0 where
  pub problem : Problem
  pub is_solved : SolvedText text problem
  pub is_program : IsProgramOf problem program
