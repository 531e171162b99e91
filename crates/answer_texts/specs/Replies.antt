-- How a command ends on a text, which replies it has, and which log goes with them.
use Rattle.std.specs.Prelude.{◌≡◌, ◌⊎◌, ℕ, ◌<◌, ℤ, pos, codes, List, Option, Some, None}
use Rattle.sopl_base.specs.declared.fault.Excess.{Excess}
use Rattle.sopl_base.specs.declared.fault.Fault.{Fault}
use Rattle.sopl_base.specs.declared.fault.Fault.TheVariants as fault
use Rattle.sopl_base.specs.declared.fault.Refusal.{Refusal}
use Rattle.sopl_ast.specs.Accepted.{IsLimitedFor, IsRefusedFor}
use Rattle.sopl_ast.specs.Instances.{Problem}
use Rattle.sopl_ast.specs.Limits.{usual_limits}
use Rattle.sopl_ast.specs.Policies.{Policy}
use Rattle.sopl_ast.specs.Optimal.{IsOptimal, IsInfeasible}
use Rattle.log_rows.specs.declared.rows.Footer.TheVariants as claim
use Rattle.sopl_base.specs.declared.stop.SearchStop.{SearchStop}
use Rattle.sopl_base.specs.declared.stop.SearchStop.TheVariants as stop
use Rattle.sopl_search.specs.Logged.{SearchPlan}
use Rattle.answer_lines.specs.Answer.{tree_data}
use Rattle.answer_texts.specs.Solved.{SolvedText, IsLimitedInTerms}
use Rattle.answer_lines.specs.AnswerData.{Valued, refused_data, limit_data, line_of}
use Rattle.answer_texts.specs.Bounds.{IsBounded}
use Rattle.answer_texts.specs.Telling.{bounded_told, found_value, infeasible_told, optimal_told}
use Rattle.answer_texts.specs.Logs.{IsLogOf, most_nodes, with_value, IsUnused, SinkState, Wrote, WrotePrefix}
use Rattle.answer_texts.specs.declared.command.Command.{Command}
use Rattle.answer_texts.specs.declared.command.Command.TheVariants.{Solve, Tree}
use Rattle.answer_texts.specs.declared.command.Detail.{Detail}
use Rattle.answer_texts.specs.declared.status.Status.{Status}
use Rattle.answer_texts.specs.declared.status.Status.TheVariants.{Done, Failing, Usage, Refused, Limit, Bounded, ReadFault, WriteFault, NoMemory, Unreadable}

-- a command refuses the text by this code at this place
pub data IsRefusedOn (text : List ℕ) (refusal : Refusal) : Command → Type 0 where
  -- the text breaks a rule
  by_rule : (command : Command) → IsRefusedFor text refusal → IsRefusedOn text refusal command

-- a command does not take the text since it passes this limit
pub data IsLimitedOn (text : List ℕ) (excess : Excess) : Command → Type 0 where
  -- its unfolding, its scenarios or its decisions pass it
  by_size : (command : Command) → IsLimitedFor usual_limits text excess → IsLimitedOn text excess command
  -- the text is accepted, and its terms pass it
  by_terms : (command : Command) → IsLimitedInTerms text excess → IsLimitedOn text excess command

-- a fault says why a command is not done on the text
abbrev pub IsFaultOn : List ℕ → Command → Fault → Type 0
IsFaultOn text command (fault.Text refusal) = IsRefusedOn text refusal command
IsFaultOn text command (fault.Limit excess) = IsLimitedOn text excess command
IsFaultOn text command fault.NoMemory = Unit {0}

-- how a command ends on a text, where nothing fails and a search may finish so many nodes
pub data Ends (text : List ℕ) (budget : ℕ) : Command → Status → Type 0 where
  -- the text is accepted, and its terms pass no limit
  solved : (detail : Detail) (problem : Problem) → SolvedText text problem → Ends text budget (Solve detail) Done
  -- the text is accepted, its terms pass no limit, and a search may want more nodes
  bounded_text : (detail : Detail) (problem : Problem) → SolvedText text problem → budget < most_nodes problem → Ends text budget (Solve detail) Bounded
  -- the text is accepted, its terms pass no limit, and its tree is asked for
  shown : (problem : Problem) → SolvedText text problem → Ends text budget Tree Done
  -- the text is refused
  refused_text : (command : Command) (refusal : Refusal) → IsRefusedOn text refusal command → Ends text budget command Refused
  -- the text passes a limit
  limited_text : (command : Command) (excess : Excess) → IsLimitedOn text excess command → Ends text budget command Limit

-- how a run ends where its search is not cut short
abbrev pub settled : Status → Status
settled Bounded = Done
settled Done = Done
settled Failing = Failing
settled Usage = Usage
settled Refused = Refused
settled Limit = Limit
settled ReadFault = ReadFault
settled WriteFault = WriteFault
settled NoMemory = NoMemory
settled Unreadable = Unreadable

-- a reply to a command on a text, where a search is done by this plan: the log that goes with it, the status that it ends with, its line, and
-- why it comes
pub data IsTextReply (text : List ℕ) (plan : SearchPlan) : Command → Option (List ℕ) → Status → List ℕ → Type 0 where
  -- the text states a problem, and this policy of it is optimal and has this value; it is that of the point of a row of the log
  optimal : (detail : Detail) (problem : Problem) (policy : Policy) (value : ℤ) (log : List ℕ) → SolvedText text problem → IsOptimal problem policy value
      → IsLogOf problem plan (claim.Optimal value) (Some (with_value policy value)) log
      → IsTextReply text plan (Solve detail) (Some log) Done (line_of (optimal_told detail problem policy value))
  -- the text states a problem, and no policy of it satisfies
  infeasible : (detail : Detail) (problem : Problem) (log : List ℕ) → SolvedText text problem → IsInfeasible problem → IsLogOf problem plan claim.Infeasible None log
      → IsTextReply text plan (Solve detail) (Some log) Done (line_of (infeasible_told detail problem))
  -- the text states a problem, no policy of it is better than this bound, and this one satisfies where one was found, that of the point of a row of the
  -- log; the log has as many finished nodes as the budget allows, and the bound is the better end of a box that is open
  bounded : (detail : Detail) (problem : Problem) (found : Option Valued) (bound : ℤ) (log : List ℕ) → SolvedText text problem → IsBounded problem found bound
      → plan.budget < most_nodes problem → IsLogOf problem plan (claim.Bounded (found_value found) bound) found log
      → IsTextReply text plan (Solve detail) (Some log) Bounded (line_of (bounded_told detail problem found bound))
  -- the text states a problem with these scenarios
  scenes : (problem : Problem) → SolvedText text problem
      → IsTextReply text plan Tree None Done (line_of (tree_data problem.decisions problem.stochastics))
  -- the text is refused by this code at this place
  refused : (command : Command) (refusal : Refusal) → IsRefusedOn text refusal command
      → IsTextReply text plan command None Refused (line_of (refused_data (pos refusal.at) (pos refusal.code)))
  -- the text passes this limit
  limited : (command : Command) (excess : Excess) → IsLimitedOn text excess command
      → IsTextReply text plan command None Limit (line_of (limit_data excess))

-- a sink was begun with a name and took the log, where there is one; else it was not used
abbrev pub Logged : List ℕ → Option (List ℕ) → SinkState → SinkState → Type 0
Logged name None old new = IsUnused old new
Logged name (Some log) old new = Wrote name log old new

-- a reply, and what the log's sink took
pub record Replies (text : List ℕ) (plan : SearchPlan) (command : Command) (name : List ℕ) (old new : SinkState) (status : Status) (line : List ℕ) : Type 0 where
  pub log : Option (List ℕ)
  pub reply : IsTextReply text plan command log status line
  pub logged : Logged name log old new

-- the text is solved, and the log's sink was begun with a name and took a prefix of a log
pub record IsCut (text : List ℕ) (plan : SearchPlan) (command : Command) (name : List ℕ) (old new : SinkState) : Type 0 where
  pub detail : Detail
  pub commanded : command ≡ Solve detail
  pub problem : Problem
  pub is_solved : SolvedText text problem
  pub wrote : WrotePrefix problem plan name old new

-- why there is no reply: the log's sink failed, or memory ran out
abbrev pub StopsByCause : List ℕ → SearchPlan → Command → List ℕ → SinkState → SinkState → SearchStop → Type 0
StopsByCause text plan command name old new stop.Write = IsCut text plan command name old new
StopsByCause text plan command name old new stop.NoMemory = IsUnused old new ⊎ IsCut text plan command name old new
