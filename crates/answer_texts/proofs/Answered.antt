-- From what is found out of a text to the reply.
use Rattle.std.proofs.Common.{◌≡◌, inl, inr, ℕ, pos, List, Some, None, Result, Ok, Err, IfOk, IfErr, string_bytes, refl, sym, subst}
use Rattle.std.proofs.lemmas.Result.{IfOk-at_ok}
use Rattle.std.specs.declared.alloc.AllocError.{AllocError}
use Rattle.sopl_base.specs.declared.fault.Excess.{Excess}
use Rattle.sopl_base.specs.declared.fault.Fault.{Fault}
use Rattle.sopl_base.specs.declared.fault.Fault.TheVariants as fault
use Rattle.sopl_base.specs.declared.fault.Refusal.{Refusal}
use Rattle.sopl_search.specs.Logged.{SearchPlan}
use Rattle.answer_lines.specs.Answer.{tree_data}
use Rattle.scen_accept.specs.Faults.{IsTextFault}
use Rattle.scen_accept.specs.Stated.{States, model_in, problem_in}
use Rattle.scen_accept.specs.declared.accepted.AcceptedProblem.{AcceptedProblem}
use Rattle.answer_lines.specs.AnswerData.{limit_data, line_of, refused_data}
use Rattle.answer_texts.specs.Away.{TellsFault}
use Rattle.answer_texts.specs.Models.{IsSolvable}
use Rattle.answer_texts.specs.Solved.{SolvedText}
use Rattle.sopl_base.specs.declared.stop.SearchStop.{SearchStop}
use Rattle.sopl_base.specs.declared.stop.SearchStop.TheVariants as stop
use Rattle.answer_texts.specs.Solving.{IsSolveFault}
use Rattle.answer_texts.specs.Logs.{IsUnused, SinkState}
use Rattle.answer_texts.specs.Answering.{Answers, IsBoundedBy, IsCutOff, IsSettledBy, optimal as optimal_line, infeasible as infeasible_line, bounded as bounded_line}
use Rattle.answer_texts.specs.declared.solve_answer.Answer.{Answer}
use Rattle.answer_texts.specs.declared.solve_answer.Answer.TheVariants.{Settled, Cut}
use Rattle.answer_texts.specs.Replies.{IsFaultOn, IsLimitedOn, IsRefusedOn, by_rule, by_size, by_terms, IsTextReply, optimal, infeasible, bounded, scenes}
use Rattle.answer_texts.specs.Replies.{Replies, IsCut, StopsByCause}
use Rattle.answer_texts.specs.AnswerReplies.{reply_of}
use Rattle.answer_texts.specs.declared.command.Command.{Command}
use Rattle.answer_texts.specs.declared.command.Command.TheVariants.{Solve, Tree}
use Rattle.answer_texts.specs.declared.command.Detail.{Detail}
use Rattle.answer_texts.specs.declared.reply.Reply.{Reply}
use Rattle.answer_texts.specs.declared.status.Status.{Status}
use Rattle.answer_texts.specs.declared.status.Status.TheVariants.{Done, Refused, Limit, Bounded}

-- the reply to a text that is refused, or passes a limit, tells of the fault
pub refused_told : (refusal : Refusal) (result : Result Reply AllocError) → IfOk result (λ reply. reply.status ≡ Refused)
    → IfOk result (λ reply. string_bytes reply.line ≡ line_of (refused_data (pos refusal.at) (pos refusal.code)))
    → IfOk result (λ reply. TellsFault (fault.Text refusal) reply.status (string_bytes reply.line))
refused_told refusal (Ok reply) ends is = (ends, is)
refused_told refusal (Err error) ends is = tt

pub limit_told : (excess : Excess) (result : Result Reply AllocError) → IfOk result (λ reply. reply.status ≡ Limit)
    → IfOk result (λ reply. string_bytes reply.line ≡ line_of (limit_data excess)) → IfOk result (λ reply. TellsFault (fault.Limit excess) reply.status (string_bytes reply.line))
limit_told excess (Ok reply) ends is = (ends, is)
limit_told excess (Err error) ends is = tt

-- and is the reply to each text that has it, where it is so for texts that are refused and for those that pass a limit
module _ (P : Status → List ℕ → Type 0) (command : Command) (text : List ℕ)
    (refusals : (refusal : Refusal) → IsRefusedOn text refusal command → P Refused (line_of (refused_data (pos refusal.at) (pos refusal.code))))
    (limits : (excess : Excess) → IsLimitedOn text excess command → P Limit (line_of (limit_data excess))) where
  told_replies : (f : Fault) (status : Status) (line : List ℕ) → IsFaultOn text command f → TellsFault f status line → P status line
  told_replies (fault.Text refusal) status line reason told = subst (λ s. P s line) (sym told.0) (subst (P Refused) (sym told.1) (refusals refusal reason))
  told_replies (fault.Limit excess) status line over told = subst (λ s. P s line) (sym told.0) (subst (P Limit) (sym told.1) (limits excess over))
  told_replies fault.NoMemory status line none told = absurd told

  pub fault_so : (f : Fault) (result : Result Reply AllocError) → IsFaultOn text command f → IfOk result (λ reply. TellsFault f reply.status (string_bytes reply.line))
      → IfOk result (λ reply. P reply.status (string_bytes reply.line))
  fault_so f (Ok reply) reason told = told_replies f reply.status (string_bytes reply.line) reason told
  fault_so f (Err error) reason told = tt

-- a text that is not taken is taken by no command
pub text_fault : (command : Command) (text : List ℕ) (f : Fault) → IsTextFault text f → IsFaultOn text command f
text_fault command text (fault.Text refusal) reason = by_rule command reason
text_fault command text (fault.Limit excess) over = by_size command over
text_fault command text fault.NoMemory none = tt

-- a text that is solved
solved_text : (text : List ℕ) (stated : AcceptedProblem) → States text stated → IsSolvable (model_in stated) → SolvedText text (problem_in stated)
solved_text text stated states is =
    record { model = model_in stated; spelled = states.spelled; accepted = states.accepted; solvable = is }

-- and shown
pub tree_so : (text : List ℕ) (plan : SearchPlan) (stated : AcceptedProblem) (line : List ℕ) → States text stated → IsSolvable (model_in stated) → line ≡ line_of (tree_data (problem_in stated).decisions (problem_in stated).stochastics)
    → IsTextReply text plan Tree None Done line
tree_so text plan stated line states solvable is =
    subst (λ l. IsTextReply text plan Tree None Done l) (sym is) (scenes (problem_in stated) (solved_text text stated states solvable))

-- or answered
settled_reply : (detail : Detail) (text : List ℕ) (plan : SearchPlan) (stated : AcceptedProblem) (log line : List ℕ) → SolvedText text (problem_in stated)
    → IsSettledBy detail (problem_in stated) plan log line → IsTextReply text plan (Solve detail) (Some log) Done line
settled_reply detail text plan stated log _ is (optimal_line policy value best logged) = optimal detail (problem_in stated) policy value log is best logged
settled_reply detail text plan stated log _ is (infeasible_line none logged) = infeasible detail (problem_in stated) log is none logged

bounded_reply : (detail : Detail) (text : List ℕ) (plan : SearchPlan) (stated : AcceptedProblem) (log line : List ℕ) → SolvedText text (problem_in stated)
    → IsBoundedBy detail (problem_in stated) plan log line → IsTextReply text plan (Solve detail) (Some log) Bounded line
bounded_reply detail text plan stated log _ is (bounded_line found bound known within logged) = bounded detail (problem_in stated) found bound log is known within logged

module _ (detail : Detail) (text : List ℕ) (plan : SearchPlan) (stated : AcceptedProblem) (states : States text stated) (name : List ℕ) (old new : SinkState) where
  -- the reply of an answer
  pub answer_replies : (answer : Answer) → IsSolvable (model_in stated) → Answers detail (problem_in stated) plan name old new answer
      → Replies text plan (Solve detail) name old new (reply_of answer).status (string_bytes (reply_of answer).line)
  answer_replies (Settled line) is answers =
      record {
        log = Some answers.log;
        reply = settled_reply detail text plan stated answers.log (string_bytes line) (solved_text text stated states is) answers.answered;
        logged = answers.wrote;
      }
  answer_replies (Cut line) is answers =
      record {
        log = Some answers.log;
        reply = bounded_reply detail text plan stated answers.log (string_bytes line) (solved_text text stated states is) answers.answered;
        logged = answers.wrote;
      }

  -- where the log's sink failed, or memory ran out behind its begin
  pub cut_so : IsCutOff stated plan name old new → IsCut text plan (Solve detail) name old new
  cut_so cut = record { detail = detail; commanded = refl; problem = problem_in stated; is_solved = solved_text text stated states cut.solvable; wrote = cut.wrote }

  pub cut_stops : (result : Result Reply SearchStop) → IsCutOff stated plan name old new → IfErr result (StopsByCause text plan (Solve detail) name old new)
  cut_stops (Ok reply) cut = tt
  cut_stops (Err stop.Write) cut = cut_so cut
  cut_stops (Err stop.NoMemory) cut = inr (cut_so cut)

  -- the answer that was found
  pub solved_replies : (solved : Result Answer Fault) (answer : Answer) → solved ≡ Ok answer → IfOk solved (λ a. IsSolvable (model_in stated))
      → IfOk solved (Answers detail (problem_in stated) plan name old new) → Replies text plan (Solve detail) name old new (reply_of answer).status (string_bytes (reply_of answer).line)
  solved_replies solved answer is solvable answers =
      answer_replies answer (IfOk-at_ok (λ a. IsSolvable (model_in stated)) is solvable) (IfOk-at_ok (Answers detail (problem_in stated) plan name old new) is answers)

-- where the log's sink is not used
module _ (text : List ℕ) (plan : SearchPlan) (command : Command) (name : List ℕ) (old new : SinkState) (unused : IsUnused old new) where
  pub unlogged_replies : (status : Status) (line : List ℕ) → IsTextReply text plan command None status line → Replies text plan command name old new status line
  unlogged_replies status line is = record { log = None; reply = is; logged = unused }

  pub unlogged_stops : (result : Result Reply SearchStop) → ¬ (result ≡ Err stop.Write) → IfErr result (StopsByCause text plan command name old new)
  unlogged_stops (Ok reply) memory = tt
  unlogged_stops (Err stop.Write) memory = absurd (memory refl)
  unlogged_stops (Err stop.NoMemory) memory = inl unused

pub not_used : (at : SinkState) → IsUnused at at
not_used at = record { taken = refl; names = refl }

-- a text that is not solved, for this fault
pub unsolved_so : (command : Command) (text : List ℕ) (stated : AcceptedProblem) (f : Fault) → States text stated → IsSolveFault (model_in stated) f → IsFaultOn text command f
unsolved_so command text stated (fault.Text refusal) states is = absurd is
unsolved_so command text stated (fault.Limit excess) states is =
    by_terms command (record { model = model_in stated; spelled = states.spelled; accepted = states.accepted; large = is })
unsolved_so command text stated fault.NoMemory states is = tt
