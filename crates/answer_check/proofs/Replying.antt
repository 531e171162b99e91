-- From what is found out of a text and a log to the reply.
use Rattle.std.proofs.Common.{◌≡◌, ◌∙◌, inl, inr, ℕ, ℤ, pos, List, Result, Ok, Err, IfOk, IfErr, string_bytes, sym, ap, subst}
use Rattle.std.specs.declared.alloc.AllocError.{AllocError}
use Rattle.sopl_base.specs.declared.fault.Fault.{Fault}
use Rattle.sopl_base.specs.declared.fault.Refusal.{Refusal}
use Rattle.sopl_ast.specs.Instances.{Problem}
use Rattle.sopl_ast.specs.Optimal.{denominator}
use Rattle.sopl_ast.specs.Unfolding.{problem_of}
use Rattle.sopl_ast.specs.Whole.{ModelTree}
use Rattle.box_problem.specs.BoxProblem.{BoxProblem}
use Rattle.log_rows.specs.declared.rows.Row.{Row}
use Rattle.log_rows.specs.declared.rows.Footer.{Footer}
use Rattle.term_problem.specs.Problems.{denominator_in}
use Rattle.term_program.specs.Programs.{problem_in as terms_in}
use Rattle.term_program.specs.Stated.{box_problem_of}
use Rattle.term_program.specs.declared.program.Program.{Program}
use Rattle.compile_laws.specs.WellMade.{IsUnfolded}
use Rattle.log_tree.specs.Reads.{IsReading, read, refused}
use Rattle.log_check.specs.Verdicts.{IsVerdict}
use Rattle.log_check.specs.declared.verdict.Verdict.{Verdict}
use Rattle.log_check.specs.declared.verdict.Verdict.TheVariants.{Accepted, Rejected}
use Rattle.scen_accept.proofs.NamesFormed.{model_from_tokens}
use Rattle.scen_accept.specs.Stated.{States, model_in, problem_in}
use Rattle.scen_accept.specs.declared.accepted.AcceptedProblem.{AcceptedProblem}
use Rattle.answer_lines.specs.AnswerData.{line_of}
use Rattle.answer_texts.specs.Away.{IsTurnedAway}
use Rattle.answer_texts.specs.Models.{IsSolvable}
use Rattle.answer_texts.specs.Logs.{searched_problem}
use Rattle.answer_texts.specs.Replies.{IsFaultOn}
use Rattle.answer_texts.specs.Solved.{SolvedText}
use Rattle.answer_texts.specs.Solving.{IsProgramOf, IsSolveFault}
use Rattle.answer_texts.specs.declared.command.Command.TheVariants.{Solve}
use Rattle.answer_texts.specs.declared.command.Detail.TheVariants.{Full}
use Rattle.answer_texts.specs.declared.reply.Reply.{Reply}
use Rattle.answer_texts.specs.declared.status.Status.{Status}
use Rattle.answer_texts.specs.declared.status.Status.TheVariants.{Done, Failing, Limit, Refused, Unreadable}
use Rattle.answer_texts.proofs.Answered.{unsolved_so}
use Rattle.answer_texts.proofs.Printing.{same_denominator}
use Rattle.answer_check.specs.CheckData.{unreadable_data}
use Rattle.answer_check.specs.CheckReplies.{IsLogReply, accepted, rejected, unreadable, IsCheckReply, checked, IsProgramFor}
use Rattle.answer_check.specs.Verdicts.{status_of, verdict_data}
use Rattle.answer_check.proofs.Claiming.{claims_are_true, searched_is}

module _ (model : ModelTree) (program : Program) (unfolded : IsUnfolded model) (is : IsProgramOf (problem_of model) program) (bytes : List ℕ) (rows : List Row) (claim : Footer)
    (reads : IsReading bytes (read rows claim)) where
  abbrev own : Problem
  own = problem_of model

  moved : (verdict : Verdict) → IsVerdict (box_problem_of program) rows claim verdict → IsVerdict (searched_problem own) rows claim verdict
  moved verdict = subst (λ (p : BoxProblem). IsVerdict p rows claim verdict) (searched_is own program is)

  by_verdict : (verdict : Verdict) → IsVerdict (searched_problem own) rows claim verdict
      → IsLogReply own bytes (status_of verdict) (line_of (verdict_data claim (denominator own) verdict))
  by_verdict Accepted known = accepted rows claim reads known (claims_are_true model rows claim unfolded known)
  by_verdict (Rejected node line) known = rejected rows claim node line reads known

  -- the reply of a verdict
  pub verdict_replies : (verdict : Verdict) (result : Result Reply AllocError) → IsVerdict (box_problem_of program) rows claim verdict
      → IfOk result (λ reply. reply.status ≡ status_of verdict)
      → IfOk result (λ reply. string_bytes reply.line ≡ line_of (verdict_data claim (denominator_in (terms_in program)) verdict))
      → IfOk result (λ reply. IsLogReply own bytes reply.status (string_bytes reply.line))
  verdict_replies verdict (Ok reply) known ends written =
      subst (λ s. IsLogReply own bytes s (string_bytes reply.line)) (sym ends)
      (subst (λ l. IsLogReply own bytes (status_of verdict) l)
      (sym (written ∙ ap (λ (d : ℤ). line_of (verdict_data claim d verdict)) (same_denominator own program is)))
      (by_verdict verdict (moved verdict known)))
  verdict_replies verdict (Err error) known ends written = tt

-- bytes that are no log
pub unreadable_so : (problem : Problem) (bytes line : List ℕ) (mistake : Refusal) → IsReading bytes (refused mistake.code mistake.at)
    → line ≡ line_of (unreadable_data (pos mistake.at) (pos mistake.code)) → IsLogReply problem bytes Unreadable line
unreadable_so problem bytes line mistake reads is = subst (λ l. IsLogReply problem bytes Unreadable l) (sym is) (unreadable mistake.code mistake.at reads)

-- a text with its program
pub program_made : (text : List ℕ) (stated : AcceptedProblem) (result : Result Program Fault) → States text stated
    → IfOk result (λ program. IsSolvable (model_in stated)) → IfOk result (IsProgramOf (problem_in stated)) → IfOk result (IsProgramFor text)
program_made text stated (Ok program) states is of =
    record {
      problem = problem_in stated;
      is_solved = record { model = model_in stated; spelled = states.spelled; accepted = states.accepted; solvable = is };
      is_program = of;
    }
program_made text stated (Err fault) states is of = tt

-- and one that is not solved
pub unsolved_told : (text : List ℕ) (stated : AcceptedProblem) (result : Result Program Fault) → States text stated → IfErr result (IsSolveFault (model_in stated))
    → IfErr result (IsFaultOn text (Solve Full))
unsolved_told text stated (Ok program) states is = tt
unsolved_told text stated (Err fault) states is = unsolved_so (Solve Full) text stated fault states is

-- the reply to the log of a text with this program
log_of_program : (text log : List ℕ) (program : Program) (reply : Reply) (is : IsProgramFor text program)
    → ((model : ModelTree) → IsUnfolded model → IsProgramOf (problem_of model) program → IsLogReply (problem_of model) log reply.status (string_bytes reply.line))
    → IsLogReply is.problem log reply.status (string_bytes reply.line)
log_of_program text log program reply is replies =
    let solved : SolvedText text is.problem = is.is_solved in
    subst (λ (p : Problem). IsLogReply p log reply.status (string_bytes reply.line)) solved.accepted.stated
    (replies solved.model
    (record { from = model_from_tokens text solved.model solved.spelled; typed = solved.accepted.typed; passes = solved.accepted.unfolded })
    (subst (λ (p : Problem). IsProgramOf p program) (sym solved.accepted.stated) is.is_program))

pub program_replies : (text log : List ℕ) (program : Program) (result : Result Reply AllocError) (is : IsProgramFor text program)
    → ((model : ModelTree) → IsUnfolded model → IsProgramOf (problem_of model) program
    → IfOk result (λ reply. IsLogReply (problem_of model) log reply.status (string_bytes reply.line)))
    → IfOk result (λ reply. IsCheckReply text log reply.status (string_bytes reply.line))
program_replies text log program (Ok reply) is replies =
    checked is.problem reply.status (string_bytes reply.line) is.is_solved (log_of_program text log program reply is replies)
program_replies text log program (Err error) is replies = tt

-- no such reply tells of the text
not_away : (status : Status) → ¬ (status ≡ Refused) → ¬ (status ≡ Limit) → ¬ IsTurnedAway status
not_away status other another (inl is) = other is
not_away status other another (inr is) = another is

log_judged : (problem : Problem) (log : List ℕ) (status : Status) (line : List ℕ) → IsLogReply problem log status line → ¬ IsTurnedAway status
log_judged problem log _ _ (accepted rows claim reads right true_of) = not_away Done (λ e. cc) (λ e. cc)
log_judged problem log _ _ (rejected rows claim node at reads wrong) = not_away Failing (λ e. cc) (λ e. cc)
log_judged problem log _ _ (unreadable code at mistaken) = not_away Unreadable (λ e. cc) (λ e. cc)

pub program_judged : (text log : List ℕ) (program : Program) (result : Result Reply AllocError) (is : IsProgramFor text program)
    → ((model : ModelTree) → IsUnfolded model → IsProgramOf (problem_of model) program
    → IfOk result (λ reply. IsLogReply (problem_of model) log reply.status (string_bytes reply.line)))
    → IfOk result (λ reply. ¬ IsTurnedAway reply.status)
program_judged text log program (Ok reply) is replies =
    log_judged is.problem log reply.status (string_bytes reply.line) (log_of_program text log program reply is replies)
program_judged text log program (Err error) is replies = tt
