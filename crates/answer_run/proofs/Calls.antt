-- What came of the calls of a run, by what came of those on the way to its reply and of those that write its line.
use Rattle.std.proofs.Common.{◌≡◌, ℕ, List, Option, Result, Ok, Err, IfOk, IfErr, refl, sym, subst, string_bytes}
use Rattle.std.proofs.KnownBytes.{Keeps-refl}
use Rattle.sopl_io.specs.Calls.{Outcomes, AllSucceeded, no_call, StopsWhere}
use Rattle.sopl_io.proofs.Calling.{calls_last, calls_more}
use Rattle.sopl_base.specs.declared.stop.SearchStop.{SearchStop}
use Rattle.sopl_base.specs.declared.stop.SearchStop.TheVariants.{Write}
use Rattle.sopl_base.specs.declared.stop.SearchStop.TheVariants as search
use Rattle.sopl_search.specs.Logged.{SearchPlan}
use Rattle.answer_texts.specs.Logs.{SinkState}
use Rattle.answer_texts.specs.Replies.{Replies}
use Rattle.answer_texts.specs.declared.command.Command.{Command}
use Rattle.answer_texts.specs.declared.reply.Reply.{Reply}
use Rattle.answer_texts.specs.declared.status.Status.{Status}
use Rattle.answer_texts.specs.declared.status.Status.TheVariants.{Usage, WriteFault, NoMemory}
use Rattle.answer_texts.proofs.Ends.{end_status, reply_ends}
use Rattle.answer_run.specs.Calls.{calls_of, TellsReadFault, told_so, not_told, no_memory, EndsAtFailure, none_failed, read_failed, log_failed, answer_failed}
use Rattle.answer_run.specs.Calls.{ReplyCalls, calls_succeed, source_fails, log_fails, LineCalls, line_taken, line_cut}
use Rattle.answer_run.specs.Runs.{stop_status}

module _ (source_before source_now log_before log_now : Outcomes) where
  -- a reply to words that are not of the form
  pub usage_calls : (result : Result Reply SearchStop) → IfOk result (λ reply. reply.status ≡ Usage) → IfErr result (λ stop. stop ≡ search.NoMemory)
      → ReplyCalls source_before source_before log_before log_before result
  usage_calls (Ok reply) status memory = calls_succeed no_call no_call (λ e. cc) (λ e. cc)
  usage_calls (Err stop) status memory = calls_succeed no_call no_call (λ e. cc) tt

  -- no reply, since there was no memory for the text
  pub unread_calls : AllSucceeded source_before source_now → ReplyCalls source_before source_now log_before log_before (Err search.NoMemory)
  unread_calls all = calls_succeed all no_call (λ e. cc) tt

  -- one behind calls that succeeded
  pub calls_behind : (source_later : Outcomes) (result : Result Reply SearchStop) → AllSucceeded source_before source_later
      → ReplyCalls source_later source_now log_before log_now result → ReplyCalls source_before source_now log_before log_now result
  calls_behind source_later result all (calls_succeed source log no_write no_read) = calls_succeed (calls_more source_before source_later source_now all source) log no_write no_read
  calls_behind source_later result all (source_fails last log no_write is) = source_fails (calls_last source_before source_later source_now all last) log no_write is
  calls_behind source_later result all (log_fails source last is) = log_fails (calls_more source_before source_later source_now all source) last is

  -- one to a text
  pub text_calls : (text : List ℕ) (plan : SearchPlan) (command : Command) (name : List ℕ) (old new : SinkState) (result : Result Reply SearchStop) → AllSucceeded source_before source_now
      → StopsWhere (result ≡ Err Write) log_before log_now → IfOk result (λ reply. Replies text plan command name old new reply.status (string_bytes reply.line))
      → ReplyCalls source_before source_now log_before log_now result
  text_calls text plan command name old new (Ok reply) all stops is =
      calls_succeed all (stops.all (λ e. cc)) (λ e. cc)
      (end_status text plan.budget command reply.status (reply_ends text plan command is.log reply.status (string_bytes reply.line) is.reply)).no_read
  text_calls text plan command name old new (Err Write) all stops is = log_fails all (stops.last refl) refl
  text_calls text plan command name old new (Err search.NoMemory) all stops is = calls_succeed all (stops.all (λ e. cc)) (λ e. cc) tt

  module _ (answer_before answer_now : Outcomes) (old new : Option (List ℕ)) where
    -- a run whose reply was written, or a prefix of it
    pub run_calls : (reply : Reply) (status : Status) → ReplyCalls source_before source_now log_before log_now (Ok reply) → ¬ (reply.status ≡ WriteFault)
        → LineCalls answer_before answer_now reply status
        → EndsAtFailure (calls_of source_before log_before answer_before) (calls_of source_now log_now answer_now) old new status
    run_calls reply _ (calls_succeed source log no_write no_read) meant (line_taken taken) = none_failed reply.status no_read meant source log taken
    run_calls reply _ (calls_succeed source log no_write no_read) meant (line_cut last) = answer_failed source log last
    run_calls reply _ (source_fails source log no_write is) meant (line_taken taken) =
        read_failed reply.status source log (subst (TellsReadFault answer_before answer_now) (sym is) (told_so taken))
    run_calls reply _ (source_fails source log no_write is) meant (line_cut last) = read_failed WriteFault source log (not_told last)
    run_calls reply status (log_fails source log is) meant line = absurd (cc)

  -- a run that has no reply
  pub stop_calls : (answer : Outcomes) (taken : Option (List ℕ)) (stop : SearchStop) (status : Status) → status ≡ stop_status stop
      → ReplyCalls source_before source_now log_before log_now (Err stop)
      → EndsAtFailure (calls_of source_before log_before answer) (calls_of source_now log_now answer) taken taken status
  stop_calls answer taken Write status is calls =
      subst (EndsAtFailure (calls_of source_before log_before answer) (calls_of source_now log_now answer) taken taken) (sym is) (by_calls calls)
    where
      by_calls : ReplyCalls source_before source_now log_before log_now (Err Write)
          → EndsAtFailure (calls_of source_before log_before answer) (calls_of source_now log_now answer) taken taken WriteFault
      by_calls (calls_succeed source log no_write no_read) = absurd (no_write refl)
      by_calls (source_fails source log no_write is) = absurd (no_write refl)
      by_calls (log_fails source log is) = log_failed source log refl (Keeps-refl taken)
  stop_calls answer taken search.NoMemory status is calls =
      subst (EndsAtFailure (calls_of source_before log_before answer) (calls_of source_now log_now answer) taken taken) (sym is) (by_calls calls)
    where
      by_calls : ReplyCalls source_before source_now log_before log_now (Err search.NoMemory)
          → EndsAtFailure (calls_of source_before log_before answer) (calls_of source_now log_now answer) taken taken NoMemory
      by_calls (calls_succeed source log no_write no_read) = none_failed NoMemory (λ e. cc) (λ e. cc) source log no_call
      by_calls (source_fails source log no_write is) = read_failed NoMemory source log (no_memory refl)
      by_calls (log_fails source log is) = absurd (cc)
