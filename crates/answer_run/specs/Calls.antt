-- What came of the calls of the source and of both sinks in a run: none follows one that failed, but those that tell of a read that failed.
use Rattle.std.specs.Prelude.{◌≡◌, ℕ, List, Option, Result, Err, IfOk}
use Rattle.std.specs.Io.KnownBytes.{Keeps}
use Rattle.sopl_io.specs.Calls.{Outcomes, AllSucceeded, LastFailed}
use Rattle.sopl_base.specs.declared.stop.SearchStop.{SearchStop}
use Rattle.sopl_base.specs.declared.stop.SearchStop.TheVariants.{Write}
use Rattle.answer_texts.specs.declared.reply.Reply.{Reply}
use Rattle.answer_texts.specs.declared.status.Status.{Status}
use Rattle.answer_texts.specs.declared.status.Status.TheVariants.{ReadFault, WriteFault, NoMemory}

-- what came of the calls of the source, of the log's sink and of the answer's sink, of each where it is told
pub record RunCalls : Type 0 where
  pub source : Outcomes
  pub log : Outcomes
  pub answer : Outcomes

abbrev pub calls_of : Outcomes → Outcomes → Outcomes → RunCalls
calls_of source log answer = record { source = source; log = log; answer = answer }

-- behind a read that failed: the line that tells so was written, its write failed, or there was no memory for it
pub data TellsReadFault (before now : Outcomes) : Status → Type 0 where
  told_so : AllSucceeded before now → TellsReadFault before now ReadFault
  not_told : LastFailed before now → TellsReadFault before now WriteFault
  no_memory : now ≡ before → TellsReadFault before now NoMemory

-- the calls, what the answer's sink took, and the status after it
pub data EndsAtFailure (before now : RunCalls) (old new : Option (List ℕ)) : Status → Type 0 where
  -- no call failed
  none_failed : (status : Status) → ¬ (status ≡ ReadFault) → ¬ (status ≡ WriteFault) → AllSucceeded before.source now.source → AllSucceeded before.log now.log
      → AllSucceeded before.answer now.answer → EndsAtFailure before now old new status
  -- the source's last call failed; the log's sink is not called, and the answer's sink is to tell of it alone
  read_failed : (status : Status) → LastFailed before.source now.source → now.log ≡ before.log → TellsReadFault before.answer now.answer status
      → EndsAtFailure before now old new status
  -- the last call of the log's sink failed; the answer's sink is not called, and takes nothing
  log_failed : AllSucceeded before.source now.source → LastFailed before.log now.log → now.answer ≡ before.answer → Keeps old new
      → EndsAtFailure before now old new WriteFault
  -- the last call of the answer's sink failed
  answer_failed : AllSucceeded before.source now.source → AllSucceeded before.log now.log → LastFailed before.answer now.answer
      → EndsAtFailure before now old new WriteFault

-- the calls on the way to a reply
pub data ReplyCalls (source_before source_now log_before log_now : Outcomes) (result : Result Reply SearchStop) : Type 0 where
  calls_succeed : AllSucceeded source_before source_now → AllSucceeded log_before log_now → ¬ (result ≡ Err Write) → IfOk result (λ reply. ¬ (reply.status ≡ ReadFault))
      → ReplyCalls source_before source_now log_before log_now result
  source_fails : LastFailed source_before source_now → log_now ≡ log_before → ¬ (result ≡ Err Write) → IfOk result (λ reply. reply.status ≡ ReadFault)
      → ReplyCalls source_before source_now log_before log_now result
  log_fails : AllSucceeded source_before source_now → LastFailed log_before log_now → result ≡ Err Write → ReplyCalls source_before source_now log_before log_now result

-- the calls by which the line of a reply is written
pub data LineCalls (before now : Outcomes) (reply : Reply) : Status → Type 0 where
  line_taken : AllSucceeded before now → LineCalls before now reply reply.status
  line_cut : LastFailed before now → LineCalls before now reply WriteFault
