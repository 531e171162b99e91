-- What a run knows on its way to a status.
use Rattle.std.specs.Prelude.{◌≡◌, ◌⊎◌, ℕ, codes, List, Option, None, Result, Ok, Err, IfSome, string_bytes}
use Rattle.std.specs.Io.KnownBytes.{Appends}
use Rattle.sopl_io.specs.Causes.{Rose}
use Rattle.sopl_io.specs.Stock.{Stock, text_of, with_name}
use Rattle.sopl_io.specs.Rests.{LeavesRest}
use Rattle.sopl_io.specs.Transfer.{AppendsPrefix}
use Rattle.sopl_base.specs.declared.stop.SearchStop.{SearchStop}
use Rattle.sopl_base.specs.declared.stop.SearchStop.TheVariants.{Write, NoMemory}
use Rattle.answer_lines.specs.AnswerData.{line_of, word_data}
use Rattle.answer_texts.specs.Logs.{IsUnused, SinkState}
use Rattle.answer_texts.specs.Replies.{Logged}
use Rattle.answer_texts.specs.declared.reply.Reply.{Reply}
use Rattle.answer_texts.specs.declared.status.Status.{Status}
use Rattle.answer_texts.specs.declared.status.Status.TheVariants as status
use Rattle.answer_texts.specs.Away.{IsTurnedAway}
use Rattle.answer_run.specs.declared.commands.PairCommand.{PairCommand}
use Rattle.answer_run.specs.Words.{Request}
use Rattle.answer_run.specs.Replies.{IsAnswered, IsCutOff, IsPairReply, IsReply, IsTaken, log_name}

-- a reply to what is asked for, and what the log's sink took
pub record Replied (wanted : Option Request) (stock : Option Stock) (before now : ℕ) (old new : SinkState) (reply : Reply) : Type 0 where
  pub log : Option (List ℕ)
  pub is : IsReply wanted stock before now log reply.status (string_bytes reply.line)
  pub logged : Logged (log_name wanted) log old new

-- why there is no reply to it
abbrev pub StopsWith : Option Request → Option Stock → SinkState → SinkState → SearchStop → Type 0
StopsWith wanted stock old new Write = IsCutOff wanted stock old new
StopsWith wanted stock old new NoMemory = IsUnused old new ⊎ IsCutOff wanted stock old new

-- the line of a reply was written, or a prefix of it where the sink failed; the counts are those of its faults
pub data IsWritten (old new : Option (List ℕ)) (before now : ℕ) (reply : Reply) : Status → Type 0 where
  all : Appends old new (string_bytes reply.line) → IsWritten old new before now reply reply.status
  part : Rose before now → AppendsPrefix old new (string_bytes reply.line) → IsWritten old new before now reply status.WriteFault

-- how a run ends that has no reply
abbrev pub stop_status : SearchStop → Status
stop_status Write = status.WriteFault
stop_status NoMemory = status.NoMemory

-- how a run ends behind what came of its reply
abbrev pub meant_status : Result Reply SearchStop → Status
meant_status (Ok reply) = reply.status
meant_status (Err stop) = stop_status stop

-- what a command answers of a text, where the stock of the source gives the bytes of the second file: the reply to both, or that the source failed
pub data AnswersBoth (command : PairCommand) (text name : List ℕ) (stock : Option Stock) (before now : ℕ) : Status → List ℕ → Type 0 where
  second_read : (bytes : List ℕ) (ended : Status) (line : List ℕ) → IfSome stock (λ s. bytes ≡ text_of s name) → IsPairReply command text bytes ended line
      → AnswersBoth command text name stock before now ended line
  second_unread : Rose before now → AnswersBoth command text name stock before now status.ReadFault (line_of (word_data (codes "read fault")))

-- what the source has left behind a command on two files: what it had where no second file was read, and else an end of the bytes of that
abbrev pub LeavesSecond : List ℕ → Option Stock → ℕ → ℕ → Option (List ℕ) → Option (List ℕ) → Type 0
LeavesSecond name stock before now old new = ((new ≡ old) × (now ≡ before)) ⊎ IfSome stock (λ s. LeavesRest None (text_of s name) before now new)

-- the names with which the source was begun behind such a command that means this status: none more, where the status does not come of the second file; or that
-- of the second file, where the command takes the text, and the status does not come of a text that is turned away
pub data BeginsSecond (command : PairCommand) (text name : List ℕ) (old new : Option (List (List ℕ))) (meant : Status) : Type 0 where
  second_not_begun : new ≡ old → ¬ IsAnswered meant → BeginsSecond command text name old new meant
  second_begun : IsTaken command text → new ≡ with_name old name → ¬ IsTurnedAway meant → BeginsSecond command text name old new meant
