-- Which reply goes with which words and why, and what the sinks took of it and of its log.
use Rattle.std.specs.Prelude.{◌≡◌, ◌⊎◌, ℕ, ◌≤◌, Bool, true, false, codes, List, [], Option, Some, None, IfSome, option_map, if◌then◌else◌}
use Rattle.std.specs.Io.KnownBytes.{Keeps, Appends}
use Rattle.std.specs.Option.{option_and_then, option_map_or}
use Rattle.sopl_io.specs.Causes.{Rose}
use Rattle.sopl_io.specs.Stock.{Stock, begun_stock, text_of, with_name}
use Rattle.sopl_io.specs.Transfer.{AppendsPrefix}
use Rattle.sopl_base.specs.declared.fault.Excess.{Excess}
use Rattle.sopl_base.specs.declared.fault.Refusal.{Refusal}
use Rattle.sopl_ast.specs.Instances.{Problem}
use Rattle.model_gen.specs.Texts.{generated_text}
use Rattle.answer_texts.specs.Solved.{SolvedText}
use Rattle.answer_lines.specs.AnswerData.{word_data, line_of}
use Rattle.answer_texts.specs.Logs.{IsUnused, SinkState, most_nodes}
use Rattle.answer_texts.specs.Replies.{Ends, settled, IsLimitedOn, IsRefusedOn, IsTextReply, IsCut, Logged}
use Rattle.answer_texts.specs.declared.command.Command.{Command}
use Rattle.answer_texts.specs.declared.command.Command.TheVariants.{Solve, Tree}
use Rattle.answer_texts.specs.declared.command.Detail.TheVariants.{Full, Summary}
use Rattle.answer_texts.specs.declared.status.Status.{Status}
use Rattle.answer_texts.specs.declared.status.Status.TheVariants.{Done, Failing, Usage, Bounded, ReadFault, WriteFault, NoMemory, Unreadable}
use Rattle.answer_texts.specs.Away.{IsTurnedAway}
use Rattle.answer_check.specs.CheckReplies.{IsCheckReply}
use Rattle.answer_eval.specs.EvalReplies.{IsEvalReply}
use Rattle.answer_run.specs.declared.commands.Job.{Job}
use Rattle.answer_run.specs.declared.commands.Job.TheVariants.{Text, Pair, Drawn}
use Rattle.answer_run.specs.declared.commands.PairCommand.{PairCommand}
use Rattle.answer_run.specs.declared.commands.PairCommand.TheVariants.{Check, Eval}
use Rattle.answer_run.specs.declared.commands.DrawnCommand.TheVariants.{Gen, Demo}
use Rattle.answer_run.specs.States.{RunState}
use Rattle.answer_run.specs.Words.{Request, is_drawn, reads_files}

-- this is asked for, and this is the text of the model's file: the one that the source's stock gives for it, where the stock is told
pub record IsModelText (request : Request) (wanted : Option Request) (stock : Option Stock) (text : List ℕ) : Type 0 where
  pub asked : wanted ≡ Some request
  pub given : IfSome stock (λ s. text ≡ text_of s request.model)

-- and these are the bytes of the second file: those that the stock gives for it behind the model's, where the stock is told
abbrev pub AreSecondBytes : Request → Option Stock → List ℕ → Type 0
AreSecondBytes request stock bytes = IfSome stock (λ s. bytes ≡ text_of (begun_stock s) request.second)

-- a reply to a command on the text of a model and the bytes of a second file: the status that it ends with, and its line
abbrev pub IsPairReply : PairCommand → List ℕ → List ℕ → Status → List ℕ → Type 0
IsPairReply Check text bytes status line = IsCheckReply text bytes status line
IsPairReply Eval text bytes status line = IsEvalReply text bytes status line

-- a reply to what is asked for, if anything is: the log that goes with it, the status that it ends with, its line, and why it comes; the stock is the source's, and the counts
-- are those of its faults
pub data IsReply (wanted : Option Request) (stock : Option Stock) (before now : ℕ) : Option (List ℕ) → Status → List ℕ → Type 0 where
  -- a reply to the command on the text of the file that is asked for
  replied : (request : Request) (command : Command) (text : List ℕ) (log : Option (List ℕ)) (status : Status) (line : List ℕ) → request.job ≡ Text command
      → IsModelText request wanted stock text → IsTextReply text request.plan command log status line → IsReply wanted stock before now log status line
  -- a reply to the command on the text of the model's file and the bytes of the second file; no log goes with it
  replied_on_both : (request : Request) (command : PairCommand) (text bytes : List ℕ) (status : Status) (line : List ℕ) → request.job ≡ Pair command
      → IsModelText request wanted stock text → AreSecondBytes request stock bytes → IsPairReply command text bytes status line
      → IsReply wanted stock before now None status line
  -- the text that is drawn; no log goes with it
  generated : (request : Request) → wanted ≡ Some request → request.job ≡ Drawn Gen
      → IsReply wanted stock before now None Done (generated_text request.stages request.seed)
  -- a summary of a search of the text that is drawn
  demonstrated : (request : Request) (log : Option (List ℕ)) (status : Status) (line : List ℕ) → wanted ≡ Some request → request.job ≡ Drawn Demo
      → IsTextReply (generated_text request.stages request.seed) request.plan (Solve Summary) log status line → IsReply wanted stock before now log status line
  -- nothing is asked for: the words are not of the form
  usage : wanted ≡ None → IsReply wanted stock before now None Usage (line_of (word_data (codes "usage")))
  -- a file is asked for, and the source failed
  read_fault : reads_files wanted ≡ true → Rose before now → IsReply wanted stock before now None ReadFault (line_of (word_data (codes "read fault")))

-- the name of the log that is asked for
abbrev pub log_name : Option Request → List ℕ
log_name wanted = option_map_or (λ (r : Request). r.log) wanted []

-- a search of a text that is solved is asked for, of a file's or of one that is drawn, and the log's sink was begun with the log's name and took a prefix of a log
pub data IsCutOff (wanted : Option Request) (stock : Option Stock) (old new : SinkState) : Type 0 where
  cut_off : (request : Request) (command : Command) (text : List ℕ) → request.job ≡ Text command → IsModelText request wanted stock text
      → IsCut text request.plan command request.log old new → IsCutOff wanted stock old new
  demo_cut_off : (request : Request) → wanted ≡ Some request → request.job ≡ Drawn Demo
      → IsCut (generated_text request.stages request.seed) request.plan (Solve Summary) request.log old new → IsCutOff wanted stock old new

-- what the answer's sink took, what the log's sink took and was begun with, and the status after it, by the states before and after the run
pub data Answers (wanted : Option Request) (old new : RunState) : Status → Type 0 where
  -- the whole line of a reply with this status, and the log that goes with it
  whole : (log : Option (List ℕ)) (status : Status) (line : List ℕ)
      → IsReply wanted old.source.stock old.source.faults new.source.faults log status line
      → Appends old.answer.state.taken new.answer.state.taken line → Logged (log_name wanted) log old.log.state new.log.state
      → Answers wanted old new status
  -- a prefix of the line of some reply, where the answer's sink failed, and the log that goes with it
  prefix : (log : Option (List ℕ)) (meant : Status) (line : List ℕ) → Rose old.answer.faults new.answer.faults
      → IsReply wanted old.source.stock old.source.faults new.source.faults log meant line
      → AppendsPrefix old.answer.state.taken new.answer.state.taken line
      → Logged (log_name wanted) log old.log.state new.log.state → Answers wanted old new WriteFault
  -- no answer, and a prefix of a log, where the log's sink failed
  log_prefix : Rose old.log.faults new.log.faults → Keeps old.answer.state.taken new.answer.state.taken
      → IsCutOff wanted old.source.stock old.log.state new.log.state → Answers wanted old new WriteFault
  -- no answer, and no log or a prefix of one, where memory ran out
  nothing : Keeps old.answer.state.taken new.answer.state.taken
      → IsUnused old.log.state new.log.state ⊎ IsCutOff wanted old.source.stock old.log.state new.log.state
      → Answers wanted old new NoMemory

-- what is done on what, the text of the model, the bytes of the second file, and how many nodes a search may finish
pub record Asked : Type 0 where
  pub job : Job
  pub text : List ℕ
  pub second : List ℕ
  pub budget : ℕ

-- the text that is drawn, or the one that the stock gives for the model's file, where it is told; and the bytes that it gives for the second file behind that
abbrev pub asked_text : Option Stock → Request → Option (List ℕ)
asked_text stock r = if is_drawn r.job then Some (generated_text r.stages r.seed) else option_map (λ s. text_of s r.model) stock

abbrev pub second_given : Option Stock → Request → List ℕ
second_given stock r = option_map_or (λ s. text_of (begun_stock s) r.second) stock []

-- what is asked for, where anything is: of a text that is drawn, or of files of which the source tells its stock
abbrev pub asked_on : Request → List ℕ → List ℕ → Asked
asked_on r text second = record { job = r.job; text = text; second = second; budget = r.plan.budget }

abbrev pub asked_by : Option Stock → Request → Option Asked
asked_by stock r = option_map (λ text. asked_on r text (second_given stock r)) (asked_text stock r)

abbrev pub asked_in : Option Stock → Option Request → Option Asked
asked_in stock wanted = option_and_then (asked_by stock) wanted

-- the run ended early: the source failed, a sink failed, or memory ran out
abbrev pub EndedEarly : Status → Type 0
EndedEarly status = (status ≡ ReadFault) ⊎ (status ≡ WriteFault) ⊎ (status ≡ NoMemory)

-- the text was answered, or the second file was
abbrev pub IsAnswered : Status → Type 0
IsAnswered status = (status ≡ Done) ⊎ (status ≡ Bounded) ⊎ (status ≡ Failing) ⊎ (status ≡ Unreadable)

-- how a job ends: as the command ends on the text, as some reply to the command on the text and the second file ends, or with the text that is drawn
abbrev pub EndsJob : List ℕ → List ℕ → ℕ → Job → Status → Type 0
EndsJob text second budget (Text command) status = Ends text budget command status
EndsJob text second budget (Pair command) status = (line : List ℕ) × IsPairReply command text second status line
EndsJob text second budget (Drawn Gen) status = status ≡ Done
EndsJob text second budget (Drawn Demo) status = Ends text budget (Solve Summary) status

abbrev pub AskedEnds : Asked → Status → Type 0
AskedEnds a status = EndsJob a.text a.second a.budget a.job status

-- a run that did not end early ended as what is asked for ends
abbrev pub EndsSoundly : Option Asked → Status → Type 0
EndsSoundly asked status = IfSome asked (λ a. EndedEarly status ⊎ AskedEnds a status)

-- and as what is asked for ends a run ends, but that a search may be cut short, unless it ends early
abbrev pub EndsCompletely : Option Asked → Status → Type 0
EndsCompletely asked status =
    IfSome asked (λ a. (end : Status) → AskedEnds a end → (settled status ≡ settled end) ⊎ EndedEarly status)

-- a search is made
abbrev pub is_search : Job → Bool
is_search (Text (Solve detail)) = true
is_search (Text Tree) = false
is_search (Pair command) = false
is_search (Drawn Gen) = false
is_search (Drawn Demo) = true

-- with a budget of as many nodes as a search may have, it is not cut short
abbrev pub SettlesInBudget : Option Asked → Status → Type 0
SettlesInBudget asked status =
    IfSome asked (λ a. is_search a.job ≡ true → (problem : Problem) → SolvedText a.text problem → most_nodes problem ≤ a.budget → (status ≡ Done) ⊎ EndedEarly status)

-- the command on a text that takes the same texts: a second file is read beside those that are solved, and a text that is drawn is to be solved
abbrev pub taking : Job → Command
taking (Text command) = command
taking (Pair command) = Solve Full
taking (Drawn command) = Solve Summary

-- what is asked for is refused by one code at one place
abbrev pub RefusedOnce : Option Asked → Type 0
RefusedOnce asked =
    IfSome asked (λ a. (one other : Refusal) → IsRefusedOn a.text one (taking a.job) → IsRefusedOn a.text other (taking a.job) → one ≡ other)

-- and passes one limit
abbrev pub LimitedOnce : Option Asked → Type 0
LimitedOnce asked =
    IfSome asked (λ a. (one other : Excess) → IsLimitedOn a.text one (taking a.job) → IsLimitedOn a.text other (taking a.job) → one ≡ other)

-- the text is one whose second file is read: it states a problem that is solved
abbrev pub IsTaken : PairCommand → List ℕ → Type 0
IsTaken command text = (problem : Problem) × SolvedText text problem

-- the names with which a source was begun before and after a run that ended with a status: once with the file of the model, where there is one, and behind it
-- once with the second file, where the command has one and takes the text; each status that comes of a second file comes behind the begin of that file
pub data BeginsFiles (stock : Option Stock) (old new : Option (List (List ℕ))) : Option Request → Status → Type 0 where
  no_file : (request : Option Request) (status : Status) → reads_files request ≡ false → new ≡ old → BeginsFiles stock old new request status
  model_alone : (request : Request) (status : Status) → is_drawn request.job ≡ false → new ≡ with_name old request.model
      → ((command : PairCommand) → request.job ≡ Pair command → ¬ IsAnswered status) → BeginsFiles stock old new (Some request) status
  model_and_second : (request : Request) (command : PairCommand) (status : Status) → request.job ≡ Pair command
      → IfSome stock (λ s. IsTaken command (text_of s request.model)) → new ≡ with_name (with_name old request.model) request.second → ¬ IsTurnedAway status
      → BeginsFiles stock old new (Some request) status

-- a search is asked for
abbrev pub makes_search : Option Request → Bool
makes_search None = false
makes_search (Some r) = is_search r.job

-- the text that is asked for is solved
abbrev pub AskedIsSolved : Asked → Type 0
AskedIsSolved a = (problem : Problem) × SolvedText a.text problem

-- the names with which the log's sink was begun before and after a run that ended with a status: once with the log's name, which is empty
-- where none is given, if a search is asked for and its text is solved; and else not
pub data BeginsLog (wanted : Option Request) (old new : RunState) (status : Status) : Type 0 where
  no_search : makes_search wanted ≡ false → new.log.state.names ≡ old.log.state.names → BeginsLog wanted old new status
  -- the text, where it is told, is solved; there is an answer, a sink failed, or memory ran out
  log_begun : makes_search wanted ≡ true → IfSome (asked_in old.source.stock wanted) AskedIsSolved
      → new.log.state.names ≡ with_name old.log.state.names (log_name wanted)
      → IsAnswered status ⊎ (status ≡ WriteFault) ⊎ (status ≡ NoMemory) → BeginsLog wanted old new status
  -- it is not, or the source failed, or memory ran out; and there is no answer
  log_not_begun : makes_search wanted ≡ true → new.log.state.names ≡ old.log.state.names
      → IfSome (asked_in old.source.stock wanted) (λ a. ¬ AskedIsSolved a) ⊎ Rose old.source.faults new.source.faults ⊎ (status ≡ NoMemory)
      → IsTurnedAway status ⊎ EndedEarly status → BeginsLog wanted old new status

-- a source gives what it gave before, and has not failed since: the bytes that are left, its stock, its count of faults
abbrev pub IsUntouched : Option (List ℕ) → Option Stock → ℕ → Option (List ℕ) → Option Stock → ℕ → Type 0
IsUntouched old_left old_stock old_faults left stock faults = (left ≡ old_left) × (stock ≡ old_stock) × (faults ≡ old_faults)
