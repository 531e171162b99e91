-- What `run` promises beside what it answers: one field for each fact.
use Rattle.std.specs.Prelude.{◌≡◌, ◌⊎◌, ◌≤◌, ◌+◌, true, false, Option, None}
use Rattle.std.specs.Io.KnownBytes.{IsAtEnd}
use Rattle.sopl_io.specs.Causes.{Rose}
use Rattle.sopl_ast.specs.Tokens.{max_length}
use Rattle.answer_texts.specs.declared.status.Status.{Status}
use Rattle.answer_texts.specs.declared.status.Status.TheVariants.{Usage, ReadFault, WriteFault, NoMemory}
use Rattle.answer_run.specs.Calls.{calls_of, EndsAtFailure}
use Rattle.answer_run.specs.Reads.{TakesAtMost}
use Rattle.answer_run.specs.Replies.{asked_in, SettlesInBudget, EndsSoundly, EndsCompletely, IsAnswered, LimitedOnce, RefusedOnce}
use Rattle.answer_run.specs.Replies.{BeginsFiles, BeginsLog, IsUntouched}
use Rattle.answer_run.specs.States.{RunState}
use Rattle.answer_run.specs.Words.{Request, reads_files}

-- of what is asked for, if anything is, the states before and after the run, and its status
pub record Promises (wanted : Option Request) (old new : RunState) (status : Status) : Type 0 where
  -- words that are not of the form, and no others, are answered `usage`
  pub usage : status ≡ Usage → wanted ≡ None
  pub usage_when : wanted ≡ None → (status ≡ Usage) ⊎ (status ≡ WriteFault) ⊎ (status ≡ NoMemory)
  -- a run ends as its command ends on its text, on its text and its second file, or on the text that is drawn: a text that breaks a rule
  -- is refused, one that passes a limit, itself or in its terms, ends so, and each other one is answered, by `check` and `eval` as the
  -- second file deserves; `solve` answers with a bound where the budget ends the search
  pub ends : EndsSoundly (asked_in old.source.stock wanted) status
  pub ends_when : EndsCompletely (asked_in old.source.stock wanted) status
  pub enough : SettlesInBudget (asked_in old.source.stock wanted) status
  -- a text is refused by one code at one place, and passes one limit
  pub refused_once : RefusedOnce (asked_in old.source.stock wanted)
  pub limited_once : LimitedOnce (asked_in old.source.stock wanted)
  -- where files are read, a text that is answered was read to its end, and a second file too
  pub ended : reads_files wanted ≡ true → IsAnswered status → IsAtEnd new.source.left
  -- of the model's text one byte more is taken than a text may have, at most; a second file has no limit
  pub taken_at_most : TakesAtMost (max_length + 1) (asked_in old.source.stock wanted) old.source.faults new.source.faults new.source.left
  -- faults have their causes
  pub read : status ≡ ReadFault → Rose old.source.faults new.source.faults
  pub read_of_files : status ≡ ReadFault → reads_files wanted ≡ true
  pub write : status ≡ WriteFault → Rose old.answer.faults new.answer.faults ⊎ Rose old.log.faults new.log.faults
  pub faults_grow : (old.source.faults ≤ new.source.faults) × (old.answer.faults ≤ new.answer.faults) × (old.log.faults ≤ new.log.faults)
  -- no call of the source or of a sink follows one that failed, but those that tell of a read that failed
  pub outcomes : EndsAtFailure (calls_of old.source.outcomes old.log.outcomes old.answer.outcomes)
      (calls_of new.source.outcomes new.log.outcomes new.answer.outcomes) old.answer.state.taken new.answer.state.taken status
  -- where no files are read, the source stays as it was
  pub untouched : reads_files wanted ≡ false
      → IsUntouched old.source.left old.source.stock old.source.faults new.source.left new.source.stock new.source.faults
  -- where files are read, the source is begun once with the model's file, and once with the second file after it, where the command has
  -- one and takes the text, in each run that reads that file
  pub names : BeginsFiles old.source.stock old.source.names new.source.names wanted status
  -- the answer's sink is not begun
  pub answer_names : new.answer.state.names ≡ old.answer.state.names
  -- the log's sink is begun once, with the log's name, where a search is asked for and its text is solved, unless the source failed or
  -- memory ran out; in no other run is it begun
  pub log_names : BeginsLog wanted old new status
