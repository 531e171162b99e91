-- How much was taken of the text that the words ask for.
use Rattle.std.proofs.Common.{◌≡◌, inl, inr, ◌≤◌, ℕ, true, false, not, List, Option, Some, None, Result, Ok, Err, IfOk, IfErr, IfSome, option_map, refl, ap, ◌∙◌, ◌<◌, sym, subst}
use Rattle.std.specs.Option.{option_and_then}
use Rattle.sopl_io.specs.Rests.{LeavesRest, behind, closed}
use Rattle.sopl_io.specs.Stock.{Stock, begun_stock, text_of, with_name}
use Rattle.sopl_io.specs.Transfer.{cut_at}
use Rattle.sopl_base.specs.declared.stop.SearchStop.{SearchStop}
use Rattle.sopl_base.specs.declared.stop.SearchStop.TheVariants as search
use Rattle.sopl_ast.specs.Tokens.{max_length}
use Rattle.log_rows.proofs.Written.{rose_later}
use Rattle.answer_texts.specs.declared.command.Command.{Command}
use Rattle.answer_texts.specs.declared.reply.Reply.{Reply}
use Rattle.answer_texts.specs.declared.status.Status.{Status}
use Rattle.answer_texts.specs.declared.status.Status.TheVariants.{ReadFault, WriteFault}
use Rattle.answer_texts.specs.Away.{IsTurnedAway}
use Rattle.answer_run.specs.declared.commands.Job.TheVariants.{Text, Pair}
use Rattle.answer_run.specs.declared.commands.PairCommand.{PairCommand}
use Rattle.answer_run.specs.Words.{Request, is_drawn, reads_files}
use Rattle.answer_run.specs.Replies.{Asked, asked_by, asked_in, asked_on, IsAnswered, IsTaken, BeginsFiles, no_file, model_alone, model_and_second}
use Rattle.answer_run.specs.Runs.{IsWritten, all, part, LeavesSecond, BeginsSecond, second_not_begun, second_begun, meant_status, stop_status}
use Rattle.answer_run.specs.Reads.{TakesAtMost}
use Rattle.answer_run.proofs.Statuses.{asked_read, early_no_answer}
use Rattle.answer_run.proofs.WholeText.{taken_whole}

-- what the stock gives for the files of a request
abbrev read_by : Request → Option Stock → Option Asked
read_by request stock = option_map (λ s. asked_on request (text_of s request.model) (text_of (begun_stock s) request.second)) stock

module _ (wanted : Option Request) (stock : Option Stock) (most before now : ℕ) (left : Option (List ℕ)) where
  -- what was taken of the file that the words name
  pub model_taken : (request : Request) → wanted ≡ Some request → is_drawn request.job ≡ false
      → IfSome stock (λ s. LeavesRest (Some most) (text_of s request.model) before now left) → TakesAtMost most (asked_in stock wanted) before now left
  model_taken request asked files rest =
      subst (λ o. TakesAtMost most (option_and_then (asked_by stock) o) before now left) (sym asked)
      (subst (λ a. TakesAtMost most a before now left) (sym (asked_read stock request files)) (by_stock stock rest))
    where
      by_stock : (o : Option Stock) → IfSome o (λ s. LeavesRest (Some most) (text_of s request.model) before now left) → TakesAtMost most (read_by request o) before now left
      by_stock None rest = tt
      by_stock (Some s) rest = λ read. inl rest

rest_earlier : (most : Option ℕ) (text : List ℕ) (before later now : ℕ) (left : Option (List ℕ)) → before ≤ later → LeavesRest most text later now left
    → LeavesRest most text before now left
rest_earlier most text before later now left up (behind count within is) = behind count within is
rest_earlier most text before later now left up (closed rose end) = closed (rose_later before later now up rose) end

-- where there is a second file
pub second_taken : (wanted : Option Request) (stock mid : Option Stock) (most before later now : ℕ) (left_later left : Option (List ℕ)) (request : Request) (command : PairCommand)
    → wanted ≡ Some request → request.job ≡ Pair command → mid ≡ option_map begun_stock stock → before ≤ later
    → IfSome stock (λ s. LeavesRest (Some most) (text_of s request.model) before later left_later)
    → LeavesSecond request.second mid later now left_later left → TakesAtMost most (asked_in stock wanted) before now left
second_taken wanted stock mid most before later now left_later left request command asked job begun up rest leaves =
    subst (λ o. TakesAtMost most (option_and_then (asked_by stock) o) before now left) (sym asked)
    (subst (λ a. TakesAtMost most a before now left) (sym (asked_read stock request (ap is_drawn job)))
    (by_stock stock rest (subst (λ m. LeavesSecond request.second m later now left_later left) begun leaves)))
  where
    by_stock : (o : Option Stock) → IfSome o (λ s. LeavesRest (Some most) (text_of s request.model) before later left_later)
        → LeavesSecond request.second (option_map begun_stock o) later now left_later left → TakesAtMost most (read_by request o) before now left
    by_stock None rest leaves = tt
    by_stock (Some s) rest (inl (same, none)) =
        λ read. inl (subst (λ n. LeavesRest (Some most) (text_of s request.model) before n left) (sym none)
        (subst (λ l. LeavesRest (Some most) (text_of s request.model) before later l) (sym same) rest))
    by_stock (Some s) rest (inr leaves) = λ read. inr ((command, job), rest_earlier None (text_of (begun_stock s) request.second) before later now left up leaves)

-- The names with which the source is begun.

module _ (wanted : Option Request) (stock : Option Stock) (old : Option (List (List ℕ))) where
  pub none_begun : wanted ≡ None → (status : Status) → BeginsFiles stock old old wanted status
  none_begun none status = no_file wanted status (ap reads_files none) refl

  pub drawn_begun : (request : Request) → wanted ≡ Some request → is_drawn request.job ≡ true → (status : Status) → BeginsFiles stock old old wanted status
  drawn_begun request asked drawn status = no_file wanted status (ap reads_files asked ∙ ap not drawn) refl

  model_begun : (new : Option (List (List ℕ))) (request : Request) → wanted ≡ Some request → is_drawn request.job ≡ false → new ≡ with_name old request.model → (status : Status)
      → ((command : PairCommand) → request.job ≡ Pair command → ¬ IsAnswered status) → BeginsFiles stock old new wanted status
  model_begun new request asked files is status none = subst (λ r. BeginsFiles stock old new r status) (sym asked) (model_alone request status files is none)

  -- where the command has no second file
  pub text_begun : (new : Option (List (List ℕ))) (request : Request) (command : Command) → wanted ≡ Some request → request.job ≡ Text command
      → new ≡ with_name old request.model → (status : Status) → BeginsFiles stock old new wanted status
  text_begun new request command asked job is status = model_begun new request asked (ap is_drawn job) is status (λ other pair answered. cc)

  -- where the model was not read
  pub unread_begun : (new : Option (List (List ℕ))) (request : Request) → wanted ≡ Some request → is_drawn request.job ≡ false → new ≡ with_name old request.model
      → (result : Result Reply SearchStop) → IfOk result (λ reply. reply.status ≡ ReadFault) → IfErr result (λ stop. stop ≡ search.NoMemory)
      → BeginsFiles stock old new wanted (meant_status result)
  unread_begun new request asked files is (Ok reply) status memory =
      model_begun new request asked files is reply.status (λ command pair answered. early_no_answer reply.status (inl status) answered)
  unread_begun new request asked files is (Err stop) status memory =
      model_begun new request asked files is (stop_status stop) (λ command pair answered. early_no_answer (stop_status stop) (inr (inr (ap stop_status memory))) answered)

  -- where the command has a second file
  pub both_begun : (later new : Option (List (List ℕ))) (request : Request) (command : PairCommand) (bytes slice : List ℕ) (most : ℕ) → wanted ≡ Some request
      → request.job ≡ Pair command → max_length < most → slice ≡ bytes → IfSome stock (λ s. bytes ≡ cut_at (Some most) (text_of s request.model))
      → later ≡ with_name old request.model → (status : Status) → BeginsSecond command slice request.second later new status
      → BeginsFiles stock old new wanted status
  both_begun later new request command bytes slice most asked job more same read first status (second_not_begun is not_answered) =
      model_begun new request asked (ap is_drawn job) (is ∙ first) status (λ other pair answered. not_answered answered)
  both_begun later new request command bytes slice most asked job more same read first status (second_begun taken is not_away) =
      subst (λ r. BeginsFiles stock old new r status) (sym asked)
      (model_and_second request command status job (by_stock stock read) (is ∙ ap (λ n. with_name n request.second) first) not_away)
    where
      by_stock : (o : Option Stock) → IfSome o (λ s. bytes ≡ cut_at (Some most) (text_of s request.model))
          → IfSome o (λ s. IsTaken command (text_of s request.model))
      by_stock None read = tt
      by_stock (Some s) read = taken_whole command most more (text_of s request.model) (subst (IsTaken command) (same ∙ read) taken)

-- files that are begun stay so where the answer's sink failed
write_begun : (stock : Option Stock) (old new : Option (List (List ℕ))) (request : Option Request) (status : Status) → BeginsFiles stock old new request status
    → BeginsFiles stock old new request WriteFault
write_begun stock old new _ _ (no_file request status none is) = no_file request WriteFault none is
write_begun stock old new _ _ (model_alone request status files is none) =
    model_alone request WriteFault files is (λ command pair answered. early_no_answer WriteFault (inr (inl refl)) answered)
write_begun stock old new _ _ (model_and_second request command status job taken is not_away) =
    model_and_second request command WriteFault job taken is not_away_there
  where
    not_away_there : ¬ IsTurnedAway WriteFault
    not_away_there (inl away) = cc
    not_away_there (inr away) = cc

-- behind the line of a reply
pub line_begun : (stock : Option Stock) (old new : Option (List (List ℕ))) (request : Option Request) (taken_old taken_new : Option (List ℕ)) (before now : ℕ)
    (reply : Reply) (status : Status) → IsWritten taken_old taken_new before now reply status → BeginsFiles stock old new request reply.status
    → BeginsFiles stock old new request status
line_begun stock old new request taken_old taken_new before now reply _ (all taken) begins = begins
line_begun stock old new request taken_old taken_new before now reply _ (part rose taken) begins = write_begun stock old new request reply.status begins
