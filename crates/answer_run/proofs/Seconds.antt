-- What is answered of a text and a second file, by what was read of the second one.
use Rattle.std.proofs.Common.{◌≡◌, inl, inr, ℕ, List, [], Option, Some, None, Result, Ok, Err, IfOk, IfErr, IfSome, refl, sym, subst, ap, codes, string_bytes}
use Rattle.sopl_io.specs.Calls.{Outcomes, AllSucceeded, no_call}
use Rattle.sopl_io.specs.Causes.{Rose}
use Rattle.sopl_io.specs.Stock.{Stock, text_of}
use Rattle.sopl_io.specs.Transfer.{cut_at}
use Rattle.sopl_base.specs.declared.stop.SearchStop.{SearchStop}
use Rattle.sopl_base.specs.declared.stop.SearchStop.TheVariants as search
use Rattle.sopl_ast.specs.Instances.{Problem}
use Rattle.scen_accept.specs.Stated.{model_in, problem_in}
use Rattle.answer_lines.specs.AnswerData.{word_data, line_of}
use Rattle.answer_texts.specs.Solved.{SolvedText}
use Rattle.answer_texts.specs.declared.reply.Reply.{Reply}
use Rattle.answer_texts.specs.declared.status.Status.{Status}
use Rattle.answer_texts.specs.declared.status.Status.TheVariants.{ReadFault, NoMemory}
use Rattle.answer_texts.specs.Away.{IsTurnedAway}
use Rattle.answer_run.specs.declared.commands.PairCommand.{PairCommand}
use Rattle.answer_run.specs.declared.pair.Basis.{Basis}
use Rattle.answer_run.specs.declared.pair.Basis.TheVariants.{Log, Policy}
use Rattle.answer_run.specs.Bases.{IsBasisFor}
use Rattle.answer_run.specs.Calls.{ReplyCalls, calls_succeed}
use Rattle.answer_run.specs.Replies.{IsAnswered, IsPairReply}
use Rattle.answer_run.specs.Runs.{AnswersBoth, second_read, second_unread, meant_status, stop_status}
use Rattle.answer_run.proofs.Statuses.{early_no_answer, pair_status}
use Rattle.answer_run.proofs.WholeText.{away_no_answer}

module _ (command : PairCommand) (text name : List ℕ) (stock : Option Stock) (before now : ℕ) where
  -- the reply to the bytes of a file that was read whole
  pub read_replied : (bytes : List ℕ) → IfSome stock (λ s. bytes ≡ cut_at None (text_of s name)) → (result : Result Reply SearchStop)
      → IfOk result (λ reply. IsPairReply command text bytes reply.status (string_bytes reply.line))
      → IfOk result (λ reply. AnswersBoth command text name stock before now reply.status (string_bytes reply.line))
  read_replied bytes read (Err stop) replies = tt
  read_replied bytes read (Ok reply) replies = second_read bytes reply.status (string_bytes reply.line) read replies

  -- where the source failed
  pub unread_replied : Rose before now → (result : Result Reply SearchStop) → IfOk result (λ reply. reply.status ≡ ReadFault)
      → IfOk result (λ reply. string_bytes reply.line ≡ line_of (word_data (codes "read fault")))
      → IfOk result (λ reply. AnswersBoth command text name stock before now reply.status (string_bytes reply.line))
  unread_replied rose (Err stop) ends is = tt
  unread_replied rose (Ok reply) ends is =
      subst (λ s. AnswersBoth command text name stock before now s (string_bytes reply.line)) (sym ends)
      (subst (λ l. AnswersBoth command text name stock before now ReadFault l) (sym is) (second_unread rose))

  -- where the text is turned away
  given_bytes : Option Stock → List ℕ
  given_bytes None = []
  given_bytes (Some s) = text_of s name

  bytes_are_given : (o : Option Stock) → IfSome o (λ s. given_bytes o ≡ text_of s name)
  unfolding given_bytes
  bytes_are_given None = tt
  bytes_are_given (Some s) = refl

  pub away_replied : (result : Result Reply SearchStop)
      → ((bytes : List ℕ) → IfOk result (λ reply. IsPairReply command text bytes reply.status (string_bytes reply.line)))
      → IfOk result (λ reply. AnswersBoth command text name stock before now reply.status (string_bytes reply.line))
  away_replied (Err stop) replies = tt
  away_replied (Ok reply) replies =
      second_read (given_bytes stock) reply.status (string_bytes reply.line) (bytes_are_given stock) (replies (given_bytes stock))

-- What the status tells of the second file.

memory_no_answer : (stop : SearchStop) → stop ≡ search.NoMemory → ¬ IsAnswered (stop_status stop)
memory_no_answer stop is = λ answered. early_no_answer (stop_status stop) (inr (inr (ap stop_status is))) answered

memory_not_away : (stop : SearchStop) → stop ≡ search.NoMemory → ¬ IsTurnedAway (stop_status stop)
memory_not_away stop is = λ away. no_memory (subst IsTurnedAway (ap stop_status is) away)
  where
    no_memory : IsTurnedAway NoMemory → ⊥
    no_memory (inl away) = cc
    no_memory (inr away) = cc

read_not_away : (status : Status) → status ≡ ReadFault → IsTurnedAway status → ⊥
read_not_away status is (inl away) = cc
read_not_away status is (inr away) = cc

-- where the text is turned away, nothing comes of the second file
pub away_silent : (result : Result Reply SearchStop) → IfErr result (λ stop. stop ≡ search.NoMemory) → IfOk result (λ reply. IsTurnedAway reply.status)
    → ¬ IsAnswered (meant_status result)
away_silent (Ok reply) memory away = λ answered. away_no_answer reply.status away answered
away_silent (Err stop) memory away = memory_no_answer stop memory

-- where memory runs out, nothing does either
pub want_silent : (result : Result Reply SearchStop) → result ≡ Err search.NoMemory → ¬ IsAnswered (meant_status result)
want_silent result is = λ answered. early_no_answer NoMemory (inr (inr refl)) (subst (λ (r : Result Reply SearchStop). IsAnswered (meant_status r)) is answered)

-- where it is read, the text is not turned away
pub unread_not_away : (result : Result Reply SearchStop) → IfErr result (λ stop. stop ≡ search.NoMemory) → IfOk result (λ reply. reply.status ≡ ReadFault)
    → ¬ IsTurnedAway (meant_status result)
unread_not_away (Ok reply) memory is = λ away. read_not_away reply.status is away
unread_not_away (Err stop) memory is = memory_not_away stop memory

pub want_not_away : (result : Result Reply SearchStop) → result ≡ Err search.NoMemory → ¬ IsTurnedAway (meant_status result)
want_not_away result is = λ away. memory_not_away search.NoMemory refl (subst (λ (r : Result Reply SearchStop). IsTurnedAway (meant_status r)) is away)

-- What came of the calls.

away_no_read : (status : Status) → IsTurnedAway status → ¬ (status ≡ ReadFault)
away_no_read status (inl is) = λ e. cc
away_no_read status (inr is) = λ e. cc

module _ (before now : Outcomes) (all : AllSucceeded before now) (log : Outcomes) where
  -- no log is written
  quiet_calls : (result : Result Reply SearchStop) → IfErr result (λ stop. stop ≡ search.NoMemory) → IfOk result (λ reply. ¬ (reply.status ≡ ReadFault))
      → ReplyCalls before now log log result
  quiet_calls (Ok reply) memory no_read = calls_succeed all no_call (λ e. cc) no_read
  quiet_calls (Err stop) memory no_read = calls_succeed all no_call (λ e. cc) tt

  pub both_calls : (command : PairCommand) (text bytes : List ℕ) (result : Result Reply SearchStop) → IfErr result (λ stop. stop ≡ search.NoMemory)
      → IfOk result (λ reply. IsPairReply command text bytes reply.status (string_bytes reply.line)) → ReplyCalls before now log log result
  both_calls command text bytes (Ok reply) memory is =
      quiet_calls (Ok reply) memory (pair_status command text bytes reply.status (string_bytes reply.line) is).no_read
  both_calls command text bytes (Err stop) memory is = quiet_calls (Err stop) memory tt

  pub away_calls : (result : Result Reply SearchStop) → IfErr result (λ stop. stop ≡ search.NoMemory) → IfOk result (λ reply. IsTurnedAway reply.status)
      → ReplyCalls before now log log result
  away_calls (Ok reply) memory away = quiet_calls (Ok reply) memory (away_no_read reply.status away)
  away_calls (Err stop) memory away = quiet_calls (Err stop) memory tt

  pub want_calls : (result : Result Reply SearchStop) → result ≡ Err search.NoMemory → ReplyCalls before now log log result
  want_calls result is = subst (λ (r : Result Reply SearchStop). ReplyCalls before now log log r) (sym is) (calls_succeed all no_call (λ e. cc) tt)

-- What is judged by what.

-- a text that has a basis is solved
pub taken_so : (text : List ℕ) (basis : Basis) → IsBasisFor text basis → (problem : Problem) × SolvedText text problem
taken_so text (Log program) is = (is.problem, is.is_solved)
taken_so text (Policy stated) is =
    (problem_in stated, record { model = model_in stated; spelled = is.states.spelled; accepted = is.states.accepted; solvable = is.solvable })
