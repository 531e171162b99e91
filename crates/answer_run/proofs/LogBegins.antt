-- Whether the log's sink was begun, and with which name, by what is answered.
use Rattle.std.proofs.Common.{◌≡◌, ◌⊎◌, inl, inr, ◌∙◌, ℕ, List, Bool, true, false, Option, IfSome, refl, sym, ap, subst}
use Rattle.sopl_io.specs.Causes.{Rose}
use Rattle.sopl_io.specs.Stock.{with_name}
use Rattle.sopl_base.specs.declared.fault.Excess.{Excess}
use Rattle.sopl_base.specs.declared.fault.Refusal.{Refusal}
use Rattle.sopl_ast.specs.Instances.{Problem}
use Rattle.model_gen.specs.Texts.{generated_text}
use Rattle.answer_texts.specs.Logs.{IsUnused, Wrote}
use Rattle.answer_texts.specs.Solved.{SolvedText}
use Rattle.answer_texts.specs.Away.{IsTurnedAway}
use Rattle.answer_texts.specs.Replies.{IsLimitedOn, by_size, by_terms, IsRefusedOn, by_rule, IsTextReply, optimal, infeasible, bounded, scenes, refused, limited, Logged}
use Rattle.answer_texts.specs.declared.command.Command.{Command}
use Rattle.answer_texts.specs.declared.command.Command.TheVariants.{Solve}
use Rattle.answer_texts.specs.declared.command.Detail.TheVariants.{Full, Summary}
use Rattle.answer_texts.specs.declared.status.Status.{Status}
use Rattle.answer_texts.specs.declared.status.Status.TheVariants.{Done, Refused, Limit, Bounded, ReadFault, WriteFault, NoMemory}
use Rattle.answer_texts.proofs.Shared.{not_limited, not_refused}
use Rattle.answer_run.specs.declared.commands.Job.TheVariants.{Text}
use Rattle.answer_run.specs.States.{RunState}
use Rattle.answer_run.specs.Words.{Request, is_drawn}
use Rattle.answer_run.specs.Replies.{Asked, AskedIsSolved, asked_in, asked_on, second_given, is_search, makes_search, log_name, IsAnswered, EndedEarly}
use Rattle.answer_run.specs.Replies.{IsReply, replied, replied_on_both, generated, demonstrated, usage, read_fault, IsCutOff, cut_off, demo_cut_off}
use Rattle.answer_run.specs.Replies.{Answers, whole, prefix, log_prefix, nothing, BeginsLog, no_search, log_begun, log_not_begun}
use Rattle.answer_run.proofs.Statuses.{second_is_given, told_drawn, told_of}
use Rattle.answer_run.proofs.WholeText.{name_is}

-- a text that is refused, or passes a limit, is not solved
refused_unsolved : (text : List ℕ) (refusal : Refusal) (command : Command) → IsRefusedOn text refusal command → ¬ ((problem : Problem) × SolvedText text problem)
refused_unsolved text refusal _ (by_rule command reason) = λ is. not_refused text is.0 refusal is.1 (by_rule (Solve Full) reason)

limited_unsolved : (text : List ℕ) (excess : Excess) (command : Command) → IsLimitedOn text excess command → ¬ ((problem : Problem) × SolvedText text problem)
limited_unsolved text excess _ (by_size command over) = λ is. not_limited text is.0 excess is.1 (by_size (Solve Full) over)
limited_unsolved text excess _ (by_terms command over) = λ is. not_limited text is.0 excess is.1 (by_terms (Solve Full) over)

-- a run ends as its reply does, or the answer's sink failed
abbrev EndsBehind : Status → Status → Type 0
EndsBehind meant status = (status ≡ meant) ⊎ (status ≡ WriteFault)

answer_status : (meant status : Status) → IsAnswered meant → EndsBehind meant status → IsAnswered status ⊎ (status ≡ WriteFault) ⊎ (status ≡ NoMemory)
answer_status meant status is (inl same) = inl (subst IsAnswered (sym same) is)
answer_status meant status is (inr failed) = inr (inl failed)

silent_status : (meant status : Status) → IsTurnedAway meant ⊎ EndedEarly meant → EndsBehind meant status → IsTurnedAway status ⊎ EndedEarly status
silent_status meant status is (inl same) = subst (λ (s : Status). IsTurnedAway s ⊎ EndedEarly s) (sym same) is
silent_status meant status is (inr failed) = inr (inr (inl failed))

module _ (wanted : Option Request) (first last : RunState) where
  -- no search is asked for
  unsearched : makes_search wanted ≡ false → IsUnused first.log.state last.log.state → (status : Status) → BeginsLog wanted first last status
  unsearched asks unused status = no_search asks unused.names

  -- the sink is not begun, and this is why, where a search is asked for
  unused_begins : IsUnused first.log.state last.log.state → (status : Status)
      → IfSome (asked_in first.source.stock wanted) (λ a. ¬ AskedIsSolved a) ⊎ Rose first.source.faults last.source.faults ⊎ (status ≡ NoMemory)
      → IsTurnedAway status ⊎ EndedEarly status → (b : Bool) → makes_search wanted ≡ b → BeginsLog wanted first last status
  unused_begins unused status cause ends true asks = log_not_begun asks unused.names cause ends
  unused_begins unused status cause ends false asks = unsearched asks unused status

  module _ (request : Request) (text : List ℕ) (tell : (P : Asked → Type 0) → P (asked_on request text (second_given first.source.stock request)) → IfSome (asked_in first.source.stock wanted) P) where
    -- it is begun, of a text that is solved
    solved_begins : (problem : Problem) → SolvedText text problem → makes_search wanted ≡ true → last.log.state.names ≡ with_name first.log.state.names (log_name wanted) → (status : Status)
        → IsAnswered status ⊎ (status ≡ WriteFault) ⊎ (status ≡ NoMemory) → BeginsLog wanted first last status
    solved_begins problem is asks named status ends = log_begun asks (tell AskedIsSolved (problem, is)) named ends

    -- and took the log
    wrote_begins : (problem : Problem) → SolvedText text problem → makes_search wanted ≡ true → (log : List ℕ) → Wrote (log_name wanted) log first.log.state last.log.state → (meant : Status)
        → IsAnswered meant → (status : Status) → EndsBehind meant status → BeginsLog wanted first last status
    wrote_begins problem is asks log wrote meant answered status ends = solved_begins problem is asks wrote.names status (answer_status meant status answered ends)

    -- it is not, of a text that is turned away
    away_begins : ¬ ((problem : Problem) × SolvedText text problem) → IsUnused first.log.state last.log.state → (meant : Status) → IsTurnedAway meant → (status : Status) → EndsBehind meant status
        → BeginsLog wanted first last status
    away_begins unsolved unused meant away status ends =
        unused_begins unused status (inl (tell (λ a. ¬ AskedIsSolved a) unsolved)) (silent_status meant status (inl away) ends) (makes_search wanted) refl

    -- behind a reply to the text
    text_begins : (command : Command) (log : Option (List ℕ)) (meant : Status) (line : List ℕ) → IsTextReply text request.plan command log meant line
        → makes_search wanted ≡ is_search (Text command) → Logged (log_name wanted) log first.log.state last.log.state → (status : Status) → EndsBehind meant status
        → BeginsLog wanted first last status
    text_begins _ _ _ _ (optimal k problem policy value log is best logged) asks wrote status ends = wrote_begins problem is asks log wrote Done (inl refl) status ends
    text_begins _ _ _ _ (infeasible k problem log is none logged) asks wrote status ends = wrote_begins problem is asks log wrote Done (inl refl) status ends
    text_begins _ _ _ _ (bounded k problem found bound log is known less logged) asks wrote status ends = wrote_begins problem is asks log wrote Bounded (inr (inl refl)) status ends
    text_begins _ _ _ _ (scenes problem accepted) asks unused status ends = unsearched asks unused status
    text_begins _ _ _ _ (refused command refusal why) asks unused status ends =
        away_begins (refused_unsolved text refusal command why) unused Refused (inl refl) status ends
    text_begins _ _ _ _ (limited command excess over) asks unused status ends = away_begins (limited_unsolved text excess command over) unused Limit (inr refl) status ends

  -- behind any reply
  reply_begins : (log : Option (List ℕ)) (meant : Status) (line : List ℕ) → IsReply wanted first.source.stock first.source.faults last.source.faults log meant line
      → Logged (log_name wanted) log first.log.state last.log.state
      → (status : Status) → EndsBehind meant status → BeginsLog wanted first last status
  reply_begins _ _ _ (replied request command text log meant line job is reply) logged status ends =
      text_begins request text
      (told_of wanted first.source.stock first.source.faults last.source.faults request text (second_given first.source.stock request) (ap is_drawn job) is
      (second_is_given request first.source.stock)) command log meant line reply
      (ap makes_search is.asked ∙ ap is_search job) logged status ends
  reply_begins _ _ _ (replied_on_both request command text bytes meant line job is are reply) unused status ends =
      unsearched (ap makes_search is.asked ∙ ap is_search job) unused status
  reply_begins _ _ _ (generated request asked job) unused status ends = unsearched (ap makes_search asked ∙ ap is_search job) unused status
  reply_begins _ _ _ (demonstrated request log meant line asked job reply) logged status ends =
      let asks : makes_search wanted ≡ true = ap makes_search asked ∙ ap is_search job in
      text_begins request (generated_text request.stages request.seed) (told_drawn wanted first.source.stock first.source.faults last.source.faults request asked (ap is_drawn job))
      (Solve Summary) log meant line reply asks
      logged status ends
  reply_begins _ _ _ (usage none) unused status ends = unsearched (ap makes_search none) unused status
  reply_begins _ _ _ (read_fault files rose) unused status ends =
      unused_begins unused status (inr (inl rose)) (silent_status ReadFault status (inr (inl refl)) ends) (makes_search wanted) refl

  -- where a search was cut off
  cut_begins : IsCutOff wanted first.source.stock first.log.state last.log.state → (status : Status) → (status ≡ WriteFault) ⊎ (status ≡ NoMemory) → BeginsLog wanted first last status
  cut_begins (cut_off request command text job is cut) status ends =
      solved_begins request text
      (told_of wanted first.source.stock first.source.faults last.source.faults request text (second_given first.source.stock request) (ap is_drawn job) is
      (second_is_given request first.source.stock)) cut.problem cut.is_solved
      (ap makes_search is.asked ∙ ap is_search job ∙ ap (λ (c : Command). is_search (Text c)) cut.commanded)
      (cut.wrote.names ∙ ap (λ (n : List ℕ). with_name first.log.state.names n)
      (sym (name_is wanted first.source.stock first.source.faults last.source.faults first.log.state last.log.state request is.asked))) status (inr ends)
  cut_begins (demo_cut_off request asked job cut) status ends =
      solved_begins request (generated_text request.stages request.seed)
      (told_drawn wanted first.source.stock first.source.faults last.source.faults request asked (ap is_drawn job)) cut.problem cut.is_solved
      (ap makes_search asked ∙ ap is_search job)
      (cut.wrote.names ∙ ap (λ (n : List ℕ). with_name first.log.state.names n)
      (sym (name_is wanted first.source.stock first.source.faults last.source.faults first.log.state last.log.state request asked))) status (inr ends)

  -- where memory ran out
  memory_begins : IsUnused first.log.state last.log.state ⊎ IsCutOff wanted first.source.stock first.log.state last.log.state → BeginsLog wanted first last NoMemory
  memory_begins (inl unused) = unused_begins unused NoMemory (inr (inr refl)) (inr (inr (inr refl))) (makes_search wanted) refl
  memory_begins (inr cut) = cut_begins cut NoMemory (inr refl)

-- so in each run
pub run_begins : (wanted : Option Request) (first last : RunState) (status : Status) → Answers wanted first last status → BeginsLog wanted first last status
run_begins wanted first last _ (whole log status line reply took logged) = reply_begins wanted first last log status line reply logged status (inl refl)
run_begins wanted first last _ (prefix log meant line rose reply took logged) = reply_begins wanted first last log meant line reply logged WriteFault (inr refl)
run_begins wanted first last _ (log_prefix rose kept cut) = cut_begins wanted first last cut WriteFault (inl refl)
run_begins wanted first last _ (nothing kept why) = memory_begins wanted first last why
