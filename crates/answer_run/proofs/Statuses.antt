-- What the outcome of a run says of the words and of the text, and what the sinks took.
use Rattle.std.proofs.Common.{◌≡◌, ◌⊎◌, inl, inr, ℕ, ◌≤◌, List, [], Bool, true, false, Option, Some, None, Result, Err, IfSome, option_map, if◌then◌else◌, string_bytes, refl, sym, subst, ap, ◌∙◌}
use Rattle.std.specs.Option.{option_and_then}
use Rattle.std.specs.Io.KnownBytes.{IsAtEnd, Keeps}
use Rattle.sopl_io.specs.Causes.{Rose}
use Rattle.sopl_io.specs.Stock.{Stock, begun_stock, text_of}
use Rattle.sopl_ast.specs.Instances.{Problem}
use Rattle.answer_texts.specs.Solved.{SolvedText}
use Rattle.sopl_base.proofs.Booleans.{impossible}
use Rattle.sopl_base.specs.declared.stop.SearchStop.{SearchStop}
use Rattle.sopl_base.specs.declared.stop.SearchStop.TheVariants as search
use Rattle.sopl_base.specs.declared.stop.SearchStop.TheVariants.{Write}
use Rattle.answer_texts.specs.Logs.{SinkState, most_nodes}
use Rattle.answer_texts.specs.Replies.{Ends, solved, settled}
use Rattle.answer_texts.specs.declared.command.Command.TheVariants.{Solve, Tree}
use Rattle.answer_texts.specs.declared.command.Detail.TheVariants.{Full, Summary}
use Rattle.answer_texts.specs.declared.command.Detail.{Detail}
use Rattle.answer_texts.specs.declared.reply.Reply.{Reply}
use Rattle.answer_texts.specs.declared.status.Status.{Status}
use Rattle.answer_texts.specs.declared.status.Status.TheVariants.{Done, Failing, Usage, Refused, Limit, Bounded, ReadFault, WriteFault, NoMemory, Unreadable}
use Rattle.answer_texts.proofs.Ends.{IsEnd, end_status, ends_alike, ends_settled, one_limit_on, one_refusal_on, reply_ends as text_reply_ends}
use Rattle.answer_check.specs.CheckLaws.{ChecksEndOnce}
use Rattle.answer_check.specs.CheckReplies.{IsLogReply, accepted, rejected, unreadable, IsCheckReply, checked as checks, refused_text, limited_text}
use Rattle.answer_eval.specs.EvalLaws.{EvalsEndOnce}
use Rattle.answer_eval.specs.EvalReplies.{IsEvalReply, evaluated, text_refused, text_limited, IsPolicyReply, satisfied, hard_fails, chance_fails, objective_fails, unreadable as unreadable_policy}
use Rattle.answer_run.specs.declared.commands.Job.{Job}
use Rattle.answer_run.specs.declared.commands.Job.TheVariants.{Text, Pair, Drawn}
use Rattle.answer_run.specs.declared.commands.PairCommand.{PairCommand}
use Rattle.answer_run.specs.declared.commands.PairCommand.TheVariants.{Check, Eval}
use Rattle.model_gen.specs.Texts.{generated_text}
use Rattle.answer_run.specs.declared.commands.DrawnCommand.TheVariants.{Gen, Demo}
use Rattle.answer_run.specs.States.{RunState}
use Rattle.answer_run.specs.Words.{Request, is_drawn, reads_files}
use Rattle.answer_run.specs.Replies.{Asked, asked_by, asked_in, asked_text, asked_on, second_given, is_search, generated, demonstrated, IsModelText, AreSecondBytes, IsPairReply, IsReply, replied, replied_on_both, usage, read_fault, IsAnswered, Answers, whole, prefix, log_prefix, nothing}
use Rattle.answer_run.specs.Replies.{EndedEarly, EndsJob, taking, EndsSoundly, EndsCompletely, SettlesInBudget, RefusedOnce, LimitedOnce}
use Rattle.answer_run.specs.Runs.{IsWritten, all, part, Replied, StopsWith, stop_status}

-- a run that ended early has answered nothing
pub early_no_answer : (status : Status) → EndedEarly status → IsAnswered status → ⊥
early_no_answer status (inl early) (inl done) = cc
early_no_answer status (inl early) (inr (inl done)) = cc
early_no_answer status (inl early) (inr (inr (inl done))) = cc
early_no_answer status (inl early) (inr (inr (inr done))) = cc
early_no_answer status (inr (inl early)) (inl done) = cc
early_no_answer status (inr (inl early)) (inr (inl done)) = cc
early_no_answer status (inr (inl early)) (inr (inr (inl done))) = cc
early_no_answer status (inr (inl early)) (inr (inr (inr done))) = cc
early_no_answer status (inr (inr early)) (inl done) = cc
early_no_answer status (inr (inr early)) (inr (inl done)) = cc
early_no_answer status (inr (inr early)) (inr (inr (inl done))) = cc
early_no_answer status (inr (inr early)) (inr (inr (inr done))) = cc

-- it says nothing of the text
early_so : (asked : Option Asked) (status : Status) → EndedEarly status → EndsSoundly asked status
early_so None status early = tt
early_so (Some a) status early = inl early

early_when : (asked : Option Asked) (status : Status) → EndedEarly status → EndsCompletely asked status
early_when None status early = tt
early_when (Some a) status early = λ end is. inr early

early_settled : (asked : Option Asked) (status : Status) → EndedEarly status → SettlesInBudget asked status
early_settled None status early = tt
early_settled (Some a) status early = λ solve problem is enough. inr early

-- a text is refused once, and passes one limit
pub refused_once : (asked : Option Asked) → RefusedOnce asked
refused_once None = tt
refused_once (Some a) = λ one other is also. one_refusal_on a.text a.budget one other (taking a.job) (taking a.job) is also

pub limited_once : (asked : Option Asked) → LimitedOnce asked
limited_once None = tt
limited_once (Some a) = λ one other is also. one_limit_on a.text a.budget one other (taking a.job) (taking a.job) is also

one_request : (r : Request) (request : Option Request) → request ≡ Some r → request ≡ None → ⊥
one_request r request some none = cc

-- a search that was not cut short is done
settled_done : (status : Status) → settled status ≡ Done → ¬ (status ≡ Bounded) → status ≡ Done
settled_done Done is not_cut = refl
settled_done Bounded is not_cut = absurd (not_cut refl)
settled_done Failing is not_cut = cc
settled_done Usage is not_cut = cc
settled_done Refused is not_cut = cc
settled_done Limit is not_cut = cc
settled_done ReadFault is not_cut = cc
settled_done WriteFault is not_cut = cc
settled_done NoMemory is not_cut = cc
settled_done Unreadable is not_cut = cc

-- a reply to the check of a log ends neither for the words nor for a source or a sink
log_status : (problem : Problem) (log : List ℕ) (status : Status) (line : List ℕ) → IsLogReply problem log status line → IsEnd status
log_status problem log _ _ (accepted rows claim reads right true_of) = record { no_usage = λ e. cc; no_read = λ e. cc; no_write = λ e. cc }
log_status problem log _ _ (rejected rows claim node at reads wrong) = record { no_usage = λ e. cc; no_read = λ e. cc; no_write = λ e. cc }
log_status problem log _ _ (unreadable code at mistaken) = record { no_usage = λ e. cc; no_read = λ e. cc; no_write = λ e. cc }

pub check_status : (text log : List ℕ) (status : Status) (line : List ℕ) → IsCheckReply text log status line → IsEnd status
check_status text log status line (checks problem s l is reply) = log_status problem log s l reply
check_status text log _ _ (refused_text refusal broken) = record { no_usage = λ e. cc; no_read = λ e. cc; no_write = λ e. cc }
check_status text log _ _ (limited_text excess over) = record { no_usage = λ e. cc; no_read = λ e. cc; no_write = λ e. cc }

-- nor does one to the evaluation of a policy
policy_status : (problem : Problem) (bytes : List ℕ) (status : Status) (line : List ℕ) → IsPolicyReply problem bytes status line → IsEnd status
policy_status problem bytes _ _ (satisfied policy value sums holds is) = record { no_usage = λ e. cc; no_read = λ e. cc; no_write = λ e. cc }
policy_status problem bytes _ _ (hard_fails policy instance scenario holds fails) = record { no_usage = λ e. cc; no_read = λ e. cc; no_write = λ e. cc }
policy_status problem bytes _ _ (chance_fails policy instance sum holds fails) = record { no_usage = λ e. cc; no_read = λ e. cc; no_write = λ e. cc }
policy_status problem bytes _ _ (objective_fails policy scenario holds fails) = record { no_usage = λ e. cc; no_read = λ e. cc; no_write = λ e. cc }
policy_status problem bytes _ _ (unreadable_policy refusal is) = record { no_usage = λ e. cc; no_read = λ e. cc; no_write = λ e. cc }

eval_status : (text bytes : List ℕ) (status : Status) (line : List ℕ) → IsEvalReply text bytes status line → IsEnd status
eval_status text bytes status line (evaluated problem s l is reply) = policy_status problem bytes s l reply
eval_status text bytes _ _ (text_refused refusal broken) = record { no_usage = λ e. cc; no_read = λ e. cc; no_write = λ e. cc }
eval_status text bytes _ _ (text_limited excess over) = record { no_usage = λ e. cc; no_read = λ e. cc; no_write = λ e. cc }

pub pair_status : (command : PairCommand) (text bytes : List ℕ) (status : Status) (line : List ℕ) → IsPairReply command text bytes status line → IsEnd status
pair_status Check text bytes status line is = check_status text bytes status line is
pair_status Eval text bytes status line is = eval_status text bytes status line is

-- all replies to the same two files end alike
abbrev pub PairsEndOnce : Type 0
PairsEndOnce =
    (command : PairCommand) (text bytes : List ℕ) (a b : Status) (l m : List ℕ) → IsPairReply command text bytes a l → IsPairReply command text bytes b m → a ≡ b

pub pairs_end_once : ChecksEndOnce → EvalsEndOnce → PairsEndOnce
pairs_end_once of_checks of_evals Check text bytes a b l m one other = (of_checks text bytes a b l m one other).status
pairs_end_once of_checks of_evals Eval text bytes a b l m one other = (of_evals text bytes a b l m one other).0

job_status : (text second : List ℕ) (budget : ℕ) (job : Job) (status : Status) → EndsJob text second budget job status → IsEnd status
job_status text second budget (Text command) status end = end_status text budget command status end
job_status text second budget (Pair command) status end = pair_status command text second status end.0 end.1
job_status text second budget (Drawn Gen) status end = subst IsEnd (sym end) (record { no_usage = λ e. cc; no_read = λ e. cc; no_write = λ e. cc })
job_status text second budget (Drawn Demo) status end = end_status text budget (Solve Summary) status end

-- what is asked for ends in one way, but that a search may be cut short
job_alike : PairsEndOnce → (text second : List ℕ) (budget : ℕ) (job : Job) (status other : Status) → EndsJob text second budget job status
    → EndsJob text second budget job other → settled status ≡ settled other
job_alike once text second budget (Text command) status other end ends = ends_alike text budget command status other end ends
job_alike once text second budget (Pair command) status other end ends = ap settled (once command text second status other end.0 ends.0 end.1 ends.1)
job_alike once text second budget (Drawn Gen) status other end ends = ap settled (end ∙ sym ends)
job_alike once text second budget (Drawn Demo) status other end ends = ends_alike text budget (Solve Summary) status other end ends

-- the bytes that the stock gives for the second file are given
pub second_is_given : (request : Request) (stock : Option Stock) → AreSecondBytes request stock (second_given stock request)
second_is_given request None = tt
second_is_given request (Some s) = refl

-- of files that are read, what is asked for is what the stock gives
pub asked_read : (stock : Option Stock) (request : Request) → is_drawn request.job ≡ false
    → asked_by stock request ≡ option_map (λ s. asked_on request (text_of s request.model) (text_of (begun_stock s) request.second)) stock
asked_read None request files =
    ap (λ (b : Bool). option_map (λ text. asked_on request text []) (if b then Some (generated_text request.stages request.seed) else None)) files
asked_read (Some s) request files =
    ap (λ (b : Bool). option_map (λ text. asked_on request text (text_of (begun_stock s) request.second))
    (if b then Some (generated_text request.stages request.seed) else Some (text_of s request.model))) files

-- of a text that is drawn, that text
pub asked_drawn : (stock : Option Stock) (request : Request) → is_drawn request.job ≡ true
    → asked_by stock request ≡ Some (asked_on request (generated_text request.stages request.seed) (second_given stock request))
asked_drawn stock request drawn =
    ap (λ (b : Bool). option_map (λ text. asked_on request text (second_given stock request))
    (if b then Some (generated_text request.stages request.seed) else option_map (λ s. text_of s request.model) stock)) drawn

-- a search whose budget is enough is done
search_done : (text : List ℕ) (budget : ℕ) (detail : Detail) (status : Status) (problem : Problem) → SolvedText text problem → most_nodes problem ≤ budget
    → Ends text budget (Solve detail) status → status ≡ Done
search_done text budget detail status problem a enough ends =
    settled_done status (ends_alike text budget (Solve detail) status Done ends (solved detail problem a)) (ends_settled text budget problem a enough (Solve detail) status ends)

solve_done : (text second : List ℕ) (budget : ℕ) (job : Job) (status : Status) → is_search job ≡ true → (problem : Problem) → SolvedText text problem → most_nodes problem ≤ budget
    → EndsJob text second budget job status → status ≡ Done
solve_done text second budget (Text (Solve detail)) status search problem a enough end = search_done text budget detail status problem a enough end
solve_done text second budget (Text Tree) status search problem a enough end = cc
solve_done text second budget (Pair command) status search problem a enough end = cc
solve_done text second budget (Drawn Gen) status search problem a enough end = cc
solve_done text second budget (Drawn Demo) status search problem a enough end = search_done text budget Summary status problem a enough end

-- what a status says of the words, the source and the text
pub record Tells (wanted : Option Request) (stock : Option Stock) (before now : ℕ) (status : Status) : Type 0 where
  pub usage : status ≡ Usage → wanted ≡ None
  pub usage_when : wanted ≡ None → (status ≡ Usage) ⊎ (status ≡ WriteFault) ⊎ (status ≡ NoMemory)
  pub read : status ≡ ReadFault → Rose before now
  pub read_of_files : status ≡ ReadFault → reads_files wanted ≡ true
  pub ends : EndsSoundly (asked_in stock wanted) status
  pub ends_when : EndsCompletely (asked_in stock wanted) status
  pub enough : SettlesInBudget (asked_in stock wanted) status

module _ (wanted : Option Request) (stock : Option Stock) (before now : ℕ) where
  -- what is told of the text is told of what is asked for
  pub told_of : (request : Request) (text second : List ℕ) → is_drawn request.job ≡ false → IsModelText request wanted stock text → AreSecondBytes request stock second
      → (P : Asked → Type 0) → P (asked_on request text second) → IfSome (asked_in stock wanted) P
  told_of request text second files is are P p =
      subst (λ o. IfSome (option_and_then (asked_by stock) o) P) (sym is.asked)
      (subst (λ a. IfSome a P) (sym (asked_read stock request files)) (by_stock stock is.given are))
    where
      by_stock : (o : Option Stock) → IfSome o (λ s. text ≡ text_of s request.model) → AreSecondBytes request o second
          → IfSome (option_map (λ s. asked_on request (text_of s request.model) (text_of (begun_stock s) request.second)) o) P
      by_stock None given given_second = tt
      by_stock (Some s) given given_second =
          subst (λ b. P (asked_on request (text_of s request.model) b)) given_second (subst (λ t. P (asked_on request t second)) given p)

  -- of a text that is drawn too
  pub told_drawn : (request : Request) → wanted ≡ Some request → is_drawn request.job ≡ true → (P : Asked → Type 0)
      → P (asked_on request (generated_text request.stages request.seed) (second_given stock request)) → IfSome (asked_in stock wanted) P
  told_drawn request asked drawn P p =
      subst (λ o. IfSome (option_and_then (asked_by stock) o) P) (sym asked) (subst (λ a. IfSome a P) (sym (asked_drawn stock request drawn)) p)

  none_asked : wanted ≡ None → asked_in stock wanted ≡ None
  none_asked none = ap (λ o. option_and_then (asked_by stock) o) none

  -- a run that ended early
  early_tells : (status : Status) → EndedEarly status → ¬ (status ≡ Usage) → (status ≡ ReadFault → Rose before now) → (status ≡ ReadFault → reads_files wanted ≡ true)
      → (wanted ≡ None → (status ≡ Usage) ⊎ (status ≡ WriteFault) ⊎ (status ≡ NoMemory)) → Tells wanted stock before now status
  early_tells status early no_usage read files when =
      record {
        usage = λ e. absurd (no_usage e);
        usage_when = when;
        read = read;
        read_of_files = files;
        ends = early_so (asked_in stock wanted) status early;
        ends_when = early_when (asked_in stock wanted) status early;
        enough = early_settled (asked_in stock wanted) status early;
      }

  pub write_tells : Tells wanted stock before now WriteFault
  write_tells = early_tells WriteFault (inr (inl refl)) (λ e. cc) (λ e. cc) (λ e. cc) (λ none. inr (inl refl))

  pub memory_tells : Tells wanted stock before now NoMemory
  memory_tells = early_tells NoMemory (inr (inr refl)) (λ e. cc) (λ e. cc) (λ e. cc) (λ none. inr (inr refl))

  text_tells : PairsEndOnce → (request : Request) (text second : List ℕ) (status : Status) → wanted ≡ Some request
      → ((P : Asked → Type 0) → P (asked_on request text second) → IfSome (asked_in stock wanted) P)
      → EndsJob text second request.plan.budget request.job status → Tells wanted stock before now status
  text_tells once request text second status asked tell end =
      let no = job_status text second request.plan.budget request.job status end in
      record {
        usage = λ e. absurd (no.no_usage e);
        usage_when = λ none. absurd (one_request request wanted asked none);
        read = λ e. absurd (no.no_read e);
        read_of_files = λ e. absurd (no.no_read e);
        ends = tell (λ a. EndedEarly status ⊎ EndsJob a.text a.second a.budget a.job status) (inr end);
        ends_when = tell
            (λ a. (other : Status) → EndsJob a.text a.second a.budget a.job other → (settled status ≡ settled other) ⊎ EndedEarly status)
            (λ other ends. inl (job_alike once text second request.plan.budget request.job status other end ends));
        enough = tell
            (λ a. is_search a.job ≡ true → (problem : Problem) → SolvedText a.text problem → most_nodes problem ≤ a.budget → (status ≡ Done) ⊎ EndedEarly status)
            (λ solve problem a enough. inl (solve_done text second request.plan.budget request.job status solve problem a enough end));
      }

  usage_tells : wanted ≡ None → Tells wanted stock before now Usage
  usage_tells none =
      record {
        usage = λ e. none;
        usage_when = λ e. inl refl;
        read = λ e. cc;
        read_of_files = λ e. cc;
        ends = subst (λ a. EndsSoundly a Usage) (sym (none_asked none)) tt;
        ends_when = subst (λ a. EndsCompletely a Usage) (sym (none_asked none)) tt;
        enough = subst (λ a. SettlesInBudget a Usage) (sym (none_asked none)) tt;
      }

  fault_tells : reads_files wanted ≡ true → Rose before now → Tells wanted stock before now ReadFault
  fault_tells files rose = early_tells ReadFault (inl refl) (λ e. cc) (λ e. rose) (λ e. files) (λ none. absurd (impossible (sym files ∙ ap reads_files none)))

  -- each reply tells
  reply_tells : PairsEndOnce → (log : Option (List ℕ)) (status : Status) (line : List ℕ) → IsReply wanted stock before now log status line → Tells wanted stock before now status
  reply_tells once log status line (replied request command text l s m job is reply) =
      text_tells once request text (second_given stock request) s is.asked (told_of request text (second_given stock request) (ap is_drawn job) is (second_is_given request stock))
      (subst (λ (j : Job). EndsJob text (second_given stock request) request.plan.budget j s) (sym job) (text_reply_ends text request.plan command l s m reply))
  reply_tells once log status line (replied_on_both request command text bytes s m job is are reply) =
      text_tells once request text bytes s is.asked (told_of request text bytes (ap is_drawn job) is are) (subst (λ (j : Job). EndsJob text bytes request.plan.budget j s) (sym job) (m, reply))
  reply_tells once log status line (generated request asked job) =
      text_tells once request (generated_text request.stages request.seed) (second_given stock request) Done asked (told_drawn request asked (ap is_drawn job))
      (subst (λ (j : Job). EndsJob (generated_text request.stages request.seed) (second_given stock request) request.plan.budget j Done) (sym job) refl)
  reply_tells once log status line (demonstrated request l s m asked job reply) =
      text_tells once request (generated_text request.stages request.seed) (second_given stock request) s asked (told_drawn request asked (ap is_drawn job))
      (subst (λ (j : Job). EndsJob (generated_text request.stages request.seed) (second_given stock request) request.plan.budget j s) (sym job)
      (text_reply_ends (generated_text request.stages request.seed) request.plan (Solve Summary) l s m reply))
  reply_tells once log status line (usage none) = usage_tells none
  reply_tells once log status line (read_fault files rose) = fault_tells files rose

  -- and no reply is that a sink failed
  pub not_written : (log : Option (List ℕ)) (status : Status) (line : List ℕ) → IsReply wanted stock before now log status line → ¬ (status ≡ WriteFault)
  not_written log status line (replied request command text l s m job is reply) =
      (end_status text request.plan.budget command s (text_reply_ends text request.plan command l s m reply)).no_write
  not_written log status line (replied_on_both request command text bytes s m job is are reply) = (pair_status command text bytes s m reply).no_write
  not_written log status line (generated request asked job) = λ e. cc
  not_written log status line (demonstrated request l s m asked job reply) =
      (end_status (generated_text request.stages request.seed) request.plan.budget (Solve Summary) s
      (text_reply_ends (generated_text request.stages request.seed) request.plan (Solve Summary) l s m reply)).no_write
  not_written log status line (usage none) = λ e. cc
  not_written log status line (read_fault named rose) = λ e. cc

  module _ (old new : Option (List ℕ)) (answer_before answer_now : ℕ) (log_old log_new : SinkState) where
    -- a status behind a reply that was written, or a prefix of it
    pub written_tells : PairsEndOnce → (reply : Reply) (status : Status) → Replied wanted stock before now log_old log_new reply → IsWritten old new answer_before answer_now reply status → Tells wanted stock before now status
    written_tells once reply status is (all taken) = reply_tells once is.log reply.status (string_bytes reply.line) is.is
    written_tells once reply status is (part rose taken) = write_tells

    pub written_ends : (reply : Reply) (status : Status) (left : Option (List ℕ)) → IsWritten old new answer_before answer_now reply status → (IsAnswered reply.status → IsAtEnd left) → IsAnswered status → IsAtEnd left
    written_ends reply status left (all taken) ended = ended
    written_ends reply status left (part rose taken) ended = λ answered. absurd (early_no_answer WriteFault (inr (inl refl)) answered)

    pub written_cause : (reply : Reply) (status : Status) (one two : ℕ) → Replied wanted stock before now log_old log_new reply
        → (status ≡ WriteFault → (reply.status ≡ WriteFault) ⊎ Rose one two) → status ≡ WriteFault → Rose one two
    written_cause reply status one two is cause failed = by_cause (cause failed)
      where
        by_cause : (reply.status ≡ WriteFault) ⊎ Rose one two → Rose one two
        by_cause (inl meant) = absurd (not_written is.log reply.status (string_bytes reply.line) is.is meant)
        by_cause (inr rose) = rose

  -- where there is no reply
  pub stop_tells : (stop : SearchStop) (status : Status) → status ≡ stop_status stop → Tells wanted stock before now status
  stop_tells Write status is = subst (Tells wanted stock before now) (sym is) write_tells
  stop_tells search.NoMemory status is = subst (Tells wanted stock before now) (sym is) memory_tells

pub stop_cause : (stop : SearchStop) (status : Status) (result : Result Reply SearchStop) (one two : ℕ) → result ≡ Err stop → (result ≡ Err Write → Rose one two)
    → status ≡ stop_status stop → status ≡ WriteFault → Rose one two
stop_cause Write status result one two stops rose is failed = rose stops
stop_cause search.NoMemory status result one two stops rose is failed = cc

pub stop_no_answer : (stop : SearchStop) (status : Status) (left : Option (List ℕ)) → status ≡ stop_status stop → IsAnswered status → IsAtEnd left
stop_no_answer Write status left is answered = absurd (early_no_answer status (inr (inl is)) answered)
stop_no_answer search.NoMemory status left is answered = absurd (early_no_answer status (inr (inr is)) answered)

-- a reply that was written, or a prefix of it
pub run_written : (wanted : Option Request) (old new : RunState) (reply : Reply) (status : Status)
    → Replied wanted old.source.stock old.source.faults new.source.faults old.log.state new.log.state reply
    → IsWritten old.answer.state.taken new.answer.state.taken old.answer.faults new.answer.faults reply status → Answers wanted old new status
run_written wanted old new reply status is (all taken) = whole is.log reply.status (string_bytes reply.line) is.is taken is.logged
run_written wanted old new reply status is (part rose taken) = prefix is.log reply.status (string_bytes reply.line) rose is.is taken is.logged

-- what is taken where there is no reply
pub stop_answers : (wanted : Option Request) (old new : RunState) (stop : SearchStop) (status : Status) → status ≡ stop_status stop
    → (stop ≡ Write → Rose old.log.faults new.log.faults) → Keeps old.answer.state.taken new.answer.state.taken
    → StopsWith wanted old.source.stock old.log.state new.log.state stop → Answers wanted old new status
stop_answers wanted old new Write status is rose kept cut = subst (Answers wanted old new) (sym is) (log_prefix (rose refl) kept cut)
stop_answers wanted old new search.NoMemory status is rose kept stops = subst (Answers wanted old new) (sym is) (nothing kept stops)
