-- At most one byte more is read of a text than a text may have: what is answered of the bytes that were read holds of the text.
use Rattle.std.proofs.Common.{◌≡◌, ◌⊎◌, inl, inr, ℕ, ◌≤◌, ◌<◌, List, [], length, take, refl, sym, ap, ◌∙◌, subst, arith, true, false, not, Option, Some, None, Result, Ok, Err, IfOk, IfErr, IfSome, option_map, codes}
use Rattle.std.proofs.lemmas.List.{take_all, length-take}
use Rattle.std.specs.Option.{option_map_or}
use Rattle.std.specs.Prelude.{string_bytes}
use Rattle.std.specs.Io.KnownBytes.{IsAtEnd}
use Rattle.sopl_io.specs.Causes.{Rose}
use Rattle.sopl_io.specs.Stock.{Stock, begun_stock, text_of}
use Rattle.sopl_io.specs.Transfer.{cut_at}
use Rattle.sopl_base.specs.declared.fault.Excess.{Excess}
use Rattle.sopl_base.specs.declared.fault.Refusal.{Refusal}
use Rattle.sopl_ast.specs.Accepted.{IsRefusedFor, no_tokens, misspelled, mistaken, stopped, IsLimitedFor, unfolding_passes, sizes_pass}
use Rattle.sopl_ast.specs.Tokens.{too_long, no_piece, too_large, max_length}
use Rattle.sopl_ast.specs.Limits.{usual_limits}
use Rattle.sopl_base.specs.declared.stop.SearchStop.{SearchStop}
use Rattle.sopl_base.specs.declared.stop.SearchStop.TheVariants.{Write, NoMemory}
use Rattle.log_rows.proofs.Written.{rose_later}
use Rattle.sopl_search.specs.Logged.{SearchPlan}
use Rattle.answer_lines.specs.AnswerData.{word_data, limit_data, line_of}
use Rattle.answer_texts.specs.Logs.{IsUnused, SinkState}
use Rattle.answer_texts.specs.Solved.{SolvedText}
use Rattle.answer_texts.specs.Replies.{IsRefusedOn, by_rule, IsLimitedOn, by_size, by_terms, IsTextReply, optimal, infeasible, bounded, scenes, refused, limited, Replies}
use Rattle.answer_texts.specs.Replies.{IsCut, Logged, StopsByCause}
use Rattle.answer_texts.specs.declared.command.Command.{Command}
use Rattle.answer_texts.specs.declared.command.Command.TheVariants.{Solve}
use Rattle.answer_texts.specs.declared.command.Detail.TheVariants.{Full, Summary}
use Rattle.answer_texts.specs.declared.reply.Reply.{Reply}
use Rattle.answer_texts.specs.declared.status.Status.{Status}
use Rattle.answer_texts.specs.declared.status.Status.TheVariants.{Done, Usage, Refused, Limit, ReadFault}
use Rattle.answer_texts.specs.Away.{IsTurnedAway}
use Rattle.answer_check.specs.CheckReplies.{IsCheckReply, checked as checks, refused_text, limited_text}
use Rattle.answer_eval.specs.EvalReplies.{IsEvalReply, evaluated, text_refused, text_limited}
use Rattle.answer_run.specs.declared.commands.Job.TheVariants.{Text, Pair, Drawn}
use Rattle.answer_run.specs.declared.commands.PairCommand.{PairCommand}
use Rattle.answer_run.specs.declared.commands.PairCommand.TheVariants.{Check, Eval}
use Rattle.model_gen.specs.Texts.{generated_text}
use Rattle.answer_run.specs.declared.commands.DrawnCommand.TheVariants.{Gen, Demo}
use Rattle.answer_run.specs.Words.{Request, is_drawn, reads_files}
use Rattle.answer_run.specs.Replies.{IsAnswered, IsCutOff, cut_off, demo_cut_off, IsPairReply, IsReply, IsTaken, replied, replied_on_both, generated, demonstrated, usage, read_fault, log_name}
use Rattle.answer_run.specs.Runs.{Replied, StopsWith, AnswersBoth, second_read, second_unread}

-- a prefix of a text that is short enough is the whole text
prefix_is_whole : (most : ℕ) → max_length < most → (text : List ℕ) → length (take most text) ≤ max_length → take most text ≡ text
prefix_is_whole most more text short = take_all most text (omega (arith, more, short, length-take {A = ℕ} most text))

-- a text that passes a limit is no longer than a text may be
size_short : (text : List ℕ) (excess : Excess) → IsLimitedFor usual_limits text excess → length text ≤ max_length
size_short text excess (unfolding_passes model is typed stops) = is.read.0
size_short text excess (sizes_pass model is typed passes over) = is.read.0

limited_short : (text : List ℕ) (excess : Excess) (command : Command) → IsLimitedOn text excess command → length text ≤ max_length
limited_short text excess _ (by_size command over) = size_short text excess over
limited_short text excess _ (by_terms command over) = over.spelled.read.0

-- a text is refused where what is read of it is
refused_short : (most : ℕ) → max_length < most → (text : List ℕ) (refusal : Refusal) → length (take most text) ≤ max_length → IsRefusedFor (take most text) refusal → IsRefusedFor text refusal
refused_short most more text refusal short r = subst (λ t. IsRefusedFor t refusal) (prefix_is_whole most more text short) r

refused_whole : (most : ℕ) → max_length < most → (text : List ℕ) (refusal : Refusal) → IsRefusedFor (take most text) refusal → IsRefusedFor text refusal
refused_whole most more text refusal (no_tokens (too_long code at long)) =
    no_tokens (too_long code at (omega (arith, long, length-take {A = ℕ} most text)))
refused_whole most more text refusal (no_tokens (no_piece rest code short reaches stuck)) =
    refused_short most more text refusal short (no_tokens (no_piece rest code short reaches stuck))
refused_whole most more text refusal (no_tokens (too_large rest code short reaches large)) =
    refused_short most more text refusal short (no_tokens (too_large rest code short reaches large))
refused_whole most more text refusal (misspelled tokens read wrong) = refused_short most more text refusal read.0 (misspelled tokens read wrong)
refused_whole most more text refusal (mistaken model is first) = refused_short most more text refusal is.read.0 (mistaken model is first)
refused_whole most more text refusal (stopped model is typed stops) = refused_short most more text refusal is.read.0 (stopped model is typed stops)

refused_on : (most : ℕ) → max_length < most → (text : List ℕ) (refusal : Refusal) (command : Command) → IsRefusedOn (take most text) refusal command → IsRefusedOn text refusal command
refused_on most more text refusal _ (by_rule command reason) = by_rule command (refused_whole most more text refusal reason)

-- a reply to what was read of a text, where that is no longer than a text may be
reply_moved : (most : ℕ) → max_length < most → (text : List ℕ) (plan : SearchPlan) (command : Command) (log : Option (List ℕ)) (status : Status) (line : List ℕ)
    → length (take most text) ≤ max_length → IsTextReply (take most text) plan command log status line → IsTextReply text plan command log status line
reply_moved most more text plan command log status line short r =
    subst (λ t. IsTextReply t plan command log status line) (prefix_is_whole most more text short) r

-- a reply to what was read of a text is a reply to the text
reply_whole : (most : ℕ) → max_length < most → (text : List ℕ) (plan : SearchPlan) (command : Command) (log : Option (List ℕ)) (status : Status) (line : List ℕ)
    → IsTextReply (take most text) plan command log status line → IsTextReply text plan command log status line
reply_whole most more text plan _ _ _ _ (optimal k problem policy value log is best logged) =
    reply_moved most more text plan _ _ _ _ is.spelled.read.0 (optimal k problem policy value log is best logged)
reply_whole most more text plan _ _ _ _ (infeasible k problem log is none logged) =
    reply_moved most more text plan _ _ _ _ is.spelled.read.0 (infeasible k problem log is none logged)
reply_whole most more text plan _ _ _ _ (bounded k problem found bound log is known less logged) =
    reply_moved most more text plan _ _ _ _ is.spelled.read.0 (bounded k problem found bound log is known less logged)
reply_whole most more text plan _ _ _ _ (scenes problem accepted) =
    reply_moved most more text plan _ _ _ _ accepted.spelled.read.0 (scenes problem accepted)
reply_whole most more text plan _ _ _ _ (refused command refusal why) = refused command refusal (refused_on most more text refusal command why)
reply_whole most more text plan _ _ _ _ (limited command excess over) =
    reply_moved most more text plan _ _ _ _ (limited_short (take most text) excess command over) (limited command excess over)

-- so it is of a log that was cut off
cut_whole : (most : ℕ) → max_length < most → (text : List ℕ) (plan : SearchPlan) (command : Command) (name : List ℕ) (old new : SinkState)
    → IsCut (take most text) plan command name old new → IsCut text plan command name old new
cut_whole most more text plan command name old new cut =
    subst (λ t. IsCut t plan command name old new) (prefix_is_whole most more text cut.is_solved.spelled.read.0) cut

-- a plan with the seats and the order that are asked for is the one that is asked for
abbrev pub plan_with : Request → ℕ → Option ℕ → SearchPlan
plan_with request seats order = record { seats = seats; order = order; asked = request.plan.asked; budget = request.plan.budget }

pub same_plan : (request : Request) (seats : ℕ) (order : Option ℕ) → seats ≡ request.plan.seats → order ≡ request.plan.order → plan_with request seats order ≡ request.plan
same_plan request seats order one other = λ i. plan_with request (one i) (other i)

module _ (wanted : Option Request) (stock : Option Stock) (before now : ℕ) (old new : SinkState) where
  pub name_is : (request : Request) → wanted ≡ Some request → log_name wanted ≡ request.log
  name_is request asked = ap (λ (o : Option Request). option_map_or (λ (r : Request). r.log) o []) asked

  module _ (bytes : List ℕ) (request : Request) (command : Command) (job : request.job ≡ Text command) (most : ℕ) (asked : wanted ≡ Some request)
      (more : max_length < most) where
    -- what is answered of the bytes that were read is a reply to the words
    read_reply : (o : Option Stock) → IfSome o (λ s. bytes ≡ cut_at (Some most) (text_of s request.model)) → (log : Option (List ℕ)) (status : Status) (line : List ℕ)
        → IsTextReply bytes request.plan command log status line → IsReply wanted o before now log status line
    read_reply None read log status line reply = replied request command bytes log status line job (record { asked = asked; given = tt }) reply
    read_reply (Some s) read log status line reply =
        replied request command (text_of s request.model) log status line job (record { asked = asked; given = refl })
        (reply_whole most more (text_of s request.model) request.plan command log status line
        (subst (λ b. IsTextReply b request.plan command log status line) read reply))

    read_cut : (o : Option Stock) → IfSome o (λ s. bytes ≡ cut_at (Some most) (text_of s request.model))
        → IsCut bytes request.plan command request.log old new → IsCutOff wanted o old new
    read_cut None read cut = cut_off request command bytes job (record { asked = asked; given = tt }) cut
    read_cut (Some s) read cut =
        cut_off request command (text_of s request.model) job (record { asked = asked; given = refl })
        (cut_whole most more (text_of s request.model) request.plan command request.log old new
        (subst (λ b. IsCut b request.plan command request.log old new) read cut))

    module _ (slice : List ℕ) (same : slice ≡ bytes) (read : IfSome stock (λ s. bytes ≡ cut_at (Some most) (text_of s request.model))) where
      -- a reply that was made of so many bytes is one of the text
      pub reply_made : (plan : SearchPlan) → plan ≡ request.plan → (result : Result Reply SearchStop)
          → IfOk result (λ reply. Replies slice plan command request.log old new reply.status (string_bytes reply.line))
          → IfOk result (Replied wanted stock before now old new)
      reply_made plan planned (Err stop) replies = tt
      reply_made plan planned (Ok reply) replies =
          record {
            log = replies.log;
            is = read_reply stock read replies.log reply.status (string_bytes reply.line)
                (subst (λ b. IsTextReply b request.plan command replies.log reply.status (string_bytes reply.line)) same
                (subst (λ (p : SearchPlan). IsTextReply slice p command replies.log reply.status (string_bytes reply.line)) planned replies.reply));
            logged = subst (λ n. Logged n replies.log old new) (sym (name_is request asked)) replies.logged;
          }

      stop_made : (stop : SearchStop) → StopsByCause slice request.plan command request.log old new stop → StopsWith wanted stock old new stop
      stop_made Write cut = read_cut stock read (subst (λ b. IsCut b request.plan command request.log old new) same cut)
      stop_made NoMemory (inl unused) = inl unused
      stop_made NoMemory (inr cut) = inr (read_cut stock read (subst (λ b. IsCut b request.plan command request.log old new) same cut))

      -- and of why there is none
      pub stops_made : (plan : SearchPlan) → plan ≡ request.plan → (result : Result Reply SearchStop) → IfErr result (StopsByCause slice plan command request.log old new)
          → IfErr result (StopsWith wanted stock old new)
      stops_made plan planned (Ok reply) stops = tt
      stops_made plan planned (Err stop) stops =
          stop_made stop (subst (λ (p : SearchPlan). StopsByCause slice p command request.log old new stop) planned stops)

-- a text that is turned away is not answered
pub away_no_answer : (status : Status) → IsTurnedAway status → IsAnswered status → ⊥
away_no_answer status (inl away) (inl done) = cc
away_no_answer status (inl away) (inr (inl done)) = cc
away_no_answer status (inl away) (inr (inr (inl done))) = cc
away_no_answer status (inl away) (inr (inr (inr done))) = cc
away_no_answer status (inr away) (inl done) = cc
away_no_answer status (inr away) (inr (inl done)) = cc
away_no_answer status (inr away) (inr (inr (inl done))) = cc
away_no_answer status (inr away) (inr (inr (inr done))) = cc

-- a text that is answered is no longer than a text may be
answered_short : (text : List ℕ) (plan : SearchPlan) (command : Command) (log : Option (List ℕ)) (status : Status) (line : List ℕ)
    → IsTextReply text plan command log status line → IsAnswered status → length text ≤ max_length
answered_short text plan _ _ _ _ (optimal k problem policy value log is best logged) done = is.spelled.read.0
answered_short text plan _ _ _ _ (infeasible k problem log is none logged) done = is.spelled.read.0
answered_short text plan _ _ _ _ (bounded k problem found bound log is known less logged) done = is.spelled.read.0
answered_short text plan _ _ _ _ (scenes problem accepted) done = accepted.spelled.read.0
answered_short text plan _ _ _ _ (refused command refusal why) done = absurd (away_no_answer Refused (inl refl) done)
answered_short text plan _ _ _ _ (limited command excess over) done = absurd (away_no_answer Limit (inr refl) done)

not_full : (most size : ℕ) → Some most ≡ Some size → size < most → ⊥
not_full most size same below = absurd (omega (arith, below, one most size same))
  where
    one : (a b : ℕ) → Some a ≡ Some b → a ≡ b
    one a b e = cc

-- so it was read to its end
pub ended_made : (bytes : List ℕ) (plan : SearchPlan) (command : Command) (name : List ℕ) (old new : SinkState) (most size : ℕ) (left : Option (List ℕ)) (result : Result Reply SearchStop)
    → length bytes ≡ size → IsAtEnd left ⊎ (Some most ≡ Some size) → max_length < most
    → IfOk result (λ reply. Replies bytes plan command name old new reply.status (string_bytes reply.line))
    → IfOk result (λ reply. IsAnswered reply.status → IsAtEnd left)
ended_made bytes plan command name old new most size left (Err stop) same end more replies = tt
ended_made bytes plan command name old new most size left (Ok reply) same (inl at_end) more replies = λ done. at_end
ended_made bytes plan command name old new most size left (Ok reply) same (inr full) more replies =
    λ done.
    let short : length bytes ≤ max_length = answered_short bytes plan command replies.log reply.status (string_bytes reply.line) replies.reply done in
    absurd (not_full most size full (omega (arith, more, short, same)))

-- The lines that speak of no text.

-- files are read for what is asked for so
pub files_read : (r : Request) (o : Option Request) → o ≡ Some r → is_drawn r.job ≡ false → reads_files o ≡ true
files_read r o asked files = ap reads_files asked ∙ ap not files

module _ (wanted : Option Request) (stock : Option Stock) (before now : ℕ) (at : SinkState) where
  unused : IsUnused at at
  unused = record { taken = refl; names = refl }

  word_replied : (status : Status) (word : List ℕ) → IsReply wanted stock before now None status (line_of (word_data word)) → (result : Result Reply SearchStop)
      → IfOk result (λ reply. reply.status ≡ status) → IfOk result (λ reply. string_bytes reply.line ≡ line_of (word_data word))
      → IfOk result (Replied wanted stock before now at at)
  word_replied status word why (Err stop) ends is = tt
  word_replied status word why (Ok reply) ends is =
      record {
        log = None;
        is = subst (λ s. IsReply wanted stock before now None s (string_bytes reply.line)) (sym ends) (subst (λ l. IsReply wanted stock before now None status l) (sym is) why);
        logged = unused;
      }

  pub usage_replied : wanted ≡ None → (result : Result Reply SearchStop) → IfOk result (λ reply. reply.status ≡ Usage)
      → IfOk result (λ reply. string_bytes reply.line ≡ line_of (word_data (codes "usage"))) → IfOk result (Replied wanted stock before now at at)
  usage_replied none result ends is = word_replied Usage (codes "usage") (usage none) result ends is

  pub fault_replied : (request : Request) → wanted ≡ Some request → is_drawn request.job ≡ false → Rose before now → (result : Result Reply SearchStop)
      → IfOk result (λ reply. reply.status ≡ ReadFault) → IfOk result (λ reply. string_bytes reply.line ≡ line_of (word_data (codes "read fault")))
      → IfOk result (Replied wanted stock before now at at)
  fault_replied request asked files rose result ends is = word_replied ReadFault (codes "read fault") (read_fault (files_read request wanted asked files) rose) result ends is

-- A command on a text that is drawn.

module _ (request : Request) (stock : Option Stock) (before now : ℕ) (old new : SinkState) where
  abbrev own : List ℕ
  own = generated_text request.stages request.seed

  -- the text
  pub text_drawn : request.job ≡ Drawn Gen → (status : Status) (line : List ℕ) → status ≡ Done → line ≡ own → IsReply (Some request) stock before now None status line
  text_drawn job status line done is =
      subst (λ s. IsReply (Some request) stock before now None s line) (sym done)
      (subst (λ l. IsReply (Some request) stock before now None Done l) (sym is) (generated request refl job))

  -- the summary
  pub demo_made : request.job ≡ Drawn Demo → (text : List ℕ) → text ≡ own → (plan : SearchPlan) → plan ≡ request.plan → (result : Result Reply SearchStop)
      → IfOk result (λ reply. Replies text plan (Solve Summary) request.log old new reply.status (string_bytes reply.line))
      → IfOk result (Replied (Some request) stock before now old new)
  demo_made job text is plan planned (Err stop) replies = tt
  demo_made job text is plan planned (Ok reply) replies =
      record {
        log = replies.log;
        is = demonstrated request replies.log reply.status (string_bytes reply.line) refl job
            (subst (λ t. IsTextReply t request.plan (Solve Summary) replies.log reply.status (string_bytes reply.line)) is
            (subst (λ (p : SearchPlan). IsTextReply text p (Solve Summary) replies.log reply.status (string_bytes reply.line)) planned replies.reply));
        logged = replies.logged;
      }

  -- or why there is none
  demo_stop : request.job ≡ Drawn Demo → (stop : SearchStop) → StopsByCause own request.plan (Solve Summary) request.log old new stop
      → StopsWith (Some request) stock old new stop
  demo_stop job Write cut = demo_cut_off request refl job cut
  demo_stop job NoMemory (inl unused) = inl unused
  demo_stop job NoMemory (inr cut) = inr (demo_cut_off request refl job cut)

  pub demo_stops : request.job ≡ Drawn Demo → (text : List ℕ) → text ≡ own → (plan : SearchPlan) → plan ≡ request.plan → (result : Result Reply SearchStop)
      → IfErr result (StopsByCause text plan (Solve Summary) request.log old new) → IfErr result (StopsWith (Some request) stock old new)
  demo_stops job text is plan planned (Ok reply) stops = tt
  demo_stops job text is plan planned (Err stop) stops =
      demo_stop job stop (subst (λ t. StopsByCause t request.plan (Solve Summary) request.log old new stop) is
      (subst (λ (p : SearchPlan). StopsByCause text p (Solve Summary) request.log old new stop) planned stops))

-- A command on the text and a second file.

-- a text that is taken was read whole
pub taken_whole : (command : PairCommand) (most : ℕ) → max_length < most → (text : List ℕ) → IsTaken command (take most text) → IsTaken command text
taken_whole command most more text (problem, is) = (problem, subst (λ t. SolvedText t problem) (prefix_is_whole most more text is.spelled.read.0) is)

-- a reply to what was read of a text and to a second file is one to the text
check_whole : (most : ℕ) → max_length < most → (text log : List ℕ) (status : Status) (line : List ℕ) → IsCheckReply (take most text) log status line → IsCheckReply text log status line
check_whole most more text log status line (checks problem s l is reply) =
    subst (λ t. IsCheckReply t log s l) (prefix_is_whole most more text is.spelled.read.0) (checks problem s l is reply)
check_whole most more text log _ _ (refused_text refusal why) = refused_text refusal (refused_on most more text refusal (Solve Full) why)
check_whole most more text log _ _ (limited_text excess over) =
    subst (λ t. IsCheckReply t log Limit (line_of (limit_data excess))) (prefix_is_whole most more text (limited_short (take most text) excess (Solve Full) over)) (limited_text excess over)

eval_whole : (most : ℕ) → max_length < most → (text bytes : List ℕ) (status : Status) (line : List ℕ) → IsEvalReply (take most text) bytes status line → IsEvalReply text bytes status line
eval_whole most more text bytes status line (evaluated problem s l is reply) =
    subst (λ t. IsEvalReply t bytes s l) (prefix_is_whole most more text is.spelled.read.0) (evaluated problem s l is reply)
eval_whole most more text bytes _ _ (text_refused refusal why) = text_refused refusal (refused_on most more text refusal (Solve Full) why)
eval_whole most more text bytes _ _ (text_limited excess over) =
    subst (λ t. IsEvalReply t bytes Limit (line_of (limit_data excess))) (prefix_is_whole most more text (limited_short (take most text) excess (Solve Full) over)) (text_limited excess over)

pair_whole : (command : PairCommand) (most : ℕ) → max_length < most → (text bytes : List ℕ) (status : Status) (line : List ℕ) → IsPairReply command (take most text) bytes status line
    → IsPairReply command text bytes status line
pair_whole Check most more text bytes status line is = check_whole most more text bytes status line is
pair_whole Eval most more text bytes status line is = eval_whole most more text bytes status line is

module _ (wanted : Option Request) (before later now : ℕ) (up : before ≤ later) (at : SinkState) (bytes : List ℕ) (request : Request) (command : PairCommand)
    (job : request.job ≡ Pair command) (most : ℕ) (asked : wanted ≡ Some request) (more : max_length < most) where
  -- what is answered of both files is a reply to the words
  both_reply : (o : Option Stock) → IfSome o (λ s. bytes ≡ cut_at (Some most) (text_of s request.model)) → (status : Status) (line : List ℕ)
      → AnswersBoth command bytes request.second (option_map begun_stock o) later now status line → IsReply wanted o before now None status line
  both_reply o read status line (second_unread rose) = read_fault (files_read request wanted asked (ap is_drawn job)) (rose_later before later now up rose)
  both_reply None read status line (second_read second s l given reply) =
      replied_on_both request command bytes second s l job (record { asked = asked; given = tt }) tt reply
  both_reply (Some t) read status line (second_read second s l given reply) =
      replied_on_both request command (text_of t request.model) second s l job (record { asked = asked; given = refl }) given
      (pair_whole command most more (text_of t request.model) second s l (subst (λ b. IsPairReply command b second s l) read reply))

  pub both_made : (stock mid : Option Stock) → mid ≡ option_map begun_stock stock → (slice : List ℕ) → slice ≡ bytes
      → IfSome stock (λ s. bytes ≡ cut_at (Some most) (text_of s request.model)) → (result : Result Reply SearchStop)
      → IfOk result (λ reply. AnswersBoth command slice request.second mid later now reply.status (string_bytes reply.line))
      → IfOk result (Replied wanted stock before now at at)
  both_made stock mid begun slice same read (Err stop) replies = tt
  both_made stock mid begun slice same read (Ok reply) replies =
      record {
        log = None;
        is = both_reply stock read reply.status (string_bytes reply.line)
            (subst (λ m. AnswersBoth command bytes request.second m later now reply.status (string_bytes reply.line)) begun
            (subst (λ b. AnswersBoth command b request.second mid later now reply.status (string_bytes reply.line)) same replies));
        logged = record { taken = refl; names = refl };
      }
