use Rattle.std.proofs.Common.{◌+◌, rules, ◌≡◌, ◌∙◌, true, false, Option, Some, IfOk, IfErr, map, option_map, sym, subst}
use Rattle.std.specs.Io.KnownBytes.{IsAtEnd}
use Rattle.sopl_ast.specs.Tokens.{max_length}
use Rattle.answer_texts.specs.Logs.{told}
use Rattle.answer_texts.specs.declared.reply.Reply.{Reply}
use Rattle.answer_run.specs.Reads.{TakesAtMost}
use Rattle.answer_run.specs.Replies.{BeginsFiles, IsAnswered, IsUntouched, asked_in}
use Rattle.answer_run.specs.Runs.{Replied, StopsWith, meant_status}
use Rattle.answer_run.specs.Shown.{request_shown}
use Rattle.answer_run.specs.Words.{Request, asked_of, reads_files, request_with}
use Rattle.answer_run.proofs.Asked.{found_asked, missing_asked, none_asked}
use Rattle.answer_run.proofs.Reading.{none_begun}
use Rattle.answer_run.proofs.WholeText.{usage_replied}
use Rattle.answer_run.proofs.Calls.{usage_calls}
use Rattle.answer_run.proofs.top.reply_for.Goals as goal

pub returns-in_default-clause-reply : goal.returns-in_default-clause-reply
returns-in_default-clause-reply g c =
    let none = none_asked (map (λ b. ((goal.Brancher-dyn g (b.vtable, b.value)).label b.value, (goal.Brancher-dyn g (b.vtable, b.value)).rule b.value)) c.args.branchers.items) c.args.words.now (search rules) in
    usage_replied (asked_of (map (λ b. ((goal.Brancher-dyn g (b.vtable, b.value)).label b.value, (goal.Brancher-dyn g (b.vtable, b.value)).rule b.value)) c.args.branchers.items) c.args.words.now)
    (g.S.Source.stock c.args.source.now) (g.S.Source.faults c.args.source.now) (g.S.Source.faults c.args.source.now)
    (told (g.K.Sink.taken c.args.log.now) (g.K.Sink.names c.args.log.now)) none c.word_reply.result c.word_reply.ensures.status c.word_reply.ensures.line

pub returns-in_default-clause-outcomes : goal.returns-in_default-clause-outcomes
returns-in_default-clause-outcomes g c =
    usage_calls (g.S.Source.outcomes c.args.source.now) (g.S.Source.outcomes c.args.source.now) (g.K.Sink.outcomes c.args.log.now) (g.K.Sink.outcomes c.args.log.now) c.word_reply.result
    c.word_reply.ensures.status c.word_reply.ensures.memory

pub returns-in_default-clause-names : goal.returns-in_default-clause-names
returns-in_default-clause-names g c =
    let none = none_asked (map (λ b. ((goal.Brancher-dyn g (b.vtable, b.value)).label b.value, (goal.Brancher-dyn g (b.vtable, b.value)).rule b.value)) c.args.branchers.items) c.args.words.now (search rules) in
    none_begun (asked_of (map (λ b. ((goal.Brancher-dyn g (b.vtable, b.value)).label b.value, (goal.Brancher-dyn g (b.vtable, b.value)).rule b.value)) c.args.branchers.items) c.args.words.now)
    (g.S.Source.stock c.args.source.now) (g.S.Source.names c.args.source.now) none (meant_status c.word_reply.result)

pub returns-then-is_missing-clause-reply : goal.returns-then-is_missing-clause-reply
returns-then-is_missing-clause-reply g c =
    let none =
    missing_asked (map (λ b. ((goal.Brancher-dyn g (b.vtable, b.value)).label b.value, (goal.Brancher-dyn g (b.vtable, b.value)).rule b.value)) c.args.branchers.items) c.args.words.now (request_shown c.in-Some.request) (option_map (λ b. (goal.Brancher-dyn g (b.vtable, b.value)).rule b.value) c.chosen-brancher.result) (search rules) c.chosen-brancher.ensures (sym c.is_missing.ensures.missing ∙ c.if-is_missing.true) in
    usage_replied (asked_of (map (λ b. ((goal.Brancher-dyn g (b.vtable, b.value)).label b.value, (goal.Brancher-dyn g (b.vtable, b.value)).rule b.value)) c.args.branchers.items) c.args.words.now)
    (g.S.Source.stock c.args.source.now) (g.S.Source.faults c.args.source.now) (g.S.Source.faults c.args.source.now)
    (told (g.K.Sink.taken c.args.log.now) (g.K.Sink.names c.args.log.now)) none c.word_reply-then-is_missing.result c.word_reply-then-is_missing.ensures.status c.word_reply-then-is_missing.ensures.line

pub returns-then-is_missing-clause-outcomes : goal.returns-then-is_missing-clause-outcomes
returns-then-is_missing-clause-outcomes g c =
    usage_calls (g.S.Source.outcomes c.args.source.now) (g.S.Source.outcomes c.args.source.now) (g.K.Sink.outcomes c.args.log.now) (g.K.Sink.outcomes c.args.log.now) c.word_reply-then-is_missing.result
    c.word_reply-then-is_missing.ensures.status c.word_reply-then-is_missing.ensures.memory

pub returns-then-is_missing-clause-names : goal.returns-then-is_missing-clause-names
returns-then-is_missing-clause-names g c =
    let none =
    missing_asked (map (λ b. ((goal.Brancher-dyn g (b.vtable, b.value)).label b.value, (goal.Brancher-dyn g (b.vtable, b.value)).rule b.value)) c.args.branchers.items) c.args.words.now (request_shown c.in-Some.request) (option_map (λ b. (goal.Brancher-dyn g (b.vtable, b.value)).rule b.value) c.chosen-brancher.result) (search rules) c.chosen-brancher.ensures (sym c.is_missing.ensures.missing ∙ c.if-is_missing.true) in
    none_begun (asked_of (map (λ b. ((goal.Brancher-dyn g (b.vtable, b.value)).label b.value, (goal.Brancher-dyn g (b.vtable, b.value)).rule b.value)) c.args.branchers.items) c.args.words.now)
    (g.S.Source.stock c.args.source.now) (g.S.Source.names c.args.source.now) none (meant_status c.word_reply-then-is_missing.result)

pub returns : goal.returns
returns g c =
    let asked : asked_of (map (λ b. ((goal.Brancher-dyn g (b.vtable, b.value)).label b.value, (goal.Brancher-dyn g (b.vtable, b.value)).rule b.value)) c.args.branchers.items) c.args.words.now ≡ Some (request_with (request_shown c.in-Some.request) (option_map (λ b. (goal.Brancher-dyn g (b.vtable, b.value)).rule b.value) c.chosen-brancher.result)) =
    found_asked (map (λ b. ((goal.Brancher-dyn g (b.vtable, b.value)).label b.value, (goal.Brancher-dyn g (b.vtable, b.value)).rule b.value)) c.args.branchers.items)
    c.args.words.now (request_shown c.in-Some.request) (option_map (λ b. (goal.Brancher-dyn g (b.vtable, b.value)).rule b.value) c.chosen-brancher.result) (search rules) c.chosen-brancher.ensures
    (sym c.is_missing.ensures.missing ∙ c.if-is_missing.false) in
    record {
      reply = subst (λ (w : Option Request). IfOk c.request_reply.result (Replied w (g.S.Source.stock c.args.source.now) (g.S.Source.faults c.args.source.now) (g.S.Source.faults c.request_reply.new.source)
          (told (g.K.Sink.taken c.args.log.now) (g.K.Sink.names c.args.log.now)) (told (g.K.Sink.taken c.request_reply.new.log) (g.K.Sink.names c.request_reply.new.log)))) (sym asked)
          c.request_reply.ensures.reply;
      stopped = subst (λ (w : Option Request). IfErr c.request_reply.result (StopsWith w (g.S.Source.stock c.args.source.now)
          (told (g.K.Sink.taken c.args.log.now) (g.K.Sink.names c.args.log.now)) (told (g.K.Sink.taken c.request_reply.new.log) (g.K.Sink.names c.request_reply.new.log)))) (sym asked)
          c.request_reply.ensures.stopped;
      ended = subst (λ (w : Option Request). reads_files w ≡ true → IfOk c.request_reply.result (λ (reply : Reply). IsAnswered reply.status → IsAtEnd (g.S.Source.left c.request_reply.new.source))) (sym asked)
          c.request_reply.ensures.ended;
      taken_at_most = subst (λ (w : Option Request). TakesAtMost (max_length + 1) (asked_in (g.S.Source.stock c.args.source.now) w) (g.S.Source.faults c.args.source.now) (g.S.Source.faults c.request_reply.new.source)
          (g.S.Source.left c.request_reply.new.source)) (sym asked) c.request_reply.ensures.taken_at_most;
      faults_grow = c.request_reply.ensures.faults_grow;
      log_later = c.request_reply.ensures.log_later;
      write = c.request_reply.ensures.write;
      outcomes = c.request_reply.ensures.outcomes;
      untouched = subst (λ (w : Option Request). reads_files w ≡ false → IsUntouched (g.S.Source.left c.args.source.now) (g.S.Source.stock c.args.source.now) (g.S.Source.faults c.args.source.now)
          (g.S.Source.left c.request_reply.new.source) (g.S.Source.stock c.request_reply.new.source) (g.S.Source.faults c.request_reply.new.source)) (sym asked) c.request_reply.ensures.untouched;
      names = subst (λ (w : Option Request). BeginsFiles (g.S.Source.stock c.args.source.now) (g.S.Source.names c.args.source.now)
          (g.S.Source.names c.request_reply.new.source) w (meant_status c.request_reply.result)) (sym asked) c.request_reply.ensures.names;
    }
