-- What is so where a reply was written, and where there is none.
use Rattle.std.proofs.Common.{arith, inl, inr, refl, Option, Err, map, ap, sym, subst, ◌∙◌}
use Rattle.std.proofs.lemmas.Result.{IfOk-at_ok}
use Rattle.std.specs.Io.KnownBytes.{IsAtEnd}
use Rattle.std.proofs.KnownBytes.{Keeps-refl}
use Rattle.answer_texts.specs.Logs.{told}
use Rattle.answer_texts.specs.declared.reply.Reply.{Reply}
use Rattle.answer_run.proofs.Statuses.{limited_once, not_written, pairs_end_once, refused_once, run_written, stop_answers, stop_cause, stop_no_answer, stop_tells, written_cause, written_ends, written_tells}
use Rattle.answer_run.specs.Replies.{BeginsFiles, IsAnswered}
use Rattle.answer_run.specs.Runs.{meant_status}
use Rattle.answer_run.specs.States.{RunState, run_state, sink_state, source_state}
use Rattle.answer_run.specs.Words.{Request, asked_of}
use Rattle.answer_run.proofs.Reading.{line_begun}
use Rattle.answer_run.proofs.Calls.{run_calls, stop_calls}
use Rattle.answer_run.proofs.LogBegins.{run_begins}
use Rattle.answer_run.proofs.top.run.Goals as goal

pub returns-in-Ok : goal.returns-in-Ok
returns-in-Ok g c =
    let wanted : Option Request =
    asked_of (map (λ b. ((goal.Brancher-dyn g (b.vtable, b.value)).label b.value, (goal.Brancher-dyn g (b.vtable, b.value)).rule b.value)) c.args.branchers.items) c.args.words.now in
    let first : RunState = run_state (source_state g.S.Source.left g.S.Source.stock g.S.Source.faults g.S.Source.outcomes g.S.Source.names c.args.source.now)
    (sink_state g.K.Sink.taken g.K.Sink.faults g.K.Sink.outcomes g.K.Sink.names c.args.answer.now) (sink_state g.K.Sink.taken g.K.Sink.faults g.K.Sink.outcomes g.K.Sink.names c.args.log.now) in
    let last : RunState = run_state (source_state g.S.Source.left g.S.Source.stock g.S.Source.faults g.S.Source.outcomes g.S.Source.names c.reply_for.new.source)
    (sink_state g.K.Sink.taken g.K.Sink.faults g.K.Sink.outcomes g.K.Sink.names c.written.new.answer)
    (sink_state g.K.Sink.taken g.K.Sink.faults g.K.Sink.outcomes g.K.Sink.names c.reply_for.new.log) in
    let tells =
    written_tells _ _ _ _ _ _ _ _ _ _ (pairs_end_once c.checks_end_once.ensures.law c.evals_end_once.ensures.law) c.in-Ok.reply c.written.result c.in-Ok.ensures.reply c.written.ensures.taken in
    let answered = run_written wanted first last c.in-Ok.reply c.written.result c.in-Ok.ensures.reply c.written.ensures.taken in
    record {
      answered = answered;
      promises = record {
        usage = tells.usage;
        usage_when = tells.usage_when;
        ends = tells.ends;
        ends_when = tells.ends_when;
        enough = tells.enough;
        refused_once = refused_once _;
        limited_once = limited_once _;
        ended = λ files.
            written_ends wanted
            (g.S.Source.stock c.args.source.now) (g.S.Source.faults c.args.source.now) (g.S.Source.faults c.reply_for.new.source)
            (g.K.Sink.taken c.args.answer.now) (g.K.Sink.taken c.written.new.answer) (g.K.Sink.faults c.args.answer.now) (g.K.Sink.faults c.written.new.answer)
            (told (g.K.Sink.taken c.args.log.now) (g.K.Sink.names c.args.log.now))
            (told (g.K.Sink.taken c.reply_for.new.log) (g.K.Sink.names c.reply_for.new.log)) c.in-Ok.reply c.written.result _ c.written.ensures.taken
            (IfOk-at_ok (λ (reply : Reply). IsAnswered reply.status → IsAtEnd (g.S.Source.left c.reply_for.new.source)) c.in-Ok.is (c.reply_for.ensures.ended files));
        taken_at_most = c.reply_for.ensures.taken_at_most;
        read = tells.read;
        read_of_files = tells.read_of_files;
        write = λ failed. inl (written_cause _ _ _ _ (g.K.Sink.taken c.args.answer.now) (g.K.Sink.taken c.written.new.answer) (g.K.Sink.faults c.args.answer.now)
            (g.K.Sink.faults c.written.new.answer) _ _ c.in-Ok.reply c.written.result _ _ c.in-Ok.ensures.reply c.written.ensures.write failed);
        faults_grow = (c.reply_for.ensures.faults_grow, c.written.ensures.faults_grow, c.reply_for.ensures.log_later);
        outcomes = run_calls (g.S.Source.outcomes c.args.source.now) (g.S.Source.outcomes c.reply_for.new.source) (g.K.Sink.outcomes c.args.log.now) (g.K.Sink.outcomes c.reply_for.new.log)
            (g.K.Sink.outcomes c.args.answer.now) (g.K.Sink.outcomes c.written.new.answer)
            (g.K.Sink.taken c.args.answer.now) (g.K.Sink.taken c.written.new.answer) c.in-Ok.reply c.written.result c.in-Ok.ensures.outcomes
            (not_written _ _ _ _ _ c.in-Ok.reply.status _ c.in-Ok.ensures.reply.is) c.written.ensures.outcomes;
        untouched = c.reply_for.ensures.untouched;
        names = line_begun (g.S.Source.stock c.args.source.now) (g.S.Source.names c.args.source.now) (g.S.Source.names c.reply_for.new.source)
            wanted
            (g.K.Sink.taken c.args.answer.now) (g.K.Sink.taken c.written.new.answer) (g.K.Sink.faults c.args.answer.now) (g.K.Sink.faults c.written.new.answer)
            c.in-Ok.reply c.written.result c.written.ensures.taken
            (subst (BeginsFiles (g.S.Source.stock c.args.source.now) (g.S.Source.names c.args.source.now) (g.S.Source.names c.reply_for.new.source) wanted)
            (ap meant_status c.in-Ok.is) c.reply_for.ensures.names);
        answer_names = c.written.ensures.names;
        log_names = run_begins wanted first last c.written.result answered;
      };
    }

pub returns-in-Err : goal.returns-in-Err
returns-in-Err g c =
    let wanted = asked_of (map (λ b. ((goal.Brancher-dyn g (b.vtable, b.value)).label b.value, (goal.Brancher-dyn g (b.vtable, b.value)).rule b.value)) c.args.branchers.items) c.args.words.now in
    let first : RunState = run_state (source_state g.S.Source.left g.S.Source.stock g.S.Source.faults g.S.Source.outcomes g.S.Source.names c.args.source.now)
    (sink_state g.K.Sink.taken g.K.Sink.faults g.K.Sink.outcomes g.K.Sink.names c.args.answer.now) (sink_state g.K.Sink.taken g.K.Sink.faults g.K.Sink.outcomes g.K.Sink.names c.args.log.now) in
    let last : RunState = run_state (source_state g.S.Source.left g.S.Source.stock g.S.Source.faults g.S.Source.outcomes g.S.Source.names c.reply_for.new.source)
    (sink_state g.K.Sink.taken g.K.Sink.faults g.K.Sink.outcomes g.K.Sink.names c.args.answer.now) (sink_state g.K.Sink.taken g.K.Sink.faults g.K.Sink.outcomes g.K.Sink.names c.reply_for.new.log) in
    let tells =
    stop_tells wanted (g.S.Source.stock c.args.source.now) (g.S.Source.faults c.args.source.now) (g.S.Source.faults c.reply_for.new.source) c.in-Err.stop c.status_of.result
    c.status_of.ensures.status in
    let answered = stop_answers wanted first last c.in-Err.stop c.status_of.result c.status_of.ensures.status (λ is. c.reply_for.ensures.write (c.in-Err.is ∙ ap Err is))
    (Keeps-refl (g.K.Sink.taken c.args.answer.now)) c.in-Err.ensures.stopped in
    record {
      answered = answered;
      promises = record {
        usage = tells.usage;
        usage_when = tells.usage_when;
        ends = tells.ends;
        ends_when = tells.ends_when;
        enough = tells.enough;
        refused_once = refused_once _;
        limited_once = limited_once _;
        ended = λ files. stop_no_answer c.in-Err.stop c.status_of.result _ c.status_of.ensures.status;
        taken_at_most = c.reply_for.ensures.taken_at_most;
        read = tells.read;
        read_of_files = tells.read_of_files;
        write = λ failed. inr (stop_cause c.in-Err.stop c.status_of.result c.reply_for.result _ _ c.in-Err.is c.reply_for.ensures.write c.status_of.ensures.status failed);
        faults_grow = (c.reply_for.ensures.faults_grow, omega arith, c.reply_for.ensures.log_later);
        outcomes = stop_calls (g.S.Source.outcomes c.args.source.now) (g.S.Source.outcomes c.reply_for.new.source) (g.K.Sink.outcomes c.args.log.now) (g.K.Sink.outcomes c.reply_for.new.log)
            (g.K.Sink.outcomes c.args.answer.now) (g.K.Sink.taken c.args.answer.now) c.in-Err.stop c.status_of.result c.status_of.ensures.status c.in-Err.ensures.outcomes;
        untouched = c.reply_for.ensures.untouched;
        names = subst (BeginsFiles (g.S.Source.stock c.args.source.now) (g.S.Source.names c.args.source.now) (g.S.Source.names c.reply_for.new.source) wanted)
            (ap meant_status c.in-Err.is ∙ sym c.status_of.ensures.status) c.reply_for.ensures.names;
        answer_names = refl;
        log_names = run_begins wanted first last c.status_of.result answered;
      };
    }
