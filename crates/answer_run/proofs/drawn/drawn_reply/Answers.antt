use Rattle.std.proofs.Common.{rules, Some, None, option_map, refl, string_bytes}
use Rattle.sopl_io.specs.Calls.{no_call}
use Rattle.answer_texts.specs.Logs.{told}
use Rattle.answer_texts.specs.declared.status.Status.TheVariants.{Done}
use Rattle.answer_run.specs.Calls.{calls_succeed}
use Rattle.answer_run.specs.Shown.{request_shown}
use Rattle.answer_run.specs.Words.{Request, request_with}
use Rattle.answer_run.proofs.WholeText.{demo_made, demo_stops, same_plan, text_drawn}
use Rattle.answer_run.proofs.Calls.{text_calls, usage_calls}
use Rattle.answer_run.proofs.drawn.drawn_reply.Goals as goal

pub returns-in-Demo-clause-reply : goal.returns-in-Demo-clause-reply
returns-in-Demo-clause-reply g c =
    λ stock before now.
    let r : Request = request_with (request_shown c.args.request.now) (option_map (λ b. (goal.Brancher-dyn g (b.vtable, b.value)).rule b.value) c.args.brancher) in
    demo_made r stock before now (told (g.K.Sink.taken c.args.log.now) (g.K.Sink.names c.args.log.now)) (told (g.K.Sink.taken c.reply_to.new.sink) (g.K.Sink.names c.reply_to.new.sink))
    (search rules) c.as_bytes.result.now (search rules)
    _ (same_plan r c.new.result.seats c.new.result.order c.new.ensures.seats c.new.ensures.order) c.reply_to.result c.reply_to.ensures.reply

pub returns-in-Demo-clause-stopped : goal.returns-in-Demo-clause-stopped
returns-in-Demo-clause-stopped g c =
    λ stock.
    let r : Request = request_with (request_shown c.args.request.now) (option_map (λ b. (goal.Brancher-dyn g (b.vtable, b.value)).rule b.value) c.args.brancher) in
    demo_stops r stock 0 0 (told (g.K.Sink.taken c.args.log.now) (g.K.Sink.names c.args.log.now)) (told (g.K.Sink.taken c.reply_to.new.sink) (g.K.Sink.names c.reply_to.new.sink))
    (search rules) c.as_bytes.result.now (search rules)
    _ (same_plan r c.new.result.seats c.new.result.order c.new.ensures.seats c.new.ensures.order) c.reply_to.result c.reply_to.ensures.stopped

pub returns-in-Demo-clause-outcomes : goal.returns-in-Demo-clause-outcomes
returns-in-Demo-clause-outcomes g c =
    λ source. text_calls source source (g.K.Sink.outcomes c.args.log.now) (g.K.Sink.outcomes c.reply_to.new.sink) _ _ _ _ _ _ c.reply_to.result no_call c.reply_to.ensures.outcomes c.reply_to.ensures.reply

pub returns-in-Gen-clause-reply : goal.returns-in-Gen-clause-reply
returns-in-Gen-clause-reply g c =
    λ stock before now.
    let r : Request = request_with (request_shown c.args.request.now) (option_map (λ b. (goal.Brancher-dyn g (b.vtable, b.value)).rule b.value) c.args.brancher) in
    record {
      log = None;
      is = text_drawn r stock before now (told (g.K.Sink.taken c.args.log.now) (g.K.Sink.names c.args.log.now)) (told (g.K.Sink.taken c.args.log.now) (g.K.Sink.names c.args.log.now)) (search rules) Done (string_bytes c.in_ok-text.text) refl (search rules);
      logged = record { taken = refl; names = refl };
    }

pub returns-in-Gen-clause-outcomes : goal.returns-in-Gen-clause-outcomes
returns-in-Gen-clause-outcomes g c = λ source. calls_succeed no_call no_call (λ e. cc) (λ e. cc)

pub returns-in_err-text-clause-outcomes : goal.returns-in_err-text-clause-outcomes
returns-in_err-text-clause-outcomes g c =
    λ source. usage_calls source source (g.K.Sink.outcomes c.args.log.now) (g.K.Sink.outcomes c.args.log.now) c.from_residual.result (search rules) (search rules)
