use Rattle.std.proofs.Common.{rules, ◌≡◌, Some, ap, option_map, refl}
use Rattle.answer_run.specs.Runs.{meant_status}
use Rattle.answer_run.specs.Shown.{request_shown}
use Rattle.answer_run.specs.Words.{Request, is_drawn, request_with}
use Rattle.answer_run.specs.declared.commands.Job.TheVariants.{Drawn}
use Rattle.answer_run.proofs.Reading.{drawn_begun}
use Rattle.answer_run.proofs.top.request_reply.Goals as goal

pub returns-in-Drawn-clause-reply : goal.returns-in-Drawn-clause-reply
returns-in-Drawn-clause-reply g c = c.drawn_reply.ensures.reply (g.S.Source.stock c.args.source.now) (g.S.Source.faults c.args.source.now) (g.S.Source.faults c.args.source.now)

pub returns-in-Drawn-clause-stopped : goal.returns-in-Drawn-clause-stopped
returns-in-Drawn-clause-stopped g c = c.drawn_reply.ensures.stopped (g.S.Source.stock c.args.source.now)

pub returns-in-Drawn-clause-names : goal.returns-in-Drawn-clause-names
returns-in-Drawn-clause-names g c =
    let r : Request = request_with (request_shown c.args.request.now) (option_map (λ b. (goal.Brancher-dyn g (b.vtable, b.value)).rule b.value) c.args.brancher) in
    let job : c.args.request.now.job ≡ Drawn c.in-Drawn.command = search rules in
    drawn_begun (Some r) (g.S.Source.stock c.args.source.now) (g.S.Source.names c.args.source.now) r refl (ap is_drawn job) (meant_status c.drawn_reply.result)
