use Rattle.std.proofs.Common.{rules, ◌≡◌, Ok, Err, refl}
use Rattle.sopl_io.specs.Causes.{Rose}
use Rattle.sopl_io.specs.declared.transfer.ReadStop.TheVariants.{NoMemory}
use Rattle.sopl_base.specs.declared.stop.SearchStop.TheVariants as search
use Rattle.answer_run.specs.Bases.{judging}
use Rattle.answer_run.proofs.Calls.{unread_calls}
use Rattle.answer_run.proofs.Seconds.{both_calls, read_replied, unread_not_away, unread_replied, want_calls, want_not_away}
use Rattle.answer_run.proofs.pair.second_reply.Goals as goal

pub returns-in_ok-reply-in-Ok-clause-reply : goal.returns-in_ok-reply-in-Ok-clause-reply
returns-in_ok-reply-in-Ok-clause-reply g c =
    λ text is.
    read_replied (judging c.args.basis.now) text c.args.name.now (g.S.Source.stock c.args.source.now) (g.S.Source.faults c.args.source.now) (g.S.Source.faults c.read_all.new.source)
    c.in-Ok.bytes.items c.in-Ok.ensures.text (Ok c.in_ok-reply-in-Ok.reply) (c.in_ok-reply-in-Ok.ensures.reply text is)

pub returns-in_ok-reply-in-Ok-clause-judged : goal.returns-in_ok-reply-in-Ok-clause-judged
returns-in_ok-reply-in-Ok-clause-judged g c = c.in_ok-reply-in-Ok.ensures.judged

pub returns-in_ok-reply-in-Ok-clause-outcomes : goal.returns-in_ok-reply-in-Ok-clause-outcomes
returns-in_ok-reply-in-Ok-clause-outcomes g c =
    λ log.
    both_calls (g.S.Source.outcomes c.args.source.now) (g.S.Source.outcomes c.read_all.new.source) (c.in-Ok.ensures.outcomes.all (λ e. cc)) log (judging c.args.basis.now)
    c.requires.basis.0 c.in-Ok.bytes.items (Ok c.in_ok-reply-in-Ok.reply) tt (c.in_ok-reply-in-Ok.ensures.reply c.requires.basis.0 c.requires.basis.1)

pub returns-in_err-reply-in-Ok-clause-judged : goal.returns-in_err-reply-in-Ok-clause-judged
returns-in_err-reply-in-Ok-clause-judged g c = want_not_away c.from_residual.result (search rules)

pub returns-in_err-reply-in-Ok-clause-outcomes : goal.returns-in_err-reply-in-Ok-clause-outcomes
returns-in_err-reply-in-Ok-clause-outcomes g c =
    λ log.
    want_calls (g.S.Source.outcomes c.args.source.now) (g.S.Source.outcomes c.read_all.new.source) (c.in-Ok.ensures.outcomes.all (λ e. cc)) log
    c.from_residual.result (search rules)

pub returns-in-Err-Fault-clause-reply : goal.returns-in-Err-Fault-clause-reply
returns-in-Err-Fault-clause-reply g c =
    let rose : Rose (g.S.Source.faults c.args.source.now) (g.S.Source.faults c.read_all.new.source) = search rules in
    λ text is.
    unread_replied (judging c.args.basis.now) text c.args.name.now (g.S.Source.stock c.args.source.now) (g.S.Source.faults c.args.source.now) (g.S.Source.faults c.read_all.new.source)
    rose c.word_reply.result c.word_reply.ensures.status c.word_reply.ensures.line

pub returns-in-Err-Fault-clause-judged : goal.returns-in-Err-Fault-clause-judged
returns-in-Err-Fault-clause-judged g c = unread_not_away c.word_reply.result c.word_reply.ensures.memory c.word_reply.ensures.status

pub returns-in-Err-NoMemory-clause-judged : goal.returns-in-Err-NoMemory-clause-judged
returns-in-Err-NoMemory-clause-judged g c = want_not_away (Err search.NoMemory) refl

pub returns-in-Err-NoMemory-clause-outcomes : goal.returns-in-Err-NoMemory-clause-outcomes
returns-in-Err-NoMemory-clause-outcomes g c =
    let failed : c.read_all.result ≡ Err NoMemory = search rules in
    λ log.
    unread_calls (g.S.Source.outcomes c.args.source.now) (g.S.Source.outcomes c.read_all.new.source) log log (c.read_all.ensures.outcomes.all (λ e. cc))
