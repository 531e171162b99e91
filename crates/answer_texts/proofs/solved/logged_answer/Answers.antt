use Rattle.scen_accept.specs.Stated.{problem_in}
use Rattle.answer_texts.proofs.Stopped.{begun_prefix}
use Rattle.std.proofs.Common.{rules, refl}
use Rattle.sopl_io.proofs.Calling.{where_last, where_later}
use Rattle.answer_texts.proofs.Calls.{begun, begun_fails}
use Rattle.answer_texts.proofs.solved.logged_answer.Goals as goal

pub returns-clause-stopped : goal.returns-clause-stopped
returns-clause-stopped g c =
    begun_prefix (problem_in c.args.stated.now) _ c.args.name.now (g.K.Sink.taken c.args.sink.now) (g.K.Sink.taken c.begin.new.self)
    (g.K.Sink.taken c.searched_answer.new.sink) (g.K.Sink.names c.args.sink.now) (g.K.Sink.names c.begin.new.self) (g.K.Sink.names c.searched_answer.new.sink)
    c.begin.ensures.taken c.begin.ensures.names c.searched_answer.ensures.names c.searched_answer.result c.searched_answer.ensures.stopped

pub returns-clause-outcomes : goal.returns-clause-outcomes
returns-clause-outcomes g c =
    where_later (g.K.Sink.outcomes c.args.sink.now) (g.K.Sink.outcomes c.begin.new.self) (g.K.Sink.outcomes c.searched_answer.new.sink)
    (begun (g.K.Sink.outcomes c.args.sink.now) (g.K.Sink.outcomes c.begin.new.self) c.begin.result (search rules) c.begin.ensures.outcomes) c.searched_answer.ensures.outcomes

pub returns-then-is_err-clause-outcomes : goal.returns-then-is_err-clause-outcomes
returns-then-is_err-clause-outcomes g c =
    where_last _ _ refl (begun_fails (g.K.Sink.outcomes c.args.sink.now) (g.K.Sink.outcomes c.begin.new.self) c.begin.result (search rules) c.begin.ensures.outcomes)
