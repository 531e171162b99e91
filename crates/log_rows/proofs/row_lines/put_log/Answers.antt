use Rattle.sopl_io.proofs.Gathering.{on_err}
use Rattle.log_rows.proofs.Texts.{text_fails, text_flushed, text_flush_fails}
use Rattle.sopl_io.proofs.Calling.{stops_later}
use Rattle.log_rows.proofs.row_lines.put_log.Goals as goal

pub returns-in_err-put_log_lines-clause-prefix : goal.returns-in_err-put_log_lines-clause-prefix
returns-in_err-put_log_lines-clause-prefix g c = on_err _ (text_fails _ _ _ _ c.requires.none_kept c.in_err-put_log_lines.ensures.prefix)

pub returns-clause-all : goal.returns-clause-all
returns-clause-all g c =
    text_flushed (g.K.Sink.taken c.args.sink.now) (g.K.Sink.taken c.put_log_lines.new.sink) (g.K.Sink.taken c.flush.new.sink) c.args.gather.now.kept c.put_log_lines.new.gather.kept _
    c.flush.result c.requires.none_kept c.in_ok-put_log_lines.ensures.all c.flush.ensures.all

pub returns-clause-prefix : goal.returns-clause-prefix
returns-clause-prefix g c =
    text_flush_fails (g.K.Sink.taken c.args.sink.now) (g.K.Sink.taken c.put_log_lines.new.sink) (g.K.Sink.taken c.flush.new.sink) c.args.gather.now.kept c.put_log_lines.new.gather.kept _
    c.flush.result c.requires.none_kept c.in_ok-put_log_lines.ensures.all c.flush.ensures.prefix

pub returns-clause-outcomes : goal.returns-clause-outcomes
returns-clause-outcomes g c =
    stops_later (g.K.Sink.outcomes c.args.sink.now) (g.K.Sink.outcomes c.put_log_lines.new.sink) _ c.flush.result c.in_ok-put_log_lines.ensures.outcomes.all c.flush.ensures.outcomes
