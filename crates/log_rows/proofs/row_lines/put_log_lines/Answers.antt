use Rattle.sopl_io.proofs.Gathering.{on_err}
use Rattle.log_rows.proofs.Texts.{log_fails_first, log_fails_second, log_ends, log_ends_whole}
use Rattle.std.proofs.Common.{rules}
use Rattle.sopl_io.proofs.Calling.{calls_more, stops_later}
use Rattle.log_rows.proofs.row_lines.put_log_lines.Goals as goal

pub returns-in_err-put_head-clause-prefix : goal.returns-in_err-put_head-clause-prefix
returns-in_err-put_head-clause-prefix g c = on_err _ (log_fails_first _ _ _ c.args.rows.now c.args.footer.now c.in_err-put_head.ensures.prefix)

pub returns-in_err-put_rows-clause-prefix : goal.returns-in_err-put_rows-clause-prefix
returns-in_err-put_rows-clause-prefix g c =
    on_err _ (log_fails_second _ _ _ _ _ c.args.rows.now c.args.footer.now c.in_ok-put_head.ensures.all c.in_err-put_rows.ensures.prefix)

pub returns-clause-all : goal.returns-clause-all
returns-clause-all g c =
    log_ends_whole (g.K.Sink.taken c.args.sink.now) (g.K.Sink.taken c.put_head.new.sink) (g.K.Sink.taken c.put_rows.new.sink) (g.K.Sink.taken c.put_footer.new.sink)
    c.args.gather.now.kept c.put_head.new.gather.kept c.put_rows.new.gather.kept c.put_footer.new.gather.kept c.args.rows.now c.args.footer.now c.put_footer.result
    c.in_ok-put_head.ensures.all c.in_ok-put_rows.ensures.all c.put_footer.ensures.all

pub returns-clause-prefix : goal.returns-clause-prefix
returns-clause-prefix g c =
    log_ends (g.K.Sink.taken c.args.sink.now) (g.K.Sink.taken c.put_head.new.sink) (g.K.Sink.taken c.put_rows.new.sink) (g.K.Sink.taken c.put_footer.new.sink)
    c.args.gather.now.kept c.put_head.new.gather.kept c.put_rows.new.gather.kept c.args.rows.now c.args.footer.now c.put_footer.result
    c.in_ok-put_head.ensures.all c.in_ok-put_rows.ensures.all c.put_footer.ensures.prefix

pub returns-in_err-put_rows-clause-outcomes : goal.returns-in_err-put_rows-clause-outcomes
returns-in_err-put_rows-clause-outcomes g c =
    stops_later (g.K.Sink.outcomes c.args.sink.now) (g.K.Sink.outcomes c.put_head.new.sink) _ c.from_residual-in_err-put_rows.result c.in_ok-put_head.ensures.outcomes.all (search rules)

pub returns-clause-outcomes : goal.returns-clause-outcomes
returns-clause-outcomes g c =
    stops_later (g.K.Sink.outcomes c.args.sink.now) (g.K.Sink.outcomes c.put_rows.new.sink) _ c.put_footer.result
    (calls_more _ _ _ c.in_ok-put_head.ensures.outcomes.all c.in_ok-put_rows.ensures.outcomes.all) c.put_footer.ensures.outcomes
