use Rattle.sopl_io.proofs.Gathering.{on_err}
use Rattle.log_rows.proofs.Texts.{row_fails_first, row_fails_second, row_ends, row_ends_whole}
use Rattle.std.proofs.Common.{rules}
use Rattle.sopl_io.proofs.Calling.{calls_more, stops_later}
use Rattle.log_rows.proofs.row_lines.put_row.Goals as goal

pub returns-in_err-put_node-clause-prefix : goal.returns-in_err-put_node-clause-prefix
returns-in_err-put_node-clause-prefix g c = on_err _ (row_fails_first _ _ _ c.args.number c.args.row.now c.in_err-put_node.ensures.prefix)

pub returns-in_err-put_steps-clause-prefix : goal.returns-in_err-put_steps-clause-prefix
returns-in_err-put_steps-clause-prefix g c =
    on_err _ (row_fails_second _ _ _ _ _ c.args.number c.args.row.now c.as_slice.result.now c.as_slice.ensures.items c.in_ok-put_node.ensures.all c.in_err-put_steps.ensures.prefix)

pub returns-clause-all : goal.returns-clause-all
returns-clause-all g c =
    row_ends_whole (g.K.Sink.taken c.args.sink.now) (g.K.Sink.taken c.put_node.new.sink) (g.K.Sink.taken c.put_steps.new.sink) (g.K.Sink.taken c.put_end.new.sink)
    c.args.gather.now.kept c.put_node.new.gather.kept c.put_steps.new.gather.kept c.put_end.new.gather.kept c.args.number c.args.row.now c.as_slice.result.now c.put_end.result
    c.as_slice.ensures.items c.in_ok-put_node.ensures.all c.in_ok-put_steps.ensures.all c.put_end.ensures.all

pub returns-clause-prefix : goal.returns-clause-prefix
returns-clause-prefix g c =
    row_ends (g.K.Sink.taken c.args.sink.now) (g.K.Sink.taken c.put_node.new.sink) (g.K.Sink.taken c.put_steps.new.sink) (g.K.Sink.taken c.put_end.new.sink)
    c.args.gather.now.kept c.put_node.new.gather.kept c.put_steps.new.gather.kept c.args.number c.args.row.now c.as_slice.result.now c.put_end.result
    c.as_slice.ensures.items c.in_ok-put_node.ensures.all c.in_ok-put_steps.ensures.all c.put_end.ensures.prefix

pub returns-in_err-put_steps-clause-outcomes : goal.returns-in_err-put_steps-clause-outcomes
returns-in_err-put_steps-clause-outcomes g c =
    stops_later (g.K.Sink.outcomes c.args.sink.now) (g.K.Sink.outcomes c.put_node.new.sink) _ c.from_residual-in_err-put_steps.result c.in_ok-put_node.ensures.outcomes.all (search rules)

pub returns-clause-outcomes : goal.returns-clause-outcomes
returns-clause-outcomes g c =
    stops_later (g.K.Sink.outcomes c.args.sink.now) (g.K.Sink.outcomes c.put_steps.new.sink) _ c.put_end.result
    (calls_more _ _ _ c.in_ok-put_node.ensures.outcomes.all c.in_ok-put_steps.ensures.outcomes.all) c.put_end.ensures.outcomes
