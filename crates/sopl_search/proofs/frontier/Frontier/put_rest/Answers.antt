use Rattle.std.proofs.Common.{rules, map}
use Rattle.sopl_io.proofs.Calling.{calls_more, stops_later}
use Rattle.sopl_io.proofs.Gathering.{on_err}
use Rattle.open_nodes.specs.declared.seats.OpenNode.{OpenNode}
use Rattle.sopl_search.specs.Lines.{open_line, parent_above}
use Rattle.sopl_search.proofs.RestTexts.{flush_fails, footer_fails, rest_flushed, rows_fail}
use Rattle.sopl_search.proofs.frontier.Frontier.put_rest.Goals as goal

pub returns-in_err-put_opens-clause-prefix : goal.returns-in_err-put_opens-clause-prefix
returns-in_err-put_opens-clause-prefix g c = on_err _ (rows_fail _ _ _ _ _ c.args.footer.now c.in_err-put_opens.ensures.prefix)

pub returns-in_err-put_footer-clause-prefix : goal.returns-in_err-put_footer-clause-prefix
returns-in_err-put_footer-clause-prefix g c = on_err _ (footer_fails _ _ _ _ _ _ _ c.args.footer.now c.in_ok-put_opens.ensures.all c.in_err-put_footer.ensures.prefix)

pub returns-clause-all : goal.returns-clause-all
returns-clause-all g c =
    rest_flushed (g.K.Sink.taken c.args.sink.now) (g.K.Sink.taken c.put_opens.new.sink) (g.K.Sink.taken c.put_footer.new.sink) (g.K.Sink.taken c.flush.new.sink)
    c.args.self.now.gather.kept c.put_opens.new.gather.kept c.put_footer.new.gather.kept c.args.self.now.finished
    (map (λ (x : OpenNode). open_line (parent_above x)) c.args.nodes.now) c.args.footer.now c.flush.result c.in_ok-put_opens.ensures.all c.in_ok-put_footer.ensures.all c.flush.ensures.all

pub returns-clause-prefix : goal.returns-clause-prefix
returns-clause-prefix g c =
    flush_fails (g.K.Sink.taken c.args.sink.now) (g.K.Sink.taken c.put_opens.new.sink) (g.K.Sink.taken c.put_footer.new.sink) (g.K.Sink.taken c.flush.new.sink)
    c.args.self.now.gather.kept c.put_opens.new.gather.kept c.put_footer.new.gather.kept c.args.self.now.finished
    (map (λ (x : OpenNode). open_line (parent_above x)) c.args.nodes.now) c.args.footer.now c.flush.result c.in_ok-put_opens.ensures.all c.in_ok-put_footer.ensures.all c.flush.ensures.prefix

pub returns-in_err-put_footer-clause-outcomes : goal.returns-in_err-put_footer-clause-outcomes
returns-in_err-put_footer-clause-outcomes g c =
    stops_later (g.K.Sink.outcomes c.args.sink.now) (g.K.Sink.outcomes c.put_opens.new.sink) _ c.from_residual-in_err-put_footer.result c.in_ok-put_opens.ensures.outcomes.all (search rules)

pub returns-clause-outcomes : goal.returns-clause-outcomes
returns-clause-outcomes g c =
    stops_later (g.K.Sink.outcomes c.args.sink.now) (g.K.Sink.outcomes c.put_footer.new.sink) _ c.flush.result
    (calls_more _ _ _ c.in_ok-put_opens.ensures.outcomes.all c.in_ok-put_footer.ensures.outcomes.all) c.flush.ensures.outcomes
