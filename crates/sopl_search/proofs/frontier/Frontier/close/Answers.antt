use Rattle.std.proofs.Common.{rules, ap}
use Rattle.sopl_io.specs.Calls.{no_call}
use Rattle.sopl_io.specs.Gathered.{GatheredBytes}
use Rattle.sopl_io.proofs.Calling.{where_all}
use Rattle.sopl_search.specs.Frontiers.{boxes, opens}
use Rattle.sopl_search.proofs.Answered.{ends_caused, ends_true}
use Rattle.sopl_search.proofs.ClosedCrews.{ends_of_all, is_broken, is_closed, some_enterable}
use Rattle.sopl_search.proofs.frontier.Frontier.close.Goals as goal

pub returns-in_err-nodes-clause-outcomes : goal.returns-in_err-nodes-clause-outcomes
returns-in_err-nodes-clause-outcomes g c = where_all _ _ (search rules) no_call

pub answer-requires-clause-known : goal.answer-requires-clause-known
answer-requires-clause-known g c =
    some_enterable (g.P.Propagator.problem c.args.program.now) c.args.self.now c.in_ok-nodes.nodes.items c.as_slice.result.now c.requires.posed c.requires.keeps c.in_ok-nodes.ensures.nodes
    c.as_slice.ensures.value

pub returns-in_err-outcome-clause-outcomes : goal.returns-in_err-outcome-clause-outcomes
returns-in_err-outcome-clause-outcomes g c = where_all _ _ (search rules) no_call

pub returns-in-Ok-clause-truth : goal.returns-in-Ok-clause-truth
returns-in-Ok-clause-truth g c =
    let problem = g.P.Propagator.problem c.args.program.now in
    ends_true problem c.args.self.now.best c.args.self.now.finished (boxes (opens problem.root c.args.self.now)) c.in_ok-outcome.outcome c.requires.posed c.requires.stands
    (ends_of_all problem c.args.self.now c.in_ok-nodes.nodes.items c.as_slice.result.now c.in_ok-outcome.outcome c.in_ok-nodes.ensures.nodes c.as_slice.ensures.value c.in_ok-outcome.ensures.ends)

pub returns-in-Ok-clause-cause : goal.returns-in-Ok-clause-cause
returns-in-Ok-clause-cause g c =
    let problem = g.P.Propagator.problem c.args.program.now in
    ends_caused problem c.args.self.now.best c.args.self.now.finished (boxes (opens problem.root c.args.self.now)) c.in_ok-outcome.outcome c.requires.stands
    (ends_of_all problem c.args.self.now c.in_ok-nodes.nodes.items c.as_slice.result.now c.in_ok-outcome.outcome c.in_ok-nodes.ensures.nodes c.as_slice.ensures.value c.in_ok-outcome.ensures.ends)

pub returns-in-Ok-clause-closed : goal.returns-in-Ok-clause-closed
returns-in-Ok-clause-closed g c =
    is_closed (g.P.Propagator.problem c.args.program.now) c.args.self.now c.answer.new.self c.in_ok-nodes.nodes.items c.as_slice.result.now c.as_slice-2.result.now c.in_ok-outcome.outcome
    c.footer-footer.result _ _ c.requires.keeps c.in_ok-nodes.ensures.nodes c.in_ok-nodes.ensures.in_order c.answer.ensures.finished (ap (λ (s : GatheredBytes). s.kept) c.answer.ensures.gather)
    c.as_slice.ensures.value c.as_slice-2.ensures.value c.footer-footer.ensures.footer c.footer-footer.ensures.fits c.in_ok-outcome.ensures.ends c.in-Ok.ensures.all

pub returns-in-Err-clause-refused : goal.returns-in-Err-clause-refused
returns-in-Err-clause-refused g c = λ _.
    is_broken (g.P.Propagator.problem c.args.program.now) c.args.self.now c.answer.new.self c.in_ok-nodes.nodes.items c.as_slice.result.now c.as_slice-2.result.now c.in_ok-outcome.outcome
    c.footer-footer.result _ _ c.requires.keeps c.in_ok-nodes.ensures.nodes c.in_ok-nodes.ensures.in_order c.answer.ensures.finished (ap (λ (s : GatheredBytes). s.kept) c.answer.ensures.gather)
    c.as_slice.ensures.value c.as_slice-2.ensures.value c.footer-footer.ensures.footer c.footer-footer.ensures.fits c.in_ok-outcome.ensures.ends c.in-Err.ensures.prefix
