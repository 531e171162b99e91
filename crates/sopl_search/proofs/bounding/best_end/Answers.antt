use Rattle.std.proofs.Common.{None, rules}
use Rattle.box_problem.specs.Opens.{IsBound}
use Rattle.sopl_search.specs.Frontiers.{boxes, pendings}
use Rattle.sopl_search.proofs.BestEnds.{end_last, end_on, enterable_at, inside_at}
use Rattle.sopl_search.proofs.bounding.best_end.Goals as goal

pub end_with-requires-clause-known : goal.end_with-requires-clause-known
end_with-requires-clause-known g c =
    let able = c.requires.known in (
      able.0,
      enterable_at (g.P.Propagator.problem c.args.program.now) able.0 c.args.walk.now c.nodes.walk c.args.nodes.now c.nodes.node-index c.node-item.result able.1
          (c.nodes.invariant.at able.0 able.1) c.nodes-test.true c.node-item.is,
    )

pub end_with-requires-clause-inside : goal.end_with-requires-clause-inside
end_with-requires-clause-inside g c =
    inside_at (g.P.Propagator.problem c.args.program.now) c.requires.known.0 c.args.walk.now c.args.nodes.now c.nodes.node-index c.node-item.result c.requires.known.1 c.nodes-test.true c.node-item.is

pub nodes-preserved : goal.nodes-preserved
nodes-preserved g c =
    let problem = g.P.Propagator.problem c.args.program.now in
    record {
      grows = end_on problem c.args.nodes.now c.nodes.node-index c.node-item.result c.nodes.end _ (IsBound problem None (boxes (pendings problem.root c.args.nodes.now))) c.nodes-test.true c.node-item.is
          c.in_ok-end.ensures.end c.in_ok-end.ensures.some c.nodes.invariant.grows;
      none = λ is. absurd (c.in_ok-end.ensures.some is);
      at = λ rows able. c.in_ok-end.ensures.at rows (enterable_at problem rows c.args.walk.now c.nodes.walk c.args.nodes.now c.nodes.node-index c.node-item.result able
          (c.nodes.invariant.at rows able) c.nodes-test.true c.node-item.is);
    }

pub returns-clause-bound : goal.returns-clause-bound
returns-clause-bound g c =
    let problem = g.P.Propagator.problem c.args.program.now in
    end_last problem c.args.nodes.now c.nodes.node-index c.nodes.end (IsBound problem None (boxes (pendings problem.root c.args.nodes.now))) (search rules) c.nodes.invariant.grows
