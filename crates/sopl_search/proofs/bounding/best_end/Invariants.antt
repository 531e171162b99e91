use Rattle.std.proofs.Common.{◌≡◌, ◌≤◌, ℤ, List, None, drop, length}
use Rattle.box_problem.specs.Opens.{IsBound}
use Rattle.log_rows.specs.declared.rows.Row.{Row}
use Rattle.sopl_search.specs.Frontiers.{AreEnterable, IsOnRows, boxes, pendings}
use Rattle.sopl_search.proofs.bounding.best_end.Given as goal

abbrev pub invariant-nodes : goal.invariant-nodes
invariant-nodes g l = record {
  grows : (bound : ℤ) → IsBound (g.P.Propagator.problem l.program) l.end (boxes (pendings (g.P.Propagator.problem l.program).root (drop l.node-index l.nodes))) bound
      → IsBound (g.P.Propagator.problem l.program) None (boxes (pendings (g.P.Propagator.problem l.program).root l.nodes)) bound;
  none : l.end ≡ None → l.node-index ≡ 0;
  at : (rows : List Row) → AreEnterable (g.P.Propagator.problem l.program) rows l.fn.walk l.nodes → IsOnRows (g.P.Propagator.problem l.program).root rows l.walk;
}
