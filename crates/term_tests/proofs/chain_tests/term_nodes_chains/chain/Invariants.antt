use Rattle.std.proofs.Common.{◌≡◌, ◌<◌, length}
use Rattle.sopl_term.specs.Built.{IsBuilding, asked_direction, built, problem_built, root_built}
use Rattle.term_tests.proofs.chain_tests.term_nodes_chains.chain.Given as goal

abbrev pub invariant-links : goal.invariant-links
invariant-links l = record {
  building : IsBuilding l.b;
  root : root_built l.b ≡ root_built l.fn.b;
  problem : problem_built l.b ≡ problem_built l.fn.b;
  direction : asked_direction l.b ≡ asked_direction l.fn.b;
  made : l.made.0 < length (built l.b);
  x : l.x.0 < length (built l.b);
}
