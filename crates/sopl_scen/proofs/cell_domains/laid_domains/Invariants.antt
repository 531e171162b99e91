use Rattle.std.proofs.Common.{◌≡◌, ◌++◌, map, drop}
use Rattle.sopl_scen.specs.Domains.{domains_in, ends_of}
use Rattle.sopl_scen.proofs.cell_domains.laid_domains.Given as goal

abbrev pub invariant-decisions : goal.invariant-decisions
invariant-decisions l = map ends_of l.domains.items ++ domains_in l.tree (drop l.decision-index l.decisions) ≡ domains_in l.tree l.decisions
