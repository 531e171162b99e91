use Rattle.std.proofs.Common.{◌≡◌, ◌++◌, map}
use Rattle.std.proofs.Math.ListN.{replicate}
use Rattle.sopl_scen.specs.Domains.{ends_of}
use Rattle.sopl_scen.proofs.cell_domains.add_domains.Given as goal

abbrev pub invariant-histories : goal.invariant-histories
invariant-histories l = map ends_of l.domains.items ≡ map ends_of l.fn.domains.items ++ replicate l.made (ends_of l.domain)
