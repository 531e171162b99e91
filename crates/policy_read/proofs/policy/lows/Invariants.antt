use Rattle.std.proofs.Common.{◌≡◌, ◌++◌, drop, map}
use Rattle.sopl_scen.specs.Domains.{ends_of}
use Rattle.policy_read.specs.Domains.{low_in}
use Rattle.policy_read.proofs.policy.lows.Given as goal

abbrev pub invariant-domains : goal.invariant-domains
invariant-domains l = l.found.items ++ map low_in (map ends_of (drop l.i l.domains)) ≡ map low_in (map ends_of l.domains)
