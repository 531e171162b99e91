use Rattle.std.proofs.Common.{◌≡◌, drop, map}
use Rattle.sopl_scen.specs.Domains.{ends_of}
use Rattle.policy_read.specs.Domains as spec
use Rattle.policy_read.proofs.domains.first_outside.Given as goal

abbrev pub invariant-values : goal.invariant-values
invariant-values l = spec.first_outside (map ends_of l.domains) (drop l.i l.told) ≡ spec.first_outside (map ends_of l.domains) l.told
