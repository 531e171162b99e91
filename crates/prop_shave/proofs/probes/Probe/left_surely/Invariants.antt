use Rattle.std.proofs.Common.{◌≡◌, ◌-ℤ◌, drop}
use Rattle.term_program.specs.Programs.{problem_in, root_in}
use Rattle.prop_shave.specs.Sums.{sum_over}
use Rattle.prop_shave.proofs.Surely.{risk_in}
use Rattle.prop_shave.proofs.probes.Probe.left_surely.Given as goal

abbrev pub invariant-scenarios : goal.invariant-scenarios
invariant-scenarios l =
    (l.left.value -ℤ sum_over (risk_in (root_in l.self.program.now) (problem_in l.self.program.now) l.weighed.instance l.self.store.now.box) (drop l.scenario-index l.weighed.scenarios.now))
    ≡ (l.weighed.left.value -ℤ sum_over (risk_in (root_in l.self.program.now) (problem_in l.self.program.now) l.weighed.instance l.self.store.now.box) l.weighed.scenarios.now)
