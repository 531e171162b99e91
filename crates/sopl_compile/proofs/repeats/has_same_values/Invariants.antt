-- The variables from the current one on have the same values.
use Rattle.std.proofs.Common.{◌≡◌, ℕ, ◌≤◌, ◌<◌, ◌-◌}
use Rattle.sopl_scen.specs.Layout.{value_in}
use Rattle.sopl_compile.proofs.repeats.has_same_values.Given as goal

abbrev pub invariant-variables : goal.invariant-variables
invariant-variables l = (k : ℕ) → l.j ≤ k → k < l.variables → value_in l.tree k (l.scenario - 1) ≡ value_in l.tree k l.scenario
