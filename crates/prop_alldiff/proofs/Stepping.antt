-- Steps that were tested.
use Rattle.std.proofs.Common.{◌≡◌, ℤ, pos, ◌-ℤ◌, ◌≤ℤ◌, true, refl, sym, arith}
use Rattle.std.proofs.lemmas.Int.{ints}
use Rattle.sopl_base.specs.declared.reason.Step.{Step}
use Rattle.box_problem.specs.Rightness.{IsRight}
use Rattle.prop_shave.specs.Ends.{step_at}
use Rattle.prop_shave.specs.Probes.{IsEndOf, closes_part}
use Rattle.prop_shave.specs.declared.probes.Probe.{Probe}
use Rattle.prop_shave.specs.declared.shave_steps.CellEnd.{CellEnd}
use Rattle.prop_shave.specs.declared.shave_steps.Shave.{Shave}
use Rattle.prop_shave.proofs.Opening.{removal_right}
use Rattle.term_program.specs.Stated.{box_problem_of}

-- values at an end that were closed are removed by a right step
pub removes : (q : Probe) (end : CellEnd) (removal : Shave) (step : Step) → IsEndOf q end → pos 1 ≤ℤ removal.count → removal.count ≤ℤ (end.hi -ℤ end.lo)
    → true ≡ closes_part q end removal.count → step ≡ step_at end q.reason removal.count → IsRight (box_problem_of q.program.now) q.best q.store.now.box step
removes q end removal step is some fewer closed same =
    removal_right q end (record { count = removal.count; by = pos 1 }) step is (record { some = some; fewer = fewer; closed = sym closed; more = omega (arith, ints) }) same
