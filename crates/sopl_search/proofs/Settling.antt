-- A budget as large as the tree can grow is enough.
use Rattle.std.proofs.Common.{ℕ, ◌≤◌, Result, Ok, Err, IfOk, arith}
use Rattle.box_problem.specs.Box.{points}
use Rattle.box_problem.specs.BoxProblem.{BoxProblem}
use Rattle.box_problem.specs.Covers.{nodes_for}
use Rattle.box_problem.proofs.Bounds.{unsettled_within}
use Rattle.sopl_base.specs.declared.stop.SearchStop.{SearchStop}
use Rattle.sopl_search.specs.declared.outcome.Outcome.{Outcome}
use Rattle.sopl_search.specs.declared.outcome.Outcome.TheVariants.{Optimal, Infeasible, Bounded}
use Rattle.sopl_search.specs.Outcomes.{HasCause, IsSettled, value_of}

enough_settles : (problem : BoxProblem) (budget : ℕ) (outcome : Outcome) → nodes_for (points problem.root) ≤ budget → HasCause problem budget outcome → IsSettled outcome
enough_settles problem budget (Optimal value cells) enough cause = tt
enough_settles problem budget Infeasible enough cause = tt
enough_settles problem budget (Bounded found bound) enough cause =
    absurd (omega (arith, enough, unsettled_within problem (value_of found) budget bound cause))

pub settles_within : (problem : BoxProblem) (budget : ℕ) (result : Result Outcome SearchStop) → nodes_for (points problem.root) ≤ budget → IfOk result (HasCause problem budget) → IfOk result IsSettled
settles_within problem budget (Ok outcome) enough cause = enough_settles problem budget outcome enough cause
settles_within problem budget (Err error) enough cause = tt
