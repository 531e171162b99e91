use Rattle.std.proofs.Common.{◌<◌, ℕ, map}
use Rattle.std.specs.List.{All, Contains}
use Rattle.sopl_base.specs.declared.reason.Reason.TheVariants.{Hard}
use Rattle.box_problem.specs.Box.{Box}
use Rattle.prop_core.specs.Members.{together}
use Rattle.branch_tests.specs.declared.small_problem.RestingRise.{RestingRise}
use Rattle.branch_tests.specs.Rising.{LooksAtRise, RestsAtRise, reasons_for}
use Rattle.branch_tests.proofs.small_problem.pair_members.Given as goal

abbrev pub invariant-pairs : goal.invariant-pairs
invariant-pairs l = record {
  fits : All (λ (made : RestingRise). LooksAtRise l.program.intervals.items l.program.pairs made.resting.member.pair made.resting.cells.items) l.list.items;
  in_step : (b : Box) → All (λ (made : RestingRise). RestsAtRise l.program.intervals.items l.program.pairs made.resting.member.pair made.resting.rested b) l.list.items;
  reasons : (cell : ℕ) → cell < l.first → Contains (together (map (λ (made : RestingRise). reasons_for made.resting.member.pair) l.list.items)) (Hard cell 0);
}
