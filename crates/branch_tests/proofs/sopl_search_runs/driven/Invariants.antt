use Rattle.std.proofs.Common.{◌≡◌, false, length, map, option_map}
use Rattle.std.specs.List.{All}
use Rattle.box_problem.specs.Box.{Box}
use Rattle.prop_core.specs.Members.{together}
use Rattle.branch_tests.specs.declared.small_problem.RestingRise.{RestingRise}
use Rattle.branch_tests.specs.declared.small_problem.Rising.{Rising}
use Rattle.branch_tests.specs.Rising.{LooksAtRise, RestsAtRise, problem_of, reasons_for}
use Rattle.sopl_search.specs.Ends.{AreAll}
use Rattle.sopl_search.specs.Following.{AreFollowing}
use Rattle.sopl_search.specs.Frontiers.{IsSearchOf}
use Rattle.branch_tests.proofs.sopl_search_runs.driven.Given as goal

abbrev pub invariant-steps : goal.invariant-steps
invariant-steps g l = record {
  search : IsSearchOf (problem_of l.program.intervals.items l.program.pairs) (option_map (λ b. (goal.Brancher-dyn g (b.vtable, b.value)).rule b.value) l.crew.brancher) l.crew.frontier;
  all : AreAll (problem_of l.program.intervals.items l.program.pairs) (together (map (λ (made : RestingRise). reasons_for made.resting.member.pair) l.crew.watchers.list.items));
  fits : All (λ (made : RestingRise). LooksAtRise l.program.intervals.items l.program.pairs made.resting.member.pair made.resting.cells.items) l.crew.watchers.list.items;
  following : AreFollowing (λ (made : RestingRise) (p : Rising) (b : Box). RestsAtRise p.intervals.items p.pairs made.resting.member.pair made.resting.rested b)
      (λ (made : RestingRise). made.resting.cells.items) l.program (problem_of l.program.intervals.items l.program.pairs).root l.crew.watchers;
  whole : l.crew.broken ≡ false;
  seats : length l.crew.frontier.seats.seats.items ≡ 2;
}
