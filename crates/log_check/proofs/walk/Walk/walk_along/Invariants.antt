use Rattle.std.proofs.Common.{◌≡◌, length, vec_capacity}
use Rattle.log_check.specs.KeptSums.{KeepsSums}
use Rattle.log_check.specs.Views.{checked_problem}
use Rattle.log_check.specs.Walks.{WalkStands, work_left}
use Rattle.log_check.specs.Waiting.{HasRoomIfMore, WaitsWell, before_it, oldest}
use Rattle.log_check.proofs.walk.Walk.walk_along.Given as goal

abbrev pub invariant-rows : goal.invariant-rows
invariant-rows l = record {
  stands : WalkStands (checked_problem l.view) l.view.rows.now l.view.footer.now (before_it l.more l.self) l.self.least l.self.tally;
  fits : HasRoomIfMore l.view.rows.now l.more l.self;
  waits : WaitsWell l.view.rows.now l.self;
  capacity_is : vec_capacity l.self.later ≡ vec_capacity l.initial.self.later;
  oldest_is : oldest l.self.store.marks ≡ oldest l.initial.self.store.marks;
  in_step : KeepsSums l.view.program.now l.self.store.box l.self.sums;
}

abbrev pub decreases-rows : goal.decreases-rows
decreases-rows l = work_left (length l.view.rows.now) (before_it l.more l.self)
