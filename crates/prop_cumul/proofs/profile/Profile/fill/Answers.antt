use Rattle.std.proofs.Common.{◌∙◌, arith, refl}
use Rattle.std.proofs.lemmas.List.{length-set}
use Rattle.prop_cumul.proofs.Slots.{next_task}
use Rattle.prop_cumul.proofs.profile.Profile.fill.Goals as goal

pub tasks-preserved : goal.tasks-preserved
tasks-preserved c = record {
  filled =
      next_task c.args.ends.now c.tasks.self.tasks.items _ c.tasks.place c.task_at.result (omega (arith, c.requires.room, c.tasks.invariant.same))
      (omega (arith, c.tasks-test.true, c.len-place-end.ensures, c.tasks.invariant.same)) refl c.task_at.ensures c.tasks.invariant.filled;
  same = length-set c.tasks.self.tasks.items c.tasks.place c.task_at.result ∙ c.tasks.invariant.same;
}
