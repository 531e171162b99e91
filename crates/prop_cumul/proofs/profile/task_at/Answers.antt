use Rattle.prop_cumul.proofs.Slots.{task_there}
use Rattle.prop_cumul.proofs.profile.task_at.Goals as goal

pub returns : goal.returns
returns c = λ d.
    task_there c.args.ends.now c.args.place c.task_of.result _ d c.requires.exists c.task_of.ensures.start c.task_of.ensures.duration c.task_of.ensures.demand
