use Rattle.std.proofs.Common.{refl}
use Rattle.log_check.specs.Views.{checked_problem}
use Rattle.log_check.proofs.Ending.{split_right, split_wrong}
use Rattle.log_check.proofs.rows.judge_split.Goals as goal

pub returns-then-splits : goal.returns-then-splits
returns-then-splits c = record {
  judged = split_right (checked_problem c.args.view.now) c.args.view.now.rows.now c.args.view.now.footer.now c.args.at c.args.store.now.box c.args.tally.now c.args.cut.now c.args.view.now.sides.now _ c.splits.result c.requires.end
      c.requires.ready.sides c.requires.exists refl c.splits.ensures.splits c.if-splits.true;
}

pub returns-else-splits : goal.returns-else-splits
returns-else-splits c = record {
  judged = split_wrong (checked_problem c.args.view.now) c.args.view.now.rows.now c.args.view.now.footer.now c.args.at c.args.store.now.box c.args.tally.now c.args.cut.now c.args.view.now.sides.now _ c.splits.result c.requires.end
      c.requires.ready.sides c.requires.exists refl c.splits.ensures.splits c.if-splits.false;
}
