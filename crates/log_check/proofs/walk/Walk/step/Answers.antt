use Rattle.std.proofs.Common.{reverse, refl, sym, subst, List}
use Rattle.box_store.specs.Store.{Mark}
use Rattle.log_check.specs.Waiting.{AllCut}
use Rattle.log_check.proofs.Walking.{step_right, step_wrong}
use Rattle.log_check.proofs.Waiting.{cuts_of}
use Rattle.log_check.proofs.walk.Walk.step.Goals as goal

pub found-requires : goal.found-requires
found-requires c = record {
  cuts = subst (λ (marks : List Mark). AllCut (reverse c.args.self.now.later.items) marks) (sym c.judge_row-wrong.ensures.marks) (cuts_of c.args.view.now.rows.now c.args.self.now c.requires.waits);
}

pub returns-in-Some : goal.returns-in-Some
returns-in-Some c = record {
  stepped = step_wrong c.args.view.now c.args.self.now c.found.new.self c.found.result c.in-Some.line c.judge_row-wrong.new.store.marks c.judge_row-wrong.new.tally c.requires.ready c.requires.waits
      c.judge_row-wrong.ensures.marks c.in-Some.ensures.same_tally c.in-Some.ensures.wrong c.found.ensures.next c.found.ensures.capacity c.found.ensures.least c.found.ensures.same_tally;
  in_step = c.found.ensures.follow c.args.view.now.program.now c.judge_row-wrong.ensures.in_step;
}

pub returns-in-None : goal.returns-in-None
returns-in-None c = record {
  stepped = step_right c.args.view.now c.args.self.now _ c.go_on.new.self c.go_on.result c.requires.ready refl refl c.judge_row-wrong.ensures.marks refl c.in-None.ensures.right c.go_on.ensures.gone;
  in_step = c.go_on.ensures.follow c.args.view.now.program.now c.judge_row-wrong.ensures.in_step;
}
