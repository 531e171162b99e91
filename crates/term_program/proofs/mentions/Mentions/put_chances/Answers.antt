use Rattle.std.proofs.Common.{subst}
use Rattle.term_program.specs.Drafts.{draft_root, draft_things}
use Rattle.term_program.specs.Mentions.{Gained, cond_lists}
use Rattle.term_program.proofs.Lists.{chances_next}
use Rattle.term_program.proofs.mentions.Mentions.put_chances.Goals as goal

pub chances-preserved : goal.chances-preserved
chances-preserved c =
    let lists = cond_lists (draft_root c.args.draft.now) (draft_things c.args.draft.now) in
    chances_next lists c.args.self.now c.chances.self c.put_conds.new.self c.args.chances.now c.chances.chance-index c.chance-item.result c.chances-test.true c.chance-item.is c.chances.invariant
    (subst (Gained lists c.chances.self c.put_conds.new.self) c.as_slice.ensures.value c.in_ok-put_conds.ensures)
