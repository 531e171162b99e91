use Rattle.std.proofs.Common.{subst}
use Rattle.term_program.specs.Drafts.{draft_root, draft_things}
use Rattle.term_program.specs.Mentions.{Gained, cond_lists}
use Rattle.term_program.proofs.Lists.{hards_next}
use Rattle.term_program.proofs.mentions.Mentions.put_hards.Goals as goal

pub hards-preserved : goal.hards-preserved
hards-preserved c =
    let lists = cond_lists (draft_root c.args.draft.now) (draft_things c.args.draft.now) in
    hards_next lists c.args.self.now c.hards.self c.put_conds.new.self c.args.hards.now c.hards.hard-index c.hard-item.result c.hards-test.true c.hard-item.is c.hards.invariant
    (subst (Gained lists c.hards.self c.put_conds.new.self) c.as_slice.ensures.value c.in_ok-put_conds.ensures)
