use Rattle.std.proofs.Common.{take}
use Rattle.term_program.specs.Drafts.{draft_root, draft_things}
use Rattle.term_program.specs.Mentions.{Gained, cond_lists, hard_ids}
use Rattle.term_program.proofs.mentions.Mentions.put_hards.Given as goal

abbrev pub invariant-hards : goal.invariant-hards
invariant-hards l = Gained (cond_lists (draft_root l.draft) (draft_things l.draft)) l.fn.self l.self (hard_ids (take l.hard-index l.hards))
