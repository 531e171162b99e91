use Rattle.std.proofs.Common.{take}
use Rattle.term_program.specs.Drafts.{draft_root, draft_things}
use Rattle.term_program.specs.Mentions.{Gained, chance_ids, cond_lists}
use Rattle.term_program.proofs.mentions.Mentions.put_chances.Given as goal

abbrev pub invariant-chances : goal.invariant-chances
invariant-chances l = Gained (cond_lists (draft_root l.draft) (draft_things l.draft)) l.fn.self l.self (chance_ids (take l.chance-index l.chances))
