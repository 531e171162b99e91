use Rattle.std.proofs.Common.{take}
use Rattle.term_program.specs.Drafts.{draft_root, draft_things}
use Rattle.term_program.specs.Mentions.{Gained, term_lists}
use Rattle.term_program.proofs.mentions.Mentions.put_terms.Given as goal

abbrev pub invariant-ids : goal.invariant-ids
invariant-ids l = Gained (term_lists (draft_root l.draft) (draft_things l.draft)) l.fn.self l.self (take l.id-index l.ids)
