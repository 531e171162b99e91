use Rattle.std.proofs.Common.{take}
use Rattle.term_program.specs.Drafts.{draft_root, draft_things}
use Rattle.term_program.specs.Mentions.{Gained, atom_ids, term_lists}
use Rattle.term_program.proofs.mentions.Mentions.put_atoms.Given as goal

abbrev pub invariant-atoms : goal.invariant-atoms
invariant-atoms l = Gained (term_lists (draft_root l.draft) (draft_things l.draft)) l.fn.self l.self (atom_ids (take l.atom-index l.atoms))
