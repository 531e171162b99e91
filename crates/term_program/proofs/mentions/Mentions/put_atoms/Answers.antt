use Rattle.std.proofs.Common.{get_or, pos}
use Rattle.std.proofs.lemmas.List.{get_or_default}
use Rattle.term_goals.specs.declared.sums.Atom.{Atom}
use Rattle.term_program.specs.Drafts.{draft_root, draft_things}
use Rattle.term_program.specs.Mentions.{term_lists}
use Rattle.term_program.proofs.Lists.{atoms_next}
use Rattle.term_program.proofs.mentions.Mentions.put_atoms.Goals as goal

pub atoms-preserved : goal.atoms-preserved
atoms-preserved c =
    let none : Atom = record { k = pos 0; term = 0 } in
    let atom : Atom = get_or c.args.atoms.now c.atoms.atom-index none in
    atoms_next (term_lists (draft_root c.args.draft.now) (draft_things c.args.draft.now)) c.args.self.now c.atoms.self c.put_term.new.self c.args.atoms.now c.atoms.atom-index atom c.atoms-test.true
    (get_or_default c.args.atoms.now c.atoms.atom-index none atom c.atoms-test.true) c.atoms.invariant c.in_ok-put_term.ensures
