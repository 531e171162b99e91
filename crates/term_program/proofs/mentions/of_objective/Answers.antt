use Rattle.term_program.specs.Mentions.{atom_ids}
use Rattle.term_program.proofs.Lists.{all_stay}
use Rattle.term_program.proofs.mentions.of_objective.Goals as goal

pub returns-clause-atoms : goal.returns-clause-atoms
returns-clause-atoms c = all_stay c.put_atoms.new.self c.put_goal.new.self (atom_ids c.args.atoms.now) c.in_ok-put_goal.ensures.stays c.in_ok-put_atoms.ensures.there
