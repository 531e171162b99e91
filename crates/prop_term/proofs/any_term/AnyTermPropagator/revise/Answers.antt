use Rattle.term_program.proofs.Lawful.{inside_root}
use Rattle.prop_term.proofs.any_term.AnyTermPropagator.revise.Goals as goal

pub found-requires-clause-inside : goal.found-requires-clause-inside
found-requires-clause-inside c = inside_root c.args.program.now c.args.store.now.box c.requires.inside
