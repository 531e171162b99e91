use Rattle.std.proofs.Common.{rules}
use Rattle.sopl_term.proofs.Finishing.{ended_sound, none_size}
use Rattle.sopl_term.proofs.builder.Builder.goal.Goals as goal

pub returns-then-is_empty-clause-measured : goal.returns-then-is_empty-clause-measured
returns-then-is_empty-clause-measured c = λ expected. none_size c.args.self c.requires.building c.args.terms.now (search rules)

pub new-requires-in-Ok-clause-problem : goal.new-requires-in-Ok-clause-problem
new-requires-in-Ok-clause-problem c = ended_sound c.args.self c.in-Ok.goal c.requires.building c.args.terms.now (search rules) c.requires.fits c.in-Ok.ensures.direction c.in-Ok.ensures.terms
