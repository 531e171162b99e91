use Rattle.std.proofs.Common.{rules}
use Rattle.sopl_io.specs.Calls.{no_call}
use Rattle.sopl_io.proofs.Calling.{where_all}
use Rattle.sopl_io.proofs.Gathering.{on_err}
use Rattle.sopl_search.proofs.Begun.{nothing_logged}
use Rattle.term_program.proofs.Lawful.{lawful_of, root_near}
use Rattle.term_program.specs.Stated.{box_problem_of}
use Rattle.prop_set.proofs.searching.search_program.Goals as goal

pub search-requires-clause-lawful : goal.search-requires-clause-lawful
search-requires-clause-lawful g c = lawful_of c.args.program.now c.requires.made

pub search-requires-clause-near : goal.search-requires-clause-near
search-requires-clause-near g c = root_near c.args.program.now c.requires.made

pub returns-in_err-props-clause-outcomes : goal.returns-in_err-props-clause-outcomes
returns-in_err-props-clause-outcomes g c = where_all _ _ (search rules) no_call

pub returns-in_err-props-clause-prefix : goal.returns-in_err-props-clause-prefix
returns-in_err-props-clause-prefix g c = on_err _
    (nothing_logged (box_problem_of c.args.program.now) _ (g.K.Sink.taken c.args.sink.now)
    (record { lawful = lawful_of c.args.program.now c.requires.made; near = root_near c.args.program.now c.requires.made; few_bits = c.requires.bits }) c.args.schedule.few)
