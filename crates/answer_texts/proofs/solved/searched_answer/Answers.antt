use Rattle.std.proofs.Common.{rules}
use Rattle.scen_accept.specs.Stated.{problem_in}
use Rattle.sopl_io.proofs.Calling.{where_all}
use Rattle.answer_texts.proofs.SolveAnswered.{answer_made, log_taken, program_finds_point, search_stopped}
use Rattle.answer_texts.proofs.Root.{root_few_bits}
use Rattle.answer_texts.proofs.Calls.{found_calls, handed_on}
use Rattle.answer_texts.proofs.Stopped.{at_err, on_err}
use Rattle.answer_texts.proofs.solved.searched_answer.Goals as goal

pub search_program-requires-clause-bits : goal.search_program-requires-clause-bits
search_program-requires-clause-bits g c = root_few_bits c.requires.stated.0 c.args.stated.now c.args.program.now c.requires.stated.1 c.requires.program

pub told-requires-clause-inside : goal.told-requires-clause-inside
told-requires-clause-inside g c = program_finds_point (problem_in c.args.stated.now) c.args.program.now c.in_ok-outcome.outcome c.requires.program c.in_ok-outcome.ensures.truth

pub returns-clause-answer : goal.returns-clause-answer
returns-clause-answer g c =
    answer_made c.args.detail c.requires.stated.0 c.args.stated.now c.requires.stated.1 c.args.program.now c.requires.program _
    (g.K.Sink.taken c.args.sink.now) (g.K.Sink.taken c.search_program.new.sink) c.in_ok-outcome.outcome c.in_ok-answer.answer
    c.in_ok-outcome.ensures.truth c.in_ok-outcome.ensures.cause c.in_ok-outcome.ensures.log c.in_ok-answer.ensures.answer

pub returns-in_err-answer-clause-stopped : goal.returns-in_err-answer-clause-stopped
returns-in_err-answer-clause-stopped g c =
    on_err _ (log_taken c.args.detail c.requires.stated.0 c.args.stated.now c.requires.stated.1 c.args.program.now c.requires.program _
    (g.K.Sink.taken c.args.sink.now) (g.K.Sink.taken c.search_program.new.sink) c.in_ok-outcome.outcome c.in_ok-outcome.ensures.log)

pub returns-in_err-outcome-clause-stopped : goal.returns-in_err-outcome-clause-stopped
returns-in_err-outcome-clause-stopped g c =
    on_err _ (search_stopped c.args.detail c.requires.stated.0 c.args.stated.now c.requires.stated.1 c.args.program.now c.requires.program _
    (g.K.Sink.taken c.args.sink.now) (g.K.Sink.taken c.search_program.new.sink) (at_err c.search_program.result c.in_err-outcome.field-0.0 (search rules) c.search_program.ensures.prefix))

pub returns-clause-outcomes : goal.returns-clause-outcomes
returns-clause-outcomes g c = where_all _ _ (λ e. cc) (found_calls _ _ c.search_program.result c.in_ok-outcome.outcome (search rules) c.search_program.ensures.outcomes)

pub returns-in_err-answer-clause-outcomes : goal.returns-in_err-answer-clause-outcomes
returns-in_err-answer-clause-outcomes g c = where_all _ _ (search rules) (found_calls _ _ c.search_program.result c.in_ok-outcome.outcome (search rules) c.search_program.ensures.outcomes)

pub returns-in_err-outcome-clause-outcomes : goal.returns-in_err-outcome-clause-outcomes
returns-in_err-outcome-clause-outcomes g c = handed_on _ _ c.search_program.result c.from_residual.result c.in_err-outcome.field-0.0 (search rules) (search rules) c.search_program.ensures.outcomes
