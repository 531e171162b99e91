use Rattle.std.proofs.Common.{◌∙◌, sym}
use Rattle.answer_run.specs.Shown.{row_shown}
use Rattle.answer_run.proofs.Parts.{at_word}
use Rattle.answer_run.proofs.options.first_part.Goals as goal

pub returns-in-None-clause-parts : goal.returns-in-None-clause-parts
returns-in-None-clause-parts c =
    at_word (row_shown c.args.row) c.args.seen c.args.word.now c.args.later.now (sym c.in-None.is ∙ c.option_named.ensures) ∙ c.whole_part.ensures.parts
