use Rattle.std.proofs.Common.{◌∙◌, sym}
use Rattle.log_tree.proofs.Sizes.{size_read, size_refused, no_text}
use Rattle.log_tree.proofs.numbers.size.Goals as goal

pub returns-in_default : goal.returns-in_default
returns-in_default c = no_text c.args.word.now (sym c.are_digits.ensures ∙ c.if-not-are_digits.false) c.in_default.ensures.cases.0

pub returns-in-Ok-parse : goal.returns-in-Ok-parse
returns-in-Ok-parse c =
    size_read c.args.word.now c.parse.result c.in-Ok.text.now c.in-Ok.ensures.cases.0 c.parse.ensures.value.0 (sym c.are_digits.ensures ∙ c.if-not-are_digits.false) c.in-Ok-parse.number c.in-Ok-parse.is

pub returns-in-Err : goal.returns-in-Err
returns-in-Err c =
    size_refused c.args.word.now c.parse.result c.in-Ok.text.now c.in-Ok.ensures.cases.0 c.parse.ensures.value.0 (sym c.are_digits.ensures ∙ c.if-not-are_digits.false) c.in-Err.field-0 c.in-Err.is
