use Rattle.std.proofs.Common.{◌∙◌, arith, sym, ap}
use Rattle.answer_run.specs.Words.{is_digits}
use Rattle.answer_run.proofs.Numbers.{number_read, number_refused}
use Rattle.answer_run.proofs.request.number_of.Goals as goal

pub returns-in-Ok-clause-number : goal.returns-in-Ok-clause-number
returns-in-Ok-clause-number c =
    c.between.ensures.number
    ∙ number_read c.args.least c.args.most c.args.word.now c.parse.result c.parse.ensures.value.0 (ap is_digits (sym c.as_bytes.ensures.value) ∙ sym c.is_digits.ensures ∙ c.if-not-is_digits.false)
    c.in-Ok.number c.in-Ok.is

pub returns-in-Err-clause-number : goal.returns-in-Err-clause-number
returns-in-Err-clause-number c =
    number_refused c.args.least c.args.most c.args.word.now c.parse.result c.parse.ensures.value.0 (ap is_digits (sym c.as_bytes.ensures.value) ∙ sym c.is_digits.ensures ∙ c.if-not-is_digits.false)
    c.in-Err.field-0 (omega arith) c.in-Err.is
