use Rattle.std.proofs.Common.{rules, ◌≡◌, Result, Err, IfErr, sym, subst}
use Rattle.sopl_base.specs.declared.fault.Fault.{Fault}
use Rattle.term_program.specs.declared.program.Program.{Program}
use Rattle.answer_texts.specs.Replies.{IsFaultOn}
use Rattle.answer_texts.specs.declared.command.Command.TheVariants.{Solve}
use Rattle.answer_texts.specs.declared.command.Detail.TheVariants.{Full}
use Rattle.answer_texts.proofs.Answered.{text_fault}
use Rattle.answer_check.proofs.Replying.{program_made, unsolved_told}
use Rattle.answer_check.proofs.answer.program_to_check.Goals as goal

pub returns-in_err-stated-clause-refused : goal.returns-in_err-stated-clause-refused
returns-in_err-stated-clause-refused c =
    let same : c.from_residual.result ≡ Err c.in_err-stated.field-0.0 = search rules in
    subst (λ (r : Result Program Fault). IfErr r (IsFaultOn c.args.text.now (Solve Full))) (sym same)
    (text_fault (Solve Full) c.args.text.now c.in_err-stated.field-0.0 c.in_err-stated.ensures.refused)

pub returns-clause-refused : goal.returns-clause-refused
returns-clause-refused c =
    unsolved_told c.args.text.now c.in_ok-stated.stated c.program_of.result c.in_ok-stated.ensures.stated c.program_of.ensures.refused

pub returns-clause-program : goal.returns-clause-program
returns-clause-program c =
    program_made c.args.text.now c.in_ok-stated.stated c.program_of.result c.in_ok-stated.ensures.stated c.program_of.ensures.solvable
    c.program_of.ensures.program
