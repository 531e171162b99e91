use Rattle.std.proofs.Common.{rules, ◌≡◌, Result, Err, IfErr, sym, subst}
use Rattle.sopl_base.specs.declared.fault.Fault.{Fault}
use Rattle.scen_accept.specs.declared.accepted.AcceptedProblem.{AcceptedProblem}
use Rattle.answer_texts.specs.Replies.{IsFaultOn}
use Rattle.answer_texts.specs.declared.command.Command.TheVariants.{Solve}
use Rattle.answer_texts.specs.declared.command.Detail.TheVariants.{Full}
use Rattle.answer_texts.proofs.Answered.{text_fault}
use Rattle.answer_eval.proofs.Replying.{stated_for, unsolved_told}
use Rattle.answer_eval.proofs.text.text_to_eval.Goals as goal

pub returns-in_err-stated-clause-refused : goal.returns-in_err-stated-clause-refused
returns-in_err-stated-clause-refused c =
    let same : c.from_residual.result ≡ Err c.in_err-stated.field-0.0 = search rules in
    subst (λ (r : Result AcceptedProblem Fault). IfErr r (IsFaultOn c.args.text.now (Solve Full))) (sym same)
    (text_fault (Solve Full) c.args.text.now c.in_err-stated.field-0.0 c.in_err-stated.ensures.refused)

pub returns-clause-stated : goal.returns-clause-stated
returns-clause-stated c =
    stated_for c.args.text.now c.in_ok-stated.stated c.solvable.result c.in_ok-stated.ensures.stated c.in_ok-stated.ensures.laid_out c.solvable.ensures.same
    c.solvable.ensures.solvable

pub returns-clause-refused : goal.returns-clause-refused
returns-clause-refused c = unsolved_told c.args.text.now c.in_ok-stated.stated c.solvable.result c.in_ok-stated.ensures.stated c.solvable.ensures.refused
