use Rattle.std.proofs.Common.{arith}
use Rattle.std.proofs.lemmas.Result.{err_from_is_err_and}
use Rattle.sopl_lex.proofs.StepLemmas.{piece_some, reads_blank, reads_word, refuses_as}
use Rattle.sopl_lex.proofs.step.Goals as goal

-- what `front` refuses is refused of the text
pub returns-in_err-piece-clause-err : goal.returns-in_err-piece-clause-err
returns-in_err-piece-clause-err c =
    let p = err_from_is_err_and c.from_residual.result c.from_residual.ensures.1 in
    rw (p.1, p.2) (refuses_as c.args.text.now c.skipped.result.now c.args.at c.args.tokens.now.items c.in_err-piece.field-0.0 c.requires.before c.requires.inside c.skipped.ensures
    c.in_err-piece.ensures)

-- the piece ends within the text
pub overflow_add-end : goal.overflow_add-end
overflow_add-end c =
    let some = piece_some c.args.text.now c.skipped.result.now c.args.at c.in_ok-piece.piece c.requires.inside c.skipped.ensures c.in_ok-piece.ensures in
    let fits = c.requires.before.fits in
    omega arith

pub returns-in_ok-push-clause-onward : goal.returns-in_ok-push-clause-onward
returns-in_ok-push-clause-onward c =
    let some = piece_some c.args.text.now c.skipped.result.now c.args.at c.in_ok-piece.piece c.requires.inside c.skipped.ensures c.in_ok-piece.ensures in
    omega arith

pub returns-in_ok-push-clause-after : goal.returns-in_ok-push-clause-after
returns-in_ok-push-clause-after c =
    let reads = reads_word c.args.text.now c.skipped.result.now c.args.at c.args.tokens.now.items c.in_ok-piece.piece c.in-Some.kind c.requires.before c.requires.inside c.skipped.ensures
    c.in_ok-piece.ensures c.in-Some.is in
    rw (c.in_ok-push.ensures, c.in-Some.kind-is) reads

pub returns-in_default-clause-onward : goal.returns-in_default-clause-onward
returns-in_default-clause-onward c =
    let some = piece_some c.args.text.now c.skipped.result.now c.args.at c.in_ok-piece.piece c.requires.inside c.skipped.ensures c.in_ok-piece.ensures in
    omega arith

pub returns-in_default-clause-after : goal.returns-in_default-clause-after
returns-in_default-clause-after c =
    reads_blank c.args.text.now c.skipped.result.now c.args.at c.args.tokens.now.items c.in_ok-piece.piece c.requires.before c.requires.inside c.skipped.ensures c.in_ok-piece.ensures
    c.in_default.not-Some
