use Rattle.std.proofs.Common.{Some, None}
use Rattle.std.proofs.lemmas.Result.{err_from_is_err_and}
use Rattle.sopl_scen.proofs.Early.{early_weight, early_count, early_copies, count_is_product, total_is_product, count_few, copies_few, count_positive}
use Rattle.sopl_scen.proofs.limits.Sizes.of.Goals as goal

pub returns-in_err-total-clause-err : goal.returns-in_err-total-clause-err
returns-in_err-total-clause-err c =
    let p = err_from_is_err_and c.from_residual.result c.from_residual.ensures.1 in
    rw (p.1, p.2) (early_weight c.args.instances c.args.stochs.now c.in_err-total.field-0.0 c.in_err-total.ensures.err)

pub returns-in_err-count-clause-err : goal.returns-in_err-count-clause-err
returns-in_err-count-clause-err c =
    let p = err_from_is_err_and c.from_residual-in_err-count.result c.from_residual-in_err-count.ensures.1 in
    rw (p.1, p.2) (early_count c.args.instances c.args.stochs.now c.in_err-count.field-0.0 c.in_ok-total.ensures.ok c.in_err-count.ensures.err)

pub copies-requires : goal.copies-requires
copies-requires c = record { some = count_positive c.args.stochs.now c.in_ok-count.count.value c.in_ok-count.ensures.count }

pub returns-in_err-copies-clause-err : goal.returns-in_err-copies-clause-err
returns-in_err-copies-clause-err c =
    let p = err_from_is_err_and c.from_residual-in_err-copies.result c.from_residual-in_err-copies.ensures.1 in
    rw (p.1, p.2)
    (early_copies c.args.instances c.args.stochs.now c.in_ok-count.count.value (Some c.in_err-copies.field-0.0) c.in_ok-total.ensures.ok c.in_ok-count.ensures.ok
    c.in_ok-count.ensures.count c.in_err-copies.ensures.err)

pub returns-clause-ok : goal.returns-clause-ok
returns-clause-ok c =
    early_copies c.args.instances c.args.stochs.now c.in_ok-count.count.value None c.in_ok-total.ensures.ok c.in_ok-count.ensures.ok
    c.in_ok-count.ensures.count c.in_ok-copies.ensures.ok

pub returns-clause-total : goal.returns-clause-total
returns-clause-total c = total_is_product c.args.stochs.now c.in_ok-total.total.value c.in_ok-total.ensures.total

pub returns-clause-count : goal.returns-clause-count
returns-clause-count c = count_is_product c.args.stochs.now c.in_ok-count.count.value c.in_ok-count.ensures.count

pub returns-clause-few : goal.returns-clause-few
returns-clause-few c = count_few c.args.stochs.now c.in_ok-count.count.value c.in_ok-count.ensures.count c.in_ok-count.ensures.few

pub returns-clause-copies : goal.returns-clause-copies
returns-clause-copies c =
    copies_few c.args.instances c.args.stochs.now c.in_ok-count.count.value c.in_ok-count.ensures.count c.in_ok-copies.ensures.few
