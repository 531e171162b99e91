use Rattle.std.proofs.lemmas.Result.{err_from_is_err_and}
use Rattle.sopl_unfold.proofs.Loops.{leads_on, leads_to_fault}
use Rattle.sopl_unfold.proofs.declared.declare_all.Goals as goal

pub decls-preserved : goal.decls-preserved
decls-preserved c =
    leads_on c.args.decls.now c.args.count.now.counted c.as_slice-decl-items.result.now c.decls.decl-index c.decl-item.result c.decls-test.true c.decl-item.is _ _ c.decls.invariant _
    _ c.in_ok-declare.ensures.behind
    c.in_ok-declare.ensures.met

pub returns-in_err-declare-clause-met : goal.returns-in_err-declare-clause-met
returns-in_err-declare-clause-met c =
    let p = err_from_is_err_and c.from_residual.result c.from_residual.ensures.1 in
    rw (p.1, p.2)
    (leads_to_fault c.args.decls.now c.args.count.now.counted c.as_slice-decl-items.result.now c.decls.decl-index c.decl-item.result c.decls-test.true c.decl-item.is _ _ c.decls.invariant
    c.in_err-declare.field-0.0
    c.in_err-declare.ensures.met)
