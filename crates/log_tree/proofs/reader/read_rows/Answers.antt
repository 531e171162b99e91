use Rattle.std.proofs.Common.{◌≡◌, [], rules, arith, sym, subst, Result, Err, IfErr}
use Rattle.sopl_base.specs.declared.fault.Fault.{Fault}
use Rattle.log_tree.specs.declared.reader.Log.{Log}
use Rattle.log_tree.specs.Cutting.{lines_in}
use Rattle.log_tree.specs.Progress.{RefusesRows}
use Rattle.log_tree.proofs.Rows.{node_faults, body_faults, rows_more, rows_missing}
use Rattle.log_tree.proofs.reader.read_rows.Goals as goal

pub returns-in_err-depth-clause-err : goal.returns-in_err-depth-clause-err
returns-in_err-depth-clause-err c =
    let same : c.from_residual.result ≡ Err c.in_err-depth.field-0.0 = search rules in
    subst (λ (r : Result Log Fault). IfErr r (RefusesRows [] 2 (lines_in c.args.text.now))) (sym same)
    (node_faults c.nodes.growing.rows.items c.nodes.number (lines_in c.nodes.left.now) (lines_in c.args.text.now) c.first_line.result.0.now (lines_in c.first_line.result.1.now)
    c.in-Some.heading c.in_err-depth.field-0.0 c.nodes.invariant.leads c.first_line.ensures.cut c.in-Some.ensures c.in_err-depth.ensures.err)

pub returns-in_err-body-clause-err : goal.returns-in_err-body-clause-err
returns-in_err-body-clause-err c =
    let same : c.from_residual-in_err-body.result ≡ Err c.in_err-body.field-0.0 = search rules in
    subst (λ (r : Result Log Fault). IfErr r (RefusesRows [] 2 (lines_in c.args.text.now))) (sym same)
    (body_faults c.nodes.growing.rows.items c.nodes.number (lines_in c.nodes.left.now) (lines_in c.args.text.now) c.first_line.result.0.now (lines_in c.first_line.result.1.now)
    c.in-Some.heading c.in_ok-depth.depth c.in_err-body.field-0.0 c.nodes.invariant.leads c.first_line.ensures.cut c.in-Some.ensures c.in_ok-depth.ensures.ok c.in_err-body.ensures.err)

pub nodes-preserved : goal.nodes-preserved
nodes-preserved c = record {
  leads = rows_more c.nodes.growing.rows.items c.add.new.self.rows.items c.nodes.number c.in_ok-body.body.number (lines_in c.nodes.left.now) (lines_in c.in_ok-body.body.left.now) (lines_in c.args.text.now)
      c.first_line.result.0.now (lines_in c.first_line.result.1.now) c.in-Some.heading c.in_ok-depth.depth c.in_ok-body.body.steps c.in_ok-body.body.end c.nodes.invariant.leads
      c.first_line.ensures.cut c.in-Some.ensures c.in_ok-depth.ensures.ok c.in_ok-body.ensures.ok c.in_ok-add.ensures.rows;
  keeps = c.in_ok-add.ensures.keeps;
  room = omega (arith, c.nodes.invariant.room, c.in_ok-body.ensures.room, c.first_line.ensures.shorter);
}

pub returns-clause-err : goal.returns-clause-err
returns-clause-err c =
    subst (RefusesRows _ _ (lines_in c.args.text.now)) (sym c.refused.ensures) (rows_missing c.nodes.growing.rows.items c.nodes.number c.nodes.left.now (lines_in c.args.text.now) c.nodes.invariant.leads (search rules))
