use Rattle.std.proofs.Common.{rules, arith, sym, subst}
use Rattle.log_tree.specs.Cutting.{lines_in}
use Rattle.log_tree.specs.Progress.{RefusesBody}
use Rattle.log_tree.proofs.Bodies.{leads_pushed, body_missing, no_lines}
use Rattle.log_tree.proofs.reader.read_body.Goals as goal

pub lines-preserved : goal.lines-preserved
lines-preserved c = record {
  leads = leads_pushed c.lines.steps c.push.new.self c.lines.number _ _ _ _ c.first_line.result.0.now _ c.in-Some.step c.lines.invariant.leads c.first_line.ensures.cut c.in-Some.ensures (search rules);
  room = omega (arith, c.lines.invariant.room, c.first_line.ensures.shorter);
  shorter = omega (arith, c.lines.invariant.shorter, c.first_line.ensures.shorter);
}

pub returns-clause-err : goal.returns-clause-err
returns-clause-err c =
    c.lines.invariant.leads.fault c.refused.result (subst (RefusesBody c.lines.steps c.lines.number (lines_in c.lines.left.now)) (sym c.refused.ensures)
    (body_missing c.lines.steps c.lines.number (lines_in c.lines.left.now) (no_lines c.lines.left.now (search rules))))
