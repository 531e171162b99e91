use Rattle.std.proofs.Common.{rules, sym, subst}
use Rattle.log_tree.specs.Reads.{IsReading, RefusedAs}
use Rattle.log_tree.proofs.Rows.{whole_read, whole_refused, text_empty, text_headless, differs, equals}
use Rattle.log_tree.proofs.reader.read_log.Goals as goal

pub returns-then-is_empty-clause-err : goal.returns-then-is_empty-clause-err
returns-then-is_empty-clause-err c = subst (RefusedAs (IsReading c.args.text.now)) (sym c.refused.ensures) (text_empty c.args.text.now (search rules))

pub returns-then-ne-clause-err : goal.returns-then-ne-clause-err
returns-then-ne-clause-err c =
    subst (RefusedAs (IsReading c.args.text.now)) (sym c.refused-then-ne.ensures)
    (text_headless c.args.text.now c.first_line.result.0.now c.first_line.result.1.now c.first_line.ensures.cut (differs c.first_line.result.0.now c.ne.result (search rules) c.if-ne.true))

pub returns-clause-ok : goal.returns-clause-ok
returns-clause-ok c =
    whole_read c.args.text.now c.first_line.result.0.now c.first_line.result.1.now c.read_rows.result c.first_line.ensures.cut (equals c.first_line.result.0.now c.ne.result (search rules) c.if-ne.false)
    c.read_rows.ensures.ok

pub returns-clause-err : goal.returns-clause-err
returns-clause-err c =
    whole_refused c.args.text.now c.first_line.result.0.now c.first_line.result.1.now c.read_rows.result c.first_line.ensures.cut (equals c.first_line.result.0.now c.ne.result (search rules) c.if-ne.false)
    c.read_rows.ensures.err
