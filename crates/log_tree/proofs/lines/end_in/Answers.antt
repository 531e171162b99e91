use Rattle.std.proofs.Common.{◌∙◌, sym}
use Rattle.log_tree.proofs.Told.{end_none, end_other}
use Rattle.log_tree.proofs.lines.end_in.Goals as goal

pub returns-in_default : goal.returns-in_default
returns-in_default c = end_none c.args.line.now (sym c.in_default.is ∙ c.end_read.ensures)

pub returns-else-is_end : goal.returns-else-is_end
returns-else-is_end c = end_other c.args.line.now c.in-Some.end (sym c.in-Some.is ∙ c.end_read.ensures) (sym c.if-is_end.false ∙ c.is_end.ensures)
