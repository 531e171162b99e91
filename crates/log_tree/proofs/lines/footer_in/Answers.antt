use Rattle.std.proofs.Common.{◌∙◌, sym}
use Rattle.log_tree.proofs.Told.{footer_none, footer_other}
use Rattle.log_tree.proofs.lines.footer_in.Goals as goal

pub returns-in_default : goal.returns-in_default
returns-in_default c = footer_none c.args.line.now (sym c.in_default.is ∙ c.footer_read.ensures)

pub returns-else-is_footer : goal.returns-else-is_footer
returns-else-is_footer c = footer_other c.args.line.now c.in-Some.footer (sym c.in-Some.is ∙ c.footer_read.ensures) (sym c.if-is_footer.false ∙ c.is_footer.ensures)
