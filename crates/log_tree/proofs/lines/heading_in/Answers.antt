use Rattle.std.proofs.Common.{◌∙◌, sym}
use Rattle.log_tree.proofs.Told.{heading_other}
use Rattle.log_tree.proofs.lines.heading_in.Goals as goal

pub returns-else-is_heading : goal.returns-else-is_heading
returns-else-is_heading c =
    heading_other c.args.line.now c.in-Some.heading (sym c.in-Some.is ∙ c.heading_read.ensures) (sym c.if-is_heading.false ∙ c.is_heading.ensures)
