use Rattle.answer_lines.proofs.Told.{bounded_lines, optimal_lines}
use Rattle.answer_lines.proofs.laws.lines_differ.Goals as goal

pub returns : goal.returns
returns c = record { optimal = optimal_lines; bounded = bounded_lines }
