use Rattle.compile_counts.proofs.Walking.{expressions_are_walked}
use Rattle.compile_counts.proofs.laws.expressions_are_walked.Goals as goal

pub returns : goal.returns
returns c = record { law = expressions_are_walked }
