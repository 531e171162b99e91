use Rattle.compile_counts.proofs.Capped.{capped_one}
use Rattle.compile_counts.proofs.counts.Nodes.one.Goals as goal

pub returns : goal.returns
returns c = record { one = capped_one }
