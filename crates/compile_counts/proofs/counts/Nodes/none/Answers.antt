use Rattle.compile_counts.proofs.Capped.{capped_none}
use Rattle.compile_counts.proofs.counts.Nodes.none.Goals as goal

pub returns : goal.returns
returns c = record { none = capped_none }
