use Rattle.open_nodes.proofs.Places.{cuts_as_rows, named_as_rows}
use Rattle.open_nodes.proofs.laws.ways_are_known.Goals as goal

pub returns : goal.returns
returns c = record {
  law = λ problem rows opens best split logs is. (cuts_as_rows problem rows opens best split logs is, named_as_rows problem.root rows split logs.hangs is);
}
