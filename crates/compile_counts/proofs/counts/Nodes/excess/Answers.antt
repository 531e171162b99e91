use Rattle.std.proofs.Common.{rules, SFits}
use Rattle.std.proofs.lemmas.Int.{to_z-of_z}
use Rattle.std.specs.Int.{w128}
use Rattle.compile_counts.proofs.Capped.{few, many}
use Rattle.compile_counts.proofs.counts.Nodes.excess.Goals as goal

pub returns-then-self-le-TERM_NODES : goal.returns-then-self-le-TERM_NODES
returns-then-self-le-TERM_NODES c =
    record {
      excess = λ a is.
          let fits : SFits w128 c.args.self.count = search rules in
          few a _ c.args.self.count (to_z-of_z w128 c.args.self.count fits) is c.if-self-le-TERM_NODES.true;
    }

pub returns : goal.returns
returns c =
    record {
      excess = λ a is.
          let fits : SFits w128 c.args.self.count = search rules in
          many a _ c.args.self.count (to_z-of_z w128 c.args.self.count fits) is c.if-self-le-TERM_NODES.false;
    }
