use Rattle.sopl_term.proofs.Keeping.{kept_grown}
use Rattle.sopl_term.proofs.builder.Builder.add_term.Goals as goal

pub returns : goal.returns
returns c = record {
  added = record {
    kept = kept_grown c.args.self.now c.add_term.new.self c.requires.can.building c.add_term.ensures.sound c.add_term.ensures.root c.add_term.ensures.adds.grows;
    adds = c.add_term.ensures.adds;
  };
}
