use Rattle.sopl_term.proofs.Keeping.{kept_grown}
use Rattle.sopl_term.proofs.builder.Builder.add_cond.Goals as goal

pub returns : goal.returns
returns c = record {
  added = record {
    kept = kept_grown c.args.self.now c.add_cond.new.self c.requires.can.building c.add_cond.ensures.sound c.add_cond.ensures.root c.add_cond.ensures.adds.grows;
    adds = c.add_cond.ensures.adds;
  };
}
