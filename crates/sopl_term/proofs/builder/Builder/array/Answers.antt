use Rattle.sopl_term.proofs.Keeping.{kept_grown}
use Rattle.sopl_term.proofs.builder.Builder.array.Goals as goal

pub returns : goal.returns
returns c = record {
  added = record {
    kept = kept_grown c.args.self.now c.add_table.new.self c.requires.building c.add_table.ensures.sound c.add_table.ensures.root c.add_table.ensures.adds.grows;
    adds = c.add_table.ensures.adds;
  };
}
