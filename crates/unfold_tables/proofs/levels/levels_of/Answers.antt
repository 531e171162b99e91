use Rattle.std.proofs.Common.{sym, subst, ◌∙◌}
use Rattle.unfold_tables.specs.Changing.{Rise}
use Rattle.unfold_tables.proofs.Sweeping.{rising}
use Rattle.unfold_tables.proofs.levels.levels_of.Goals as goal

pub levels_in-requires : goal.levels_in-requires
levels_in-requires c = record {
  rise = subst Rise (sym (c.as_slice.ensures.value ∙ c.in_ok-list.ensures.entries)) (rising c.args.changes.now.entries c.in_ok-list.ensures.ordered);
}
