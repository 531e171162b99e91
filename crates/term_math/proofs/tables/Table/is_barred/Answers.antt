use Rattle.std.proofs.Common.{List, Vec, Global, ℤ, ap, ◌∙◌}
use Rattle.std.specs.List.{list_all}
use Rattle.term_math.specs.Ascending.{ascends}
use Rattle.term_math.specs.Kept.{sets_of}
use Rattle.term_math.specs.Within.{wide_sets}
use Rattle.term_math.proofs.Ascents.{wide_ascend}
use Rattle.term_math.proofs.tables.Table.is_barred.Goals as goal

pub is_lacking-requires : goal.is_lacking-requires
is_lacking-requires c = record {
  ascend = ap (λ (sets : List (Vec ℤ Global)). list_all ascends (wide_sets (sets_of sets))) c.as_slice.ensures.value
      ∙ wide_ascend c.args.self.now.sets.items (c.args.self.now.ascend c.if-not-self.false);
}
