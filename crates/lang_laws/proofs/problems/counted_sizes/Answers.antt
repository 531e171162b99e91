use Rattle.std.proofs.Common.{refl}
use Rattle.sopl_ast.specs.Unfolding.{problem_of, text_events, by_stage}
use Rattle.lang_laws.proofs.problems.counted_sizes.Goals as goal

pub returns : goal.returns
unfolding problem_of text_events by_stage
returns c = record {
  many_nodes = refl;
  many_nodes_each = refl;
  many_nodes_objective = refl;
  heaviest = refl;
  heavy_late = refl;
  sizes_scenarios = refl;
  sizes_copies = refl;
  sizes_bits =
      refl;
  sizes_weight = refl;
  sizes_none = refl;
  digits = refl;
}
