use Rattle.std.proofs.Common.{ap, sym, ◌∙◌}
use Rattle.term_math.specs.Ascending.{all_ascend}
use Rattle.term_math.proofs.Hulls.{hull_kept}
use Rattle.term_math.proofs.tables.Table.of.Goals as goal

pub invariant_of-result : goal.invariant_of-result
invariant_of-result c = record {
  ascend = λ up. sym (c.are_ascending-ascending.ensures ∙ ap all_ascend c.as_slice.ensures.value) ∙ up;
  hulled = λ b hull is.
      hull_kept b c.fixed_hull-fixed.result hull c.as_slice-2.result.now c.args.elements.items is c.as_slice-2.ensures.value (c.fixed_hull-fixed.ensures b);
}
