use Rattle.std.proofs.Common.{rules, ◌≡◌, inr, ◌∙◌, ◌+◌, ◌*◌, ◌≤◌, ◌<◌, ◌^◌, ◌≤ℤ◌, pos, length, Some, None, arith, refl, sym, ap, subst}
use Rattle.std.specs.List.{sum_by}
use Rattle.sopl_ast.specs.Limits.{usual_limits}
use Rattle.sopl_ast.specs.Scenarios.{scenarios}
use Rattle.sopl_scen.specs.Stages.{count_at, cell_count, places_from}
use Rattle.sopl_scen.proofs.Assembled.{small_levels}
use Rattle.sopl_scen.proofs.Whole.{AreMade, limit_early, limit_bits, stages_few, stages_24, weights_many, copies_of, tree_is, tree_filled, few_below}
use Rattle.sopl_scen.proofs.tree.Tree.of.Goals as goal

pub returns-in-Err-clause-limit : goal.returns-in-Err-clause-limit
returns-in-Err-clause-limit c =
    λ problem is.
    inr (
      c.in-Err.excess,
      refl,
      limit_early c.args.decisions.now c.args.stochs.now c.args.constraints (length c.args.decisions.now + (length c.args.stochs.now + c.args.constraints))
          c.in-Err.excess refl c.in-Err.ensures.err problem is,
    )

pub of-requires-2 : goal.of-requires-2
of-requires-2 c =
    record {
      small =
          small_levels c.args.stochs.now c.requires.stated.outcomes c.requires.stated.stochastics
          (subst (λ z. z ≤ℤ pos (2 ^ 100)) c.in-Ok.ensures.total c.in-Ok.ensures.light) c.in-Ok.ensures.few;
    }

pub bits_of_all-requires-clause-staged : goal.bits_of_all-requires-clause-staged
bits_of_all-requires-clause-staged c = stages_24 c.args.stochs.now c.deref.result.now (c.deref.ensures.value ∙ c.in_ok-scenes.ensures.stages)

pub bits_of_all-requires-clause-fewer : goal.bits_of_all-requires-clause-fewer
bits_of_all-requires-clause-fewer c =
    λ stage at.
    few_below (count_at c.deref.result.now stage) (length (scenarios c.args.stochs.now))
    (stages_few c.args.decisions.now c.args.stochs.now c.args.constraints (length (scenarios c.args.stochs.now)) c.deref.result.now c.requires.stated
    (c.deref.ensures.value ∙ c.in_ok-scenes.ensures.stages) refl stage at)
    c.in-Ok.ensures.few

pub returns-in-Err-bits_of_all-clause-limit : goal.returns-in-Err-bits_of_all-clause-limit
returns-in-Err-bits_of_all-clause-limit c =
    λ problem is.
    inr (
      c.in-Err-bits_of_all.excess,
      refl,
      limit_bits c.args.decisions.now c.args.stochs.now c.args.constraints (length c.args.decisions.now + (length c.args.stochs.now + c.args.constraints))
          (Some c.in-Err-bits_of_all.excess) c.deref.result.now c.requires.stated refl c.in-Ok.ensures.ok (c.deref.ensures.value ∙ c.in_ok-scenes.ensures.stages)
          c.in-Err-bits_of_all.ensures.err problem is,
    )

pub overflow_cast-count : goal.overflow_cast-count
overflow_cast-count c =
    let same : c.len-count.result ≡ length c.in_ok-scenes.scenes.weights.items = search rules in
    let few : c.len-count.result < 2 ^ 32 =
    few_below c.len-count.result (length (scenarios c.args.stochs.now))
    (subst (λ n. c.len-count.result ≤ n) (same ∙ weights_many c.args.stochs.now c.in_ok-scenes.scenes.weights.items c.in_ok-scenes.ensures.weights) (omega arith))
    c.in-Ok.ensures.few in
    search rules

pub of-requires-3-clause-staged : goal.of-requires-3-clause-staged
of-requires-3-clause-staged c = stages_24 c.args.stochs.now c.deref-2.result.now (c.deref-2.ensures.value ∙ c.in_ok-scenes.ensures.stages)

pub of-requires-3-clause-fewer : goal.of-requires-3-clause-fewer
of-requires-3-clause-fewer c =
    λ stage at.
    let same : c.len-count.result ≡ length c.in_ok-scenes.scenes.weights.items = search rules in
    stages_few c.args.decisions.now c.args.stochs.now c.args.constraints c.len-count.result c.deref-2.result.now c.requires.stated
    (c.deref-2.ensures.value ∙ c.in_ok-scenes.ensures.stages)
    (same ∙ weights_many c.args.stochs.now c.in_ok-scenes.scenes.weights.items c.in_ok-scenes.ensures.weights) stage at

pub of-requires-3-clause-few : goal.of-requires-3-clause-few
of-requires-3-clause-few c =
    let same : c.len-count.result ≡ length c.in_ok-scenes.scenes.weights.items = search rules in
    subst (λ n. (length c.args.decisions.now * n) ≤ usual_limits.copies)
    (sym (same ∙ weights_many c.args.stochs.now c.in_ok-scenes.scenes.weights.items c.in_ok-scenes.ensures.weights))
    (copies_of c.args.decisions.now c.args.stochs.now c.args.constraints (length c.args.decisions.now + (length c.args.stochs.now + c.args.constraints)) refl
    c.in-Ok.ensures.copies)

made : (c : goal.After-result-1) → AreMade c.args.decisions.now c.args.stochs.now
    (record {
      total = c.in-Ok.sizes.total.value;
      variables = length c.args.stochs.now;
      weights = c.in_ok-scenes.scenes.weights.items;
      values = c.in_ok-scenes.scenes.table.values.items;
      nodes = c.in_ok-scenes.scenes.table.nodes.items;
      stages = c.in_ok-scenes.scenes.stages.items;
      places = c.in_ok-cells.cells.places.items;
      cells = c.in_ok-cells.cells.total;
    })
made c =
    record {
      whole = c.in-Ok.ensures.total;
      variables = refl;
      weighed = c.in_ok-scenes.ensures.weights;
      drawn = c.in_ok-scenes.ensures.values;
      numbered = c.in_ok-scenes.ensures.nodes;
      staged = c.in_ok-scenes.ensures.stages;
      placed = c.in_ok-cells.ensures.places ∙ ap (λ list. places_from 0 list c.args.decisions.now) c.deref-2.ensures.value;
      celled = c.in_ok-cells.ensures.total ∙ ap (λ list. sum_by (cell_count list) c.args.decisions.now) c.deref-2.ensures.value;
    }

pub invariant_of-result : goal.invariant_of-result
invariant_of-result c =
    tree_filled c.args.decisions.now c.args.stochs.now c.args.constraints (length c.args.decisions.now + (length c.args.stochs.now + c.args.constraints)) _
    c.requires.stated c.in-Ok.ensures.few refl c.in-Ok.ensures.copies (made c)

pub returns-clause-tree : goal.returns-clause-tree
returns-clause-tree c = tree_is c.args.decisions.now c.args.stochs.now c.args.constraints _ c.requires.stated (made c)

pub returns-clause-within : goal.returns-clause-within
returns-clause-within c =
    λ problem is.
    limit_bits c.args.decisions.now c.args.stochs.now c.args.constraints (length c.args.decisions.now + (length c.args.stochs.now + c.args.constraints))
    None c.deref.result.now c.requires.stated refl c.in-Ok.ensures.ok (c.deref.ensures.value ∙ c.in_ok-scenes.ensures.stages) c.in_default.ensures.ok problem is
