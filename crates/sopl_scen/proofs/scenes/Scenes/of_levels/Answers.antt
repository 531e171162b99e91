use Rattle.std.proofs.Common.{rules, ◌≡◌, ◌∙◌, ◌<◌, ◌^◌, length, map, arith, ap}
use Rattle.sopl_scen.specs.Levels.{weight_in, level_at}
use Rattle.sopl_scen.specs.Tables.{all_rows, all_paths}
use Rattle.sopl_scen.proofs.StageSteps.{prefix_within, prefix_level, prefix_few}
use Rattle.sopl_scen.proofs.Reading.{linked_levels, all_exist}
use Rattle.sopl_scen.proofs.scenes.Scenes.of_levels.Goals as goal

pub bounds-levels-stochs : goal.bounds-levels-stochs
bounds-levels-stochs c = prefix_within c.args.stochs.now c.args.levels.now (length c.args.stochs.now) c.requires.levels (omega arith)

pub overflow_cast-last : goal.overflow_cast-last
overflow_cast-last c =
    let at : c.as_slice-last.result.now ≡ level_at c.args.stochs.now (length c.args.stochs.now) =
    prefix_level c.args.stochs.now c.args.levels.now (length c.args.stochs.now) c.as_slice-last.result.now c.index-levels-stochs.result c.requires.levels (omega arith)
    (c.as_slice-last.ensures ∙ c.index-levels-stochs.is) in
    let few : length c.as_slice-last.result.now < 2 ^ 32 =
    prefix_few c.args.stochs.now (length c.args.stochs.now) c.as_slice-last.result.now c.requires.small (omega arith) at in
    search rules

pub of-requires-clause-linked : goal.of-requires-clause-linked
of-requires-clause-linked c = linked_levels c.args.stochs.now c.args.levels.now c.requires.levels

pub of-requires-clause-exist : goal.of-requires-clause-exist
of-requires-clause-exist c =
    all_exist c.args.stochs.now c.args.levels.now c.as_slice-last.result.now c.requires.levels
    (prefix_level c.args.stochs.now c.args.levels.now (length c.args.stochs.now) c.as_slice-last.result.now c.index-levels-stochs.result c.requires.levels (omega arith)
    (c.as_slice-last.ensures ∙ c.index-levels-stochs.is))

at_end : (c : goal.In_ok-weights) → c.as_slice-last.result.now ≡ level_at c.args.stochs.now (length c.args.stochs.now)
at_end c =
    prefix_level c.args.stochs.now c.args.levels.now (length c.args.stochs.now) c.as_slice-last.result.now c.index-levels-stochs.result c.requires.levels (omega arith)
    (c.as_slice-last.ensures ∙ c.index-levels-stochs.is)

pub returns-clause-weights : goal.returns-clause-weights
returns-clause-weights c = c.in_ok-weights.ensures ∙ ap (map weight_in) (at_end c)

pub returns-clause-values : goal.returns-clause-values
returns-clause-values c =
    c.in_ok-table.ensures.values ∙ (λ i. all_rows (c.requires.levels i) (length (at_end c i)))

pub returns-clause-nodes : goal.returns-clause-nodes
returns-clause-nodes c =
    c.in_ok-table.ensures.nodes ∙ (λ i. all_paths (c.requires.levels i) (length (at_end c i)))
