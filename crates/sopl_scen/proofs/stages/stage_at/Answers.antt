use Rattle.std.proofs.Common.{rules, ◌≡◌, ◌∙◌, ◌<◌, ◌^◌, length}
use Rattle.sopl_scen.specs.Levels.{level_at}
use Rattle.sopl_scen.proofs.StageSteps.{prefix_within, prefix_level, prefix_few, stage_is}
use Rattle.sopl_scen.proofs.stages.stage_at.Goals as goal

pub bounds-levels-prefix : goal.bounds-levels-prefix
bounds-levels-prefix c = prefix_within c.args.stochs.now c.args.levels.now c.seen_before-prefix.result c.requires.levels c.seen_before-prefix.ensures.within

level : (c : goal.After-as_slice) → c.as_slice.result.now ≡ level_at c.args.stochs.now c.seen_before-prefix.result
level c =
    prefix_level c.args.stochs.now c.args.levels.now c.seen_before-prefix.result c.as_slice.result.now c.index-levels-prefix.result c.requires.levels
    c.seen_before-prefix.ensures.within (c.as_slice.ensures ∙ c.index-levels-prefix.is)

pub overflow_cast-result : goal.overflow_cast-result
overflow_cast-result c =
    let few : length c.as_slice.result.now < 2 ^ 32 =
    prefix_few c.args.stochs.now c.seen_before-prefix.result c.as_slice.result.now c.requires.small c.seen_before-prefix.ensures.within (level c) in
    search rules

pub returns : goal.returns
returns c = stage_is c.args.stochs.now c.args.stage c.seen_before-prefix.result c.as_slice.result.now c.seen_before-prefix.ensures.value (level c)
