use Rattle.std.proofs.Common.{rules, ◌≡◌, ◌∙◌, ◌+◌, ◌<◌, length, map, arith, ap}
use Rattle.unfold_variables.specs.Pairs.{outcome_in}
use Rattle.sopl_scen.specs.Levels.{level_at, outcomes_at}
use Rattle.sopl_scen.proofs.LevelSteps.{levels_long, level_is, outcomes_are, level_few, children_light, levels_more}
use Rattle.sopl_scen.proofs.levels.levels.Goals as goal

pub index-requires : goal.index-requires
index-requires c =
    let long : length c.stochs.found.items ≡ c.stochs.i + 1 = levels_long c.args.stochs.now (c.stochs.i + 1) c.stochs.found.items c.stochs.invariant in
    let within : c.stochs.i < length c.stochs.found.items = omega (arith, long) in
    search rules

above : (c : goal.After-distribution) → c.as_slice.result.now ≡ level_at c.args.stochs.now c.stochs.i
above c =
    level_is c.args.stochs.now (c.stochs.i + 1) c.stochs.i c.stochs.found.items c.as_slice.result.now c.index.result.now (omega arith) c.stochs.invariant
    (c.as_slice.ensures ∙ c.index.ensures)

drawn : (c : goal.After-distribution) → map outcome_in c.distribution.result.now ≡ outcomes_at c.args.stochs.now c.stochs.i
drawn c =
    outcomes_are c.args.stochs.now c.stochs.i c.index-stochs-i.result (map outcome_in c.distribution.result.now) c.stochs-test.true c.index-stochs-i.is
    c.distribution.ensures.items

pub next_level-requires-clause-few : goal.next_level-requires-clause-few
next_level-requires-clause-few c = level_few c.args.stochs.now c.stochs.i c.as_slice.result.now c.requires.small c.stochs-test.true (above c)

pub next_level-requires-clause-light : goal.next_level-requires-clause-light
next_level-requires-clause-light c =
    children_light c.args.stochs.now c.stochs.i c.as_slice.result.now (map outcome_in c.distribution.result.now) c.requires.small c.stochs-test.true (above c) (drawn c)

pub stochs-preserved : goal.stochs-preserved
stochs-preserved c =
    levels_more c.args.stochs.now c.stochs.i c.stochs.found.items c.push-in-stochs.new.self.items c.as_slice.result.now c.in_ok-level.level
    (map outcome_in c.distribution.result.now) c.stochs.invariant (above' c) (drawn' c) c.in_ok-level.ensures c.in_ok-push-2.ensures.items
  where
    above' : (c : goal.In_ok-push-2) → c.as_slice.result.now ≡ level_at c.args.stochs.now c.stochs.i
    above' c =
        level_is c.args.stochs.now (c.stochs.i + 1) c.stochs.i c.stochs.found.items c.as_slice.result.now c.index.result.now (omega arith) c.stochs.invariant
        (c.as_slice.ensures ∙ c.index.ensures)

    drawn' : (c : goal.In_ok-push-2) → map outcome_in c.distribution.result.now ≡ outcomes_at c.args.stochs.now c.stochs.i
    drawn' c =
        outcomes_are c.args.stochs.now c.stochs.i c.index-stochs-i.result (map outcome_in c.distribution.result.now) c.stochs-test.true c.index-stochs-i.is
        c.distribution.ensures.items
