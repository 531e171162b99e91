use Rattle.std.proofs.Common.{rules, ◌≤◌}
use Rattle.sopl_scen.specs.Layout.{count_in}
use Rattle.compile_scene.proofs.Listing.{each_array, made_more, made_none}
use Rattle.compile_scene.proofs.scene.NumberedScenario.each.Goals as goal

pub scenarios-init : goal.scenarios-init
scenarios-init c = made_none c.args.self.now.setting.now c.args.array.now c.args.work.now c.new-ids.result.items c.requires.ready c.new-ids.ensures.items

pub scenarios-preserved : goal.scenarios-preserved
scenarios-preserved c =
    made_more c.args.self.now.setting.now c.args.array.now c.args.work.now c.scenarios.work c.add.new.work c.scenarios.ids.items c.push.new.self.items c.in_ok-add.field-0 c.scenarios.scenario
    c.scenarios.invariant c.in_ok-add.ensures.extends c.in_ok-add.ensures.stands c.in_ok-push.ensures.items
