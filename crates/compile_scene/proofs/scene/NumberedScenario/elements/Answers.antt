use Rattle.std.proofs.Common.{rules, ◌≤◌, ◌<◌, ◌∙◌, length}
use Rattle.sopl_base.proofs.Lists.{all_copied, each_of}
use Rattle.compile_names.specs.Variables.{OriginExists, item_from}
use Rattle.term_math.specs.Kept.{item_of}
use Rattle.compile_scene.proofs.Copies.{one_copied}
use Rattle.compile_scene.proofs.scene.NumberedScenario.elements.Goals as goal

pub element-requires-clause-origins_exist : goal.element-requires-clause-origins_exist
element-requires-clause-origins_exist c =
    let within : c.origins.origin-index < length c.args.origins.now = search rules in
    each_of (OriginExists (length c.args.self.now.setting.now.stochs.now) (length c.args.self.now.setting.now.decisions.now)) c.args.origins.now c.origins.origin-index _
    c.requires.origins_exist within

pub origins-preserved : goal.origins-preserved
origins-preserved c =
    let within : c.origins.origin-index < length c.args.origins.now = search rules in
    one_copied (item_from c.args.self.now.setting.now.tree.now c.args.self.now.scenario) item_of c.args.origins.now c.origins.origin-index _ c.element.result c.origins.list.items
    c.push.new.self.items within c.element.ensures.item c.in_ok-push.ensures.items c.origins.invariant

pub returns : goal.returns
returns c =
    let past : length c.args.origins.now ≤ c.origins.origin-index = search rules in
    all_copied (item_from c.args.self.now.setting.now.tree.now c.args.self.now.scenario) item_of c.args.origins.now c.origins.origin-index c.origins.list.items past c.origins.invariant
