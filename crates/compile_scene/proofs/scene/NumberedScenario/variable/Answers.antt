use Rattle.std.proofs.Common.{sym, subst, ap, ◌∙◌, length, option_map, Some, IfSome}
use Rattle.compile_names.specs.Variables.{OriginExists, item_from}
use Rattle.compile_scene.proofs.scene.NumberedScenario.variable.Goals as goal

pub element-requires-clause-origins_exist : goal.element-requires-clause-origins_exist
element-requires-clause-origins_exist c =
    subst (λ o. IfSome o (OriginExists (length c.args.self.now.setting.now.stochs.now) (length c.args.self.now.setting.now.decisions.now))) c.in-Some.is c.scalar.ensures.origins_exist

pub returns-in-Some-clause-item : goal.returns-in-Some-clause-item
returns-in-Some-clause-item c =
    ap Some c.element.ensures.item
    ∙ sym (ap (option_map (item_from c.args.self.now.setting.now.tree.now c.args.self.now.scenario)) c.in-Some.is)
    ∙ c.scalar.ensures.item c.args.self.now.setting.now.tree.now c.args.self.now.scenario

pub returns-in-None-clause-item : goal.returns-in-None-clause-item
returns-in-None-clause-item c =
    sym (ap (option_map (item_from c.args.self.now.setting.now.tree.now c.args.self.now.scenario)) c.in-None.is)
    ∙ c.scalar.ensures.item c.args.self.now.setting.now.tree.now c.args.self.now.scenario
