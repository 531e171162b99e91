use Rattle.std.proofs.Common.{◌≡◌, ◌++◌, map, drop}
use Rattle.compile_names.specs.Variables.{item_from}
use Rattle.term_math.specs.Kept.{items_of}
use Rattle.compile_scene.proofs.scene.NumberedScenario.elements.Given as goal

abbrev pub invariant-origins : goal.invariant-origins
invariant-origins l =
    items_of l.list.items ++ map (item_from l.self.setting.now.tree.now l.self.scenario) (drop l.origin-index l.origins) ≡ map (item_from l.self.setting.now.tree.now l.self.scenario) l.origins
