use Rattle.compile_scene.proofs.Listing.{IsMade}
use Rattle.compile_scene.proofs.scene.NumberedScenario.each.Given as goal

abbrev pub invariant-scenarios : goal.invariant-scenarios
invariant-scenarios l = IsMade l.self.setting.now l.array l.fn.work l.work l.ids.items l.scenario
