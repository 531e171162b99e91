use Rattle.compile_scene.specs.Works.{things_of}
use Rattle.compile_scene.proofs.Listing.{same_array}
use Rattle.compile_scene.proofs.scene.NumberedScenario.same.Goals as goal

pub returns-clause-arrays : goal.returns-clause-arrays
returns-clause-arrays c =
    same_array c.args.self.now.setting.now (things_of c.add.new.work) c.args.array.now c.args.self.now.scenario c.in_ok-id.id c.requires.fixed c.in_ok-id.ensures.stands
