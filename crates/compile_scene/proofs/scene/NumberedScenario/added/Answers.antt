use Rattle.compile_scene.proofs.Keeping.{kept_extends, stands_over}
use Rattle.compile_scene.proofs.scene.NumberedScenario.added.Goals as goal

pub id-id-requires : goal.id-id-requires
id-id-requires c = record { has_array = c.in_ok-arrays.ensures.arrays.there c.args.self.now.scenario c.requires.exists }

pub returns-clause-extends : goal.returns-clause-extends
returns-clause-extends c =
    kept_extends c.args.self.now.setting.now c.args.work.now c.arrays_of.new.work c.keep.new.self c.in_ok-arrays.ensures.extends c.keep.ensures.builder
    (c.in_ok-keep.ensures.kept c.args.self.now.setting.now c.in_ok-arrays.ensures.extends.ready.arrays c.in_ok-arrays.ensures.arrays)

pub returns-clause-stands : goal.returns-clause-stands
returns-clause-stands c =
    stands_over c.arrays_of.new.work c.keep.new.self _ c.id-id.result.0 _ c.keep.ensures.builder c.id-id.ensures
    (c.in_ok-arrays.ensures.arrays.stand c.args.self.now.scenario c.requires.exists)
