use Rattle.std.proofs.Common.{refl}
use Rattle.sopl_scen.specs.Layout.{count_in}
use Rattle.unfold_tables.specs.Tables.{table_known}
use Rattle.compile_scene.specs.Works.{things_of}
use Rattle.compile_scene.proofs.Listing.{named_either, sound_array}
use Rattle.compile_scene.proofs.scene.NumberedScenario.arrays_of.Goals as goal

pub arrays-requires-clause-tables : goal.arrays-requires-clause-tables
arrays-requires-clause-tables c =
    sound_array c.args.self.now.setting.now c.args.name.now c.in_ok-array.array
    (λ i. c.in_ok-array.ensures.table (table_known c.args.self.now.setting.now.table.now) c.args.self.now.setting.now.tree.now i refl)

pub returns-clause-arrays : goal.returns-clause-arrays
returns-clause-arrays c =
    named_either c.arrays.result c.args.self.now.setting.now c.args.name.now c.in_ok-array.array (things_of c.arrays.new.work) (count_in c.args.self.now.setting.now.tree.now)
    (λ i. c.in_ok-array.ensures.table (table_known c.args.self.now.setting.now.table.now) c.args.self.now.setting.now.tree.now i refl) c.arrays.ensures.arrays
