use Rattle.std.proofs.Common.{sym, subst}
use Rattle.term_language.specs.Laws.{IsTable}
use Rattle.sopl_term.specs.Built.{built}
use Rattle.compile_scene.proofs.Growing.{extended, extends_either, stands_either}
use Rattle.compile_scene.proofs.scene.NumberedScenario.add.Goals as goal

pub array-requires-clause-table : goal.array-requires-clause-table
array-requires-clause-table c = subst IsTable (sym c.in_ok-table.ensures) (c.requires.tables c.args.self.now.scenario)

pub returns-clause-extends : goal.returns-clause-extends
returns-clause-extends c =
    extends_either c.array.result c.args.self.now.setting.now c.args.work.now _
    (extended c.args.self.now.setting.now c.args.work.now c.array.new.self c.array.ensures.added.kept c.requires.ready)

pub returns-clause-stands : goal.returns-clause-stands
returns-clause-stands c = stands_either c.array.result (built c.array.new.self) _ _ c.in_ok-table.ensures c.array.ensures.added.adds.stands
