use Rattle.compile_scene.proofs.CellDomains.{near_either, root_either}
use Rattle.compile_scene.proofs.roots.cell_domains.Goals as goal

pub returns-clause-root : goal.returns-clause-root
returns-clause-root c = root_either c.domains.result c.args.setting.now c.requires.laid_out c.domains.ensures.cells

pub returns-clause-near : goal.returns-clause-near
returns-clause-near c = near_either c.domains.result c.args.setting.now c.requires.laid_out c.requires.bounded c.domains.ensures.cells
