use Rattle.std.proofs.Common.{◌≡◌, ◌∙◌, ap, rules, sym}
use Rattle.log_check.specs.declared.seen_sum.CellList.{CellList}
use Rattle.log_check.proofs.Seeing.{cells_there}
use Rattle.log_check.proofs.seen_sum.SeenSum.lists_cells.Goals as goal

pub returns : goal.returns
returns c = λ is.
    let same : c.index.result.now.cells.items ≡ c.args.cells.now = search (rules, is) in
    sym (cells_there c.args.self.now c.args.at c.index.result.now c.requires.exists) ∙ ap (λ (list : CellList). list.cells.items) (sym c.index.ensures) ∙ same
