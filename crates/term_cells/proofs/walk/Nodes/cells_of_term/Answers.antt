use Rattle.std.proofs.Common.{◌≡◌}
use Rattle.std.proofs.lemmas.Result.{IfOk-weaker}
use Rattle.term_math.specs.Shown.{box_in}
use Rattle.term_nodes.specs.Things.{term_at, things}
use Rattle.term_language.specs.Mentions.{mentions}
use Rattle.term_cells.proofs.Inserting.{mentioned_alone}
use Rattle.term_cells.proofs.walk.Nodes.cells_of_term.Goals as goal

pub returns-clause-mentioned : goal.returns-clause-mentioned
returns-clause-mentioned c =
    IfOk-weaker c.listed.result (λ list. list.items ≡ c.term.new.cells.keys) _
    (λ list is. mentioned_alone c.new-cells.result.keys c.term.new.cells.keys (mentions (box_in c.args.self.now.root) (term_at (things c.args.self.now.items.now) c.args.id)) list.items
    c.new-cells.ensures.empty c.in_ok-term.ensures is)
    c.listed.ensures.keys
