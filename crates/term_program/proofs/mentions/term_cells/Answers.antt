use Rattle.term_math.specs.Shown.{box_in}
use Rattle.term_nodes.specs.Things.{things}
use Rattle.term_program.specs.Drafts.{draft_root, draft_things}
use Rattle.term_program.proofs.Lists.{term_listed}
use Rattle.term_program.proofs.mentions.term_cells.Goals as goal

pub returns : goal.returns
returns c =
    term_listed (draft_root c.args.draft.now) (box_in c.nodes_of.result.root) (draft_things c.args.draft.now) (things c.nodes_of.result.items.now) c.args.id c.in_ok-cells.cells.items
    c.nodes_of.ensures.root c.nodes_of.ensures.things
    c.in_ok-cells.ensures.mentioned c.in_ok-cells.ensures.ascending
