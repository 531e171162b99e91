use Rattle.term_math.specs.Shown.{box_in}
use Rattle.term_math.proofs.tables.Table.hull.Goals as goal

pub returns-in-Some : goal.returns-in-Some
returns-in-Some c = c.args.self.now.hulled (box_in c.args.view.now) c.in-Some.hull c.in-Some.is
