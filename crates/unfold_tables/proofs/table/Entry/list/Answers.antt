use Rattle.std.proofs.Common.{sym, ◌∙◌, map}
use Rattle.unfold_tables.specs.Listed.{element_shown}
use Rattle.unfold_tables.proofs.Named.{other_listed, own_listed}
use Rattle.unfold_tables.proofs.table.Entry.list.Goals as goal

pub returns-then-not-is : goal.returns-then-not-is
returns-then-not-is c = other_listed (map element_shown c.args.found.now.items) c.args.name.now c.args.self.now.name.items c.args.self.now.entity (sym c.is.ensures ∙ c.if-not-is.true)

pub returns-in-Array : goal.returns-in-Array
returns-in-Array c =
    own_listed c.list.result (map element_shown c.args.found.now.items) (map element_shown c.list.new.found.items) c.args.name.now c.args.self.now.name.items
    c.in-Array.elements c.args.self.now.entity c.in-Array.is (sym c.is.ensures ∙ c.if-not-is.false) c.list.ensures
