use Rattle.std.proofs.Common.{sym, ap, ◌∙◌, cond, None}
use Rattle.unfold_tables.specs.Tables.{element_value, elements_in}
use Rattle.unfold_tables.proofs.Placing.{under_name}
use Rattle.unfold_tables.proofs.table.Entry.value.Goals as goal

pub returns-then-not-is : goal.returns-then-not-is
returns-then-not-is c =
    sym (under_name c.args.name.now c.args.self.now.name.items c.args.index.now (elements_in c.args.elements.now)
    ∙ ap (λ b. cond b (element_value c.args.index.now (elements_in c.args.elements.now)) None) (sym c.is.ensures ∙ c.if-not-is.true))

pub returns : goal.returns
returns c =
    c.value.ensures
    ∙ sym (under_name c.args.name.now c.args.self.now.name.items c.args.index.now (elements_in c.args.elements.now)
    ∙ ap (λ b. cond b (element_value c.args.index.now (elements_in c.args.elements.now)) None) (sym c.is.ensures ∙ c.if-not-is.false))
