use Rattle.std.proofs.Common.{rules, sym, ap, ◌∙◌, Some, w64, SFits}
use Rattle.std.proofs.lemmas.Int.{to_z-of_z}
use Rattle.std.specs.Option.{option_copied}
use Rattle.sopl_ast.specs.Numbers.{or_else}
use Rattle.unfold_tables.specs.Tables.{element_value, pairs}
use Rattle.unfold_tables.proofs.Lookups.{element_append}
use Rattle.unfold_tables.proofs.Placing.{first_found}
use Rattle.unfold_tables.proofs.elements.Elements.value.Goals as goal

pub returns-in-Some : goal.returns-in-Some
returns-in-Some c =
    let fits : SFits w64 c.in-Some.value.now = search rules in
    ap Some (to_z-of_z w64 c.in-Some.value.now fits)
    ∙ sym (element_append c.args.index.now (pairs c.args.self.now.first.entries) (pairs c.args.self.now.again.items)
    ∙ ap (λ o. or_else o (element_value c.args.index.now (pairs c.args.self.now.again.items)))
    (sym (ap option_copied (sym c.in-Some.is) ∙ c.get.ensures.value ∙ first_found c.args.index.now c.args.self.now.first.entries)))

pub returns-in-None : goal.returns-in-None
returns-in-None c =
    c.among.ensures
    ∙ ap (λ again. element_value c.args.index.now (pairs again)) c.as_slice.ensures.value
    ∙ sym (element_append c.args.index.now (pairs c.args.self.now.first.entries) (pairs c.args.self.now.again.items)
    ∙ ap (λ o. or_else o (element_value c.args.index.now (pairs c.args.self.now.again.items)))
    (sym (ap option_copied (sym c.in-None.is) ∙ c.get.ensures.value ∙ first_found c.args.index.now c.args.self.now.first.entries)))
