use Rattle.std.proofs.Common.{◌≡◌, refl, sym, ap, ◌∙◌, length, Some}
use Rattle.std.proofs.lemmas.Bool.{ltb-true}
use Rattle.std.proofs.lemmas.Option.{slice_get_read}
use Rattle.std.specs.List.{slice_get}
use Rattle.sopl_ast.specs.Lists.{BinderTree}
use Rattle.sopl_ast.specs.Ranges.{range_of}
use Rattle.unfold_constants.specs.Choosing.{open_in}
use Rattle.unfold_constants.specs.Here.{known_in}
use Rattle.compile_counts.proofs.Entering.{name_opened}
use Rattle.compile_counts.proofs.bindings.enter.Goals as goal

pub returns-clause-opened : goal.returns-clause-opened
returns-clause-opened c =
    let b : BinderTree = record { name = c.binder.inside.name; at = c.binder.inside.at; range = range_of c.binder.inside.range } in
    let is : slice_get c.args.over.now (length (open_in c.args.choices.now)) ≡ Some b
    = ap (λ n. slice_get c.args.over.now n) (sym c.depth.ensures)
    ∙ slice_get_read c.args.over.now (length c.args.over.now) c.depth.result c.in-Some.binder.now refl
    (ltb-true c.depth.result (length c.args.over.now) (sym c.in-Some.ensures.lookup.0)) c.in-Some.ensures.lookup.1
    ∙ ap Some (sym c.binder.view_is) in
    name_opened c.args.over.now (known_in c.args.choices.now.here) (open_in c.args.choices.now) b (known_in c.open.new.self.here) _ (open_in c.open.new.self) is
    c.in_ok-open.ensures.here c.in_ok-open.ensures.opened c.in_ok-numbers.ensures.numbers
