use Rattle.std.proofs.Common.{rules, ap, ◌∙◌, [], ◌∷◌, ◌++◌, SFits, w64, is_ok}
use Rattle.std.proofs.lemmas.Int.{to_z-of_z}
use Rattle.sopl_ast.specs.Known.{with_bound}
use Rattle.unfold_tables.specs.Tables.{table_known}
use Rattle.unfold_constants.specs.Here.{bindings_in}
use Rattle.unfold_constants.proofs.Bindings.{bindings_more}
use Rattle.unfold_constants.proofs.Placing.{passed_pushed}
use Rattle.unfold_constants.proofs.constant_scope.ConstantScope.bind.Goals as goal

pub invariant_of-self : goal.invariant_of-self
invariant_of-self c =
    let self = c.note.new.self in
    record {
      passed = passed_pushed (is_ok c.push.result) self.indexed self.places.entries self.bound.items _ _ c.push.ensures.items c.in_ok-note.ensures.placed
          c.in_ok-note.ensures.near self.passed;
    }

pub returns : goal.returns
returns c =
    let old = c.note.new.self in
    let fits : SFits w64 c.args.value = search rules in
    ap (λ bs. record (table_known old.table.now) { bound = bindings_in bs }) c.in_ok-push.ensures.items
    ∙ (λ i. record (table_known old.table.now) { bound = bindings_in (old.bound.items ++ (c.args.name, to_z-of_z w64 c.args.value fits i) ∷ []) })
    ∙ ap (λ bs. record (table_known old.table.now) { bound = bs }) (bindings_more old.bound.items c.args.name c.args.value)
    ∙ ap (with_bound c.args.name.now c.args.value) c.note.ensures.known
