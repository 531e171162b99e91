use Rattle.std.proofs.Common.{◌≡◌, ℕ, ◌+◌, ℤ, List, [], ◌∷◌, ◌++◌, length, get_or, drop, ap, arith, rules, sym, ◌∙◌}
use Rattle.std.proofs.lemmas.List.{get_or_default}
use Rattle.term_language.specs.Forms.{Form}
use Rattle.term_nodes.specs.Things.{terms_at}
use Rattle.term_nodes.proofs.Steps.{cond_below}
use Rattle.term_store.specs.Stores.{all, root_of}
use Rattle.term_store.proofs.Indexing.{next_numbers, numbers}
use Rattle.term_store.proofs.store.TermStore.constants.Goals as goal

pub form_known-requires-clause-exists : goal.form_known-requires-clause-exists
form_known-requires-clause-exists c =
    let id : ℕ = get_or c.args.ids.now c.loop-id.id-index 0 in
    cond_below (length c.args.self.now.items.items) c.args.ids.now c.loop-id.id-index id c.requires.exist c.loop-id-test.true
    (get_or_default c.args.ids.now c.loop-id.id-index 0 id c.loop-id-test.true)

pub loop-id-preserved : goal.loop-id-preserved
loop-id-preserved c =
    let store = c.args.self.now in
    let ids = c.args.ids.now in
    let i = c.loop-id.id-index in
    let id : ℕ = get_or ids i 0 in
    let made = c.loop-id.list.items in
    let pushed : c.push.new.self.items ≡ made ++ c.form_known.result.now.constant ∷ [] = first_of (search rules, grind arith) in
    ap (λ (zs : List ℤ). zs ++ numbers (root_of store) (terms_at (all store) (drop (i + 1) ids))) (pushed ∙ ap (λ (f : Form). made ++ f.constant ∷ []) c.form_known.ensures)
    ∙ sym (next_numbers (root_of store) made (all store) ids i id c.loop-id-test.true (get_or_default ids i 0 id c.loop-id-test.true))
    ∙ c.loop-id.invariant
