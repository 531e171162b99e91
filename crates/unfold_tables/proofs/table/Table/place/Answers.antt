use Rattle.std.proofs.Common.{rules, ◌≡◌, ◌≤◌, sym, ap, subst, ◌∙◌, ℕ, List, length, take}
use Rattle.std.specs.List.{list_any}
use Rattle.unfold_tables.specs.Starts.{start_of}
use Rattle.unfold_tables.proofs.Placing.{has_name, start_kept, nothing_found}
use Rattle.unfold_tables.proofs.table.Table.place.Goals as goal

pub invariant_of-self-2 : goal.invariant_of-self-2
invariant_of-self-2 c =
    let n : c.len.result ≡ length c.args.self.now.entries.items = search rules in
    let kept : (name : List ℕ) → start_of name c.insert.new.self.entries (length c.args.self.now.entries.items)
    ≡ start_of name c.args.self.now.places.entries (length c.args.self.now.entries.items) =
    start_kept c.insert.result _ _ _ _ _ _ _ c.insert.ensures.entries c.insert.ensures.err (c.in_ok-key.ensures.items ∙ c.as_slice-2.ensures.bytes) c.as_slice.ensures.bytes
    (nothing_found _ _ _ c.is_some.ensures c.if-is_some.false c.get.ensures.value) n in
    record {
      within = λ name. subst (λ k. k ≤ length c.args.self.now.entries.items) (sym (kept name)) (c.args.self.now.within name);
      passed = λ name. ap (λ k. list_any (has_name name) (take k c.args.self.now.entries.items)) (kept name) ∙ c.args.self.now.passed name;
    }
