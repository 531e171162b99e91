-- The scenarios so far have their terms, and that of the last one stands.
use Rattle.std.proofs.Common.{ℕ, drop, map, IfSome}
use Rattle.std.specs.List.{range_with_len}
use Rattle.compile_laws.specs.Subterms.{subterms}
use Rattle.sopl_scen.specs.Layout.{count_in}
use Rattle.sopl_compile.specs.Listed.{expression_at, terms_in}
use Rattle.sopl_compile.specs.Repeats.{IsLast}
use Rattle.sopl_term.specs.Built.{term_ids}
use Rattle.term_nodes.specs.Things.{a_term, term_in}
use Rattle.term_store.specs.declared.ids.TermId.{TermId}
use Rattle.unfold_constants.specs.Here.{known_in}
use Rattle.sopl_compile.proofs.Listing.{AreLeft}
use Rattle.sopl_compile.proofs.scenarios.terms_of.Given as goal

abbrev pub invariant-terms : goal.invariant-terms
invariant-terms l = record {
  so_far : AreLeft term_in subterms l.setting l.fn.work l.work (term_ids l.found.items)
      (map (expression_at l.setting (known_in l.known) l.e) (drop l.scenario (range_with_len 0 (count_in l.setting.tree.now))))
      (terms_in l.setting (known_in l.known) l.e);
  last : IfSome l.before (λ (id : TermId). IsLast l.setting l.work id.0 (λ (k : ℕ). a_term (expression_at l.setting (known_in l.known) l.e k))
      (λ (k : ℕ). subterms (expression_at l.setting (known_in l.known) l.e k)) l.scenario);
}
