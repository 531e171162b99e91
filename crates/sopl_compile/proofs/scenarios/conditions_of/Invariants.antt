-- The scenarios so far have their conditions, and that of the last one stands.
use Rattle.std.proofs.Common.{ℕ, drop, map, IfSome}
use Rattle.std.specs.List.{range_with_len}
use Rattle.compile_laws.specs.Subterms.{condition_subterms}
use Rattle.sopl_scen.specs.Layout.{count_in}
use Rattle.sopl_compile.specs.Listed.{condition_at, conditions_in}
use Rattle.sopl_compile.specs.Repeats.{IsLast}
use Rattle.sopl_term.specs.Built.{cond_ids}
use Rattle.term_nodes.specs.Things.{a_cond, cond_in}
use Rattle.term_store.specs.declared.ids.CondId.{CondId}
use Rattle.unfold_constants.specs.Here.{known_in}
use Rattle.sopl_compile.proofs.Listing.{AreLeft}
use Rattle.sopl_compile.proofs.scenarios.conditions_of.Given as goal

abbrev pub invariant-scenarios : goal.invariant-scenarios
invariant-scenarios l = record {
  so_far : AreLeft cond_in condition_subterms l.setting l.fn.work l.work (cond_ids l.found.items)
      (map (condition_at l.setting (known_in l.known) l.e) (drop l.scenario (range_with_len 0 (count_in l.setting.tree.now))))
      (conditions_in l.setting (known_in l.known) l.e);
  last : IfSome l.before (λ (id : CondId). IsLast l.setting l.work id.0 (λ (k : ℕ). a_cond (condition_at l.setting (known_in l.known) l.e k))
      (λ (k : ℕ). condition_subterms (condition_at l.setting (known_in l.known) l.e k)) l.scenario);
}
