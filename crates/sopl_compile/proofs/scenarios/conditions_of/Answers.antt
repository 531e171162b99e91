use Rattle.std.proofs.Common.{rules, ◌∙◌, refl, ap, ◌<◌, ◌≤◌, [], ◌∷◌}
use Rattle.std.proofs.lemmas.List.{map-append}
use Rattle.std.proofs.lemmas.Result.{err_from_is_err_and}
use Rattle.compile_laws.specs.Subterms.{condition_subterms}
use Rattle.sopl_scen.specs.Layout.{count_in}
use Rattle.sopl_compile.specs.Listed.{condition_at}
use Rattle.sopl_term.specs.Built.{cond_ids}
use Rattle.term_nodes.specs.Things.{a_cond, cond_in}
use Rattle.term_store.specs.declared.ids.CondId.{CondId}
use Rattle.unfold_constants.specs.Here.{known_in}
use Rattle.sopl_compile.proofs.Repeating.{condition_already, few_needed, last_is, last_later}
use Rattle.sopl_compile.proofs.Listing.{scene_fault, scene_more, scene_none, scene_small}
use Rattle.sopl_compile.proofs.scenarios.conditions_of.Goals as goal

pub returns-in_err-id-clause-measured : goal.returns-in_err-id-clause-measured
returns-in_err-id-clause-measured c =
    let below : c.scenarios.scenario < count_in c.args.setting.now.tree.now = search rules in
    let p = err_from_is_err_and c.from_residual.result c.from_residual.ensures.1 in
    rw (p.1, p.2)
    (scene_fault cond_in condition_subterms c.args.setting.now c.args.work.now (condition_at c.args.setting.now (known_in c.args.known.now) c.args.e.now) (count_in c.args.setting.now.tree.now)
    c.scenarios.scenario
    c.scenarios.work (cond_ids c.scenarios.found.items) c.in_err-id.field-0.0 below c.scenarios.invariant.so_far c.in_err-id.ensures.measured)

pub scenarios-preserved : goal.scenarios-preserved
scenarios-preserved c =
    let below : c.scenarios.scenario < count_in c.args.setting.now.tree.now = search rules in
    record {
      so_far =
          scene_more cond_in condition_subterms c.args.setting.now c.args.work.now (condition_at c.args.setting.now (known_in c.args.known.now) c.args.e.now) (count_in c.args.setting.now.tree.now)
          c.scenarios.scenario
          c.scenarios.work c.next_condition.new.work (cond_ids c.scenarios.found.items) (cond_ids c.put.new.list.items) c.in_ok-id.id.0
          (a_cond (condition_at c.args.setting.now (known_in c.args.known.now) c.args.e.now c.scenarios.scenario)) below refl c.scenarios.invariant.so_far c.in_ok-id.ensures.extends c.in_ok-id.ensures.stands
          c.in_ok-id.ensures.measured (ap cond_ids c.in_ok-put.ensures.ok ∙ map-append (λ (id : CondId). id.0) c.scenarios.found.items (c.in_ok-id.id ∷ []));
      last =
          last_is c.args.setting.now c.next_condition.new.work c.in_ok-id.id.0 (λ k. a_cond (condition_at c.args.setting.now (known_in c.args.known.now) c.args.e.now k))
          (λ k. condition_subterms (condition_at c.args.setting.now (known_in c.args.known.now) c.args.e.now k)) c.scenarios.scenario c.in_ok-id.ensures.stands c.in_ok-id.ensures.measured;
    }

pub returns-clause-listed : goal.returns-clause-listed
returns-clause-listed c =
    let past : count_in c.args.setting.now.tree.now ≤ c.scenarios.scenario = search rules in
    scene_none cond_in condition_subterms c.args.setting.now c.args.work.now (condition_at c.args.setting.now (known_in c.args.known.now) c.args.e.now) (count_in c.args.setting.now.tree.now)
    c.scenarios.scenario
    c.scenarios.work (cond_ids c.scenarios.found.items) past c.scenarios.invariant.so_far

pub returns-clause-measured : goal.returns-clause-measured
returns-clause-measured c =
    let past : count_in c.args.setting.now.tree.now ≤ c.scenarios.scenario = search rules in
    scene_small cond_in condition_subterms c.args.setting.now c.args.work.now (condition_at c.args.setting.now (known_in c.args.known.now) c.args.e.now) (count_in c.args.setting.now.tree.now)
    c.scenarios.scenario
    c.scenarios.work (cond_ids c.scenarios.found.items) past c.scenarios.invariant.so_far

pub repeated-requires-clause-few : goal.repeated-requires-clause-few
repeated-requires-clause-few c = few_needed c.args.setting.now c.args.e.now c.variables_in-needed.result c.variables_in-needed.ensures.follows

pub repeated-requires-clause-later : goal.repeated-requires-clause-later
repeated-requires-clause-later c =
    last_later (λ (id : CondId). id.0) c.args.setting.now c.scenarios.work (λ k. a_cond (condition_at c.args.setting.now (known_in c.args.known.now) c.args.e.now k))
    (λ k. condition_subterms (condition_at c.args.setting.now (known_in c.args.known.now) c.args.e.now k)) c.scenarios.scenario c.scenarios.before c.scenarios.invariant.last

pub next_condition-requires-clause-repeated : goal.next_condition-requires-clause-repeated
next_condition-requires-clause-repeated c =
    let below : c.scenarios.scenario < count_in c.args.setting.now.tree.now = search rules in
    condition_already c.args.setting.now (known_in c.args.known.now) c.args.e.now c.variables_in-needed.result c.scenarios.scenario c.variables_in-needed.ensures.follows below c.scenarios.work
    c.scenarios.invariant.so_far.extends.ready c.repeated.result c.scenarios.before c.repeated.ensures.same c.repeated.ensures.repeats c.scenarios.invariant.last
