use Rattle.std.proofs.Common.{rules, ◌∙◌, refl, ap, ◌<◌, ◌≤◌, [], ◌∷◌}
use Rattle.std.proofs.lemmas.List.{map-append}
use Rattle.std.proofs.lemmas.Result.{err_from_is_err_and}
use Rattle.compile_laws.specs.Subterms.{subterms}
use Rattle.sopl_scen.specs.Layout.{count_in}
use Rattle.sopl_compile.specs.Listed.{expression_at}
use Rattle.sopl_term.specs.Built.{term_ids}
use Rattle.term_nodes.specs.Things.{a_term, term_in}
use Rattle.term_store.specs.declared.ids.TermId.{TermId}
use Rattle.unfold_constants.specs.Here.{known_in}
use Rattle.sopl_compile.proofs.Repeating.{few_needed, last_is, last_later, term_already}
use Rattle.sopl_compile.proofs.Listing.{scene_fault, scene_more, scene_none, scene_small}
use Rattle.sopl_compile.proofs.scenarios.terms_of.Goals as goal

pub returns-in_err-id-clause-measured : goal.returns-in_err-id-clause-measured
returns-in_err-id-clause-measured c =
    let below : c.terms.scenario < count_in c.args.setting.now.tree.now = search rules in
    let p = err_from_is_err_and c.from_residual.result c.from_residual.ensures.1 in
    rw (p.1, p.2)
    (scene_fault term_in subterms c.args.setting.now c.args.work.now (expression_at c.args.setting.now (known_in c.args.known.now) c.args.e.now) (count_in c.args.setting.now.tree.now) c.terms.scenario
    c.terms.work (term_ids c.terms.found.items) c.in_err-id.field-0.0 below c.terms.invariant.so_far c.in_err-id.ensures.measured)

pub terms-preserved : goal.terms-preserved
terms-preserved c =
    let below : c.terms.scenario < count_in c.args.setting.now.tree.now = search rules in
    record {
      so_far =
          scene_more term_in subterms c.args.setting.now c.args.work.now (expression_at c.args.setting.now (known_in c.args.known.now) c.args.e.now) (count_in c.args.setting.now.tree.now) c.terms.scenario
          c.terms.work c.next_term.new.work (term_ids c.terms.found.items) (term_ids c.put.new.list.items) c.in_ok-id.id.0
          (a_term (expression_at c.args.setting.now (known_in c.args.known.now) c.args.e.now c.terms.scenario)) below refl c.terms.invariant.so_far c.in_ok-id.ensures.extends c.in_ok-id.ensures.stands
          c.in_ok-id.ensures.measured (ap term_ids c.in_ok-put.ensures.ok ∙ map-append (λ (id : TermId). id.0) c.terms.found.items (c.in_ok-id.id ∷ []));
      last =
          last_is c.args.setting.now c.next_term.new.work c.in_ok-id.id.0 (λ k. a_term (expression_at c.args.setting.now (known_in c.args.known.now) c.args.e.now k))
          (λ k. subterms (expression_at c.args.setting.now (known_in c.args.known.now) c.args.e.now k)) c.terms.scenario c.in_ok-id.ensures.stands c.in_ok-id.ensures.measured;
    }

pub returns-clause-listed : goal.returns-clause-listed
returns-clause-listed c =
    let past : count_in c.args.setting.now.tree.now ≤ c.terms.scenario = search rules in
    scene_none term_in subterms c.args.setting.now c.args.work.now (expression_at c.args.setting.now (known_in c.args.known.now) c.args.e.now) (count_in c.args.setting.now.tree.now) c.terms.scenario
    c.terms.work (term_ids c.terms.found.items) past c.terms.invariant.so_far

pub returns-clause-measured : goal.returns-clause-measured
returns-clause-measured c =
    let past : count_in c.args.setting.now.tree.now ≤ c.terms.scenario = search rules in
    scene_small term_in subterms c.args.setting.now c.args.work.now (expression_at c.args.setting.now (known_in c.args.known.now) c.args.e.now) (count_in c.args.setting.now.tree.now) c.terms.scenario
    c.terms.work (term_ids c.terms.found.items) past c.terms.invariant.so_far

pub repeated-requires-clause-few : goal.repeated-requires-clause-few
repeated-requires-clause-few c = few_needed c.args.setting.now c.args.e.now c.variables_in-needed.result c.variables_in-needed.ensures.follows

pub repeated-requires-clause-later : goal.repeated-requires-clause-later
repeated-requires-clause-later c =
    last_later (λ (id : TermId). id.0) c.args.setting.now c.terms.work (λ k. a_term (expression_at c.args.setting.now (known_in c.args.known.now) c.args.e.now k))
    (λ k. subterms (expression_at c.args.setting.now (known_in c.args.known.now) c.args.e.now k)) c.terms.scenario c.terms.before c.terms.invariant.last

pub next_term-requires-clause-repeated : goal.next_term-requires-clause-repeated
next_term-requires-clause-repeated c =
    let below : c.terms.scenario < count_in c.args.setting.now.tree.now = search rules in
    term_already c.args.setting.now (known_in c.args.known.now) c.args.e.now c.variables_in-needed.result c.terms.scenario c.variables_in-needed.ensures.follows below c.terms.work
    c.terms.invariant.so_far.extends.ready c.repeated.result c.terms.before c.repeated.ensures.same c.repeated.ensures.repeats c.terms.invariant.last
