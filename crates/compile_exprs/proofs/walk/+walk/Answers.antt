use Rattle.std.proofs.Common.{rules, arith, ◌≡◌, ◌∙◌, ◌<◌, refl, ap, ap₂, sym, subst, length, map, None, ℤ, SFits}
use Rattle.sopl_base.proofs.Lists.{drop_next, map-map, mapped_next}
use Rattle.term_language.specs.Terms as rule
use Rattle.compile_laws.specs.Instances.{instance, instances, knowing, places, product_instance, tasks_of, terms_of, elements, table_of}
use Rattle.compile_laws.specs.Subterms.{subterms, task_subterms}
use Rattle.compile_scene.specs.Scenes.{place_of, root_in}
use Rattle.compile_scene.specs.Works.{things_of}
use Rattle.sopl_ast.proofs.Lighter.{weight-trees, weight-terms, weight-factors}
use Rattle.sopl_ast.specs.Constants.{all_bindings}
use Rattle.sopl_ast.specs.Lists.{binders, factors, terms, trees}
use Rattle.sopl_ast.specs.Tree as shape
use Rattle.sopl_ast.specs.Tree.{Node, factor, no_factor}
use Rattle.sopl_ast.specs.Weight.{weight}
use Rattle.sopl_term.specs.Built.{cond_ids, signed_of, task_ids, term_ids}
use Rattle.term_nodes.specs.Built.{AllBelow, PartsBelow, TasksBelow}
use Rattle.term_nodes.specs.Things.{tasks_at, term_at, terms_at}
use Rattle.unfold_constants.specs.Here.{known_in}
use Rattle.compile_exprs.specs.Made.{SizesFail, AreThere, IsBody, IsTaskBody, MakesCond, MakesTasks, MakesTerm, MakesTerms}
use Rattle.compile_exprs.proofs.Loops.{cond_first, left_fault, left_first, left_holds, left_more, left_none, part_first, task_fault, task_first, term_first}
use Rattle.compile_counts.proofs.Loops.{none_is, none_seen}
use Rattle.compile_exprs.proofs.Parts.{bodies_placed, index_is, task_instance}
use Rattle.compile_exprs.proofs.Products.{divided_by, factored_fault, factored_holds, factored_more, product_fault}
use Rattle.compile_exprs.proofs.Steps.{are_there, compared, cond_is, exits, implied, later_is, later_tasks_below, no_operands, one_operand, operated, task_made, tasks_is, term_fails, term_is, two_operands, same_terms}
use Rattle.compile_scene.proofs.Growing.{extends_not, extends_twice}
use Rattle.compile_exprs.proofs.Sizes.{fails_first, fails_later, both_small, listed_fault}
use Rattle.compile_exprs.proofs.Sums.{sum_sizes}
use Rattle.std.specs.Int.{w64}
use Rattle.std.specs.List.{AllByRecursion}
use Rattle.std.proofs.lemmas.Int.{to_z-of_z}
use Rattle.term_math.specs.Made.{IsDivisor}
use Rattle.term_language.specs.declared.made.Operation.TheVariants as unary
use Rattle.compile_counts.specs.Walked.{IsWalked}
use Rattle.compile_exprs.proofs.Extremes.{called_sizes, extreme_sizes}
use Rattle.compile_exprs.proofs.walk.+walk.Goals as goal

pub terms-parts-init : goal.terms-parts-init
terms-parts-init s c = left_first _ c.args.parts.now c.requires.walked c.requires.ready c.new-ids.ensures.items

pub terms-term-requires : goal.terms-term-requires
terms-term-requires s c = (
  omega (arith, weight-trees c.args.parts.now c.parts.part-index c.part-item.result c.parts-test.true, ap weight c.part-item.is),
  (c.parts.invariant.added.ready, (c.requires.placed, (left_holds c.parts.invariant (drop_next c.args.parts.now c.parts.part-index c.part-item.result c.parts-test.true c.part-item.is)).0)),
)

pub terms-returns-in_err-id : goal.terms-returns-in_err-id
terms-returns-in_err-id s c = record {
  made = exits _ _ _ c.from_residual.result c.in_err-id.field-0.0 (search rules) (left_fault c.parts.invariant (drop_next c.args.parts.now c.parts.part-index c.part-item.result c.parts-test.true c.part-item.is) c.in_err-id.field-0.0 (fails_first _ _ _ _ c.in_err-id.ensures.made));
}

pub terms-parts-preserved : goal.terms-parts-preserved
terms-parts-preserved s c =
    left_more c.parts.invariant (drop_next c.args.parts.now c.parts.part-index c.part-item.result c.parts-test.true c.part-item.is) c.term.new.work c.in_ok-id.id c.listed.new.ids.items c.in_ok-listed.ensures.more (λ held. held.1)
    (term_first _ _ _ c.in_ok-id.id _ _ c.in_ok-id.ensures.made)

pub terms-returns : goal.terms-returns
terms-returns s c = record {
  made = left_none c.parts.invariant (none_is c.args.parts.now c.parts.part-index c.parts-test.false) (λ ready. record { extends = extends_not _ _ ready; exist = tt; are = refl; small = refl });
}

pub conditions-parts-init : goal.conditions-parts-init
conditions-parts-init s c = left_first _ c.args.parts.now c.requires.walked c.requires.ready c.new-ids.ensures.items

pub conditions-condition-requires : goal.conditions-condition-requires
conditions-condition-requires s c = (
  omega (arith, weight-trees c.args.parts.now c.parts.part-index c.part-item.result c.parts-test.true, ap weight c.part-item.is),
  (c.parts.invariant.added.ready, (c.requires.placed, (left_holds c.parts.invariant (drop_next c.args.parts.now c.parts.part-index c.part-item.result c.parts-test.true c.part-item.is)).0)),
)

pub conditions-returns-in_err-id : goal.conditions-returns-in_err-id
conditions-returns-in_err-id s c = record {
  made = exits _ _ _ c.from_residual.result c.in_err-id.field-0.0 (search rules) (left_fault c.parts.invariant (drop_next c.args.parts.now c.parts.part-index c.part-item.result c.parts-test.true c.part-item.is) c.in_err-id.field-0.0 (fails_first _ _ _ _ c.in_err-id.ensures.made));
}

pub conditions-parts-preserved : goal.conditions-parts-preserved
conditions-parts-preserved s c =
    left_more c.parts.invariant (drop_next c.args.parts.now c.parts.part-index c.part-item.result c.parts-test.true c.part-item.is) c.condition.new.work c.in_ok-id.id c.listed.new.ids.items c.in_ok-listed.ensures.more (λ held. held.1)
    (cond_first _ _ _ c.in_ok-id.id _ _ c.in_ok-id.ensures.made)

pub conditions-returns : goal.conditions-returns
conditions-returns s c = record {
  made = left_none c.parts.invariant (none_is c.args.parts.now c.parts.part-index c.parts-test.false) (λ ready. record { extends = extends_not _ _ ready; exist = tt; are = refl; small = refl });
}

pub chain-parts-init : goal.chain-parts-init
chain-parts-init s c = left_first _ c.args.parts.now c.requires.walked c.requires.ready c.new-ids.ensures.items

pub chain-term-requires : goal.chain-term-requires
chain-term-requires s c = (
  omega (arith, weight-terms c.args.parts.now c.parts.part-index c.part-item.result c.parts-test.true, ap (λ p. weight p.1) c.part-item.is),
  (c.parts.invariant.added.ready, (c.requires.placed, (left_holds c.parts.invariant (drop_next c.args.parts.now c.parts.part-index c.part-item.result c.parts-test.true c.part-item.is)).0)),
)

pub chain-returns-in_err-id : goal.chain-returns-in_err-id
chain-returns-in_err-id s c = record {
  made = exits _ _ _ c.from_residual.result c.in_err-id.field-0.0 (search rules) (left_fault c.parts.invariant (drop_next c.args.parts.now c.parts.part-index c.part-item.result c.parts-test.true c.part-item.is) c.in_err-id.field-0.0 (fails_first _ _ _ _ c.in_err-id.ensures.made));
}

pub chain-parts-preserved : goal.chain-parts-preserved
chain-parts-preserved s c =
    left_more c.parts.invariant (drop_next c.args.parts.now c.parts.part-index c.part-item.result c.parts-test.true c.part-item.is) c.term.new.work (c.part-item.result.0, c.in_ok-id.id) c.listed.new.ids.items c.in_ok-listed.ensures.more (λ held. held.1)
    (part_first _ _ _ (c.part-item.result.0, c.in_ok-id.id) _ _ c.in_ok-id.ensures.made)

pub chain-returns : goal.chain-returns
chain-returns s c = record {
  made = left_none c.parts.invariant (none_is c.args.parts.now c.parts.part-index c.parts-test.false) (λ ready. record { extends = extends_not _ _ ready; exist = tt; are = refl; small = refl });
}

pub each-returns-in_err-id : goal.each-returns-in_err-id
each-returns-in_err-id s c = record {
  made = exits _ _ _ c.from_residual.result c.in_err-id.field-0.0 (search rules) (left_fault c.here.invariant (mapped_next known_in c.args.here.now c.here.known-index c.known-item.result c.here-test.true c.known-item.is) c.in_err-id.field-0.0 (fails_first _ _ _ _ c.in_err-id.ensures.made));
}

pub each-here-preserved : goal.each-here-preserved
each-here-preserved s c =
    left_more c.here.invariant (mapped_next known_in c.args.here.now c.here.known-index c.known-item.result c.here-test.true c.known-item.is) c.term.new.work c.in_ok-id.id c.listed.new.ids.items c.in_ok-listed.ensures.more (λ held. held.1)
    (term_first _ _ _ c.in_ok-id.id _ _ c.in_ok-id.ensures.made)

pub each-returns : goal.each-returns
each-returns s c = record {
  made = left_none c.here.invariant (none_seen known_in c.args.here.now c.here.known-index c.here-test.false) (λ ready. record { extends = extends_not _ _ ready; exist = tt; are = refl; small = refl });
}

pub behind-each-requires : goal.behind-each-requires
behind-each-requires s c =
    let all : map known_in c.as_slice-2.result.now ≡ all_bindings (known_in c.args.known.now) (binders c.args.over.now) =
    ap (map known_in) c.as_slice-2.ensures.value ∙ c.in_ok-here.ensures.places ∙ ap (λ bs. all_bindings (known_in c.args.known.now) (binders bs)) c.as_slice.ensures.items in
    let bodies = subst (AllByRecursion (IsBody c.args.scene.now.setting.now c.args.e.now)) (sym all)
    (bodies_placed c.args.scene.now.setting.now (known_in c.args.known.now) (λ here. IsWalked None here c.args.e.now) (binders c.args.over.now) c.requires.placed.table c.requires.bodies) in
    (omega arith, (c.requires.ready, (c.requires.placed.exists, bodies)))

pub behind-returns : goal.behind-returns
behind-returns s c =
    let all : map known_in c.as_slice-2.result.now ≡ all_bindings (known_in c.args.known.now) (binders c.args.over.now) =
    ap (map known_in) c.as_slice-2.ensures.value ∙ c.in_ok-here.ensures.places ∙ ap (λ bs. all_bindings (known_in c.args.known.now) (binders bs)) c.as_slice.ensures.items in
    record {
      made = subst (λ ts. MakesTerms c.args.scene.now.setting.now c.args.work.now c.each.new.work (terms_of ts) c.each.result)
          (ap (λ l. map (λ known. (instance (place_of c.args.scene.now known) c.args.e.now).term) l) all
          ∙ sym (map-map (λ place. (instance place c.args.e.now).term) (knowing (place_of c.args.scene.now (known_in c.args.known.now))) (all_bindings (known_in c.args.known.now) (binders c.args.over.now))))
          c.each.ensures.made;
    }

pub one_task-returns-in_err-start : goal.one_task-returns-in_err-start
one_task-returns-in_err-start s c =
    record { made = exits _ _ _ c.from_residual.result c.in_err-start.field-0.0 (search rules) (fails_first _ _ _ _ c.in_err-start.ensures.made) }

pub one_task-returns-in_err-duration : goal.one_task-returns-in_err-duration
one_task-returns-in_err-duration s c = record {
  made = exits _ _ _ c.from_residual-in_err-duration.result c.in_err-duration.field-0.0 (search rules)
      (fails_later _ _ _ _ c.in_ok-start.ensures.made.small (fails_first _ _ _ _ c.in_err-duration.ensures.made));
}

pub one_task-returns-in_err-demand : goal.one_task-returns-in_err-demand
one_task-returns-in_err-demand s c = record {
  made = exits _ _ _ c.from_residual-in_err-demand.result c.in_err-demand.field-0.0 (search rules)
      (fails_later _ _ _ _ c.in_ok-start.ensures.made.small (fails_later _ _ _ _ c.in_ok-duration.ensures.made.small c.in_err-demand.ensures.made));
}

pub one_task-returns : goal.one_task-returns
one_task-returns s c =
    record { made = task_made _ _ _ _ _ c.in_ok-start.start c.in_ok-duration.duration c.in_ok-demand.demand _ _ _ c.in_ok-start.ensures.made c.in_ok-duration.ensures.made c.in_ok-demand.ensures.made }

pub each_task-returns-in_err-id : goal.each_task-returns-in_err-id
each_task-returns-in_err-id s c = record {
  made = exits _ _ _ c.from_residual.result c.in_err-id.field-0.0 (search rules) (left_fault c.here.invariant (mapped_next known_in c.args.here.now c.here.known-index c.known-item.result c.here-test.true c.known-item.is) c.in_err-id.field-0.0 (task_fault _ (task_instance c.args.task.now.start.now c.args.task.now.duration.now c.args.task.now.demand.now (place_of c.args.scene.now (known_in c.known-item.result))) _ _ c.in_err-id.ensures.made));
}

pub each_task-here-preserved : goal.each_task-here-preserved
each_task-here-preserved s c =
    left_more c.here.invariant (mapped_next known_in c.args.here.now c.here.known-index c.known-item.result c.here-test.true c.known-item.is) c.one_task.new.work c.in_ok-id.id c.listed.new.ids.items c.in_ok-listed.ensures.more (λ held. held.1)
    (task_first _ _ _ c.in_ok-id.id _ _ c.in_ok-id.ensures.made)

pub each_task-returns : goal.each_task-returns
each_task-returns s c = record {
  made = left_none c.here.invariant (none_seen known_in c.args.here.now c.here.known-index c.here-test.false) (λ ready. record { extends = extends_not _ _ ready; exist = tt; are = refl; small = refl });
}

pub tasks_behind-each_task-requires : goal.tasks_behind-each_task-requires
tasks_behind-each_task-requires s c =
    let all : map known_in c.as_slice-2.result.now ≡ all_bindings (known_in c.args.known.now) (binders c.args.over.now) =
    ap (map known_in) c.as_slice-2.ensures.value ∙ c.in_ok-here.ensures.places ∙ ap (λ bs. all_bindings (known_in c.args.known.now) (binders bs)) c.as_slice.ensures.items in
    let task = c.args.task.now in
    let bodies = subst (AllByRecursion (IsTaskBody c.args.scene.now.setting.now task.start.now task.duration.now task.demand.now)) (sym all)
    (bodies_placed c.args.scene.now.setting.now (known_in c.args.known.now)
    (λ here. IsWalked None here task.start.now × IsWalked None here task.duration.now × IsWalked None here task.demand.now) (binders c.args.over.now) c.requires.placed.table c.requires.bodies) in
    (omega arith, (c.requires.ready, (c.requires.placed.exists, bodies)))

pub tasks_behind-returns : goal.tasks_behind-returns
tasks_behind-returns s c =
    let all : map known_in c.as_slice-2.result.now ≡ all_bindings (known_in c.args.known.now) (binders c.args.over.now) =
    ap (map known_in) c.as_slice-2.ensures.value ∙ c.in_ok-here.ensures.places ∙ ap (λ bs. all_bindings (known_in c.args.known.now) (binders bs)) c.as_slice.ensures.items in
    let of_task = task_instance c.args.task.now.start.now c.args.task.now.duration.now c.args.task.now.demand.now in
    record {
      made = subst (λ ts. MakesTasks c.args.scene.now.setting.now c.args.work.now c.each_task.new.work (tasks_of ts) c.each_task.result)
          (ap (λ l. map (λ known. of_task (place_of c.args.scene.now known)) l) all
          ∙ sym (map-map of_task (knowing (place_of c.args.scene.now (known_in c.args.known.now))) (all_bindings (known_in c.args.known.now) (binders c.args.over.now)))) c.each_task.ensures.made;
    }

pub scheduled-returns-in_err-tasks : goal.scheduled-returns-in_err-tasks
scheduled-returns-in_err-tasks s c =
    record { made = exits _ _ _ c.from_residual.result c.in_err-tasks.field-0.0 (search rules) (fails_first _ _ _ _ c.in_err-tasks.ensures.made) }

pub scheduled-add_cond-requires : goal.scheduled-add_cond-requires
scheduled-add_cond-requires s c =
    let capacity = c.in_ok-capacity.ensures.made in
    let tasks = c.in_ok-tasks.ensures.made in
    record {
      can = record {
        building = capacity.extends.ready.building;
        may = (
          subst (λ l. TasksBelow (length (things_of c.term.new.work)) (task_ids l)) (sym c.as_slice.ensures.value)
              (later_tasks_below (length (things_of c.tasks_behind.new.work)) (length (things_of c.term.new.work)) (task_ids c.in_ok-tasks.tasks.items) capacity.extends.grows.more tasks.exist),
          capacity.stands.exists,
        );
      };
    }

pub scheduled-returns-in_err-capacity : goal.scheduled-returns-in_err-capacity
scheduled-returns-in_err-capacity s c = record {
  made = exits _ _ _ c.from_residual-in_err-capacity.result c.in_err-capacity.field-0.0 (search rules) (fails_later _ _ _ _ c.in_ok-tasks.ensures.made.small c.in_err-capacity.ensures.made);
}

pub scheduled-returns : goal.scheduled-returns
scheduled-returns s c =
    let place = place_of c.args.scene.now (known_in c.args.known.now) in
    let tasks = tasks_of (map (task_instance c.args.task.now.start.now c.args.task.now.duration.now c.args.task.now.demand.now) (places place (binders c.args.over.now))) in
    record {
      made = c.add_cond.ensures.made c.args.scene.now.setting.now c.args.work.now (rule.Cumulative tasks (instance place c.args.most.now).term)
          (record {
            extends = extends_twice _ _ _ _ c.in_ok-tasks.ensures.made.extends c.in_ok-capacity.ensures.made.extends;
            is = ap (λ l. rule.Cumulative (tasks_at (things_of c.term.new.work) (task_ids l)) (term_at (things_of c.term.new.work) c.in_ok-capacity.capacity.0)) c.as_slice.ensures.value
                ∙ tasks_is _ _ _ _ c.in_ok-tasks.tasks.items tasks c.in_ok-capacity.capacity _ c.in_ok-tasks.ensures.made c.in_ok-capacity.ensures.made;
            small = both_small _ (task_subterms tasks) _ c.in_ok-tasks.ensures.made.small c.in_ok-capacity.ensures.made.small;
          });
    }

pub comparison-returns-in_err-left : goal.comparison-returns-in_err-left
comparison-returns-in_err-left s c =
    record { made = exits _ _ _ c.from_residual.result c.in_err-left.field-0.0 (search rules) (fails_first _ _ _ _ c.in_err-left.ensures.made) }

pub comparison-returns-in_err-right : goal.comparison-returns-in_err-right
comparison-returns-in_err-right s c = record {
  made = exits _ _ _ c.from_residual-in_err-right.result c.in_err-right.field-0.0 (search rules) (fails_later _ _ _ _ c.in_ok-left.ensures.made.small c.in_err-right.ensures.made);
}

pub comparison-add_cond-requires : goal.comparison-add_cond-requires
comparison-add_cond-requires s c =
    let left = c.in_ok-left.ensures.made in
    let right = c.in_ok-right.ensures.made in
    record { can = record { building = right.extends.ready.building; may = (omega (arith, left.stands.exists, right.extends.grows.more), right.stands.exists) } }

pub comparison-returns : goal.comparison-returns
comparison-returns s c =
    record {
      made = c.add_cond.ensures.made c.args.scene.now.setting.now c.args.work.now _
          (compared _ _ _ _ c.args.op c.in_ok-left.left c.in_ok-right.right _ _ c.in_ok-left.ensures.made c.in_ok-right.ensures.made);
    }

pub implication-returns-in_err-left : goal.implication-returns-in_err-left
implication-returns-in_err-left s c =
    record { made = exits _ _ _ c.from_residual.result c.in_err-left.field-0.0 (search rules) (fails_first _ _ _ _ c.in_err-left.ensures.made) }

pub implication-returns-in_err-right : goal.implication-returns-in_err-right
implication-returns-in_err-right s c = record {
  made = exits _ _ _ c.from_residual-in_err-right.result c.in_err-right.field-0.0 (search rules) (fails_later _ _ _ _ c.in_ok-left.ensures.made.small c.in_err-right.ensures.made);
}

pub implication-add_cond-requires : goal.implication-add_cond-requires
implication-add_cond-requires s c =
    let left = c.in_ok-left.ensures.made in
    let right = c.in_ok-right.ensures.made in
    record { can = record { building = right.extends.ready.building; may = (omega (arith, left.stands.exists, right.extends.grows.more), right.stands.exists) } }

pub implication-returns : goal.implication-returns
implication-returns s c =
    record {
      made = c.add_cond.ensures.made c.args.scene.now.setting.now c.args.work.now _
          (implied _ _ _ _ c.in_ok-left.left c.in_ok-right.right _ _ c.in_ok-left.ensures.made c.in_ok-right.ensures.made);
    }

pub multiply-factor-requires : goal.multiply-factor-requires
multiply-factor-requires s c = (
  omega (arith, weight-factors c.args.parts.now c.parts.part-index c.part-item.result c.parts-test.true, ap (λ p. weight p.1) c.part-item.is),
  (
    c.parts.invariant.extends.ready,
    (
      c.requires.placed,
      (
        c.parts.invariant.operand,
        factored_holds _ _ _ _ _ _ _ _ c.part-item.result _ (drop_next c.args.parts.now c.parts.part-index c.part-item.result c.parts-test.true c.part-item.is) c.parts.invariant,
      ),
    ),
  ),
)

pub multiply-returns-in_err-before : goal.multiply-returns-in_err-before
multiply-returns-in_err-before s c = record {
  made = exits _ _ _ c.from_residual.result c.in_err-before.field-0.0 (search rules)
      (factored_fault _ _ _ _ _ _ _ _ c.part-item.result _ c.in_err-before.field-0.0 (drop_next c.args.parts.now c.parts.part-index c.part-item.result c.parts-test.true c.part-item.is)
      c.in_err-before.ensures.made c.parts.invariant);
}

pub multiply-parts-preserved : goal.multiply-parts-preserved
multiply-parts-preserved s c =
    factored_more _ _ _ _ _ _ _ _ c.part-item.result _ c.factor.new.work _ (drop_next c.args.parts.now c.parts.part-index c.part-item.result c.parts-test.true c.part-item.is)
    c.in_ok-before.ensures.made c.parts.invariant

pub product-returns-in_err-first : goal.product-returns-in_err-first
product-returns-in_err-first s c =
    let place = place_of c.args.scene.now (known_in c.args.known.now) in
    record {
      made = exits _ _ _ c.from_residual.result c.in_err-first.field-0.0 (search rules)
          (product_fault (root_in c.args.scene.now.setting.now) place (factors c.args.parts.now.others) (instance place c.args.parts.now.first).term c.in_err-first.field-0.0 c.requires.others
          (subst (λ e. SizesFail (root_in c.args.scene.now.setting.now) (subterms (instance place e).term) c.in_err-first.field-0.0) c.first.ensures.first c.in_err-first.ensures.made));
    }

pub condition-returns-in-Cumulative : goal.condition-returns-in-Cumulative
condition-returns-in-Cumulative s c =
    let same : Node c.e.inside.at (shape.Cumulative (binders c.in-Cumulative.over) c.deref-in-Cumulative.result.now c.deref-in-Cumulative-2.result.now c.deref-in-Cumulative-3.result.now
    c.deref-in-Cumulative-4.result.now) ≡ c.args.e.now = search rules in
    record {
      made = subst (λ e. MakesCond c.args.scene.now.setting.now c.args.work.now c.scheduled.new.work (instance (place_of c.args.scene.now (known_in c.args.known.now)) e).cond c.scheduled.result)
          same c.scheduled.ensures.made;
    }

pub term-returns-in-Lit : goal.term-returns-in-Lit
term-returns-in-Lit s c =
    let fits : SFits w64 c.in-Lit.value = search rules in
    let same : Node c.e.inside.at (shape.Lit c.in-Lit.value) ≡ c.args.e.now = search rules in
    record {
      made = subst (λ e. MakesTerm c.args.scene.now.setting.now c.args.work.now c.add_term.new.work (instance (place_of c.args.scene.now (known_in c.args.known.now)) e).term c.add_term.result) same
          (c.add_term.ensures.made c.args.scene.now.setting.now c.args.work.now (rule.Constant c.in-Lit.value) (no_operands c.args.scene.now.setting.now c.args.work.now _ _ c.requires.ready (ap (λ z. rule.Constant z) (to_z-of_z w64 c.in-Lit.value fits)) refl));
    }

pub term-returns-in-Index : goal.term-returns-in-Index
term-returns-in-Index s c =
    let same : Node c.e.inside.at (shape.Index c.in-Index.name (trees c.as_slice.result.now)) ≡ c.args.e.now = search rules in
    record {
      made = subst (λ e. MakesTerm c.args.scene.now.setting.now c.args.work.now c.indexed.new.work (instance (place_of c.args.scene.now (known_in c.args.known.now)) e).term c.indexed.result)
          same c.indexed.ensures.made;
    }

pub term-returns-in_err-id-in-Call : goal.term-returns-in_err-id-in-Call
term-returns-in_err-id-in-Call s c =
    let same : Node c.e.inside.at (shape.Call c.in-Call.function c.deref.result.now) ≡ c.args.e.now = search rules in
    record {
      made = subst (λ e. MakesTerm c.args.scene.now.setting.now c.args.work.now c.term.new.work (instance (place_of c.args.scene.now (known_in c.args.known.now)) e).term c.from_residual.result) same
          (term_fails c.args.scene.now.setting.now c.args.work.now c.term.new.work (instance (place_of c.args.scene.now (known_in c.args.known.now)) (Node c.e.inside.at (shape.Call c.in-Call.function c.deref.result.now))).term c.in_err-id-in-Call.field-0.0 c.from_residual.result (search rules) (listed_fault (root_in c.args.scene.now.setting.now) _ _ c.in_err-id-in-Call.field-0.0 (sym (called_sizes c.in-Call.function (instance (place_of c.args.scene.now (known_in c.args.known.now)) c.deref.result.now).term)) c.in_err-id-in-Call.ensures.made));
    }

pub term-returns-in_err-ids-in-Add : goal.term-returns-in_err-ids-in-Add
term-returns-in_err-ids-in-Add s c =
    let same : Node c.e.inside.at (shape.Add (terms c.as_slice-in-Add.result.now)) ≡ c.args.e.now = search rules in
    record {
      made = subst (λ e. MakesTerm c.args.scene.now.setting.now c.args.work.now c.chain.new.work (instance (place_of c.args.scene.now (known_in c.args.known.now)) e).term c.from_residual-in_err-ids-in-Add.result) same
          (term_fails c.args.scene.now.setting.now c.args.work.now c.chain.new.work (instance (place_of c.args.scene.now (known_in c.args.known.now)) (Node c.e.inside.at (shape.Add (terms c.as_slice-in-Add.result.now)))).term c.in_err-ids-in-Add.field-0.0 c.from_residual-in_err-ids-in-Add.result (search rules) c.in_err-ids-in-Add.ensures.made);
    }

pub term-returns-in_err-ids-in-Sum : goal.term-returns-in_err-ids-in-Sum
term-returns-in_err-ids-in-Sum s c =
    let same : Node c.e.inside.at (shape.Sum (binders c.in-Sum.over) c.deref-in-Sum.result.now) ≡ c.args.e.now = search rules in
    record {
      made = subst (λ e. MakesTerm c.args.scene.now.setting.now c.args.work.now c.behind.new.work (instance (place_of c.args.scene.now (known_in c.args.known.now)) e).term c.from_residual-in_err-ids-in-Sum.result) same
          (term_fails c.args.scene.now.setting.now c.args.work.now c.behind.new.work (instance (place_of c.args.scene.now (known_in c.args.known.now)) (Node c.e.inside.at (shape.Sum (binders c.in-Sum.over) c.deref-in-Sum.result.now))).term c.in_err-ids-in-Sum.field-0.0 c.from_residual-in_err-ids-in-Sum.result (search rules) (listed_fault (root_in c.args.scene.now.setting.now) _ _ c.in_err-ids-in-Sum.field-0.0 (sum_sizes (map (λ here. (instance here c.deref-in-Sum.result.now).term) (places (place_of c.args.scene.now (known_in c.args.known.now)) (binders c.in-Sum.over)))) c.in_err-ids-in-Sum.ensures.made));
    }

pub term-returns-in_err-ids-in-Selected : goal.term-returns-in_err-ids-in-Selected
term-returns-in_err-ids-in-Selected s c =
    let same : Node c.e.inside.at (shape.Selected c.in-Selected.which (trees c.as_slice-in-Selected.result.now)) ≡ c.args.e.now = search rules in
    record {
      made = subst (λ e. MakesTerm c.args.scene.now.setting.now c.args.work.now c.terms.new.work (instance (place_of c.args.scene.now (known_in c.args.known.now)) e).term c.from_residual-in_err-ids-in-Selected.result) same
          (term_fails c.args.scene.now.setting.now c.args.work.now c.terms.new.work (instance (place_of c.args.scene.now (known_in c.args.known.now)) (Node c.e.inside.at (shape.Selected c.in-Selected.which (trees c.as_slice-in-Selected.result.now)))).term c.in_err-ids-in-Selected.field-0.0 c.from_residual-in_err-ids-in-Selected.result (search rules) (listed_fault (root_in c.args.scene.now.setting.now) _ _ c.in_err-ids-in-Selected.field-0.0 (sym (extreme_sizes c.in-Selected.which (instances (place_of c.args.scene.now (known_in c.args.known.now)) (trees c.as_slice-in-Selected.result.now)))) c.in_err-ids-in-Selected.ensures.made));
    }

pub term-returns-in_err-id-in-Cmp : goal.term-returns-in_err-id-in-Cmp
term-returns-in_err-id-in-Cmp s c =
    let same : rule.Number (instance (place_of c.args.scene.now (known_in c.args.known.now)) c.args.e.now).cond ≡ (instance (place_of c.args.scene.now (known_in c.args.known.now)) c.args.e.now).term = search rules in
    record {
      made = subst (λ x. MakesTerm c.args.scene.now.setting.now c.args.work.now c.condition.new.work x c.from_residual-in_err-id-in-Cmp.result) same
          (term_fails c.args.scene.now.setting.now c.args.work.now c.condition.new.work (rule.Number (instance (place_of c.args.scene.now (known_in c.args.known.now)) c.args.e.now).cond) c.in_err-id-in-Cmp.field-0.0 c.from_residual-in_err-id-in-Cmp.result (search rules) c.in_err-id-in-Cmp.ensures.made);
    }

pub term-returns-in_ok-id-in-Cmp : goal.term-returns-in_ok-id-in-Cmp
term-returns-in_ok-id-in-Cmp s c =
    let same : rule.Number (instance (place_of c.args.scene.now (known_in c.args.known.now)) c.args.e.now).cond ≡ (instance (place_of c.args.scene.now (known_in c.args.known.now)) c.args.e.now).term = search rules in
    record {
      made = subst (λ x. MakesTerm c.args.scene.now.setting.now c.args.work.now c.add_term-in-Cmp.new.work x c.add_term-in-Cmp.result) same
          (c.add_term-in-Cmp.ensures.made c.args.scene.now.setting.now c.args.work.now _ (one_operand _ _ _ _ _ _ _ _ c.in_ok-id-in-Cmp.ensures.made (ap (λ x. rule.Number x) (cond_is _ _ _ c.in_ok-id-in-Cmp.ensures.made.stands)) refl));
    }

pub term-behind-requires : goal.term-behind-requires
term-behind-requires s c =
    let same : Node c.e.inside.at (shape.Sum (binders c.in-Sum.over) c.deref-in-Sum.result.now) ≡ c.args.e.now = search rules in
    let holds = subst (IsWalked None (known_in c.args.known.now)) (sym same) c.requires.walked in
    (omega (arith, ap weight same), (c.requires.ready, (c.requires.placed, (holds.0, holds.1))))

pub term-added_up-requires : goal.term-added_up-requires
term-added_up-requires s c = record { there = subst (AreThere c.behind.new.work) (sym c.as_slice-in-Sum.ensures.value) (are_there _ _ _ _ _ c.in_ok-ids-in-Sum.ensures.made) }

pub term-returns-in_ok-ids-in-Sum : goal.term-returns-in_ok-ids-in-Sum
term-returns-in_ok-ids-in-Sum s c =
    let same : Node c.e.inside.at (shape.Sum (binders c.in-Sum.over) c.deref-in-Sum.result.now) ≡ c.args.e.now = search rules in
    record {
      made = subst (λ e. MakesTerm c.args.scene.now.setting.now c.args.work.now c.added_up.new.work (instance (place_of c.args.scene.now (known_in c.args.known.now)) e).term c.added_up.result) same
          (c.added_up.ensures.made c.args.scene.now.setting.now c.args.work.now (map (λ here. (instance here c.deref-in-Sum.result.now).term) (places (place_of c.args.scene.now (known_in c.args.known.now)) (binders c.in-Sum.over)))
          (same_terms _ _ _ _ _ _ c.as_slice-in-Sum.ensures.value c.in_ok-ids-in-Sum.ensures.made));
    }

pub term-extreme-requires : goal.term-extreme-requires
term-extreme-requires s c = (record { ready = c.in_ok-ids-in-Selected.ensures.made.extends.ready; there = subst (AreThere c.terms.new.work) (sym c.as_slice-in-Selected-2.ensures.value) (are_there _ _ _ _ _ c.in_ok-ids-in-Selected.ensures.made) })

pub term-add_term-requires-in-Cmp : goal.term-add_term-requires-in-Cmp
term-add_term-requires-in-Cmp s c = record { can = record { building = c.in_ok-id-in-Cmp.ensures.made.extends.ready.building; may = c.in_ok-id-in-Cmp.ensures.made.stands.exists } }

pub term-called-requires : goal.term-called-requires
term-called-requires s c = record { there = record { building = c.in_ok-id-in-Call.ensures.made.extends.ready.building; exist = (c.in_ok-id-in-Call.ensures.made.stands.exists, tt) } }

pub term-add_term-requires-in-Add : goal.term-add_term-requires-in-Add
term-add_term-requires-in-Add s c =
    let made = c.in_ok-ids-in-Add.ensures.made in
    record {
      can = record {
        building = made.extends.ready.building;
        may = subst (λ l. PartsBelow (length (things_of c.chain.new.work)) (signed_of l)) (sym c.as_slice-in-Add-2.ensures.value) made.exist;
      };
    }

pub condition-add_cond-requires : goal.condition-add_cond-requires
condition-add_cond-requires s c = record { can = record { building = c.in_ok-id-in-Not.ensures.made.extends.ready.building; may = c.in_ok-id-in-Not.ensures.made.stands.exists } }

pub condition-add_cond-requires-in-And : goal.condition-add_cond-requires-in-And
condition-add_cond-requires-in-And s c =
    let made = c.in_ok-ids-in-And.ensures.made in
    record {
      can = record {
        building = made.extends.ready.building;
        may = subst (λ l. AllBelow (length (things_of c.conditions.new.work)) (cond_ids l)) (sym c.as_slice-in-And.ensures.value) made.exist;
      };
    }

pub condition-add_cond-requires-in-Or : goal.condition-add_cond-requires-in-Or
condition-add_cond-requires-in-Or s c =
    let made = c.in_ok-ids-in-Or.ensures.made in
    record {
      can = record {
        building = made.extends.ready.building;
        may = subst (λ l. AllBelow (length (things_of c.conditions-in-Or.new.work)) (cond_ids l)) (sym c.as_slice-in-Or-2.ensures.value) made.exist;
      };
    }

pub condition-add_cond-requires-in-AllDifferent : goal.condition-add_cond-requires-in-AllDifferent
condition-add_cond-requires-in-AllDifferent s c =
    let made = c.in_ok-ids-in-AllDifferent.ensures.made in
    record {
      can = record {
        building = made.extends.ready.building;
        may = subst (λ l. AllBelow (length (things_of c.behind.new.work)) (term_ids l)) (sym c.as_slice-in-AllDifferent.ensures.value) made.exist;
      };
    }

pub condition-returns-in_ok-ids-in-AllDifferent : goal.condition-returns-in_ok-ids-in-AllDifferent
condition-returns-in_ok-ids-in-AllDifferent s c =
    let same : Node c.e.inside.at (shape.AllDifferent (binders c.in-AllDifferent.over) c.deref-in-AllDifferent.result.now) ≡ c.args.e.now = search rules in
    record {
      made = subst (λ e. MakesCond c.args.scene.now.setting.now c.args.work.now c.add_cond-in-AllDifferent.new.work (instance (place_of c.args.scene.now (known_in c.args.known.now)) e).cond c.add_cond-in-AllDifferent.result) same
          (c.add_cond-in-AllDifferent.ensures.made c.args.scene.now.setting.now c.args.work.now _ (record {
            extends = c.in_ok-ids-in-AllDifferent.ensures.made.extends;
            is = ap (λ l. rule.AllDifferent (terms_at (things_of c.behind.new.work) (term_ids l))) c.as_slice-in-AllDifferent.ensures.value
                ∙ ap (λ x. rule.AllDifferent x) c.in_ok-ids-in-AllDifferent.ensures.made.are;
            small = c.in_ok-ids-in-AllDifferent.ensures.made.small;
          }));
    }

pub condition-returns-in-Lit : goal.condition-returns-in-Lit
condition-returns-in-Lit s c =
    let same : rule.Any rule.no_cond ≡ (instance (place_of c.args.scene.now (known_in c.args.known.now)) c.args.e.now).cond = search rules in
    record {
      made = subst (λ x. MakesCond c.args.scene.now.setting.now c.args.work.now c.add_cond-in-Lit.new.work x c.add_cond-in-Lit.result) same
          (c.add_cond-in-Lit.ensures.made c.args.scene.now.setting.now c.args.work.now _
          (record { extends = extends_not c.args.scene.now.setting.now c.args.work.now c.requires.ready; is = refl; small = refl }));
    }

pub indexed-returns-in_err-ids : goal.indexed-returns-in_err-ids
indexed-returns-in_err-ids s c =
    let some : 0 < length c.args.at.now = search rules in
    let index = index_is (place_of c.args.scene.now (known_in c.args.known.now)) c.args.name.now c.args.at.now some in
    record {
      made = subst (λ x. MakesTerm c.args.scene.now.setting.now c.args.work.now c.terms.new.work x c.from_residual.result) (sym index)
          (term_fails c.args.scene.now.setting.now c.args.work.now c.terms.new.work (rule.Element (table_of (elements (place_of c.args.scene.now (known_in c.args.known.now)) c.args.name.now)) (instances (place_of c.args.scene.now (known_in c.args.known.now)) (trees c.args.at.now))) c.in_err-ids.field-0.0 c.from_residual.result (search rules) c.in_err-ids.ensures.made);
    }

pub indexed-element-requires : goal.indexed-element-requires
indexed-element-requires s c = record {
  placed = c.requires.placed;
  ready = c.in_ok-ids.ensures.made.extends.ready;
  there = subst (AreThere c.terms.new.work) (sym c.as_slice.ensures.value) (are_there _ _ _ _ _ c.in_ok-ids.ensures.made);
}

pub indexed-returns : goal.indexed-returns
indexed-returns s c =
    let some : 0 < length c.args.at.now = search rules in
    let index = index_is (place_of c.args.scene.now (known_in c.args.known.now)) c.args.name.now c.args.at.now some in
    record {
      made = subst (λ x. MakesTerm c.args.scene.now.setting.now c.args.work.now c.element.new.work x c.element.result) (sym index)
          (c.element.ensures.made c.args.work.now (instances (place_of c.args.scene.now (known_in c.args.known.now)) (trees c.args.at.now)) (same_terms _ _ _ _ _ _ c.as_slice.ensures.value c.in_ok-ids.ensures.made));
    }

pub factor-returns-in_err-second-in-Times : goal.factor-returns-in_err-second-in-Times
factor-returns-in_err-second-in-Times s c =
    let b = (instance (place_of c.args.scene.now (known_in c.args.known.now)) c.args.part.now.1).term in
    record {
      made = subst (λ op. MakesTerm c.args.scene.now.setting.now c.args.work.now c.term.new.work (product_instance (place_of c.args.scene.now (known_in c.args.known.now)) (term_at (things_of c.args.work.now) c.args.before.0) (factor op c.args.part.now.1 no_factor)) c.from_residual.result) (sym c.in-Times.is)
          (term_fails c.args.scene.now.setting.now c.args.work.now c.term.new.work (rule.Product (term_at (things_of c.args.work.now) c.args.before.0) b) c.in_err-second-in-Times.field-0.0 c.from_residual.result (search rules)
          (fails_later (root_in c.args.scene.now.setting.now) (subterms (term_at (things_of c.args.work.now) c.args.before.0)) (subterms b) c.in_err-second-in-Times.field-0.0 c.requires.operand.small c.in_err-second-in-Times.ensures.made));
    }

pub factor-add_term-requires : goal.factor-add_term-requires
factor-add_term-requires s c =
    let second = c.in_ok-second-in-Times.ensures.made in
    record { can = record { building = second.extends.ready.building; may = (omega (arith, c.requires.operand.stands.exists, second.extends.grows.more), second.stands.exists) } }

pub factor-returns-in_ok-second-in-Times : goal.factor-returns-in_ok-second-in-Times
factor-returns-in_ok-second-in-Times s c =
    let second = c.in_ok-second-in-Times.ensures.made in
    record {
      made = subst (λ op. MakesTerm c.args.scene.now.setting.now c.args.work.now c.add_term.new.work (product_instance (place_of c.args.scene.now (known_in c.args.known.now)) (term_at (things_of c.args.work.now) c.args.before.0) (factor op c.args.part.now.1 no_factor)) c.add_term.result) (sym c.in-Times.is)
          (c.add_term.ensures.made c.args.scene.now.setting.now c.args.work.now (rule.Product (term_at (things_of c.args.work.now) c.args.before.0) (instance (place_of c.args.scene.now (known_in c.args.known.now)) c.args.part.now.1).term) (two_operands _ _ _ c.args.before.0 c.in_ok-second-in-Times.second.0 _ _ _ c.requires.operand second
          (ap₂ (λ x y. rule.Product x y) (later_is _ _ c.args.before.0 _ second.extends.grows c.requires.operand.stands) (term_is _ _ _ second.stands)) refl));
    }

pub factor-add_term-requires-in-Div : goal.factor-add_term-requires-in-Div
factor-add_term-requires-in-Div s c =
    let fits : SFits w64 c.in_ok-number-in-Div.number = search rules in
    record {
      can = record {
        building = c.requires.ready.building;
        may = (
          subst (λ (z : ℤ). IsDivisor z) (sym (to_z-of_z w64 c.in_ok-number-in-Div.number fits)) (record { nonzero = c.in_ok-number-in-Div.ensures.nonzero; small = c.in_ok-number-in-Div.ensures.small }),
          c.requires.operand.stands.exists,
        );
      };
    }

pub factor-returns-in_ok-number-in-Div : goal.factor-returns-in_ok-number-in-Div
factor-returns-in_ok-number-in-Div s c =
    let fits : SFits w64 c.in_ok-number-in-Div.number = search rules in
    record {
      made = subst (λ op. MakesTerm c.args.scene.now.setting.now c.args.work.now c.add_term-in-Div.new.work (product_instance (place_of c.args.scene.now (known_in c.args.known.now)) (term_at (things_of c.args.work.now) c.args.before.0) (factor op c.args.part.now.1 no_factor)) c.add_term-in-Div.result) (sym c.in-Div.is)
          (subst (λ x. MakesTerm c.args.scene.now.setting.now c.args.work.now c.add_term-in-Div.new.work x c.add_term-in-Div.result)
          (sym (divided_by unary.Quotient (term_at (things_of c.args.work.now) c.args.before.0) _ c.in_ok-number-in-Div.number c.in_ok-number-in-Div.ensures.value c.in_ok-number-in-Div.ensures.nonzero))
          (c.add_term-in-Div.ensures.made c.args.scene.now.setting.now c.args.work.now (rule.Made (unary.Quotient (record { number = c.in_ok-number-in-Div.number })) (term_at (things_of c.args.work.now) c.args.before.0))
          (operated c.args.scene.now.setting.now c.args.work.now c.args.before.0 _ _ c.requires.ready c.requires.operand (ap (λ z. rule.Made (unary.Quotient (record { number = z })) (term_at (things_of c.args.work.now) c.args.before.0)) (to_z-of_z w64 c.in_ok-number-in-Div.number fits)) refl)));
    }

pub factor-add_term-requires-in-Mod : goal.factor-add_term-requires-in-Mod
factor-add_term-requires-in-Mod s c =
    let fits : SFits w64 c.in_ok-number-in-Mod.number = search rules in
    record {
      can = record {
        building = c.requires.ready.building;
        may = (
          subst (λ (z : ℤ). IsDivisor z) (sym (to_z-of_z w64 c.in_ok-number-in-Mod.number fits)) (record { nonzero = c.in_ok-number-in-Mod.ensures.nonzero; small = c.in_ok-number-in-Mod.ensures.small }),
          c.requires.operand.stands.exists,
        );
      };
    }

pub factor-returns-in_ok-number-in-Mod : goal.factor-returns-in_ok-number-in-Mod
factor-returns-in_ok-number-in-Mod s c =
    let fits : SFits w64 c.in_ok-number-in-Mod.number = search rules in
    record {
      made = subst (λ op. MakesTerm c.args.scene.now.setting.now c.args.work.now c.add_term-in-Mod.new.work (product_instance (place_of c.args.scene.now (known_in c.args.known.now)) (term_at (things_of c.args.work.now) c.args.before.0) (factor op c.args.part.now.1 no_factor)) c.add_term-in-Mod.result) (sym c.in-Mod.is)
          (subst (λ x. MakesTerm c.args.scene.now.setting.now c.args.work.now c.add_term-in-Mod.new.work x c.add_term-in-Mod.result)
          (sym (divided_by unary.Remainder (term_at (things_of c.args.work.now) c.args.before.0) _ c.in_ok-number-in-Mod.number c.in_ok-number-in-Mod.ensures.value c.in_ok-number-in-Mod.ensures.nonzero))
          (c.add_term-in-Mod.ensures.made c.args.scene.now.setting.now c.args.work.now (rule.Made (unary.Remainder (record { number = c.in_ok-number-in-Mod.number })) (term_at (things_of c.args.work.now) c.args.before.0))
          (operated c.args.scene.now.setting.now c.args.work.now c.args.before.0 _ _ c.requires.ready c.requires.operand (ap (λ z. rule.Made (unary.Remainder (record { number = z })) (term_at (things_of c.args.work.now) c.args.before.0)) (to_z-of_z w64 c.in_ok-number-in-Mod.number fits)) refl)));
    }

pub condition-returns-in_err-ids-in-AllDifferent : goal.condition-returns-in_err-ids-in-AllDifferent
condition-returns-in_err-ids-in-AllDifferent s c =
    let same : Node c.e.inside.at (shape.AllDifferent (binders c.in-AllDifferent.over) c.deref-in-AllDifferent.result.now) ≡ c.args.e.now = search rules in
    record {
      made = subst (λ e. MakesCond c.args.scene.now.setting.now c.args.work.now c.behind.new.work (instance (place_of c.args.scene.now (known_in c.args.known.now)) e).cond
          c.from_residual-in_err-ids-in-AllDifferent.result) same
          (exits _ _ _ c.from_residual-in_err-ids-in-AllDifferent.result c.in_err-ids-in-AllDifferent.field-0.0 (search rules) c.in_err-ids-in-AllDifferent.ensures.made);
    }

pub condition-scheduled-requires : goal.condition-scheduled-requires
condition-scheduled-requires s c =
    let same : Node c.e.inside.at (shape.Cumulative (binders c.in-Cumulative.over) c.deref-in-Cumulative.result.now c.deref-in-Cumulative-2.result.now c.deref-in-Cumulative-3.result.now
    c.deref-in-Cumulative-4.result.now) ≡ c.args.e.now = search rules in
    let holds = subst (IsWalked None (known_in c.args.known.now)) (sym same) c.requires.walked in
    (omega (arith, ap weight same), (c.requires.ready, (c.requires.placed, (holds.0, (holds.1, holds.2)))))

pub each-here-init : goal.each-here-init
each-here-init s c = left_first _ (map known_in c.args.here.now) c.requires.bodies c.requires.ready c.new-ids.ensures.items

pub each_task-here-init : goal.each_task-here-init
each_task-here-init s c = left_first _ (map known_in c.args.here.now) c.requires.bodies c.requires.ready c.new-ids.ensures.items

pub each-term-requires : goal.each-term-requires
each-term-requires s c =
    let body = (left_holds c.here.invariant (mapped_next known_in c.args.here.now c.here.known-index c.known-item.result c.here-test.true c.known-item.is)).0 in
    (omega arith, (c.here.invariant.added.ready, (record { exists = c.requires.exists; table = body.0 }, body.1)))

pub each_task-one_task-requires : goal.each_task-one_task-requires
each_task-one_task-requires s c =
    let body = (left_holds c.here.invariant (mapped_next known_in c.args.here.now c.here.known-index c.known-item.result c.here-test.true c.known-item.is)).0 in
    (omega arith, (c.here.invariant.added.ready, (record { exists = c.requires.exists; table = body.0 }, (body.1.0, (body.1.1, body.1.2)))))
