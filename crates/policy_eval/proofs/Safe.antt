-- Where no term is too large, expressions may be evaluated.
use Rattle.std.proofs.Common.{◌≡◌, refl, sym, subst, ◌≤◌, ℤ, ◌*ℤ◌, List, [], ◌∷◌, ◌++◌, map, Option, None}
use Rattle.std.specs.List.{AllByRecursion}
use Rattle.sopl_base.specs.declared.extreme.Extreme.{Extreme}
use Rattle.sopl_base.proofs.Lists.{map-map}
use Rattle.sopl_ast.specs.declared.operators.Function.{Function}
use Rattle.sopl_ast.specs.declared.operators.Function.TheVariants.{Negative, Size}
use Rattle.sopl_ast.specs.declared.operators.MulOp.TheVariants.{Times, Div, Mod}
use Rattle.sopl_ast.specs.Constants as constant
use Rattle.sopl_ast.specs.Constants.{all_bindings}
use Rattle.sopl_ast.specs.Known.{Known}
use Rattle.sopl_ast.specs.Meanings as meant
use Rattle.sopl_ast.specs.Meanings.{meaning}
use Rattle.sopl_ast.specs.Numbers.{both_of}
use Rattle.sopl_ast.specs.Tree as t
use Rattle.sopl_ast.specs.Tree.{Tree, Trees, Factors, Node, no_tree, tree, no_factor, factor}
use Rattle.box_problem.specs.Box.{Box, IsBox, InBox}
use Rattle.term_language.specs.declared.made.Operation.TheVariants as unary
use Rattle.term_language.specs.Terms as c
use Rattle.term_language.specs.Laws.{IsProper}
use Rattle.term_language.specs.Sizes.{size}
use Rattle.term_language.specs.Values.{value}
use Rattle.term_language.specs.Values as term
use Rattle.compile_laws.specs.Instances.{Place, TaskTerms, function_of, chain_instance, conditions, constant_elements, decided_elements, divided, extreme_of, instance, instances, knowing, product_instance, seen_elements, sum_of, tasks_of, terms_of}
use Rattle.compile_laws.specs.Laws.{Agrees, AreArrays, IsArray}
use Rattle.compile_laws.specs.Measured.{most_size}
use Rattle.compile_laws.specs.Subterms.{subterms, all_subterms, part_subterms, condition_subterms, all_condition_subterms, task_subterms}
use Rattle.compile_laws.proofs.Means.{divided_means, instances_mean}
use Rattle.compile_laws.proofs.Places.{Keeps, constants_kept}
use Rattle.compile_laws.proofs.Proper.{divided_proper, instances_are_proper}
use Rattle.compile_counts.specs.Walked.{AreWalked, FactorsAreWalked, IsWalked, TermsAreWalked}
use Rattle.policy_values.specs.Safe.{AreSafe, AreTestable, FactorsAreSafe, HasConstantSize, IsSafe, IsTestable, TermsAreSafe}
use Rattle.policy_eval.proofs.Light.{AreLight, before, behind, first_light, is_small, itself}

-- three terms of a task
abbrev task_at : Tree → Tree → Tree → Place → TaskTerms
task_at start duration demand here = record { start = (instance here start).term; duration = (instance here duration).term; demand = (instance here demand).term }

-- the product of two that are there
abbrev value_both : Option ℤ → Option ℤ → Option ℤ
value_both a b = term.both_of (λ x y. x *ℤ y) a b

-- Lists over binders: what holds at each place holds of all.
over_all : {P : Known → Type 0} (W : Known → Type 0) (root : Box) (constants : _) (f : Known → c.Term) → ((k : Known) → k.constants ≡ constants → W k → AreLight root (subterms (f k)) → P k)
    → (ks : List Known) → AllByRecursion (Keeps constants) ks → AllByRecursion W ks → AreLight root (part_subterms (sum_of (map f ks))) → AllByRecursion P ks
over_all W root constants f each [] kept walked light = tt
over_all W root constants f each (k ∷ ks) kept walked light =
    (each k kept.0 walked.0 (before root (subterms (f k)) _ light), over_all W root constants f each ks kept.1 walked.1 (behind root (subterms (f k)) _ light))

over_terms : {P : Known → Type 0} (W : Known → Type 0) (root : Box) (constants : _) (f : Known → c.Term) → ((k : Known) → k.constants ≡ constants → W k → AreLight root (subterms (f k)) → P k)
    → (ks : List Known) → AllByRecursion (Keeps constants) ks → AllByRecursion W ks → AreLight root (all_subterms (terms_of (map f ks))) → AllByRecursion P ks
over_terms W root constants f each [] kept walked light = tt
over_terms W root constants f each (k ∷ ks) kept walked light =
    (each k kept.0 walked.0 (before root (subterms (f k)) _ light), over_terms W root constants f each ks kept.1 walked.1 (behind root (subterms (f k)) _ light))

abbrev task_lights : Box → TaskTerms → Type 0
task_lights root t = AreLight root (subterms t.start) × AreLight root (subterms t.duration) × AreLight root (subterms t.demand)

over_tasks : {P : Known → Type 0} (W : Known → Type 0) (root : Box) (constants : _) (f : Known → TaskTerms) → ((k : Known) → k.constants ≡ constants → W k → task_lights root (f k) → P k)
    → (ks : List Known) → AllByRecursion (Keeps constants) ks → AllByRecursion W ks → AreLight root (task_subterms (tasks_of (map f ks))) → AllByRecursion P ks
over_tasks W root constants f each [] kept walked light = tt
over_tasks W root constants f each (k ∷ ks) kept walked light =
    let first = behind root (subterms (f k).start) _ light in
    let second = behind root (subterms (f k).duration) _ first in (
      each k kept.0 walked.0 (before root (subterms (f k).start) _ light, before root (subterms (f k).duration) _ first, before root (subterms (f k).demand) _ second),
      over_tasks W root constants f each ks kept.1 walked.1 (behind root (subterms (f k).demand) _ second),
    )

joined_light : (root : Box) (xs ys zs : List c.Term) → AreLight root (xs ++ (ys ++ zs)) → AreLight root (xs ++ ys)
joined_light root [] ys zs light = before root ys zs light
joined_light root (x ∷ xs) ys zs light = (light.0, joined_light root xs ys zs light.1)

extreme_light : (root : Box) (which : Extreme) (ts : c.Terms) → AreLight root (subterms (extreme_of which ts)) → AreLight root (all_subterms ts)
extreme_light root which c.no_term light = tt
extreme_light root which (c.term a later) light = joined_light root (subterms a) (all_subterms later) _ light

called_light : (root : Box) (f : Function) (a : c.Term) → AreLight root (subterms (function_of f a)) → AreLight root (subterms a)
called_light root Negative a light = before root (subterms a) [] (before root _ _ light)
called_light root Size a light = before root (subterms a) _ light

module _ (root : Box) (is_box : IsBox root) (point : List ℤ) (inside : InBox root point) (place : Place) (other : meant.Place) (agrees : Agrees place other point) (arrays : AreArrays place) where
  abbrev at : Known → Place
  at k = knowing place k

  abbrev there : Known → meant.Place
  there k = meant.knowing other k

  abbrev Same : Known → Type 0
  Same k = k.constants ≡ place.known.constants

  agree_at : (k : Known) → Agrees (at k) (there k) point
  agree_at k = record { known = refl; stochastics = agrees.stochastics; scenario = agrees.scenario; decided = agrees.decided }

  arrays_at : (k : Known) → Same k → AreArrays (at k)
  arrays_at k same =
      λ name. subst (λ ks. IsArray (constant_elements name ks ++ (seen_elements name place.stochastics place.scenario ++ decided_elements name place.decisions place.cells))) (sym same) (arrays name)

  -- what an expression is worth is of a size that constants have
  worth_small : (e : Tree) (k : Known) → Same k → size root (instance (at k) e).term ≤ most_size → HasConstantSize (meaning (there k) e).value
  worth_small e k same light =
      subst HasConstantSize (instances_mean (at k) (there k) point (agree_at k) (arrays_at k same) e).value
      (is_small root point (instance (at k) e).term is_box inside (instances_are_proper (at k) e).term light)

  -- so is a product
  product_small : (k : Known) → Same k → (b : c.Term) (v : Option ℤ) → value point b ≡ v → IsProper b → AreLight root (subterms b) → HasConstantSize v
  product_small k same b v is proper light = subst HasConstantSize is (is_small root point b is_box inside proper (itself root b light))

  mutual
    safe : (e : Tree) (k : Known) → Same k → IsWalked None k e → AreLight root (subterms (instance (at k) e).term) → IsSafe (there k) e
    safe (Node n (t.Lit z)) k same walked light = tt
    safe (Node n (t.Name name)) k same walked light = tt
    safe (Node n (t.Index name no_tree)) k same walked light = tt
    safe (Node n (t.Index name (tree e es))) k same walked light = all_safe (tree e es) k same walked (before root _ _ light)
    safe (Node n (t.Call f e)) k same walked light = (
      worth_small (Node n (t.Call f e)) k same (itself root (instance (at k) (Node n (t.Call f e))).term light),
      safe e k same walked (called_light root f (instance (at k) e).term light),
    )
    safe (Node n (t.Add parts)) k same walked light = (worth_small (Node n (t.Add parts)) k same (itself root (instance (at k) (Node n (t.Add parts))).term light), terms_safe parts k same walked (before root _ _ light))
    safe (Node n (t.Mul first others)) k same walked light =
        let inner = first_light root (at k) others (instance (at k) first).term walked.1 light in (
          safe first k same walked.0 inner,
          factors_safe others k same walked.1 (instance (at k) first).term (meaning (there k) first).value
              (instances_mean (at k) (there k) point (agree_at k) (arrays_at k same) first).value (instances_are_proper (at k) first).term light,
        )
    safe (Node n (t.Cmp op a b)) k same walked light =
        let both = before root (subterms (instance (at k) a).term ++ subterms (instance (at k) b).term) _ light in
        (safe a k same walked.0 (before root (subterms (instance (at k) a).term) _ both), safe b k same walked.1 (behind root (subterms (instance (at k) a).term) _ both))
    safe (Node n (t.Not e)) k same walked light = testable e k same walked (before root _ _ light)
    safe (Node n (t.And es)) k same walked light = all_testable es k same walked (before root _ _ light)
    safe (Node n (t.Or es)) k same walked light = all_testable es k same walked (before root _ _ light)
    safe (Node n (t.Implies a b)) k same walked light =
        let both = before root (condition_subterms (instance (at k) a).cond ++ condition_subterms (instance (at k) b).cond) _ light in
        (testable a k same walked.0 (before root (condition_subterms (instance (at k) a).cond) _ both), testable b k same walked.1 (behind root (condition_subterms (instance (at k) a).cond) _ both))
    safe (Node n (t.Sum bs e)) k same walked light = (
      walked.0,
      worth_small (Node n (t.Sum bs e)) k same (itself root (instance (at k) (Node n (t.Sum bs e))).term light),
      over_all (λ here. IsWalked None here e) root place.known.constants (λ here. (instance (at here) e).term) (λ here is meets all. safe e here is meets all) (all_bindings k bs)
          (constants_kept place.known.constants bs k same) walked.1
          (subst (λ ts. AreLight root (part_subterms (sum_of ts))) (map-map (λ here. (instance here e).term) at (all_bindings k bs)) (before root _ _ light)),
    )
    safe (Node n (t.Selected which es)) k same walked light = all_safe es k same walked (extreme_light root which (instances (at k) es) light)
    safe (Node n (t.AllDifferent bs e)) k same walked light = (
      walked.0,
      over_terms (λ here. IsWalked None here e) root place.known.constants (λ here. (instance (at here) e).term) (λ here is meets all. safe e here is meets all) (all_bindings k bs)
          (constants_kept place.known.constants bs k same) walked.1
          (subst (λ ts. AreLight root (all_subterms (terms_of ts))) (map-map (λ here. (instance here e).term) at (all_bindings k bs)) (before root _ _ light)),
    )
    safe (Node n (t.Cumulative bs start duration demand capacity)) k same walked light =
        let both = before root (task_subterms (tasks_of (map (task_at start duration demand) (map at (all_bindings k bs)))) ++ subterms (instance (at k) capacity).term) _ light in (
          walked.0,
          over_tasks (λ here. IsWalked None here start × IsWalked None here duration × IsWalked None here demand) root place.known.constants (λ here. task_at start duration demand (at here))
              (λ here is meets all. (safe start here is meets.0 all.0, safe duration here is meets.1 all.1, safe demand here is meets.2 all.2)) (all_bindings k bs)
              (constants_kept place.known.constants bs k same) walked.1
              (subst (λ ts. AreLight root (task_subterms (tasks_of ts))) (map-map (task_at start duration demand) at (all_bindings k bs)) (before root _ _ both)),
          safe capacity k same walked.2 (behind root (task_subterms (tasks_of (map (task_at start duration demand) (map at (all_bindings k bs))))) _ both),
        )

    testable : (e : Tree) (k : Known) → Same k → IsWalked None k e → AreLight root (condition_subterms (instance (at k) e).cond) → IsTestable (there k) e
    testable (Node n (t.Lit z)) k same walked light = tt
    testable (Node n (t.Name name)) k same walked light = tt
    testable (Node n (t.Index name es)) k same walked light = tt
    testable (Node n (t.Call f e)) k same walked light = tt
    testable (Node n (t.Add parts)) k same walked light = tt
    testable (Node n (t.Mul first others)) k same walked light = tt
    testable (Node n (t.Cmp op a b)) k same walked light =
        (safe a k same walked.0 (before root (subterms (instance (at k) a).term) _ light), safe b k same walked.1 (behind root (subterms (instance (at k) a).term) _ light))
    testable (Node n (t.Not e)) k same walked light = testable e k same walked light
    testable (Node n (t.And es)) k same walked light = all_testable es k same walked light
    testable (Node n (t.Or es)) k same walked light = all_testable es k same walked light
    testable (Node n (t.Implies a b)) k same walked light =
        (testable a k same walked.0 (before root (condition_subterms (instance (at k) a).cond) _ light), testable b k same walked.1 (behind root (condition_subterms (instance (at k) a).cond) _ light))
    testable (Node n (t.Sum bs e)) k same walked light = tt
    testable (Node n (t.Selected which es)) k same walked light = tt
    testable (Node n (t.AllDifferent bs e)) k same walked light = (
      walked.0,
      over_terms (λ here. IsWalked None here e) root place.known.constants (λ here. (instance (at here) e).term) (λ here is meets all. safe e here is meets all) (all_bindings k bs)
          (constants_kept place.known.constants bs k same) walked.1
          (subst (λ ts. AreLight root (all_subterms (terms_of ts))) (map-map (λ here. (instance here e).term) at (all_bindings k bs)) light),
    )
    testable (Node n (t.Cumulative bs start duration demand capacity)) k same walked light = (
      walked.0,
      over_tasks (λ here. IsWalked None here start × IsWalked None here duration × IsWalked None here demand) root place.known.constants (λ here. task_at start duration demand (at here))
          (λ here is meets all. (safe start here is meets.0 all.0, safe duration here is meets.1 all.1, safe demand here is meets.2 all.2)) (all_bindings k bs)
          (constants_kept place.known.constants bs k same) walked.1
          (subst (λ ts. AreLight root (task_subterms (tasks_of ts))) (map-map (task_at start duration demand) at (all_bindings k bs)) (before root _ _ light)),
      safe capacity k same walked.2 (behind root (task_subterms (tasks_of (map (task_at start duration demand) (map at (all_bindings k bs))))) _ light),
    )

    all_safe : (es : Trees) (k : Known) → Same k → AreWalked None k es → AreLight root (all_subterms (instances (at k) es)) → AreSafe (there k) es
    all_safe no_tree k same walked light = tt
    all_safe (tree e es) k same walked light =
        (safe e k same walked.0 (before root (subterms (instance (at k) e).term) _ light), all_safe es k same walked.1 (behind root (subterms (instance (at k) e).term) _ light))

    all_testable : (es : Trees) (k : Known) → Same k → AreWalked None k es → AreLight root (all_condition_subterms (conditions (at k) es)) → AreTestable (there k) es
    all_testable no_tree k same walked light = tt
    all_testable (tree e es) k same walked light = (
      testable e k same walked.0 (before root (condition_subterms (instance (at k) e).cond) _ light),
      all_testable es k same walked.1 (behind root (condition_subterms (instance (at k) e).cond) _ light),
    )

    terms_safe : (parts : t.Terms) (k : Known) → Same k → TermsAreWalked None k parts → AreLight root (part_subterms (chain_instance (at k) parts)) → TermsAreSafe (there k) parts
    terms_safe t.no_term k same walked light = tt
    terms_safe (t.term minus e later) k same walked light =
        (safe e k same walked.0 (before root (subterms (instance (at k) e).term) _ light), terms_safe later k same walked.1 (behind root (subterms (instance (at k) e).term) _ light))

    factors_safe : (others : Factors) (k : Known) → Same k → FactorsAreWalked None k others → (b : c.Term) (v : Option ℤ) → value point b ≡ v → IsProper b
        → AreLight root (subterms (product_instance (at k) b others)) → FactorsAreSafe (there k) v others
    factors_safe no_factor k same walked b v is proper light = tt
    factors_safe (factor Times e later) k same walked b v is proper light =
        let made : c.Term = c.Product b (instance (at k) e).term in
        let inner : AreLight root (subterms made) = first_light root (at k) later made walked.2 light in
        let means : value point made ≡ both_of ◌*ℤ◌ v (meaning (there k) e).value =
        λ i. value_both (is i) ((instances_mean (at k) (there k) point (agree_at k) (arrays_at k same) e).value i) in
        let whole : IsProper made = (proper, (instances_are_proper (at k) e).term) in (
          product_small k same made _ means whole inner,
          safe e k same walked.1 (before root (subterms (instance (at k) e).term) _ (behind root (subterms b) _ inner)),
          factors_safe later k same walked.2 made _ means whole light,
        )
    factors_safe (factor Div e later) k same walked b v is proper light =
        let made : c.Term = divided unary.Quotient b (constant.value k e) in
        let means : value point made ≡ meant.divided Div v (constant.value k e) = divided_means Div unary.Quotient (λ x z. refl) point b v is (constant.value k e) in
        let whole : IsProper made = divided_proper unary.Quotient b proper (constant.value k e) in (
          product_small k same made _ means whole (first_light root (at k) later made walked.2 light),
          walked.0,
          factors_safe later k same walked.2 made _ means whole light,
        )
    factors_safe (factor Mod e later) k same walked b v is proper light =
        let made : c.Term = divided unary.Remainder b (constant.value k e) in
        let means : value point made ≡ meant.divided Mod v (constant.value k e) = divided_means Mod unary.Remainder (λ x z. refl) point b v is (constant.value k e) in
        let whole : IsProper made = divided_proper unary.Remainder b proper (constant.value k e) in (
          product_small k same made _ means whole (first_light root (at k) later made walked.2 light),
          walked.0,
          factors_safe later k same walked.2 made _ means whole light,
        )

  -- a condition and a number, where the place is known
  pub condition_safe : (e : Tree) → IsWalked None place.known e → AreLight root (condition_subterms (instance place e).cond) → IsTestable (there place.known) e
  condition_safe e walked light = testable e place.known refl walked light

  pub number_safe : (e : Tree) → IsWalked None place.known e → AreLight root (subterms (instance place e).term) → IsSafe (there place.known) e
  number_safe e walked light = safe e place.known refl walked light
