-- Walking through constraints step by step agrees with what is met in them and with their instances.
use Rattle.std.proofs.Common.{◌≡◌, refl, sym, ap, subst, ◌∙◌, ℕ, ◌+◌, ℤ, pos, List, [], ◌∷◌, ◌++◌, length, Option, Some, None, is_some, option_map, option_and_then, Result, Ok, Err, T}
use Rattle.std.proofs.lemmas.List.{append_assoc, append-nil}
use Rattle.std.specs.List.{flat_map}
use Rattle.std.specs.Option.{unwrap_or}
use Rattle.std.proofs.lemmas.Grind.{flat_map-append}
use Rattle.sopl_base.specs.declared.fault.Fault.{Fault}
use Rattle.sopl_base.specs.declared.codes.TheConstants as codes
use Rattle.sopl_ast.specs.Constants as c
use Rattle.sopl_ast.specs.Constants.{value_or_zero}
use Rattle.sopl_ast.specs.Known.{Known, with_bound}
use Rattle.sopl_ast.specs.Numbers.{both_of, all_of, joined}
use Rattle.sopl_ast.specs.UnfoldEvents.{UnfoldEvent, Counted, first_failure, refused_unless, expression_events, binding_events}
use Rattle.sopl_ast.specs.Tree.{Tree, Binders, no_binder, binder, place_of}
use Rattle.sopl_ast.specs.Unfolding as stated
use Rattle.sopl_ast.specs.Unfolding.{ConstraintInstance, hard_instance, chance_instance, conditions_of, hards_among, chances_among, is_threshold, threshold_events}
use Rattle.sopl_ast.specs.Whole.{ConsTree, ConsTrees, ForallTree, BlockTree, HardTree, ChanceTree, no_cons, cons}
use Rattle.unfold_constants.specs.Evaluation.{Step, ◌>>=◌, done, for_each}
use Rattle.unfold_constants.specs.Traversal as k
use Rattle.unfold_constants.proofs.EvaluationAgreement.{agree_number, agree_range}
use Rattle.unfold_constants.proofs.Steps.{Agrees, At, counted, agree_value, agree_done, agree_bind, agree_bind_two, agree_then, agree_count}
use Rattle.unfold_constants.proofs.TraversalAgreement.{meets_walk, meets_unless}
use Rattle.unfold_constraints.specs.Stepping as s
use Rattle.unfold_constraints.specs.Stepping.{Found}

-- instances behind those that were found
abbrev pub behind : Found → List ConstraintInstance → Found
behind found more = record { hards = found.hards ++ hards_among more; chances = found.chances ++ chances_among more }

hards_append : (xs ys : List ConstraintInstance) → hards_among (xs ++ ys) ≡ hards_among xs ++ hards_among ys
hards_append [] ys = refl
hards_append (hard_instance h ∷ xs) ys = ap (λ rest. h ∷ rest) (hards_append xs ys)
hards_append (chance_instance h ∷ xs) ys = hards_append xs ys

chances_append : (xs ys : List ConstraintInstance) → chances_among (xs ++ ys) ≡ chances_among xs ++ chances_among ys
chances_append [] ys = refl
chances_append (hard_instance h ∷ xs) ys = chances_append xs ys
chances_append (chance_instance h ∷ xs) ys = ap (λ rest. h ∷ rest) (chances_append xs ys)

behind_nothing : (found : Found) → behind found [] ≡ found
behind_nothing found i = record { hards = append-nil found.hards i; chances = append-nil found.chances i }

behind_both : (found : Found) (xs ys : List ConstraintInstance) → behind (behind found xs) ys ≡ behind found (xs ++ ys)
behind_both found xs ys i =
    record {
      hards = (append_assoc found.hards (hards_among xs) (hards_among ys) ∙ ap (λ more. found.hards ++ more) (sym (hards_append xs ys))) i;
      chances = (append_assoc found.chances (chances_among xs) (chances_among ys) ∙ ap (λ more. found.chances ++ more) (sym (chances_append xs ys))) i;
    }

-- what is made of something that is there
agree_there : {A B : Type 0} {step : Step B} {ms : List UnfoldEvent} (g : A → B) (d : A) (v : Option A) → Agrees step ms (option_map g v) → Agrees step ms (Some (g (unwrap_or v d)))
agree_there g d (Some x) a = a
agree_there {A} {B} {step} {ms} g d None a = record { at = λ count. on (first_failure count ms) (step count) (a.at count) }
  where
    on : (m : Result ℕ Fault) (outcome : Result (B × ℕ) Fault) → At m outcome None → At m outcome (Some (g d))
    on (Ok n) outcome found = absurd (subst (λ o. T (is_some o)) (sym (found.1)) tt)
    on (Err f) outcome failed = failed

-- the places that each of some numbers gives
abbrev places : (ℤ → Option (List Known)) → List ℤ → Option (List Known)
places here ns = option_map joined (all_of here ns)

-- what is found at some places, behind what was found
abbrev at_all : (Known → List ConstraintInstance) → Found → Option (List Known) → Option Found
at_all result found v = option_map (λ heres. behind found (flat_map result heres)) v

-- what is found for one number more
more_places : (result : Known → List ConstraintInstance) (found more : Found) (v : Option (List Known)) (vs : Option (List (List Known))) → at_all result found v ≡ Some more
    → at_all result more (option_map joined vs) ≡ at_all result found (option_map joined (both_of (λ x xs. x ∷ xs) v vs))
more_places result found more None vs is = absurd (subst (λ o. T (is_some o)) (sym is) tt)
more_places result found more (Some heres) None is = refl
more_places result found more (Some heres) (Some later) is =
    ap (λ o. Some (behind (unwrap_or o more) (flat_map result (joined later)))) (sym is)
    ∙ ap Some (behind_both found (flat_map result heres) (flat_map result (joined later)))
    ∙ ap (λ xs. Some (behind found xs)) (sym (flat_map-append result heres (joined later)))

-- what is found for each of some numbers
agree_each : (result : Known → List ConstraintInstance) (next : ℤ → Found → Step Found) (marks : ℤ → List UnfoldEvent) (here : ℤ → Option (List Known))
    → ((n : ℤ) (found : Found) → Agrees (next n found) (marks n) (at_all result found (here n)))
    → (ns : List ℤ) (found : Found) → Agrees (for_each next ns found) (flat_map (λ n. Counted ∷ marks n) ns) (at_all result found (places here ns))
agree_each result next marks here a [] found = agree_done found (Some (behind found [])) (ap Some (behind_nothing found))
agree_each result next marks here a (n ∷ ns) found =
    agree_bind_two agree_count (λ u is. a n found) (λ more is.
    agree_value (more_places result found more (here n) (all_of here ns) is) (agree_each result next marks here a ns more))

-- a body adds what it finds at each place
abbrev Adds : (Known → Found → Step Found) → (Known → List UnfoldEvent) → (Known → List ConstraintInstance) → Type 0
Adds body each result = (here : Known) (found : Found) → Agrees (body here found) (each here) (Some (behind found (result here)))

-- so do binders over it
agree_bindings : (body : Known → Found → Step Found) (each : Known → List UnfoldEvent) (result : Known → List ConstraintInstance) → Adds body each result
    → (bs : Binders) (known : Known) (found : Found) → Agrees (s.over known bs body found) (binding_events known None bs each) (at_all result found (c.bindings known bs))
agree_bindings body each result adds no_binder known found =
    agree_value (ap (λ xs. Some (behind found xs)) (sym (append-nil (result known)))) (adds known found)
agree_bindings body each result adds (binder name at range more) known found =
    agree_bind (agree_range range known None) (λ ns is.
    subst (λ v. Agrees (for_each (λ n xs. s.over (with_bound name n known) more body xs) ns found)
    (flat_map (λ n. Counted ∷ binding_events (with_bound name n known) None more each) (unwrap_or v []))
    (at_all result found (option_and_then (λ numbers. places (λ n. c.bindings (with_bound name n known) more) numbers) v)))
    (sym is)
    (agree_each result _ (λ n. binding_events (with_bound name n known) None more each) (λ n. c.bindings (with_bound name n known) more)
    (λ n xs. agree_bindings body each result adds more (with_bound name n known) xs) ns found))

agree_over : (body : Known → Found → Step Found) (each : Known → List UnfoldEvent) (result : Known → List ConstraintInstance) → Adds body each result
    → (bs : Binders) (known : Known) (found : Found)
    → Agrees (s.over known bs body found) (binding_events known None bs each) (Some (behind found (flat_map result (c.all_bindings known bs))))
agree_over body each result adds bs known found =
    agree_there (λ heres. behind found (flat_map result heres)) [] (c.bindings known bs) (agree_bindings body each result adds bs known found)

-- an instance, and its condition
agree_condition : (known : Known) (e : Tree) → Agrees (s.condition known e) (Counted ∷ expression_events known e) counted
agree_condition known e = agree_bind agree_count (λ t is. meets_walk e known)

-- a threshold
agree_threshold : (known : Known) (p q : Tree) → Agrees {A = ℤ × ℤ} (s.threshold known p q) (threshold_events known p q) (Some (value_or_zero known p, value_or_zero known q))
agree_threshold known p q =
    agree_bind (agree_number p known (place_of p)) (λ x is.
    agree_bind (agree_number q known (place_of q)) (λ y so.
    subst (λ (v : Option ℤ × Option ℤ).
    Agrees {A = ℤ × ℤ} (k.unless (is_threshold x y) codes.THRESHOLD (place_of p) >>= (λ t. done (x, y)))
    (refused_unless (is_threshold (unwrap_or v.0 (pos 0)) (unwrap_or v.1 (pos 0))) codes.THRESHOLD (place_of p))
    (Some (unwrap_or v.0 (pos 0), unwrap_or v.1 (pos 0))))
    (λ i. (sym is i, sym so i))
    (agree_then (λ t. (x, y)) (meets_unless (is_threshold x y) codes.THRESHOLD (place_of p)) (λ t at. refl))))

-- a hard constraint
agree_hard : (known : Known) (text : ℕ) (e : Tree) (found : Found)
    → Agrees (s.hard known text e found) (Counted ∷ expression_events known e) (Some (behind found (hard_instance (record { text = text; bound = known.bound }) ∷ [])))
agree_hard known text e found =
    agree_value (ap (λ chances. Some (record { hards = found.hards ++ (record { text = text; bound = known.bound }) ∷ []; chances = chances })) (sym (append-nil found.chances)))
    (agree_then (λ t. s.with_hard found text known.bound) (agree_condition known e) (λ t is. refl))

-- a chance constraint
agree_chance : (known : Known) (text : ℕ) (e p q : Tree) (found : Found)
    → Agrees (s.chance known text e p q found) (Counted ∷ (expression_events known e ++ threshold_events known p q))
    (Some (behind found (chance_instance (record { text = text; bound = known.bound; p = value_or_zero known p; q = value_or_zero known q }) ∷ [])))
agree_chance known text e p q found =
    agree_value
    (ap (λ hards. Some (record { hards = hards; chances = found.chances ++ (record { text = text; bound = known.bound; p = value_or_zero known p; q = value_or_zero known q }) ∷ [] }))
    (sym (append-nil found.hards)))
    (agree_bind (agree_condition known e) (λ t is.
    agree_then (λ (t : ℤ × ℤ). s.with_chance found text known.bound t.0 t.1) (agree_threshold known p q)
    (λ t at. ap (λ o. Some (s.with_chance found text known.bound (unwrap_or o t).0 (unwrap_or o t).1)) at)))

mutual
  pub agree_constraint : (tree : ConsTree) (known : Known) (first : ℕ) (found : Found)
      → Agrees (s.constraint known first tree found) (stated.constraint_events known tree) (Some (behind found (stated.constraint_instances known first tree)))
  agree_constraint (ForallTree bs tree) known first found =
      agree_over _ (λ here. stated.constraint_events here tree) (λ here. stated.constraint_instances here first tree) (λ here more. agree_constraint tree here first more) bs known found
  agree_constraint (BlockTree trees) known first found = agree_constraints trees known first found
  agree_constraint (HardTree e) known first found = agree_hard known first e found
  agree_constraint (ChanceTree e p q) known first found = agree_chance known first e p q found

  pub agree_constraints : (trees : ConsTrees) (known : Known) (first : ℕ) (found : Found)
      → Agrees (s.constraints known first trees found) (stated.constraints_events known trees) (Some (behind found (stated.all_constraint_instances known first trees)))
  agree_constraints no_cons known first found = agree_done found (Some (behind found [])) (ap Some (behind_nothing found))
  agree_constraints (cons tree trees) known first found =
      agree_bind (agree_constraint tree known first found) (λ more is.
      agree_value
      (ap (λ o. Some (behind (unwrap_or o more) (stated.all_constraint_instances known (first + length (conditions_of tree)) trees))) (sym is)
      ∙ ap Some (behind_both found (stated.constraint_instances known first tree) (stated.all_constraint_instances known (first + length (conditions_of tree)) trees)))
      (agree_constraints trees known (first + length (conditions_of tree)) more))
