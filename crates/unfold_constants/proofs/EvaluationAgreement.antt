-- Evaluating a constant expression step by step agrees with what is met in it and with what it is worth.
use Rattle.std.proofs.Common.{◌≡◌, refl, sym, ap, subst, ◌∙◌, ℕ, ℤ, pos, neg_ℤ, ◌+ℤ◌, not, ◌||◌, List, [], ◌∷◌, ◌++◌, Option, Some, None, option_map, option_and_then}
use Rattle.std.proofs.Common.{T, is_some, if◌then◌else◌}
use Rattle.std.proofs.lemmas.List.{append-nil}
use Rattle.std.specs.Option.{unwrap_or}
use Rattle.std.specs.List.{flat_map, list_all, list_any}
use Rattle.sopl_base.specs.Extremes.{chosen_by}
use Rattle.sopl_base.proofs.Options.{zero_before}
use Rattle.sopl_base.specs.declared.codes.TheConstants as codes
use Rattle.sopl_ast.specs.Tree as t
use Rattle.sopl_ast.specs.Tree.{Tree, Shape, Trees, Terms, Factors, Binders, Range, Node, no_tree, tree, no_term, term, no_factor, factor, no_binder, binder, Named, Ends, place_of}
use Rattle.sopl_ast.specs.Constants as c
use Rattle.sopl_ast.specs.Constants.{is_true, applied_within, within}
use Rattle.sopl_ast.specs.Known.{Known, with_bound, known_value}
use Rattle.sopl_ast.specs.Numbers.{both_of, all_of, joined, up_to, count_between, total, all_distinct, are_within, one_or_zero, compares, extreme, applied, called}
use Rattle.sopl_ast.specs.UnfoldEvents.{UnfoldEvent, Counted, no_value, too_many, constant_events, inside_events, all_events, terms_events}
use Rattle.sopl_ast.specs.UnfoldEvents.{factors_events, binding_events, range_events}
use Rattle.unfold_constants.specs.Evaluation as w
use Rattle.unfold_tables.specs.Tables.{tasks_of}
use Rattle.unfold_constants.specs.Evaluation.{Step, ◌>>=◌, done, given, checked_between, for_each}
use Rattle.unfold_constants.proofs.Steps.{Agrees, agree_value, agree_done, agree_bind, agree_bind_two, agree_then, agree_both, agree_given, agree_count, agree_checked}
use Rattle.unfold_constants.proofs.Gathered.{gathered, three, nothing_before, nothing_behind, more_found, more_added, gathered_all, more_gathered, one_each, task_each, three_more}

-- a body adds what it finds at each place
abbrev pub Adds : (Known → List ℤ → Step (List ℤ)) → (Known → List UnfoldEvent) → (Known → Option (List ℤ)) → Type 0
Adds body each result = (here : Known) (found : List ℤ) → Agrees (body here found) (each here) (option_map (λ xs. found ++ xs) (result here))

-- so do binders over each body
abbrev pub Over : Known → ℕ → Binders → Type 0
Over known whole bs =
    (body : Known → List ℤ → Step (List ℤ)) (each : Known → List UnfoldEvent) (result : Known → Option (List ℤ)) → Adds body each result
    → (found : List ℤ) → Agrees (w.over known whole bs body found) (binding_events known (Some whole) bs each) (option_map (λ xs. found ++ xs) (gathered result (c.bindings known bs)))

-- what is found for each of some numbers
agree_each : (next : ℤ → List ℤ → Step (List ℤ)) (marks : ℤ → List UnfoldEvent) (result : ℤ → Option (List ℤ))
    → ((n : ℤ) (found : List ℤ) → Agrees (next n found) (marks n) (option_map (λ xs. found ++ xs) (result n)))
    → (ns : List ℤ) (found : List ℤ) → Agrees (for_each next ns found) (flat_map (λ n. Counted ∷ marks n) ns) (option_map (λ xs. found ++ xs) (option_map joined (all_of result ns)))
agree_each next marks result a [] found = agree_done found (Some (found ++ [])) (ap Some (append-nil found))
agree_each next marks result a (n ∷ ns) found =
    agree_bind_two agree_count (λ u is. a n found) (λ xs is. agree_value (more_gathered found xs (result n) (all_of result ns) is) (agree_each next marks result a ns xs))

-- one expression at each place
agree_one : (known : Known) (whole : ℕ) (bs : Binders) (e : Tree) → Over known whole bs
    → ((here : Known) → Agrees (w.number here whole e) (constant_events here whole e) (c.value here e))
    → Agrees (w.over known whole bs (λ here found. w.number here whole e >>= (λ x. done (found ++ x ∷ []))) []) (binding_events known (Some whole) bs (λ here. constant_events here whole e))
    (option_and_then (all_of (λ here. c.value here e)) (c.bindings known bs))
agree_one known whole bs e over a =
    agree_value (nothing_before _ ∙ one_each (λ here. c.value here e) (c.bindings known bs))
    (over _ (λ here. constant_events here whole e) (λ here. option_map (λ x. x ∷ []) (c.value here e))
    (λ here found. agree_then (λ x. found ++ x ∷ []) (a here) (λ x is. ap (λ v. option_map (λ xs. found ++ xs) (option_map (λ y. y ∷ []) v)) is)) [])

-- three expressions at each place
agree_three : (known : Known) (whole : ℕ) (bs : Binders) (e f g : Tree) → Over known whole bs
    → ((here : Known) → Agrees (w.number here whole e) (constant_events here whole e) (c.value here e))
    → ((here : Known) → Agrees (w.number here whole f) (constant_events here whole f) (c.value here f))
    → ((here : Known) → Agrees (w.number here whole g) (constant_events here whole g) (c.value here g))
    → Agrees (w.over known whole bs (λ here found.
    w.number here whole e >>= (λ x. w.number here whole f >>= (λ y. w.number here whole g >>= (λ z. done (((found ++ x ∷ []) ++ y ∷ []) ++ z ∷ []))))) [])
    (binding_events known (Some whole) bs (λ here. constant_events here whole e ++ (constant_events here whole f ++ constant_events here whole g)))
    (gathered (λ here. three (c.value here e) (c.value here f) (c.value here g)) (c.bindings known bs))
agree_three known whole bs e f g over a b d =
    agree_value (nothing_before _)
    (over _ (λ here. constant_events here whole e ++ (constant_events here whole f ++ constant_events here whole g)) (λ here. three (c.value here e) (c.value here f) (c.value here g))
    (λ here found.
    agree_bind (a here) (λ x p.
    agree_both (λ y z. ((found ++ x ∷ []) ++ y ∷ []) ++ z ∷ []) (b here) (d here) (λ y z q r.
    (λ i. option_map (λ xs. found ++ xs) (three (p i) (q i) (r i))) ∙ ap Some (three_more found x y z)))) [])

-- values that are found behind nothing
from_nothing : (known : Known) (whole : ℕ) (es : Trees)
    → Agrees (w.numbers known whole [] es) (all_events (Some whole) known es) (option_map (λ xs. [] ++ xs) (c.values known es))
    → Agrees (w.numbers known whole [] es) (all_events (Some whole) known es) (c.values known es)
from_nothing known whole es a = agree_value (nothing_before (c.values known es)) a

-- what two ends are, and what lies between them
between : (u v : Option ℤ) (ends : ℤ × ℤ) → ◌≡◌ {A = Option (ℤ × ℤ)} (both_of (λ a b. (a, b)) u v) (Some ends) → both_of up_to u v ≡ Some (up_to ends.0 ends.1)
between None v ends is = absurd (subst (λ o. T (is_some o)) (sym is) tt)
between (Some a) None ends is = absurd (subst (λ o. T (is_some o)) (sym is) tt)
between (Some a) (Some b) ends is = ap (λ (o : Option (ℤ × ℤ)). Some (up_to (unwrap_or o ends).0 (unwrap_or o ends).1)) is

ends_agree : (known : Known) (whole : Option ℕ) (lo hi : Tree)
    → Agrees (w.number known (unwrap_or whole (place_of lo)) lo) (constant_events known (unwrap_or whole (place_of lo)) lo) (c.value known lo)
    → Agrees (w.number known (unwrap_or whole (place_of hi)) hi) (constant_events known (unwrap_or whole (place_of hi)) hi) (c.value known hi)
    → Agrees (w.range_ends known whole lo hi) (range_events known whole (Ends lo hi)) (both_of (λ a b. (a, b)) (c.value known lo) (c.value known hi))
ends_agree known whole lo hi lower upper =
    agree_bind lower (λ a p.
    agree_bind upper (λ b q.
    subst (λ (v : Option ℤ × Option ℤ). Agrees (checked_between a b) (too_many codes.NUMBERS (count_between (unwrap_or v.0 (pos 0)) (unwrap_or v.1 (pos 0)))) (both_of (λ x y. (x, y)) v.0 v.1))
    (λ i. (sym p i, sym q i)) (agree_checked a b)))

mutual
  pub agree_number : (e : Tree) (known : Known) (whole : ℕ) → Agrees (w.number known whole e) (constant_events known whole e) (c.value known e)
  agree_number (Node at shape) known whole =
      agree_bind (agree_untested shape known whole) (λ x is.
      subst (λ v. Agrees (given whole v) (no_value (c.value known (Node at shape)) whole) (c.value known (Node at shape))) (here x is)
      (agree_given whole (c.value known (Node at shape))))
    where
      here : (x : Option ℤ) → Some (c.untested known shape) ≡ Some x → option_and_then within (c.untested known shape) ≡ option_and_then within x
      here x is = ap (λ o. option_and_then within (unwrap_or o None)) is

  agree_untested : (shape : Shape) (known : Known) (whole : ℕ) → Agrees (w.untested known whole shape) (inside_events (Some whole) known shape) (Some (c.untested known shape))
  agree_untested (t.Lit z) known whole = agree_done _ _ refl
  agree_untested (t.Name name) known whole = agree_done _ _ refl
  agree_untested (t.Index name es) known whole =
      agree_then (known_value known name) (from_nothing known whole es (agree_numbers es known whole [])) (λ xs is. ap (λ v. Some (option_and_then (known_value known name) v)) is)
  agree_untested (t.Call f e) known whole = agree_then (λ x. Some (called f x)) (agree_number e known whole) (λ x is. ap (λ v. Some (option_map (called f) v)) is)
  agree_untested (t.Add parts) known whole =
      agree_then (λ x. Some x) (agree_value (zero_before (c.sum_of known parts)) (agree_sum parts known whole (pos 0))) (λ x is. ap Some is)
  agree_untested (t.Mul first others) known whole =
      agree_then (λ x. Some x) (agree_bind (agree_number first known whole) (λ x is.
      subst (λ v. Agrees (w.product known whole x others) (factors_events (Some whole) known v others) (c.product_of known v others)) (sym is) (agree_product others known whole x)))
      (λ x is. ap Some is)
  agree_untested (t.Cmp op a b) known whole =
      agree_both (λ x y. Some (one_or_zero (compares op x y))) (agree_number a known whole) (agree_number b known whole)
      (λ x y p q i. Some (both_of (λ x' y'. one_or_zero (compares op x' y')) (p i) (q i)))
  agree_untested (t.Not e) known whole =
      agree_then (λ x. Some (one_or_zero (not (is_true x)))) (agree_number e known whole) (λ x is. ap (λ v. Some (option_map (λ x'. one_or_zero (not (is_true x'))) v)) is)
  agree_untested (t.And es) known whole =
      agree_then (λ xs. Some (one_or_zero (list_all is_true xs))) (from_nothing known whole es (agree_numbers es known whole []))
      (λ xs is. ap (λ v. Some (option_map (λ ys. one_or_zero (list_all is_true ys)) v)) is)
  agree_untested (t.Or es) known whole =
      agree_then (λ xs. Some (one_or_zero (list_any is_true xs))) (from_nothing known whole es (agree_numbers es known whole []))
      (λ xs is. ap (λ v. Some (option_map (λ ys. one_or_zero (list_any is_true ys)) v)) is)
  agree_untested (t.Implies a b) known whole =
      agree_both (λ x y. Some (one_or_zero (not (is_true x) || is_true y))) (agree_number a known whole) (agree_number b known whole)
      (λ x y p q i. Some (both_of (λ x' y'. one_or_zero (not (is_true x') || is_true y')) (p i) (q i)))
  agree_untested (t.Sum bs e) known whole =
      agree_then (λ xs. Some (total xs)) (agree_one known whole bs e (agree_over bs known whole) (λ here. agree_number e here whole))
      (λ xs is. ap (λ v. Some (option_map total v)) is)
  agree_untested (t.Selected which es) known whole =
      agree_then (extreme (chosen_by which)) (from_nothing known whole es (agree_numbers es known whole [])) (λ xs is. ap (λ v. Some (option_and_then (extreme (chosen_by which)) v)) is)
  agree_untested (t.AllDifferent bs e) known whole =
      agree_then (λ xs. Some (one_or_zero (all_distinct xs))) (agree_one known whole bs e (agree_over bs known whole) (λ here. agree_number e here whole))
      (λ xs is. ap (λ v. Some (option_map (λ ys. one_or_zero (all_distinct ys)) v)) is)
  agree_untested (t.Cumulative bs start duration demand capacity) known whole =
      agree_both (λ xs most. Some (one_or_zero (are_within most (tasks_of xs))))
      (agree_three known whole bs start duration demand (agree_over bs known whole) (λ here. agree_number start here whole) (λ here. agree_number duration here whole)
      (λ here. agree_number demand here whole))
      (agree_number capacity known whole)
      (λ xs most p q i. Some (both_of (λ tasks m. one_or_zero (are_within m tasks))
      ((sym (task_each (λ here. c.value here start) (λ here. c.value here duration) (λ here. c.value here demand) (c.bindings known bs)) ∙ ap (option_map tasks_of) p) i) (q i)))

  pub agree_numbers : (es : Trees) (known : Known) (whole : ℕ) (found : List ℤ)
      → Agrees (w.numbers known whole found es) (all_events (Some whole) known es) (option_map (λ xs. found ++ xs) (c.values known es))
  agree_numbers no_tree known whole found = agree_done found (Some (found ++ [])) (ap Some (append-nil found))
  agree_numbers (tree e es) known whole found =
      agree_bind (agree_number e known whole) (λ x is.
      agree_value
      (more_found found x (c.values known es) ∙ ap (λ v. option_map (λ xs. found ++ xs) (both_of (λ y ys. y ∷ ys) v (c.values known es))) (sym is))
      (agree_numbers es known whole (found ++ x ∷ [])))

  agree_sum : (parts : Terms) (known : Known) (whole : ℕ) (before : ℤ)
      → Agrees (w.sum known whole before parts) (terms_events (Some whole) known parts) (option_map (λ s. before +ℤ s) (c.sum_of known parts))
  agree_sum no_term known whole before = agree_done before (Some (before +ℤ pos 0)) (nothing_behind before)
  agree_sum (term minus e more) known whole before =
      agree_bind (agree_number e known whole) (λ x is.
      agree_value
      (more_added before (if minus then neg_ℤ x else x) (c.sum_of known more)
      ∙ ap (λ v. option_map (λ s. before +ℤ s) (both_of (λ y z. (if minus then neg_ℤ y else y) +ℤ z) v (c.sum_of known more))) (sym is))
      (agree_sum more known whole (before +ℤ (if minus then neg_ℤ x else x))))

  agree_product : (parts : Factors) (known : Known) (whole : ℕ) (before : ℤ)
      → Agrees (w.product known whole before parts) (factors_events (Some whole) known (Some before) parts) (c.product_of known (Some before) parts)
  agree_product no_factor known whole before = agree_done before (Some before) refl
  agree_product (factor op e more) known whole before =
      agree_bind_two (agree_number e known whole)
      (λ x is.
      subst (λ v. Agrees (given whole (option_and_then within (applied op before x))) (no_value v whole) v) (ap (applied_within op (Some before)) (sym is))
      (agree_given whole (option_and_then within (applied op before x))))
      (λ y is.
      subst (λ v. Agrees (w.product known whole y more) (factors_events (Some whole) known v more) (c.product_of known v more)) (sym is) (agree_product more known whole y))

  agree_over : (bs : Binders) (known : Known) (whole : ℕ) → Over known whole bs
  agree_over no_binder known whole body each result adds found =
      agree_value (ap (option_map (λ xs. found ++ xs)) (alone (result known))) (adds known found)
    where
      alone : (v : Option (List ℤ)) → v ≡ option_map joined (both_of (λ x xs. x ∷ xs) v (Some []))
      alone None = refl
      alone (Some xs) = ap Some (sym (append-nil xs))
  agree_over (binder name at range more) known whole body each result adds found =
      agree_bind (agree_range range known (Some whole)) (λ ns is.
      subst (λ v. Agrees (for_each (λ n xs. w.over (with_bound name n known) whole more body xs) ns found)
      (flat_map (λ n. Counted ∷ binding_events (with_bound name n known) (Some whole) more each) (unwrap_or v []))
      (option_map (λ xs. found ++ xs) (gathered result (option_and_then (λ numbers. option_map joined (all_of (λ n. c.bindings (with_bound name n known) more) numbers)) v))))
      (sym is)
      (agree_value (ap (option_map (λ xs. found ++ xs)) (gathered_all result (λ n. c.bindings (with_bound name n known) more) ns))
      (agree_each _ (λ n. binding_events (with_bound name n known) (Some whole) more each) (λ n. gathered result (c.bindings (with_bound name n known) more))
      (λ n xs. agree_over more (with_bound name n known) whole body each result adds xs) ns found)))

  pub agree_range : (range : Range) (known : Known) (whole : Option ℕ) → Agrees (w.range_numbers known whole range) (range_events known whole range) (c.numbers_of known range)
  agree_range (Named name at) known whole = agree_done _ _ refl
  agree_range (Ends lo hi) known whole =
      agree_then (λ (ends : ℤ × ℤ). up_to ends.0 ends.1)
      (ends_agree known whole lo hi (agree_number lo known (unwrap_or whole (place_of lo))) (agree_number hi known (unwrap_or whole (place_of hi))))
      (λ ends is. between (c.value known lo) (c.value known hi) ends is)

-- the ends of a range
pub agree_ends : (lo hi : Tree) (known : Known) (whole : Option ℕ)
    → Agrees (w.range_ends known whole lo hi) (range_events known whole (Ends lo hi)) (both_of (λ a b. (a, b)) (c.value known lo) (c.value known hi))
agree_ends lo hi known whole =
    ends_agree known whole lo hi (agree_number lo known (unwrap_or whole (place_of lo))) (agree_number hi known (unwrap_or whole (place_of hi)))
