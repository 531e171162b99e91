-- What a term is worth at a point is what the policy makes of the expression.
use Rattle.std.proofs.Common.{◌≡◌, ◌∙◌, refl, sym, ap, subst, ℕ, ℤ, pos, ◌+ℤ◌, ◌*ℤ◌, Bool, true, false, not, ◌&&◌, ◌||◌, List, [], ◌∷◌, ◌++◌, map, Option, Some, None, option_map}
use Rattle.std.proofs.Common.{option_and_then, if◌then◌else◌}
use Rattle.std.specs.List.{AllByRecursion, fold}
use Rattle.sopl_base.specs.Extremes.{chosen_by}
use Rattle.std.specs.Ordering.{int_eq}
use Rattle.sopl_base.specs.declared.extreme.Extreme.{Extreme}
use Rattle.sopl_ast.specs.declared.operators.Function.{Function}
use Rattle.sopl_ast.specs.declared.operators.Function.TheVariants.{Negative, Size}
use Rattle.sopl_ast.specs.declared.operators.MulOp.{MulOp}
use Rattle.sopl_ast.specs.declared.operators.MulOp.TheVariants.{Times, Div, Mod}
use Rattle.sopl_ast.specs.Tree as t
use Rattle.sopl_ast.specs.Tree.{Tree, Shape, Trees, Factors, Binders, Node, no_tree, tree, no_factor, factor}
use Rattle.sopl_ast.specs.Numbers as ast
use Rattle.sopl_ast.specs.Numbers.{all_of, or_else, Task, task_of}
use Rattle.sopl_ast.specs.Known.{Known, bound_value, constant_value}
use Rattle.sopl_ast.specs.Constants as constant
use Rattle.sopl_ast.specs.Constants.{all_bindings}
use Rattle.sopl_ast.specs.Meanings as meant
use Rattle.sopl_ast.specs.Meanings.{meaning, named_value, seen_value, decided_value, defined_values, fit}
use Rattle.term_language.specs.Terms as c
use Rattle.term_language.specs.declared.made.Operation.{Operation}
use Rattle.term_language.specs.declared.made.Operation.TheVariants as unary
use Rattle.term_language.specs.declared.made.Divisor.{Divisor}
use Rattle.term_language.specs.Arrays.{Entry, item_in, item_at}
use Rattle.term_language.specs.Ends.{size_of, made_of}
use Rattle.term_language.specs.Forms.{sign}
use Rattle.term_language.specs.Values.{TaskValues, all_distinct, compares, do_fit, holds_of, value, values, sum_value, holds, all_hold, any_holds, all_task_values, item_value, both_of}
use Rattle.compile_laws.specs.Instances.{Place, TaskTerms, knowing, places, bound_elements, constant_elements, seen_elements, decided_elements, elements, table_of, undefined}
use Rattle.compile_laws.specs.Instances.{item_term, named_term, terms_of, sum_of, tasks_of, function_of, extreme_of, divided, instance, shape_instance, instances, conditions, chain_instance}
use Rattle.compile_laws.specs.Instances.{product_instance}
use Rattle.compile_laws.specs.Laws.{IsArray, AreArrays, Agrees, Means, InstancesMean}
use Rattle.compile_laws.proofs.Agreeing.{truth_number, compared_so, part_so, negated_so, added_so, different_so, task_values, fit_so}
use Rattle.compile_laws.proofs.Lookups.{bound_is, constant_is, seen_is, item_append, bound_none}
use Rattle.compile_laws.proofs.Places.{Keeps, constants_kept}

-- a number, and a condition
number_means : (point : List ℤ) (x : c.Term) (v : Option ℤ) → value point x ≡ v → Means point (record { term = x; cond = c.Any c.no_cond }) (meant.number v)
number_means point x v is = record { value = is; truth = refl }

condition_means : (point : List ℤ) (x : c.Cond) (b : Bool) → holds point x ≡ b → Means point (record { term = c.Number x; cond = x }) (meant.condition b)
condition_means point x b is = record { value = ap Some (truth_number (holds point x) ∙ ap ast.one_or_zero is); truth = is }

-- Names.

or_else_map : {A B : Type 0} (f : A → B) (a b : Option A) → option_map f (or_else a b) ≡ or_else (option_map f a) (option_map f b)
or_else_map f None b = refl
or_else_map f (Some x) b = refl

fixed_back : (point : List ℤ) (o : Option ℤ) → option_map (item_value point) (option_map c.Fixed o) ≡ o
fixed_back point None = refl
fixed_back point (Some z) = refl

or_else_assoc : {A : Type 0} (a b d : Option A) → or_else (or_else a b) d ≡ or_else a (or_else b d)
or_else_assoc None b d = refl
or_else_assoc (Some x) b d = refl

-- what stands at an index of a declared name
declared_is : (place : Place) (other : meant.Place) (point : List ℤ) → Agrees place other point → (name : List ℕ) (index : List ℤ)
    → option_map (item_value point) (item_in (elements place name) index)
    ≡ or_else (constant_value name index other.known.constants) (or_else (seen_value name index other.stochastics other.scenario) (decided_value name index other))
declared_is place other point a name index =
    ap (option_map (item_value point)) (item_append constants (seen ++ decided) index)
    ∙ (or_else_map (item_value point) (item_in constants index) (item_in (seen ++ decided) index)
    ∙ (λ i. or_else (constants_are i) (later i)))
  where
    constants : List Entry
    constants = constant_elements name place.known.constants

    seen : List Entry
    seen = seen_elements name place.stochastics place.scenario

    decided : List Entry
    decided = decided_elements name place.decisions place.cells

    constants_are : option_map (item_value point) (item_in constants index) ≡ constant_value name index other.known.constants
    constants_are =
        ap (option_map (item_value point)) (constant_is name index place.known.constants)
        ∙ (fixed_back point (constant_value name index place.known.constants)
        ∙ sym (ap (λ (k : Known). constant_value name index k.constants) a.known))

    seen_are : option_map (item_value point) (item_in seen index) ≡ seen_value name index other.stochastics other.scenario
    seen_are =
        ap (option_map (item_value point)) (seen_is name index place.stochastics place.scenario)
        ∙ (fixed_back point (seen_value name index place.stochastics place.scenario)
        ∙ (λ i. seen_value name index (sym a.stochastics i) (sym a.scenario i)))

    later : option_map (item_value point) (item_in (seen ++ decided) index) ≡ or_else (seen_value name index other.stochastics other.scenario) (decided_value name index other)
    later =
        ap (option_map (item_value point)) (item_append seen decided index)
        ∙ (or_else_map (item_value point) (item_in seen index) (item_in decided index)
        ∙ (λ i. or_else (seen_are i) (sym (a.decided name index) i)))

item_means : (point : List ℤ) (o : Option c.Item) → value point (item_term o) ≡ option_map (item_value point) o
item_means point None = refl
item_means point (Some (c.Fixed z)) = refl
item_means point (Some (c.Free cell)) = refl

name_means : (place : Place) (other : meant.Place) (point : List ℤ) → Agrees place other point → (name : List ℕ) → value point (named_term place name) ≡ named_value other name []
name_means place other point a name =
    item_means point (item_in (bound ++ elements place name) [])
    ∙ (ap (option_map (item_value point)) (item_append bound (elements place name) [])
    ∙ (or_else_map (item_value point) (item_in bound []) (item_in (elements place name) [])
    ∙ ((λ i. or_else (bound_are i) (declared_is place other point a name [] i))
    ∙ sym (or_else_assoc (bound_value name [] other.known.bound) (constant_value name [] other.known.constants) _))))
  where
    bound : List Entry
    bound = bound_elements name place.known.bound

    bound_are : option_map (item_value point) (item_in bound []) ≡ bound_value name [] other.known.bound
    bound_are =
        ap (option_map (item_value point)) (bound_is name [] place.known.bound)
        ∙ (fixed_back point (bound_value name [] place.known.bound)
        ∙ sym (ap (λ (k : Known). bound_value name [] k.bound) a.known))

-- an element at an index, which is not empty
indexed_is : (place : Place) (other : meant.Place) (point : List ℤ) → Agrees place other point → AreArrays place → (name : List ℕ) (x : ℤ) (xs : List ℤ)
    → option_map (item_value point) (item_at (table_of (elements place name)) (x ∷ xs)) ≡ named_value other name (x ∷ xs)
indexed_is place other point a arrays name x xs =
    ap (option_map (item_value point)) (arrays name (x ∷ xs))
    ∙ (declared_is place other point a name (x ∷ xs)
    ∙ sym (ap (λ o. or_else (or_else o (constant_value name (x ∷ xs) other.known.constants)) (or_else (seen_value name (x ∷ xs) other.stochastics other.scenario) (decided_value name (x ∷ xs) other)))
    (bound_none name x xs other.known.bound)))

element_means : (place : Place) (other : meant.Place) (point : List ℤ) → Agrees place other point → AreArrays place → (name : List ℕ) (first : Option ℤ) (later : Option (List ℤ))
    → option_map (item_value point) (option_and_then (item_at (table_of (elements place name))) (both_of (λ x xs. x ∷ xs) first later))
    ≡ option_and_then (named_value other name) (ast.both_of (λ x xs. x ∷ xs) first later)
element_means place other point a arrays name None later = refl
element_means place other point a arrays name (Some x) None = refl
element_means place other point a arrays name (Some x) (Some xs) = indexed_is place other point a arrays name x xs

-- Operations.

called_means : (f : Function) (point : List ℤ) (a : c.Term) (v : Option ℤ) → value point a ≡ v → value point (function_of f a) ≡ option_map (ast.called f) v
called_means Negative point a v is = ap (λ o. both_of (λ x y. sign true *ℤ x +ℤ y) o (Some (pos 0))) is ∙ negated_so v
called_means Size point a v is = ap (option_map size_of) is

-- a division by a number that is there, and by none
module _ (how : MulOp) (make : Divisor → Operation)
    (law : (x z : ℤ) → ◌≡◌ {A = Option ℤ} (if int_eq z (pos 0) then None else Some (made_of (make (record { number = z })) x)) (ast.applied how x z))
    (point : List ℤ) (before : c.Term) where
  pub divided_means : (b : Option ℤ) → value point before ≡ b → (d : Option ℤ) → value point (divided make before d) ≡ meant.divided how b d
  divided_means None is None = refl
  divided_means (Some x) is None = refl
  divided_means b is (Some z) = by_test (int_eq z (pos 0)) ∙ (λ i. option_and_then (λ x. law x z i) b)
    where
      by_some : (b : Option ℤ) → option_map (made_of (make (record { number = z }))) b
          ≡ option_and_then (λ x. if false then None else Some (made_of (make (record { number = z })) x)) b
      by_some None = refl
      by_some (Some x) = refl

      none_some : (b : Option ℤ) → None ≡ option_and_then (λ x. if true then None else Some (made_of (make (record { number = z })) x)) b
      none_some None = refl
      none_some (Some x) = refl

      by_test : (t : Bool) → value point (if t then undefined else c.Made (make (record { number = z })) before)
          ≡ option_and_then (λ x. if t then None else Some (made_of (make (record { number = z })) x)) b
      by_test true = none_some b
      by_test false = ap (option_map (made_of (make (record { number = z })))) is ∙ by_some b

extreme_means : (which : Extreme) (point : List ℤ) (ts : c.Terms) → value point (extreme_of which ts) ≡ option_and_then (ast.extreme (chosen_by which)) (values point ts)
extreme_means which point c.no_term = refl
extreme_means which point (c.term x later) = by_values (value point x) (values point later)
  where
    by_values : (a : Option ℤ) (b : Option (List ℤ)) → both_of (λ x xs. fold (chosen_by which) x xs) a b ≡ option_and_then (ast.extreme (chosen_by which)) (both_of (λ x xs. x ∷ xs) a b)
    by_values None b = refl
    by_values (Some x) None = refl
    by_values (Some x) (Some xs) = refl

-- Lists over binders.

abbrev IsValue : List ℤ → Place → meant.Place → Tree → Type 0
IsValue point place other e = value point (instance place e).term ≡ (meaning other e).value

values_over : (point : List ℤ) (place : Place) (other : meant.Place) (e : Tree) (ks : List Known)
    → AllByRecursion (λ k. IsValue point (knowing place k) (meant.knowing other k) e) ks
    → values point (terms_of (map (λ here. (instance here e).term) (map (knowing place) ks))) ≡ all_of (λ here. (meaning here e).value) (map (meant.knowing other) ks)
values_over point place other e [] all = refl
values_over point place other e (k ∷ ks) all = λ i. both_of (λ x xs. x ∷ xs) (all.0 i) (values_over point place other e ks all.1 i)

sum_over : (point : List ℤ) (place : Place) (other : meant.Place) (e : Tree) (ks : List Known)
    → AllByRecursion (λ k. IsValue point (knowing place k) (meant.knowing other k) e) ks
    → sum_value point (sum_of (map (λ here. (instance here e).term) (map (knowing place) ks))) ≡ option_map ast.total (all_of (λ here. (meaning here e).value) (map (meant.knowing other) ks))
sum_over point place other e [] all = refl
sum_over point place other e (k ∷ ks) all =
    added_so (value point (instance (knowing place k) e).term) (sum_value point (sum_of (map (λ here. (instance here e).term) (map (knowing place) ks))))
    ∙ ((λ i. ast.both_of (λ x y. x +ℤ y) (all.0 i) (sum_over point place other e ks all.1 i))
    ∙ by_options ((meaning (meant.knowing other k) e).value) (all_of (λ here. (meaning here e).value) (map (meant.knowing other) ks)))
  where
    by_options : (a : Option ℤ) (b : Option (List ℤ)) → ast.both_of (λ x y. x +ℤ y) a (option_map ast.total b) ≡ option_map ast.total (ast.both_of (λ x xs. x ∷ xs) a b)
    by_options None b = refl
    by_options (Some x) None = refl
    by_options (Some x) (Some xs) = refl

-- a task of three that agree
record IsTask (point : List ℤ) (place : Place) (other : meant.Place) (start duration demand : Tree) : Type 0 where
  starts : IsValue point place other start
  lasts : IsValue point place other duration
  asks : IsValue point place other demand

abbrev task_terms : Tree → Tree → Tree → Place → TaskTerms
task_terms start duration demand here = record { start = (instance here start).term; duration = (instance here duration).term; demand = (instance here demand).term }

abbrev task_meant : Tree → Tree → Tree → meant.Place → Option Task
task_meant start duration demand here = task_of (meaning here start).value (meaning here duration).value (meaning here demand).value

abbrev three : Option ℤ → Option ℤ → Option ℤ → Option TaskValues
three s l d = option_and_then (λ x. both_of (λ y z. record { start = x; duration = y; demand = z }) l d) s

three_so : (s l d : Option ℤ) → three s l d ≡ option_map task_values (task_of s l d)
three_so None l d = refl
three_so (Some s) None d = refl
three_so (Some s) (Some l) None = refl
three_so (Some s) (Some l) (Some d) = refl

tasks_over : (point : List ℤ) (place : Place) (other : meant.Place) (start duration demand : Tree) (ks : List Known)
    → AllByRecursion (λ k. IsTask point (knowing place k) (meant.knowing other k) start duration demand) ks
    → all_task_values point (tasks_of (map (task_terms start duration demand) (map (knowing place) ks)))
    ≡ option_map (map task_values) (all_of (task_meant start duration demand) (map (meant.knowing other) ks))
tasks_over point place other start duration demand [] all = refl
tasks_over point place other start duration demand (k ∷ ks) all =
    (λ i. both_of (λ x xs. x ∷ xs) (three (all.0.starts i) (all.0.lasts i) (all.0.asks i)) (tasks_over point place other start duration demand ks all.1 i))
    ∙ (ap (λ o. both_of (λ x xs. x ∷ xs) o (option_map (map task_values) rest))
    (three_so (meaning (meant.knowing other k) start).value (meaning (meant.knowing other k) duration).value (meaning (meant.knowing other k) demand).value)
    ∙ by_options (task_meant start duration demand (meant.knowing other k)) rest)
  where
    rest : Option (List Task)
    rest = all_of (task_meant start duration demand) (map (meant.knowing other) ks)

    by_options : (a : Option Task) (b : Option (List Task)) → both_of (λ x xs. x ∷ xs) (option_map task_values a) (option_map (map task_values) b)
        ≡ option_map (map task_values) (ast.both_of (λ x xs. x ∷ xs) a b)
    by_options None b = refl
    by_options (Some x) None = refl
    by_options (Some x) (Some xs) = refl

-- tasks and a capacity that agree
cumulative_means : (point : List ℤ) (tasks : c.Tasks) (most : c.Term) (ts : Option (List Task)) (capacity : Option ℤ) → all_task_values point tasks ≡ option_map (map task_values) ts
    → value point most ≡ capacity → holds point (c.Cumulative tasks most) ≡ fit ts capacity
cumulative_means point tasks most ts capacity are is = (λ i. holds_of (λ fits. fits) (both_of do_fit (are i) (is i))) ∙ fit_so ts capacity

-- Places under binders.

knowing_agrees : (place : Place) (other : meant.Place) (point : List ℤ) → Agrees place other point → (k : Known) → Agrees (knowing place k) (meant.knowing other k) point
knowing_agrees place other point a k = record { known = refl; stochastics = a.stochastics; scenario = a.scenario; decided = a.decided }

knowing_arrays : (place : Place) → AreArrays place → (k : Known) → k.constants ≡ place.known.constants → AreArrays (knowing place k)
knowing_arrays place arrays k same =
    λ name. subst (λ ks. IsArray (constant_elements name ks ++ (seen_elements name place.stochastics place.scenario ++ decided_elements name place.decisions place.cells))) (sym same) (arrays name)

-- a property of each of the places for binders
each_place : (P : Known → Type 0) (place : Place) (ks : List Known) → AllByRecursion (Keeps place.known.constants) ks → ((k : Known) → k.constants ≡ place.known.constants → P k)
    → AllByRecursion P ks
each_place P place [] kept each = tt
each_place P place (k ∷ ks) kept each = (each k kept.0, each_place P place ks kept.1 each)

same_bindings : (place : Place) (other : meant.Place) (point : List ℤ) → Agrees place other point → (bs : Binders) → all_bindings other.known bs ≡ all_bindings place.known bs
same_bindings place other point a bs = ap (λ k. all_bindings k bs) a.known

mutual
  means : (place : Place) (other : meant.Place) (point : List ℤ) → Agrees place other point → AreArrays place → (e : Tree) → Means point (instance place e) (meaning other e)
  means place other point a arrays (Node at shape) = shape_means place other point a arrays shape

  shape_means : (place : Place) (other : meant.Place) (point : List ℤ) → Agrees place other point → AreArrays place → (shape : Shape)
      → Means point (shape_instance place shape) (meant.shape_meaning other shape)
  shape_means place other point a arrays (t.Lit z) = record { value = refl; truth = refl }
  shape_means place other point a arrays (t.Name name) = number_means point _ _ (name_means place other point a name)
  shape_means place other point a arrays (t.Index name no_tree) = number_means point _ _ (name_means place other point a name)
  shape_means place other point a arrays (t.Index name (tree e es)) =
      number_means point _ _
      (ap (λ o. option_map (item_value point) (option_and_then (item_at (table_of (elements place name))) o))
      (λ i. both_of (λ x xs. x ∷ xs) ((means place other point a arrays e).value i) (all_means place other point a arrays es i))
      ∙ element_means place other point a arrays name (meaning other e).value (defined_values other es))
  shape_means place other point a arrays (t.Call f e) =
      number_means point _ _ (called_means f point (instance place e).term (meaning other e).value (means place other point a arrays e).value)
  shape_means place other point a arrays (t.Add parts) = number_means point _ _ (chain_means place other point a arrays parts)
  shape_means place other point a arrays (t.Mul first others) =
      number_means point _ _ (product_means place other point a arrays (instance place first).term (meaning other first).value (means place other point a arrays first).value others)
  shape_means place other point a arrays (t.Cmp op x y) =
      condition_means point _ _
      (ap (λ (o : Option ℤ × Option ℤ). holds_of (λ same. same) (both_of (compares op) o.0 o.1)) (λ i. ((means place other point a arrays x).value i, (means place other point a arrays y).value i))
      ∙ compared_so op (meaning other x).value (meaning other y).value)
  shape_means place other point a arrays (t.Not e) = condition_means point _ _ (ap not (means place other point a arrays e).truth)
  shape_means place other point a arrays (t.And es) = condition_means point _ _ (all_true_means place other point a arrays es)
  shape_means place other point a arrays (t.Or es) = condition_means point _ _ (some_true_means place other point a arrays es)
  shape_means place other point a arrays (t.Implies x y) =
      condition_means point _ _ (λ i. not ((means place other point a arrays x).truth i) || (means place other point a arrays y).truth i)
  shape_means place other point a arrays (t.Sum bs e) =
      number_means point _ _
      (sum_over point place other e (all_bindings place.known bs)
      (each_place (λ k. IsValue point (knowing place k) (meant.knowing other k) e) place (all_bindings place.known bs) (constants_kept place.known.constants bs place.known refl)
      (λ k same. (means (knowing place k) (meant.knowing other k) point (knowing_agrees place other point a k) (knowing_arrays place arrays k same) e).value))
      ∙ ap (λ ks. option_map ast.total (all_of (λ here. (meaning here e).value) (map (meant.knowing other) ks))) (sym (same_bindings place other point a bs)))
  shape_means place other point a arrays (t.Selected which es) =
      number_means point _ _ (extreme_means which point (instances place es) ∙ ap (option_and_then (ast.extreme (chosen_by which))) (all_means place other point a arrays es))
  shape_means place other point a arrays (t.AllDifferent bs e) =
      condition_means point _ _
      (ap (holds_of all_distinct)
      (values_over point place other e (all_bindings place.known bs)
      (each_place (λ k. IsValue point (knowing place k) (meant.knowing other k) e) place (all_bindings place.known bs) (constants_kept place.known.constants bs place.known refl)
      (λ k same. (means (knowing place k) (meant.knowing other k) point (knowing_agrees place other point a k) (knowing_arrays place arrays k same) e).value))
      ∙ ap (λ ks. all_of (λ here. (meaning here e).value) (map (meant.knowing other) ks)) (sym (same_bindings place other point a bs)))
      ∙ different_so (all_of (λ here. (meaning here e).value) (meant.places other bs)))
  shape_means place other point a arrays (t.Cumulative bs start duration demand capacity) =
      condition_means point _ _
      (cumulative_means point (tasks_of (map (task_terms start duration demand) (places place bs))) (instance place capacity).term
      (all_of (task_meant start duration demand) (meant.places other bs)) (meaning other capacity).value
      (tasks_over point place other start duration demand (all_bindings place.known bs)
      (each_place (λ k. IsTask point (knowing place k) (meant.knowing other k) start duration demand) place (all_bindings place.known bs) (constants_kept place.known.constants bs place.known refl)
      (λ k same.
      record {
        starts = (means (knowing place k) (meant.knowing other k) point (knowing_agrees place other point a k) (knowing_arrays place arrays k same) start).value;
        lasts = (means (knowing place k) (meant.knowing other k) point (knowing_agrees place other point a k) (knowing_arrays place arrays k same) duration).value;
        asks = (means (knowing place k) (meant.knowing other k) point (knowing_agrees place other point a k) (knowing_arrays place arrays k same) demand).value;
      }))
      ∙ ap (λ ks. option_map (map task_values) (all_of (task_meant start duration demand) (map (meant.knowing other) ks))) (sym (same_bindings place other point a bs)))
      (means place other point a arrays capacity).value)

  all_means : (place : Place) (other : meant.Place) (point : List ℤ) → Agrees place other point → AreArrays place → (es : Trees) → values point (instances place es) ≡ defined_values other es
  all_means place other point a arrays no_tree = refl
  all_means place other point a arrays (tree e es) = λ i. both_of (λ x xs. x ∷ xs) ((means place other point a arrays e).value i) (all_means place other point a arrays es i)

  all_true_means : (place : Place) (other : meant.Place) (point : List ℤ) → Agrees place other point → AreArrays place → (es : Trees) → all_hold point (conditions place es) ≡ meant.all_true other es
  all_true_means place other point a arrays no_tree = refl
  all_true_means place other point a arrays (tree e es) = λ i. (means place other point a arrays e).truth i && all_true_means place other point a arrays es i

  some_true_means : (place : Place) (other : meant.Place) (point : List ℤ) → Agrees place other point → AreArrays place → (es : Trees) → any_holds point (conditions place es)
      ≡ meant.some_true other es
  some_true_means place other point a arrays no_tree = refl
  some_true_means place other point a arrays (tree e es) = λ i. (means place other point a arrays e).truth i || some_true_means place other point a arrays es i

  chain_means : (place : Place) (other : meant.Place) (point : List ℤ) → Agrees place other point → AreArrays place → (parts : t.Terms) → sum_value point (chain_instance place parts)
      ≡ meant.sum_value other parts
  chain_means place other point a arrays t.no_term = refl
  chain_means place other point a arrays (t.term minus e later) =
      (λ i. both_of (λ x y. sign minus *ℤ x +ℤ y) ((means place other point a arrays e).value i) (chain_means place other point a arrays later i))
      ∙ part_so minus (meaning other e).value (meant.sum_value other later)

  product_means : (place : Place) (other : meant.Place) (point : List ℤ) → Agrees place other point → AreArrays place → (before : c.Term) (b : Option ℤ) → value point before ≡ b → (others : Factors)
      → value point (product_instance place before others) ≡ meant.product_value other b others
  product_means place other point a arrays before b is no_factor = is
  product_means place other point a arrays before b is (factor Times e later) =
      product_means place other point a arrays (c.Product before (instance place e).term) (ast.both_of ◌*ℤ◌ b (meaning other e).value)
      (λ i. both_of (λ x y. x *ℤ y) (is i) ((means place other point a arrays e).value i)) later
  product_means place other point a arrays before b is (factor Div e later) =
      product_means place other point a arrays (divided unary.Quotient before (constant.value place.known e)) (meant.divided Div b (constant.value other.known e))
      (divided_means Div unary.Quotient (λ x z. refl) point before b is (constant.value place.known e) ∙ ap (λ (k : Known). meant.divided Div b (constant.value k e)) (sym a.known)) later
  product_means place other point a arrays before b is (factor Mod e later) =
      product_means place other point a arrays (divided unary.Remainder before (constant.value place.known e)) (meant.divided Mod b (constant.value other.known e))
      (divided_means Mod unary.Remainder (λ x z. refl) point before b is (constant.value place.known e) ∙ ap (λ (k : Known). meant.divided Mod b (constant.value k e)) (sym a.known)) later

pub instances_mean : InstancesMean
instances_mean = means
