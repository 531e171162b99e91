-- Each refusal that stops an unfolding has a code above 104.
use Rattle.std.proofs.Common.{◌≡◌, ℕ, ◌+◌, ◌<◌, nat_eq, nat_le, nat_lt, ℤ, pos, int_le, int_eq, Bool, true, false, not, ◌&&◌, cond, List, [], ◌∷◌, ◌++◌, length}
use Rattle.std.proofs.Common.{Option, Some, None, Result, Ok, Err, arith, subst}
use Rattle.std.specs.List.{AllByRecursion, flat_map, list_any}
use Rattle.std.specs.Option.{unwrap_or}
use Rattle.sopl_base.specs.declared.fault.Excess.{Excess}
use Rattle.sopl_base.specs.declared.fault.Fault.{Fault}
use Rattle.sopl_base.specs.declared.fault.Fault.TheVariants.{Text, Limit}
use Rattle.sopl_base.specs.declared.fault.Refusal.{Refusal}
use Rattle.sopl_base.proofs.Lists.{all_append}
use Rattle.sopl_base.specs.declared.codes.TheConstants as codes
use Rattle.sopl_base.specs.declared.limits.TheConstants as largest
use Rattle.sopl_ast.specs.declared.operators.MulOp.TheVariants.{Times, Div, Mod}
use Rattle.sopl_ast.specs.Tree as t
use Rattle.sopl_ast.specs.Tree.{Tree, Shape, Trees, Terms, Factors, Binders, Range, Node, no_tree, tree, no_term, term, no_factor, factor, no_binder, binder, Named, Ends, place_of}
use Rattle.sopl_ast.specs.Whole.{DimTree, InitTree, InitTrees, One, Many, no_init, init, inits_list, Declaration, IntDecl, RangeDecl, SetDecl, DvarDecl, StochDecl}
use Rattle.sopl_ast.specs.Whole.{ConsTree, ConsTrees, ForallTree, BlockTree, HardTree, ChanceTree, no_cons, cons, conses, GoalTree, ModelTree}
use Rattle.sopl_ast.specs.Numbers.{count_between}
use Rattle.sopl_ast.specs.Known.{Known, with_bound}
use Rattle.sopl_ast.specs.Constants.{applied_within, value, value_or_zero, numbers_in}
use Rattle.sopl_ast.specs.UnfoldEvents.{UnfoldEvent, Counted, Refused, Passed, excess, first_failure, most_counted, refused_unless, no_value, most_numbers, too_many}
use Rattle.sopl_ast.specs.UnfoldEvents.{events_in, inside_events, all_events, terms_events, factors_events, binding_events, range_events, constant_place, is_zero, expression_events}
use Rattle.sopl_ast.specs.Arrays.{Dimension, dimensions_of, indices, taking, with_index, dimension_events, array_events}
use Rattle.sopl_ast.specs.Declarations.{Declared, nothing_declared, init_events, inits_events, set_of, constant_places, stage_events, domain_of, domain_events, outcome_events}
use Rattle.sopl_ast.specs.Declarations.{behind, declaration_events, behind_all, declarations_events}
use Rattle.sopl_ast.specs.Unfolding.{is_threshold, threshold_events, constraint_events, constraints_events, goal_events, body_events, text_events}
use Rattle.parse_laws.proofs.MistakeCodes.{IsAboveSpelling}

-- where something is refused, it is by such a code
abbrev RefusesAbove : UnfoldEvent → Type 0
RefusesAbove Counted = Unit {0}
RefusesAbove (Refused refusal) = IsAboveSpelling refusal
RefusesAbove (Passed passed) = Unit {0}

-- so does each of these
record AllRefuseAbove (events : List UnfoldEvent) : Type 0 where
  each : AllByRecursion RefusesAbove events

no_event : AllRefuseAbove []
no_event = record { each = tt }

both : (xs ys : List UnfoldEvent) → AllRefuseAbove xs → AllRefuseAbove ys → AllRefuseAbove (xs ++ ys)
both xs ys one two = record { each = all_append RefusesAbove xs ys one.each two.each }

counted_above : (events : List UnfoldEvent) → AllRefuseAbove events → AllRefuseAbove (Counted ∷ events)
counted_above events all = record { each = (tt, all.each) }

each_above : {A : Type 0} (f : A → List UnfoldEvent) (xs : List A) → ((x : A) → AllRefuseAbove (f x)) → AllRefuseAbove (flat_map f xs)
each_above f [] all = no_event
each_above f (x ∷ xs) all = both (f x) (flat_map f xs) (all x) (each_above f xs all)

unless_above : (b : Bool) (code at : ℕ) → codes.SYNTAX < code → AllRefuseAbove (refused_unless b code at)
unless_above true code at above = no_event
unless_above false code at above = record { each = (above, tt) }

no_value_above : (v : Option ℤ) (at : ℕ) → AllRefuseAbove (no_value v at)
no_value_above None at = record { each = (omega arith, tt) }
no_value_above (Some x) at = no_event

too_many_above : (code count : ℕ) → AllRefuseAbove (too_many code count)
too_many_above code count = on (nat_le count most_numbers)
  where
    on : (b : Bool) → AllRefuseAbove (cond b [] (Passed (excess code (pos count) (pos most_numbers)) ∷ []))
    on true = no_event
    on false = record { each = (tt, tt) }

zero_above : (known : Known) (e : Tree) → AllRefuseAbove (refused_unless (not (is_zero (value known e))) codes.UNDEFINED (place_of e))
zero_above known e = unless_above (not (is_zero (value known e))) codes.UNDEFINED (place_of e) (omega arith)

-- Expressions.

mutual
  events_above : (whole : Option ℕ) (known : Known) (e : Tree) → AllRefuseAbove (events_in whole known e)
  events_above None known (Node at shape) = inside_above None known shape
  events_above (Some whole) known (Node at shape) = both _ _ (inside_above (Some whole) known shape) (no_value_above (value known (Node at shape)) whole)

  inside_above : (whole : Option ℕ) (known : Known) (shape : Shape) → AllRefuseAbove (inside_events whole known shape)
  inside_above whole known (t.Lit z) = no_event
  inside_above whole known (t.Name name) = no_event
  inside_above whole known (t.Index name es) = all_above whole known es
  inside_above whole known (t.Call f e) = events_above whole known e
  inside_above whole known (t.Add parts) = terms_above whole known parts
  inside_above whole known (t.Mul first others) = both _ _ (events_above whole known first) (factors_above whole known (value known first) others)
  inside_above whole known (t.Cmp op a b) = both _ _ (events_above whole known a) (events_above whole known b)
  inside_above whole known (t.Not e) = events_above whole known e
  inside_above whole known (t.And es) = all_above whole known es
  inside_above whole known (t.Or es) = all_above whole known es
  inside_above whole known (t.Implies a b) = both _ _ (events_above whole known a) (events_above whole known b)
  inside_above whole known (t.Sum bs e) = binding_above known whole bs (λ here. events_in whole here e) (λ here. events_above whole here e)
  inside_above whole known (t.Selected which es) = all_above whole known es
  inside_above whole known (t.AllDifferent bs e) = binding_above known whole bs (λ here. events_in whole here e) (λ here. events_above whole here e)
  inside_above whole known (t.Cumulative bs start duration demand capacity) =
      both _ _
      (binding_above known whole bs (λ here. events_in whole here start ++ (events_in whole here duration ++ events_in whole here demand))
      (λ here. both _ _ (events_above whole here start) (both _ _ (events_above whole here duration) (events_above whole here demand))))
      (events_above whole known capacity)

  all_above : (whole : Option ℕ) (known : Known) (es : Trees) → AllRefuseAbove (all_events whole known es)
  all_above whole known no_tree = no_event
  all_above whole known (tree e es) = both _ _ (events_above whole known e) (all_above whole known es)

  terms_above : (whole : Option ℕ) (known : Known) (parts : Terms) → AllRefuseAbove (terms_events whole known parts)
  terms_above whole known no_term = no_event
  terms_above whole known (term minus e more) = both _ _ (events_above whole known e) (terms_above whole known more)

  factors_above : (whole : Option ℕ) (known : Known) (before : Option ℤ) (others : Factors) → AllRefuseAbove (factors_events whole known before others)
  factors_above whole known before no_factor = no_event
  factors_above (Some whole) known before (factor op e more) =
      both _ _ (events_above (Some whole) known e)
      (both _ _ (no_value_above (applied_within op before (value known e)) whole) (factors_above (Some whole) known (applied_within op before (value known e)) more))
  factors_above None known before (factor Times e more) = both _ _ (events_above None known e) (factors_above None known before more)
  factors_above None known before (factor Div e more) = both _ _ (both _ _ (events_above (Some (place_of e)) known e) (zero_above known e)) (factors_above None known before more)
  factors_above None known before (factor Mod e more) = both _ _ (both _ _ (events_above (Some (place_of e)) known e) (zero_above known e)) (factors_above None known before more)

  binding_above : (known : Known) (whole : Option ℕ) (bs : Binders) (each : Known → List UnfoldEvent) → ((here : Known) → AllRefuseAbove (each here))
      → AllRefuseAbove (binding_events known whole bs each)
  binding_above known whole no_binder each all = all known
  binding_above known whole (binder name at range more) each all =
      both _ _ (range_above known whole range)
      (each_above (λ number. Counted ∷ binding_events (with_bound name number known) whole more each) (numbers_in known range)
      (λ number. counted_above _ (binding_above (with_bound name number known) whole more each all)))

  range_above : (known : Known) (whole : Option ℕ) (range : Range) → AllRefuseAbove (range_events known whole range)
  range_above known whole (Named name at) = no_event
  range_above known whole (Ends lo hi) =
      both _ _ (events_above (Some (unwrap_or whole (place_of lo))) known lo)
      (both _ _ (events_above (Some (unwrap_or whole (place_of hi))) known hi) (too_many_above codes.NUMBERS (count_between (value_or_zero known lo) (value_or_zero known hi))))

place_above : (known : Known) (e : Tree) → AllRefuseAbove (constant_place known e)
place_above known e = events_above (Some (place_of e)) known e

expression_above : (known : Known) (e : Tree) → AllRefuseAbove (expression_events known e)
expression_above known e = events_above None known e

-- Declarations.

dimension_above : (known : Known) (dims : List DimTree) → AllRefuseAbove (dimension_events known dims)
dimension_above known dims = each_above (λ (d : DimTree). range_events known None d.range) dims (λ d. range_above known None d.range)

array_above : (known : Known) (dims : List DimTree) (each : Known → List UnfoldEvent) → ((here : Known) → AllRefuseAbove (each here)) → AllRefuseAbove (array_events known dims each)
array_above known dims each all =
    both _ _ (dimension_above known dims)
    (each_above (λ index. Counted ∷ each (with_index (dimensions_of known dims) index known)) (indices (dimensions_of known dims))
    (λ index. counted_above _ (all (with_index (dimensions_of known dims) index known))))

mutual
  init_above : (known : Known) (ds : List Dimension) (x : InitTree) → AllRefuseAbove (init_events known ds x)
  init_above known ds (One e) =
      each_above (λ index. Counted ∷ constant_place (with_index ds index known) e) (indices ds) (λ index. counted_above _ (place_above (with_index ds index known) e))
  init_above known [] (Many at parts) = no_event
  init_above known (d ∷ ds) (Many at parts) =
      both _ _ (unless_above (nat_eq (length (inits_list parts)) (length d.numbers)) codes.BRACKET_LENGTH at (omega arith)) (inits_above known d.name ds d.numbers parts)

  inits_above : (known : Known) (name : Option (List ℕ)) (ds : List Dimension) (numbers : List ℤ) (parts : InitTrees) → AllRefuseAbove (inits_events known name ds numbers parts)
  inits_above known name ds numbers no_init = no_event
  inits_above known name ds [] (init x xs) = no_event
  inits_above known name ds (number ∷ numbers) (init x xs) = both _ _ (init_above (taking name number known) ds x) (inits_above known name ds numbers xs)

places_above : (known : Known) (elements : Trees) → AllRefuseAbove (constant_places known elements)
places_above known no_tree = no_event
places_above known (tree e es) = both _ _ (place_above known e) (places_above known es)

stage_above : (known : Known) (stage : Option Tree) → AllRefuseAbove (stage_events known stage)
stage_above known None = no_event
stage_above known (Some e) =
    both _ _ (place_above known e) (unless_above (int_le (pos 1) (value_or_zero known e) && int_le (value_or_zero known e) (pos largest.STAGE)) codes.STAGE (place_of e) (omega arith))

domain_above : (known : Known) (range : Range) → AllRefuseAbove (domain_events known range)
domain_above known (Named name at) = unless_above (int_le (domain_of known (Named name at)).0 (domain_of known (Named name at)).1) codes.EMPTY_DOMAIN at (omega arith)
domain_above known (Ends lo hi) =
    both _ _ (place_above known lo)
    (both _ _ (place_above known hi)
    (both _ _ (unless_above (int_le (value_or_zero known lo) (value_or_zero known hi)) codes.EMPTY_DOMAIN (place_of lo) (omega arith))
    (too_many_above codes.DOMAIN (count_between (value_or_zero known lo) (value_or_zero known hi)))))

outcomes_above : (known : Known) (earlier : List ℤ) (dist : List (Tree × Tree)) → AllRefuseAbove (outcome_events known earlier dist)
outcomes_above known earlier [] = no_event
outcomes_above known earlier (pair ∷ later) =
    both _ _ (place_above known pair.0)
    (both _ _ (unless_above (not (list_any (int_eq (value_or_zero known pair.0)) earlier)) codes.OUTCOME (place_of pair.0) (omega arith))
    (both _ _ (place_above known pair.1)
    (both _ _ (unless_above (int_le (pos 1) (value_or_zero known pair.1)) codes.OUTCOME (place_of pair.1) (omega arith))
    (outcomes_above known (earlier ++ value_or_zero known pair.0 ∷ []) later))))

declaration_above : (found : Declared) (d : Declaration) → AllRefuseAbove (declaration_events found d)
declaration_above found (IntDecl name at dims x) = both _ _ (dimension_above found.known dims) (init_above found.known (dimensions_of found.known dims) x)
declaration_above found (RangeDecl name at lo hi) = range_above found.known None (Ends lo hi)
declaration_above found (SetDecl name at elements) = both _ _ (places_above found.known elements) (too_many_above codes.NUMBERS (length (set_of found.known elements)))
declaration_above found (DvarDecl name at dims range stage) =
    array_above found.known dims (λ here. domain_events here range ++ stage_events here stage) (λ here. both _ _ (domain_above here range) (stage_above here stage))
declaration_above found (StochDecl name at dims dist stage) =
    array_above found.known dims (λ here. outcome_events here [] dist ++ stage_events here stage) (λ here. both _ _ (outcomes_above here [] dist) (stage_above here stage))

declarations_above : (found : Declared) (ds : List Declaration) → AllRefuseAbove (declarations_events found ds)
declarations_above found [] = no_event
declarations_above found (d ∷ ds) = both _ _ (declaration_above found d) (declarations_above (behind d found) ds)

-- Constraints and texts.

threshold_above : (known : Known) (p q : Tree) → AllRefuseAbove (threshold_events known p q)
threshold_above known p q =
    both _ _ (place_above known p)
    (both _ _ (place_above known q) (unless_above (is_threshold (value_or_zero known p) (value_or_zero known q)) codes.THRESHOLD (place_of p) (omega arith)))

mutual
  constraint_above : (known : Known) (c : ConsTree) → AllRefuseAbove (constraint_events known c)
  constraint_above known (ForallTree bs c) = binding_above known None bs (λ here. constraint_events here c) (λ here. constraint_above here c)
  constraint_above known (BlockTree cs) = constraints_above known cs
  constraint_above known (HardTree e) = counted_above _ (expression_above known e)
  constraint_above known (ChanceTree e p q) = counted_above _ (both _ _ (expression_above known e) (threshold_above known p q))

  constraints_above : (known : Known) (cs : ConsTrees) → AllRefuseAbove (constraints_events known cs)
  constraints_above known no_cons = no_event
  constraints_above known (cons c cs) = both _ _ (constraint_above known c) (constraints_above known cs)

goal_above : (known : Known) (goal : Option GoalTree) → AllRefuseAbove (goal_events known goal)
goal_above known None = no_event
goal_above known (Some goal) = expression_above known goal.expr

body_above : (found : Declared) (model : ModelTree) → AllRefuseAbove (body_events found model)
body_above found model = both _ _ (goal_above found.known model.goal) (constraints_above found.known (conses model.body))

text_above : (model : ModelTree) → AllRefuseAbove (text_events model)
unfolding text_events
text_above model = both _ _ (declarations_above nothing_declared model.decls) (body_above (behind_all model.decls nothing_declared) model)

-- The first failure.

abbrev passing : ℕ → Result ℕ Fault
passing n = Ok n

abbrev failing : Fault → Result ℕ Fault
failing f = Err f

never_passes : (n : ℕ) (f : Fault) → passing n ≡ failing f → ⊥
never_passes n f e = cc

never_limited : (e : Excess) (r : Refusal) → failing (Limit e) ≡ failing (Text r) → ⊥
never_limited e r is = cc

same_text : (a b : Refusal) → failing (Text a) ≡ failing (Text b) → a ≡ b
same_text a b e = cc

-- behind one more that is counted
behind_counted : (b : Bool) (rest : Result ℕ Fault) (e : Excess) (refusal : Refusal) → (rest ≡ failing (Text refusal) → IsAboveSpelling refusal)
    → cond b rest (failing (Limit e)) ≡ failing (Text refusal) → IsAboveSpelling refusal
behind_counted true rest e refusal later is = later is
behind_counted false rest e refusal later is = absurd (never_limited e refusal is)

first_above : (count : ℕ) (events : List UnfoldEvent) (refusal : Refusal) → AllByRecursion RefusesAbove events → first_failure count events ≡ failing (Text refusal)
    → IsAboveSpelling refusal
first_above count [] refusal all is = absurd (never_passes count (Text refusal) is)
first_above count (Counted ∷ later) refusal all is =
    behind_counted (nat_lt count most_counted) (first_failure (count + 1) later) (excess codes.UNFOLDING (pos (most_counted + 1)) (pos most_counted)) refusal
    (first_above (count + 1) later refusal all.1) is
first_above count (Refused other ∷ later) refusal all is = subst IsAboveSpelling (same_text other refusal is) all.0
first_above count (Passed passed ∷ later) refusal all is = absurd (never_limited passed refusal is)

pub stop_above : (model : ModelTree) (refusal : Refusal) → first_failure 0 (text_events model) ≡ failing (Text refusal) → IsAboveSpelling refusal
stop_above model refusal stops = first_above 0 (text_events model) refusal (text_above model).each stops
