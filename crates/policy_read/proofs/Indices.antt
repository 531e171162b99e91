-- The indices of a text whose unfolding nothing stops, the values of its stochastic variables and the values of its points are read back.
use native.Mathlib.Omega.{arith}
use Rattle.std.proofs.Common.{◌≡◌, ◌∙◌, ◌+◌, ◌<◌, ◌≤◌, ◌^◌, ℕ, zero, suc, ℤ, pos, negsuc, ◌+ℤ◌, ◌≤ℤ◌, ◌<ℤ◌, Bool, true, false, cond, List, [], ◌∷◌, ◌++◌, map, All}
use Rattle.std.proofs.Common.{Some, None, unwrap_or, refl, sym, ap₂, subst}
use Rattle.std.proofs.lemmas.Int.{ints}
use Rattle.std.proofs.lemmas.List.Elements.{All-nil, recursion_from_All}
use Rattle.std.proofs.lemmas.Map.Views.{All-insert_key}
use Rattle.std.specs.BTreeSet.{insert_key}
use Rattle.std.specs.Int.{int_gap}
use Rattle.std.specs.List.{AllByRecursion, enumerate_from, flat_map, fold}
use Rattle.std.specs.Ordering.{int_cmp}
use Rattle.std.specs.Str.{bytes_eq}
use Rattle.sopl_base.proofs.Lists.{all_append, all_joined}
use Rattle.sopl_base.specs.declared.codes.TheConstants as codes
use Rattle.sopl_ast.specs.Arrays.{Dimension, array_of, array_events, dimension_events, dimensions_of, indices, with_index}
use Rattle.sopl_ast.specs.Cells.{Cell, IsPoint, cells, cells_of}
use Rattle.sopl_ast.specs.Constants.{numbers_in, value_or_zero}
use Rattle.sopl_ast.specs.Declarations.{Declared, behind, behind_all, constant_places, declaration_events, declarations_events, decisions_of, domain_events, domain_of}
use Rattle.sopl_ast.specs.Declarations.{nothing_declared, outcome_events, outcome_of, set_of, stage_events, stage_of, stochastics_of}
use Rattle.sopl_ast.specs.Histories.{histories}
use Rattle.sopl_ast.specs.Instances.{Decision, Outcome, Stochastic, distribution, independent}
use Rattle.sopl_ast.specs.Known.{Between, Known, Listed, NamedSet, NumberSet, ascending, set_named}
use Rattle.sopl_ast.specs.Lists.{trees_list}
use Rattle.sopl_ast.specs.Numbers.{both_of, count_between, counted_up, up_to}
use Rattle.sopl_ast.specs.Tree.{Ends, Named, Range, Trees, no_tree, tree, place_of}
use Rattle.sopl_ast.specs.UnfoldEvents.{Counted, UnfoldEvent, constant_place, range_events, too_many}
use Rattle.sopl_ast.specs.Unfolding.{problem_of, text_events}
use Rattle.sopl_ast.specs.Whole.{Declaration, DimTree, DvarDecl, IntDecl, ModelTree, RangeDecl, SetDecl, StochDecl}
use Rattle.unfold_laws.specs.Bounds.{IsBoundedDecision, IsBoundedOutcome, IsBoundedStochastic}
use Rattle.unfold_laws.specs.Passing.{IsConstant, NothingFails}
use Rattle.unfold_laws.proofs.Declared.{all_map, each_of, worth_small}
use Rattle.unfold_laws.proofs.Passing.{each_passes, parts_pass, value_given}
use Rattle.unfold_laws.proofs.Stages.{all_by_stage}
use Rattle.unfold_laws.proofs.Whole.{decisions_are_bounded, stochastics_are_bounded, text_parts}
use Rattle.policy_read.specs.Printed.{AcceptedAreReadable, IsReadable}

abbrev pub AreIndices : List ℤ → Type 0
AreIndices zs = AllByRecursion IsReadable zs

-- a number of a constant's size
constant_readable : (z : ℤ) → IsConstant z → IsReadable z
constant_readable (pos n) small = let few : n ≤ 2 ^ 40 = small in omega (arith, ints, few)
constant_readable (negsuc n) small = omega (arith, ints)

less_readable : (z hi : ℤ) → z ≤ℤ hi → IsReadable hi → IsReadable z
less_readable z hi below small = omega (arith, ints, below, small)

-- The numbers of ranges and sets.

gap_below : (x y : ℤ) (k : ℕ) → k < int_gap x y → (x +ℤ pos k) <ℤ y
gap_below (pos a) (pos b) k within = omega (arith, ints, within)
gap_below (pos a) (negsuc b) k within = omega (arith, ints, within)
gap_below (negsuc a) (pos b) k within = omega (arith, ints, within)
gap_below (negsuc a) (negsuc b) k within = omega (arith, ints, within)

counted_readable : (x hi : ℤ) (n : ℕ) → ((k : ℕ) → k < n → (x +ℤ pos k) ≤ℤ hi) → IsReadable hi → AreIndices (counted_up x n)
counted_readable x hi zero below small = tt
counted_readable x hi (suc n) below small =
    let first : (x +ℤ pos 0) ≤ℤ hi = below 0 (omega arith) in
    let here : x ≤ℤ hi = omega (arith, ints, first) in (
      less_readable x hi here small,
      counted_readable (x +ℤ pos 1) hi n
          (λ k within. let next : (x +ℤ pos (suc k)) ≤ℤ hi = below (suc k) (omega (arith, within)) in omega (arith, ints, next)) small,
    )

range_readable : (lo hi : ℤ) → IsReadable hi → AreIndices (up_to lo hi)
range_readable lo hi small =
    counted_readable lo hi (count_between lo hi)
    (λ k within. let below : (lo +ℤ pos k) <ℤ (hi +ℤ pos 1) = gap_below lo (hi +ℤ pos 1) k within in omega (arith, ints, below)) small

abbrev pub IsReadableSet : NumberSet → Type 0
IsReadableSet (Between lo hi) = IsReadable hi
IsReadableSet (Listed numbers) = AreIndices numbers

abbrev pub AreReadableSets : List NamedSet → Type 0
AreReadableSets sets = AllByRecursion (λ (s : NamedSet). IsReadableSet s.numbers) sets

named_readable : (name : List ℕ) (sets : List NamedSet) → AreReadableSets sets → AreIndices (ascending (set_named name sets))
named_readable name [] all = tt
named_readable name (first ∷ later) all = on (bytes_eq name first.name) (named_readable name later all.1)
  where
    numbers : (s : NumberSet) → IsReadableSet s → AreIndices (ascending (Some s))
    numbers (Between lo hi) small = range_readable lo hi small
    numbers (Listed zs) small = small

    on : (b : Bool) → AreIndices (ascending (set_named name later)) → AreIndices (ascending (cond b (Some first.numbers) (set_named name later)))
    on true more = numbers first.numbers all.0
    on false more = more

inserted_readable : (zs set : List ℤ) → All IsReadable set → AreIndices zs → All IsReadable (fold (insert_key int_cmp) set zs)
inserted_readable [] set all more = all
inserted_readable (z ∷ zs) set all more = inserted_readable zs (insert_key int_cmp set z) (All-insert_key int_cmp z IsReadable set all more.0) more.1

places_readable : (known : Known) (es : Trees) → NothingFails (constant_places known es) → AreIndices (map (value_or_zero known) (trees_list es))
places_readable known no_tree is = tt
places_readable known (tree e es) is =
    let both = parts_pass (constant_place known e) (constant_places known es) is in
    (constant_readable (value_or_zero known e) (worth_small known e both.0), places_readable known es both.1)

set_readable : (known : Known) (es : Trees) → NothingFails (constant_places known es) → AreIndices (set_of known es)
set_readable known es is =
    recursion_from_All IsReadable (set_of known es) (inserted_readable (map (value_or_zero known) (trees_list es)) [] (All-nil IsReadable) (places_readable known es is))

numbers_readable : (known : Known) (range : Range) → AreReadableSets known.sets → NothingFails (range_events known None range) → AreIndices (numbers_in known range)
numbers_readable known (Named name at) sets is = named_readable name known.sets sets
numbers_readable known (Ends lo hi) sets is =
    let first = parts_pass (constant_place known lo) (constant_place known hi ++ too_many codes.NUMBERS (count_between (value_or_zero known lo) (value_or_zero known hi))) is in
    let second = parts_pass (constant_place known hi) (too_many codes.NUMBERS (count_between (value_or_zero known lo) (value_or_zero known hi))) first.1 in
    let least = value_given known (place_of lo) lo first.0 in
    let greatest = value_given known (place_of hi) hi second.0 in
    subst (λ o. AreIndices (unwrap_or o [])) (sym (ap₂ (both_of up_to) least.1 greatest.1)) (range_readable least.0 greatest.0 (constant_readable greatest.0 greatest.2))

-- Arrays.

abbrev pub AreReadableDimensions : List Dimension → Type 0
AreReadableDimensions ds = AllByRecursion (λ (d : Dimension). AreIndices d.numbers) ds

dimensions_readable : (known : Known) (dims : List DimTree) → AreReadableSets known.sets → NothingFails (dimension_events known dims) → AreReadableDimensions (dimensions_of known dims)
dimensions_readable known dims sets is =
    all_map (λ (d : Dimension). AreIndices d.numbers) (λ (d : DimTree). NothingFails (range_events known None d.range)) _
    (λ d passes. numbers_readable known d.range sets passes) dims (each_passes (λ (d : DimTree). range_events known None d.range) dims is)

indices_readable : (ds : List Dimension) → AreReadableDimensions ds → AllByRecursion AreIndices (indices ds)
indices_readable [] all = (tt, tt)
indices_readable (d ∷ ds) all =
    all_joined AreIndices (λ number. map (λ later. number ∷ later) (indices ds)) d.numbers
    (each_of IsReadable (λ number. AllByRecursion AreIndices (map (λ later. number ∷ later) (indices ds)))
    (λ number small. all_map AreIndices AreIndices (λ later. number ∷ later) (λ later smaller. (small, smaller)) (indices ds) (indices_readable ds all.1)) d.numbers all.0)

-- what is made at each index of an array has that index
array_readable : {A : Type 0} (index_of : A → List ℤ) (known : Known) (dims : List DimTree) (make : List ℤ → Known → A) (each : Known → List UnfoldEvent)
    → ((index : List ℤ) (here : Known) → index_of (make index here) ≡ index) → AreReadableSets known.sets → NothingFails (array_events known dims each)
    → AllByRecursion (λ a. AreIndices (index_of a)) (array_of known dims make)
array_readable index_of known dims make each has sets is =
    let ds : List Dimension = dimensions_of known dims in
    let both = parts_pass (dimension_events known dims) (flat_map (λ index. Counted ∷ each (with_index ds index known)) (indices ds)) is in
    all_map (λ a. AreIndices (index_of a)) AreIndices (λ index. make index (with_index ds index known))
    (λ index small. subst AreIndices (sym (has index (with_index ds index known))) small)
    (indices ds) (indices_readable ds (dimensions_readable known dims sets both.0))

-- Declarations.

abbrev pub IsDecidedReadable : Decision → Type 0
IsDecidedReadable d = AreIndices d.index

abbrev pub IsIndexedReadable : Stochastic → Type 0
IsIndexedReadable s = AreIndices s.index

-- what was found so far is read back
pub record AreFoundReadable (found : Declared) : Type 0 where
  pub sets : AreReadableSets found.known.sets
  pub decisions : AllByRecursion IsDecidedReadable found.decisions
  pub stochastics : AllByRecursion IsIndexedReadable found.stochastics

readable_behind : (d : Declaration) (found : Declared) → AreFoundReadable found → NothingFails (declaration_events found d) → AreFoundReadable (behind d found)
readable_behind (IntDecl name at dims x) found all is = record { sets = all.sets; decisions = all.decisions; stochastics = all.stochastics }
readable_behind (RangeDecl name at lo hi) found all is =
    let first = parts_pass (constant_place found.known lo) (constant_place found.known hi ++ too_many codes.NUMBERS (count_between (value_or_zero found.known lo) (value_or_zero found.known hi))) is in
    let second = parts_pass (constant_place found.known hi) (too_many codes.NUMBERS (count_between (value_or_zero found.known lo) (value_or_zero found.known hi))) first.1 in
    record {
      sets = all_append (λ (s : NamedSet). IsReadableSet s.numbers) found.known.sets _ all.sets
          (constant_readable (value_or_zero found.known hi) (worth_small found.known hi second.0), tt);
      decisions = all.decisions;
      stochastics = all.stochastics;
    }
readable_behind (SetDecl name at elements) found all is =
    let both = parts_pass (constant_places found.known elements) (too_many codes.NUMBERS _) is in
    record {
      sets = all_append (λ (s : NamedSet). IsReadableSet s.numbers) found.known.sets _ all.sets (set_readable found.known elements both.0, tt);
      decisions = all.decisions;
      stochastics = all.stochastics;
    }
readable_behind (DvarDecl name at dims range stage) found all is =
    record {
      sets = all.sets;
      decisions = all_append IsDecidedReadable found.decisions (decisions_of found.known name dims range stage) all.decisions
          (array_readable (λ (d : Decision). d.index) found.known dims
          (λ index here. record { name = name; index = index; lo = (domain_of here range).0; hi = (domain_of here range).1; stage = stage_of here stage })
          (λ here. domain_events here range ++ stage_events here stage) (λ index here. refl) all.sets is);
      stochastics = all.stochastics;
    }
readable_behind (StochDecl name at dims dist stage) found all is =
    record {
      sets = all.sets;
      decisions = all.decisions;
      stochastics = all_append IsIndexedReadable found.stochastics (stochastics_of found.known name dims dist stage) all.stochastics
          (array_readable (λ (s : Stochastic). s.index) found.known dims
          (λ index here. independent name index (map (outcome_of here) dist) (stage_of here stage))
          (λ here. outcome_events here [] dist ++ stage_events here stage) (λ index here. refl) all.sets is);
    }

readable_behind_all : (ds : List Declaration) (found : Declared) → AreFoundReadable found → NothingFails (declarations_events found ds) → AreFoundReadable (behind_all ds found)
readable_behind_all [] found all is = all
readable_behind_all (d ∷ ds) found all is =
    let both = parts_pass (declaration_events found d) (declarations_events (behind d found) ds) is in
    readable_behind_all ds (behind d found) (readable_behind d found all both.0) both.1

found_readable : (model : ModelTree) → NothingFails (text_events model) → AreFoundReadable (behind_all model.decls nothing_declared)
found_readable model is =
    readable_behind_all model.decls nothing_declared (record { sets = tt; decisions = tt; stochastics = tt }) (text_parts model is).0

decisions_readable : (model : ModelTree) → NothingFails (text_events model) → AllByRecursion IsDecidedReadable (problem_of model).decisions
unfolding problem_of
decisions_readable model is = (found_readable model is).decisions

stochastics_readable : (model : ModelTree) → NothingFails (text_events model) → AllByRecursion IsIndexedReadable (problem_of model).stochastics
unfolding problem_of
stochastics_readable model is = all_by_stage IsIndexedReadable (behind_all model.decls nothing_declared).stochastics (found_readable model is).stochastics

-- Values.

outcomes_readable : (os : List Outcome) → AllByRecursion IsBoundedOutcome os → AllByRecursion (λ (o : Outcome). IsReadable o.value) os
outcomes_readable [] all = tt
outcomes_readable (o ∷ os) all = (constant_readable o.value all.0.value, outcomes_readable os all.1)

drawn_readable : (ss : List Stochastic) → AllByRecursion IsIndexedReadable ss → AllByRecursion IsBoundedStochastic ss
    → AllByRecursion (λ (s : Stochastic). AllByRecursion IsReadable s.index × AllByRecursion (λ (o : Outcome). IsReadable o.value) (distribution s)) ss
drawn_readable [] indexed bounded = tt
drawn_readable (s ∷ ss) indexed bounded = ((indexed.0, outcomes_readable (distribution s) bounded.0.outcomes), drawn_readable ss indexed.1 bounded.1)

-- the cells of bounded decisions end at numbers that are read back
abbrev pub IsCellReadable : Cell → Type 0
IsCellReadable c = IsReadable c.hi

cells_readable : (ss : List Stochastic) (n : ℕ) (ds : List Decision) → AllByRecursion IsBoundedDecision ds → AllByRecursion IsCellReadable (flat_map (cells_of ss) (enumerate_from n ds))
cells_readable ss n [] all = tt
cells_readable ss n (d ∷ ds) all =
    all_append IsCellReadable (cells_of ss (n, d)) (flat_map (cells_of ss) (enumerate_from (n + 1) ds)) (each_cell (histories d.stage ss)) (cells_readable ss (n + 1) ds all.1)
  where
    each_cell : (hs : List (List ℤ)) → AllByRecursion IsCellReadable (map (λ seen. record { key = (n, seen); lo = d.lo; hi = d.hi }) hs)
    each_cell [] = tt
    each_cell (h ∷ hs) = (constant_readable d.hi all.0.greatest, each_cell hs)

point_readable : (cs : List Cell) (values : List ℤ) → AllByRecursion IsCellReadable cs → IsPoint cs values → AllByRecursion IsReadable values
point_readable [] [] all is = tt
point_readable [] (v ∷ values) all is = absurd is
point_readable (c ∷ cs) [] all is = absurd is
point_readable (c ∷ cs) (v ∷ values) all is = (less_readable v c.hi is.1 all.0, point_readable cs values all.1 is.2)

-- the whole
pub accepted_are_readable : AcceptedAreReadable
accepted_are_readable model passes values point =
    record {
      decided = decisions_readable model passes;
      drawn = drawn_readable (problem_of model).stochastics (stochastics_readable model passes) (stochastics_are_bounded model passes);
      valued = point_readable (cells (problem_of model)) values
          (cells_readable (problem_of model).stochastics 0 (problem_of model).decisions (decisions_are_bounded model passes)) point;
    }
