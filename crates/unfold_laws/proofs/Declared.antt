-- What declarations state is bounded, where what is met in them passes.
use Rattle.std.proofs.Common.{◌≡◌, refl, sym, ap, subst, ◌∙◌, ℕ, ◌≤◌, ℤ, pos, negsuc, ◌≤ℤ◌, int_le, int_eq, Bool, true, false, not, ◌&&◌, ◌||◌, cond, List, [], ◌∷◌, ◌++◌, map}
use Rattle.std.proofs.Common.{Option, Some, None, true≢false, arith}
use Rattle.std.proofs.lemmas.Int.{ints}
use Rattle.std.proofs.lemmas.List.{append_assoc, append-nil}
use Rattle.std.specs.List.{flat_map, list_any, AllByRecursion}
use Rattle.std.specs.Option.{unwrap_or}
use Rattle.std.specs.Str.{bytes_eq}
use Rattle.std.proofs.lemmas.Bool.{and_parts}
use Rattle.sopl_base.proofs.Tests.{equal_turned, le_tested}
use Rattle.sopl_base.proofs.Lists.{all_append}
use Rattle.sopl_base.specs.declared.codes.TheConstants as codes
use Rattle.sopl_base.specs.declared.limits.TheConstants as largest
use Rattle.sopl_ast.specs.Tree.{Tree, Range, Named, Ends, place_of}
use Rattle.sopl_ast.specs.Whole.{DimTree, Declaration, IntDecl, RangeDecl, SetDecl, DvarDecl, StochDecl}
use Rattle.sopl_ast.specs.Numbers.{natural, count_between, all_distinct}
use Rattle.sopl_ast.specs.Known.{Known, NumberSet, Between, Listed, NamedSet, set_named, ends_of}
use Rattle.sopl_ast.specs.Constants.{value_or_zero}
use Rattle.sopl_ast.specs.UnfoldEvents.{UnfoldEvent, Counted, refused_unless, too_many, constant_place, most_numbers}
use Rattle.sopl_ast.specs.Instances.{Outcome, independent}
use Rattle.sopl_ast.specs.Arrays.{Dimension, dimensions_of, indices, taking, with_index, array_of, dimension_events, array_events}
use Rattle.sopl_ast.specs.Declarations.{Declared, nothing_declared, stage_of, stage_events, domain_of, domain_events, outcome_of, outcome_events, decisions_of}
use Rattle.sopl_ast.specs.Declarations.{stochastics_of, behind, declaration_events, behind_all, declarations_events}
use Rattle.unfold_laws.specs.Passing.{NothingFails, IsConstant}
use Rattle.unfold_laws.specs.Bounds.{IsStage, IsBoundedDecision, IsBoundedOutcome, IsBoundedStochastic}
use Rattle.unfold_laws.proofs.Passing.{parts_pass, each_passes, passes_counted, test_holds, count_fits, value_given}

-- Lists.

pub all_map : {A B : Type 0} (P : B → Type 0) (Q : A → Type 0) (g : A → B) → ((x : A) → Q x → P (g x)) → (xs : List A) → AllByRecursion Q xs → AllByRecursion P (map g xs)
all_map P Q g each [] q = tt
all_map P Q g each (x ∷ xs) q = (each x q.0, all_map P Q g each xs q.1)

-- what follows of each
pub each_of : {A : Type 0} (P Q : A → Type 0) → ((x : A) → P x → Q x) → (xs : List A) → AllByRecursion P xs → AllByRecursion Q xs
each_of P Q so [] all = tt
each_of P Q so (x ∷ xs) all = (so x all.0, each_of P Q so xs all.1)

-- Values and ranges.

-- the value of a constant place, or 0, is of a size that constants have
pub worth_small : (known : Known) (e : Tree) → NothingFails (constant_place known e) → IsConstant (value_or_zero known e)
worth_small known e is =
    let there = value_given known (place_of e) e is in
    subst (λ v. IsConstant (unwrap_or v (pos 0))) (sym there.1) there.2

-- a range that is kept has ends of such a size, and 65536 numbers at most
abbrev pub IsBoundedSet : NumberSet → Type 0
IsBoundedSet (Between lo hi) = IsConstant lo × IsConstant hi × (count_between lo hi ≤ most_numbers)
IsBoundedSet (Listed numbers) = Unit {0}

abbrev pub AreBoundedSets : List NamedSet → Type 0
AreBoundedSets sets = AllByRecursion (λ (s : NamedSet). IsBoundedSet s.numbers) sets

abbrev IsBoundedIfThere : Option NumberSet → Type 0
IsBoundedIfThere None = Unit {0}
IsBoundedIfThere (Some numbers) = IsBoundedSet numbers

named_bounded : (name : List ℕ) (sets : List NamedSet) → AreBoundedSets sets → IsBoundedIfThere (set_named name sets)
named_bounded name [] all = tt
named_bounded name (first ∷ later) all = on (bytes_eq name first.name) (named_bounded name later all.1)
  where
    on : (b : Bool) → IsBoundedIfThere (set_named name later) → IsBoundedIfThere (cond b (Some first.numbers) (set_named name later))
    on true more = all.0
    on false more = more

-- Domains and stages.

abbrev AreEnds : ℤ → ℤ → Type 0
AreEnds lo hi = IsConstant lo × IsConstant hi × (lo ≤ℤ hi) × (count_between lo hi ≤ most_numbers)

ends_bounded : (found : Option NumberSet) (at : ℕ) → IsBoundedIfThere found → NothingFails (refused_unless (int_le (ends_of found).0 (ends_of found).1) codes.EMPTY_DOMAIN at)
    → AreEnds (ends_of found).0 (ends_of found).1
ends_bounded None at all is = absurd (true≢false (sym (test_holds false codes.EMPTY_DOMAIN at is)))
ends_bounded (Some (Between lo hi)) at all is = (all.0, all.1, le_tested lo hi (test_holds (int_le lo hi) codes.EMPTY_DOMAIN at is), all.2)
ends_bounded (Some (Listed numbers)) at all is = absurd (true≢false (sym (test_holds false codes.EMPTY_DOMAIN at is)))

domain_bounded : (known : Known) (range : Range) → AreBoundedSets known.sets → NothingFails (domain_events known range) → AreEnds (domain_of known range).0 (domain_of known range).1
domain_bounded known (Named name at) all is = ends_bounded (set_named name known.sets) at (named_bounded name known.sets all) is
domain_bounded known (Ends lo hi) all is =
    let first = parts_pass (constant_place known lo) (constant_place known hi
    ++ (refused_unless (int_le (value_or_zero known lo) (value_or_zero known hi)) codes.EMPTY_DOMAIN (place_of lo) ++ too_many codes.DOMAIN (count_between (value_or_zero known lo) (value_or_zero known hi)))) is in
    let second = parts_pass (constant_place known hi) (refused_unless (int_le (value_or_zero known lo) (value_or_zero known hi)) codes.EMPTY_DOMAIN (place_of lo)
    ++ too_many codes.DOMAIN (count_between (value_or_zero known lo) (value_or_zero known hi))) first.1 in
    let third = parts_pass (refused_unless (int_le (value_or_zero known lo) (value_or_zero known hi)) codes.EMPTY_DOMAIN (place_of lo))
    (too_many codes.DOMAIN (count_between (value_or_zero known lo) (value_or_zero known hi))) second.1 in (
      worth_small known lo first.0,
      worth_small known hi second.0,
      le_tested (value_or_zero known lo) (value_or_zero known hi) (test_holds _ codes.EMPTY_DOMAIN (place_of lo) third.0),
      count_fits codes.DOMAIN (count_between (value_or_zero known lo) (value_or_zero known hi)) third.1,
    )

number_is_stage : (x : ℤ) → int_le (pos 1) x ≡ true → int_le x (pos largest.STAGE) ≡ true → IsStage (natural x)
number_is_stage (pos n) low high = (omega (arith, ints, low), omega (arith, ints, high))
number_is_stage (negsuc n) low high = absurd (omega (arith, ints, low))

stage_bounded : (known : Known) (stage : Option Tree) → NothingFails (stage_events known stage) → IsStage (stage_of known stage)
stage_bounded known None is = (omega arith, omega arith)
stage_bounded known (Some e) is =
    let parts = parts_pass (constant_place known e) (refused_unless (int_le (pos 1) (value_or_zero known e) && int_le (value_or_zero known e) (pos largest.STAGE)) codes.STAGE (place_of e)) is in
    let tests = and_parts (int_le (pos 1) (value_or_zero known e)) (int_le (value_or_zero known e) (pos largest.STAGE)) (test_holds _ codes.STAGE (place_of e) parts.1) in
    number_is_stage (value_or_zero known e) tests.0 tests.1

-- Outcomes.

none_of : (a b : Bool) → not (a || b) ≡ true → (a ≡ false) × (not b ≡ true)
none_of true b is = absurd (true≢false (sym is))
none_of false b is = (refl, is)

-- a number that is neither among others nor the last one
absent_more : (zs : List ℤ) (z w : ℤ) → not (list_any (int_eq z) zs) ≡ true → int_eq z w ≡ false → list_any (int_eq z) (zs ++ w ∷ []) ≡ false
absent_more [] z w is other = λ i. other i || false
absent_more (v ∷ vs) z w is other =
    let parts = none_of (int_eq z v) (list_any (int_eq z) vs) is in
    λ i. parts.0 i || absent_more vs z w parts.1 other i

-- one number more at the end, which is none of those before
distinct_more : (xs : List ℤ) (x : ℤ) → all_distinct xs ≡ true → not (list_any (int_eq x) xs) ≡ true → all_distinct (xs ++ x ∷ []) ≡ true
distinct_more [] x all new = refl
distinct_more (y ∷ ys) x all new =
    let tests = and_parts (not (list_any (int_eq y) ys)) (all_distinct ys) all in
    let others = none_of (int_eq x y) (list_any (int_eq x) ys) new in
    λ i. not (absent_more ys y x tests.0 (equal_turned y x ∙ others.0) i) && distinct_more ys x tests.1 others.1 i

-- Each outcome of a distribution, and that no value stands earlier in it.
abbrev outcome_rest : Known → List ℤ → Tree × Tree → List (Tree × Tree) → List UnfoldEvent
outcome_rest known earlier pair later =
    constant_place known pair.1
    ++ (refused_unless (int_le (pos 1) (value_or_zero known pair.1)) codes.OUTCOME (place_of pair.1)
    ++ outcome_events known (earlier ++ value_or_zero known pair.0 ∷ []) later)

abbrev test_new : Known → List ℤ → Tree × Tree → List UnfoldEvent
test_new known earlier pair = refused_unless (not (list_any (int_eq (value_or_zero known pair.0)) earlier)) codes.OUTCOME (place_of pair.0)

abbrev drawn : Known → Tree × Tree → ℤ
drawn known pair = value_or_zero known pair.0

outcomes_bounded : (dist : List (Tree × Tree)) (known : Known) (earlier : List ℤ) → all_distinct earlier ≡ true → NothingFails (outcome_events known earlier dist)
    → AllByRecursion IsBoundedOutcome (map (outcome_of known) dist) × (all_distinct (earlier ++ map (drawn known) dist) ≡ true)
outcomes_bounded [] known earlier distinct is = (tt, ap all_distinct (append-nil earlier) ∙ distinct)
outcomes_bounded (pair ∷ later) known earlier distinct is =
    let first = parts_pass (constant_place known pair.0) (test_new known earlier pair ++ outcome_rest known earlier pair later) is in
    let second = parts_pass (test_new known earlier pair) (outcome_rest known earlier pair later) first.1 in
    let third = parts_pass (constant_place known pair.1) (refused_unless (int_le (pos 1) (value_or_zero known pair.1)) codes.OUTCOME (place_of pair.1)
    ++ outcome_events known (earlier ++ value_or_zero known pair.0 ∷ []) later) second.1 in
    let fourth = parts_pass (refused_unless (int_le (pos 1) (value_or_zero known pair.1)) codes.OUTCOME (place_of pair.1))
    (outcome_events known (earlier ++ value_or_zero known pair.0 ∷ []) later) third.1 in
    let more = outcomes_bounded later known (earlier ++ drawn known pair ∷ []) (distinct_more earlier (drawn known pair) distinct (test_holds _ codes.OUTCOME (place_of pair.0) second.0)) fourth.1 in (
      (
        record {
          value = worth_small known pair.0 first.0;
          weight = worth_small known pair.1 third.0;
          least =
              le_tested (pos 1) (value_or_zero known pair.1) (test_holds _ codes.OUTCOME (place_of pair.1) fourth.0);
        },
        more.0,
      ),
      ap all_distinct (sym (append_assoc earlier (drawn known pair ∷ []) (map (drawn known) later))) ∙ more.1,
    )

values_drawn : (known : Known) (dist : List (Tree × Tree)) → map (λ (o : Outcome). o.value) (map (outcome_of known) dist) ≡ map (drawn known) dist
values_drawn known [] = refl
values_drawn known (pair ∷ later) = ap (λ vs. drawn known pair ∷ vs) (values_drawn known later)

-- Arrays.

-- the names of dimensions change no range
sets_kept : (ds : List Dimension) (index : List ℤ) (known : Known) → (with_index ds index known).sets ≡ known.sets
sets_kept [] index known = refl
sets_kept (d ∷ ds) [] known = refl
sets_kept (d ∷ ds) (number ∷ index) known = sets_kept ds index (taking d.name number known) ∙ same d.name
  where
    same : (name : Option (List ℕ)) → (taking name number known).sets ≡ known.sets
    same None = refl
    same (Some name) = refl

-- what is made at each index of an array has a property, where what is met there passes
all_of_array : {A : Type 0} (P : A → Type 0) (known : Known) (dims : List DimTree) (make : List ℤ → Known → A) (each : Known → List UnfoldEvent)
    → ((index : List ℤ) (here : Known) → here.sets ≡ known.sets → NothingFails (each here) → P (make index here))
    → NothingFails (array_events known dims each) → AllByRecursion P (array_of known dims make)
all_of_array P known dims make each there is =
    let ds = dimensions_of known dims in
    let both = parts_pass (dimension_events known dims) (flat_map (λ index. Counted ∷ each (with_index ds index known)) (indices ds)) is in
    all_map P (λ index. NothingFails (Counted ∷ each (with_index ds index known))) (λ index. make index (with_index ds index known))
    (λ index passes. there index (with_index ds index known) (sets_kept ds index known) (passes_counted (each (with_index ds index known)) passes))
    (indices ds) (each_passes (λ index. Counted ∷ each (with_index ds index known)) (indices ds) both.1)

decision_bounded : (name : List ℕ) (range : Range) (stage : Option Tree) (index : List ℤ) (here : Known) → AreBoundedSets here.sets
    → NothingFails (domain_events here range ++ stage_events here stage)
    → IsBoundedDecision (record { name = name; index = index; lo = (domain_of here range).0; hi = (domain_of here range).1; stage = stage_of here stage })
decision_bounded name range stage index here sets is =
    let both = parts_pass (domain_events here range) (stage_events here stage) is in
    let ends = domain_bounded here range sets both.0 in
    record { least = ends.0; greatest = ends.1; ordered = ends.2; few = ends.3; stage = stage_bounded here stage both.1 }

stochastic_bounded : (name : List ℕ) (dist : List (Tree × Tree)) (stage : Option Tree) (index : List ℤ) (here : Known)
    → NothingFails (outcome_events here [] dist ++ stage_events here stage)
    → IsBoundedStochastic (independent name index (map (outcome_of here) dist) (stage_of here stage))
stochastic_bounded name dist stage index here is =
    let both = parts_pass (outcome_events here [] dist) (stage_events here stage) is in
    let all = outcomes_bounded dist here [] refl both.0 in
    record { outcomes = all.0; distinct = ap all_distinct (values_drawn here dist) ∙ all.1; stage = stage_bounded here stage both.1 }

-- Declarations.

-- what was found so far is bounded
pub record AreBounded (found : Declared) : Type 0 where
  pub sets : AreBoundedSets found.known.sets
  pub decisions : AllByRecursion IsBoundedDecision found.decisions
  pub stochastics : AllByRecursion IsBoundedStochastic found.stochastics

nothing_bounded : AreBounded nothing_declared
nothing_bounded = record { sets = tt; decisions = tt; stochastics = tt }

bounded_behind : (d : Declaration) (found : Declared) → AreBounded found → NothingFails (declaration_events found d) → AreBounded (behind d found)
bounded_behind (IntDecl name at dims x) found all is = record { sets = all.sets; decisions = all.decisions; stochastics = all.stochastics }
bounded_behind (RangeDecl name at lo hi) found all is =
    let first = parts_pass (constant_place found.known lo) (constant_place found.known hi ++ too_many codes.NUMBERS (count_between (value_or_zero found.known lo) (value_or_zero found.known hi))) is in
    let second = parts_pass (constant_place found.known hi) (too_many codes.NUMBERS (count_between (value_or_zero found.known lo) (value_or_zero found.known hi))) first.1 in
    record {
      sets = all_append (λ (s : NamedSet). IsBoundedSet s.numbers) found.known.sets _ all.sets
          ((worth_small found.known lo first.0, worth_small found.known hi second.0, count_fits codes.NUMBERS (count_between (value_or_zero found.known lo) (value_or_zero found.known hi)) second.1), tt);
      decisions = all.decisions;
      stochastics = all.stochastics;
    }
bounded_behind (SetDecl name at elements) found all is =
    record {
      sets = all_append (λ (s : NamedSet). IsBoundedSet s.numbers) found.known.sets _ all.sets (tt, tt);
      decisions = all.decisions;
      stochastics = all.stochastics;
    }
bounded_behind (DvarDecl name at dims range stage) found all is =
    record {
      sets = all.sets;
      decisions = all_append IsBoundedDecision found.decisions (decisions_of found.known name dims range stage) all.decisions
          (all_of_array IsBoundedDecision found.known dims _ (λ here. domain_events here range ++ stage_events here stage)
          (λ index here same passes. decision_bounded name range stage index here (subst AreBoundedSets (sym same) all.sets) passes) is);
      stochastics = all.stochastics;
    }
bounded_behind (StochDecl name at dims dist stage) found all is =
    record {
      sets = all.sets;
      decisions = all.decisions;
      stochastics = all_append IsBoundedStochastic found.stochastics (stochastics_of found.known name dims dist stage) all.stochastics
          (all_of_array IsBoundedStochastic found.known dims _ (λ here. outcome_events here [] dist ++ stage_events here stage)
          (λ index here same passes. stochastic_bounded name dist stage index here passes) is);
    }

bounded_behind_all : (ds : List Declaration) (found : Declared) → AreBounded found → NothingFails (declarations_events found ds) → AreBounded (behind_all ds found)
bounded_behind_all [] found all is = all
bounded_behind_all (d ∷ ds) found all is =
    let both = parts_pass (declaration_events found d) (declarations_events (behind d found) ds) is in
    bounded_behind_all ds (behind d found) (bounded_behind d found all both.0) both.1

pub declared_bounded : (ds : List Declaration) → NothingFails (declarations_events nothing_declared ds) → AreBounded (behind_all ds nothing_declared)
declared_bounded ds is = bounded_behind_all ds nothing_declared nothing_bounded is
