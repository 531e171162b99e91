-- Dimensions that are open inside one another: what is left to do goes on from turn to turn.
use Rattle.std.proofs.Common.{◌≡◌, refl, sym, ap, subst, ◌∙◌, ℕ, zero, suc, ◌+◌, ◌<◌, ◌≤◌, ℤ, Bool, true, false, if◌then◌else◌, nat_eq, ◌||◌, List, [], ◌∷◌, ◌++◌, length, drop, get_or, map, reverse}
use Rattle.std.proofs.Common.{Option, Some, None, is_some, Result, Ok, T, arith}
use Rattle.std.proofs.lemmas.List.{at_drop_more, at_drop_all, drop_all, reverse-append, map-append, length-reverse, length-map}
use Rattle.std.proofs.lemmas.List.Sums.{sum_by-cons}
use Rattle.std.proofs.lemmas.Option.{slice_get_read}
use Rattle.std.specs.List.{slice_get, sum_by}
use Rattle.std.specs.Option.{unwrap_or}
use Rattle.sopl_base.specs.declared.fault.Fault.{Fault}
use Rattle.sopl_base.specs.declared.fault.Fault.TheVariants as fault
use Rattle.sopl_ast.specs.Arrays.{Dimension}
use Rattle.unfold_constants.specs.Choosing.{OpenChoice, Among, advanced, left}
use Rattle.unfold_constants.specs.CountedAnswers.{Fails}
use Rattle.unfold_constants.specs.Evaluation.{Step, continued}
use Rattle.unfold_constants.proofs.Bindings.{take_prefix}
use Rattle.unfold_constants.proofs.Choosing.{name_left, continued_twice}
use Rattle.unfold_declarations.specs.declared.arrays.Dimension as d
use Rattle.unfold_declarations.specs.Places.{Place, give_dimension, leave_dimension, each_number, remaining, entered, any_empty, turns, turns_left}
use Rattle.unfold_declarations.specs.Shown.{dimension_in, dimensions_in, open_dimension}

module _ {S F A : Type 0} (give : F → ℤ → S → S) (leave : F → S → S) (law : (f : F) (n : ℤ) (here : S) → leave f (give f n here) ≡ here) (inside : ℕ → S → A → Step A) where
  -- a dimension takes its next number
  next_taken : (here : S) (f : F) (n : ℤ) (ns : List ℤ) (outer : List (OpenChoice F)) (found : A) (count : ℕ)
      → remaining give leave inside here (Among f (n ∷ ns) ∷ outer) found count ≡ entered give leave inside (give f n here) (Among f ns ∷ outer) found count
  next_taken here f n ns outer found count =
      continued_twice (inside (suc (length outer)) (give f n here) found count) (λ more. each_number (λ m later. inside (suc (length outer)) (give f m here) later) ns more)
      (λ more. remaining give leave inside (left leave here outer) outer more)
      ∙ ap (λ s. continued (inside (suc (length outer)) (give f n here) found count) (λ more. remaining give leave inside s (Among f ns ∷ outer) more)) (sym (law f n here))

  -- the place and the dimensions of the next number
  turned : (here : S) (among : List (OpenChoice F)) (next : S) (among_next : List (OpenChoice F)) (found : A) (count : ℕ)
      → ◌≡◌ {A = Option (S × List (OpenChoice F))} (Some (next, among_next)) (advanced give leave here among)
      → remaining give leave inside here among found count ≡ entered give leave inside next among_next found count
  turned here [] next among_next found count is = absurd (subst (λ o. T (is_some o)) is tt)
  turned here (Among f [] ∷ outer) next among_next found count is = turned (left leave here outer) outer next among_next found count is
  turned here (Among f (n ∷ ns) ∷ outer) next among_next found count is =
      next_taken here f n ns outer found count
      ∙ ap (λ (o : Option (S × List (OpenChoice F))).
      entered give leave inside (unwrap_or o (next, among_next)).0 (unwrap_or o (next, among_next)).1 found count) (sym is)

  -- no dimension has a number left
  ended : (here : S) (among : List (OpenChoice F)) (found : A) (count : ℕ)
      → ◌≡◌ {A = Option (S × List (OpenChoice F))} None (advanced give leave here among)
      → remaining give leave inside here among found count ≡ Ok (found, count)
  ended here [] found count is = refl
  ended here (Among f [] ∷ outer) found count is = ended (left leave here outer) outer found count is
  ended here (Among f (n ∷ ns) ∷ outer) found count is = absurd (subst (λ o. T (is_some o)) (sym is) tt)

  -- a turn goes on
  pub goes_on : (more : Bool) (here next after : S) (among among_next among_after : List (OpenChoice F)) (found found_after : A) (count count_after : ℕ) (whole : Result (A × ℕ) Fault)
      → remaining give leave inside here among found count ≡ whole
      → ◌≡◌ {A = Option (S × List (OpenChoice F))} (if more then Some (next, among_next) else None) (advanced give leave here among) → more ≡ true
      → entered give leave inside next among_next found count ≡ remaining give leave inside after among_after found_after count_after
      → remaining give leave inside after among_after found_after count_after ≡ whole
  goes_on true here next after among among_next among_after found found_after count count_after whole all is more leads =
      sym leads ∙ sym (turned here among next among_next found count is) ∙ all
  goes_on false here next after among among_next among_after found found_after count count_after whole all is more leads = absurd (subst T (sym more) tt)

  -- a turn fails
  pub goes_wrong : (more : Bool) (here next : S) (among among_next : List (OpenChoice F)) (found : A) (count : ℕ) (whole : Result (A × ℕ) Fault)
      → remaining give leave inside here among found count ≡ whole
      → ◌≡◌ {A = Option (S × List (OpenChoice F))} (if more then Some (next, among_next) else None) (advanced give leave here among) → more ≡ true
      → (f : Fault) → Fails f (entered give leave inside next among_next found count) → Fails f whole
  goes_wrong true here next among among_next found count whole all is more f fails =
      subst (λ o. Fails f o) (sym (turned here among next among_next found count is) ∙ all) fails
  goes_wrong false here next among among_next found count whole all is more f fails = absurd (subst T (sym more) tt)

  -- no turn is left
  pub stops : (more : Bool) (here next : S) (among among_next : List (OpenChoice F)) (found : A) (count : ℕ) (whole : Result (A × ℕ) Fault)
      → remaining give leave inside here among found count ≡ whole
      → ◌≡◌ {A = Option (S × List (OpenChoice F))} (if more then Some (next, among_next) else None) (advanced give leave here among) → more ≡ false
      → whole ≡ Ok (found, count)
  stops true here next among among_next found count whole all is more = absurd (subst T more tt)
  stops false here next among among_next found count whole all is more = sym all ∙ ended here among found count is

  -- what is inside fails
  failed_inside : (here : S) (among : List (OpenChoice F)) (found : A) (count : ℕ) (f : Fault) → Fails f (inside (length among) here found count)
      → Fails f (entered give leave inside here among found count)
  failed_inside here among found count (fault.Text r) is = ap (λ r. continued r (λ all. remaining give leave inside (left leave here among) among all)) is
  failed_inside here among found count (fault.Limit e) is = ap (λ r. continued r (λ all. remaining give leave inside (left leave here among) among all)) is
  failed_inside here among found count fault.NoMemory is = tt

-- nothing is found for each number
each_nothing : {A : Type 0} (next : ℤ → A → Step A) → ((n : ℤ) (more : A) (count : ℕ) → next n more count ≡ Ok (more, count))
    → (ns : List ℤ) (found : A) (count : ℕ) → each_number next ns found count ≡ Ok (found, count)
each_nothing next nothing [] found count = refl
each_nothing next nothing (n ∷ ns) found count =
    ap (λ r. continued r (λ more. each_number next ns more)) (nothing n found count) ∙ each_nothing next nothing ns found count

some_are : (k : ℕ) → nat_eq 0 (suc k) ≡ false
some_are k = grind arith

-- a dimension gives its number up
pub dimension_left : (name : Option (List ℕ)) (n : ℤ) (place : Place) → leave_dimension name (give_dimension name n place) ≡ place
dimension_left None n place i = record { known = place.known; index = take_prefix place.index n i }
dimension_left (Some name) n place i = record { known = name_left name n place.known i; index = take_prefix place.index n i }

-- each turn takes a number
module _ {S F : Type 0} (give : F → ℤ → S → S) (leave : F → S → S) (ds : List Dimension) where
  taken : (f : F) (n : ℤ) (ns : List ℤ) (outer : List (OpenChoice F))
      → turns (drop (length (Among f ns ∷ outer)) ds) + turns_left ds (Among f ns ∷ outer) < turns_left ds (Among f (n ∷ ns) ∷ outer)
  taken f n ns outer = omega (arith, sum_by-cons (λ (m : ℤ). suc (turns (drop (suc (length outer)) ds))) n ns)

  turns_fall : (here : S) (among : List (OpenChoice F)) (next : S) (among_next : List (OpenChoice F))
      → ◌≡◌ {A = Option (S × List (OpenChoice F))} (Some (next, among_next)) (advanced give leave here among)
      → turns (drop (length among_next) ds) + turns_left ds among_next < turns_left ds among
  turns_fall here [] next among_next is = absurd (subst (λ o. T (is_some o)) is tt)
  turns_fall here (Among f [] ∷ outer) next among_next is = omega (arith, turns_fall (left leave here outer) outer next among_next is)
  turns_fall here (Among f (n ∷ ns) ∷ outer) next among_next is =
      subst (λ (o : Option (S × List (OpenChoice F))).
      turns (drop (length (unwrap_or o (next, among_next)).1) ds) + turns_left ds (unwrap_or o (next, among_next)).1 < turns_left ds (Among f (n ∷ ns) ∷ outer)) (sym is)
      (taken f n ns outer)

  -- a turn comes nearer to the end
  pub comes_nearer : (more : Bool) (here : S) (among : List (OpenChoice F)) (next : S) (among_next among_after : List (OpenChoice F))
      → ◌≡◌ {A = Option (S × List (OpenChoice F))} (if more then Some (next, among_next) else None) (advanced give leave here among) → more ≡ true
      → turns_left ds among_after ≤ turns (drop (length among_next) ds) + turns_left ds among_next → turns_left ds among_after < turns_left ds among
  comes_nearer true here among next among_next among_after is more few = omega (arith, few, turns_fall here among next among_next is)
  comes_nearer false here among next among_next among_after is more few = absurd (subst T (sym more) tt)

-- the next dimension, and those behind it
next_found : (ds : List d.Dimension) (k : ℕ) (next : d.Dimension) → slice_get ds k ≡ Some next
    → drop k (dimensions_in ds) ≡ dimension_in next ∷ drop (suc k) (dimensions_in ds)
next_found [] k next is = absurd (subst (λ o. T (is_some o)) (sym is) tt)
next_found (first ∷ later) zero next is = ap (λ (o : Option d.Dimension). dimension_in (unwrap_or o next) ∷ dimensions_in later) is
next_found (first ∷ later) (suc k) next is = next_found later k next is

module _ {F : Type 0} (ds : List d.Dimension) (among : List (OpenChoice F)) (depth : ℕ) (is : depth ≡ length among) where
  next_dimension : (next : d.Dimension) → depth < length ds → next ≡ get_or ds depth next
      → drop (length among) (dimensions_in ds) ≡ dimension_in next ∷ drop (suc (length among)) (dimensions_in ds)
  next_dimension next below at =
      subst (λ k. drop k (dimensions_in ds) ≡ dimension_in next ∷ drop (suc k) (dimensions_in ds)) is (next_found ds depth next (slice_get_read ds (length ds) depth next refl below at))

  no_dimension : length ds ≤ depth → drop (length among) (dimensions_in ds) ≡ []
  no_dimension past = drop_all (length among) (dimensions_in ds) (omega (arith, is, past, length-map ds dimension_in))

-- a dimension more is open
pub turns_open : (ds : List d.Dimension) (among now : List (OpenChoice (Option (List ℕ)))) (depth : ℕ) (next : d.Dimension)
    → depth ≡ length among → depth < length ds → next ≡ get_or ds depth next → now ≡ open_dimension next ∷ among
    → turns_left (dimensions_in ds) now ≤ turns (drop (length among) (dimensions_in ds)) + turns_left (dimensions_in ds) among
turns_open ds among now depth next is below at opened =
    let same : turns (drop (length among) (dimensions_in ds)) ≡ sum_by (λ n. suc (turns (drop (suc (length among)) (dimensions_in ds)))) (dimension_in next).numbers =
    ap turns (next_dimension ds among depth is next below at) in
    let all : turns_left (dimensions_in ds) now
    ≡ sum_by (λ n. suc (turns (drop (suc (length among)) (dimensions_in ds)))) (dimension_in next).numbers + turns_left (dimensions_in ds) among =
    ap (turns_left (dimensions_in ds)) opened in
    omega (arith, same, all)

-- what is found goes by dimensions
module _ {A : Type 0} (at : List Dimension → Place → A → Step A)
    (by_dimension : (d : Dimension) (ds : List Dimension) (place : Place) (found : A) (count : ℕ)
    → at (d ∷ ds) place found count ≡ each_number (λ n more. at ds (give_dimension d.name n place) more) d.numbers found count) where
  through : (ds : List Dimension) (d : Dimension) (place : Place) (found : A) (count : ℕ)
      → (any_empty ds ≡ true → (n : ℤ) (more : A) (behind : ℕ) → at ds (give_dimension d.name n place) more behind ≡ Ok (more, behind))
      → (ns : List ℤ) → (nat_eq 0 (length ns) || any_empty ds) ≡ true → each_number (λ n more. at ds (give_dimension d.name n place) more) ns found count ≡ Ok (found, count)
  through ds d place found count inner [] is = refl
  through ds d place found count inner (n ∷ ns) is = each_nothing _ (inner (sym (ap (λ t. t || any_empty ds) (some_are (length ns))) ∙ is)) (n ∷ ns) found count

  -- where a dimension is empty, nothing is found
  pub nothing : (ds : List Dimension) (place : Place) (found : A) (count : ℕ) → any_empty ds ≡ true → at ds place found count ≡ Ok (found, count)
  nothing [] place found count is = absurd (subst T (sym is) tt)
  nothing (d ∷ ds) place found count is =
      by_dimension d ds place found count
      ∙ through ds d place found count (λ inner n more behind. nothing ds (give_dimension d.name n place) more behind inner) d.numbers is

  -- the next dimension is opened
  pub leads_inside : (ds : List d.Dimension) (place now : Place) (among among_now : List (OpenChoice (Option (List ℕ)))) (depth : ℕ) (next : d.Dimension) (found : A) (count : ℕ)
      → depth ≡ length among → depth < length ds → next ≡ get_or ds depth next → now ≡ place → among_now ≡ open_dimension next ∷ among
      → entered give_dimension leave_dimension (λ k. at (drop k (dimensions_in ds))) place among found count
      ≡ remaining give_dimension leave_dimension (λ k. at (drop k (dimensions_in ds))) now among_now found count
  leads_inside ds place now among among_now depth next found count is below here same opened =
      ap (λ r. continued r (λ all. remaining give_dimension leave_dimension (λ k. at (drop k (dimensions_in ds))) (left leave_dimension place among) among all))
      ((λ i. at (next_dimension ds among depth is next below here i) place found count)
      ∙ by_dimension (dimension_in next) (drop (suc (length among)) (dimensions_in ds)) place found count)
      ∙ (λ i. remaining give_dimension leave_dimension (λ k. at (drop k (dimensions_in ds))) (sym same i) (sym opened i) found count)

  -- what is found where no dimension is left fails
  pub fails_inside : (ds : List d.Dimension) (place : Place) (among : List (OpenChoice (Option (List ℕ)))) (depth : ℕ) (found : A) (count : ℕ) (f : Fault)
      → depth ≡ length among → length ds ≤ depth → Fails f (at [] place found count)
      → Fails f (entered give_dimension leave_dimension (λ k. at (drop k (dimensions_in ds))) place among found count)
  fails_inside ds place among depth found count f is past fails =
      failed_inside give_dimension leave_dimension dimension_left (λ k. at (drop k (dimensions_in ds))) place among found count f
      (subst (λ later. Fails f (at later place found count)) (sym (no_dimension ds among depth is past)) fails)

-- whether a dimension is empty, one by one
module _ (ds : List d.Dimension) (i : ℕ) (b : d.Dimension) (below : i < length ds) (at : b ≡ get_or ds i b) where
  any_here : any_empty (dimensions_in (drop i ds)) ≡ any_empty (dimension_in b ∷ dimensions_in (drop (i + 1) ds))
  any_here =
      at_drop_more (λ rest. any_empty (dimensions_in rest)) ds i b below ∙ sym (ap (λ c. any_empty (dimension_in c ∷ dimensions_in (drop (i + 1) ds))) at)

  pub none_empty : nat_eq 0 (length (dimension_in b).numbers) ≡ false → any_empty (dimensions_in (drop (i + 1) ds)) ≡ any_empty (dimensions_in (drop i ds))
  none_empty other = sym (any_here ∙ ap (λ t. t || any_empty (dimensions_in (drop (i + 1) ds))) other)

  pub one_empty : nat_eq 0 (length (dimension_in b).numbers) ≡ true → any_empty (dimensions_in (drop i ds)) ≡ true
  one_empty one = any_here ∙ ap (λ t. t || any_empty (dimensions_in (drop (i + 1) ds))) one

pub end_empty : (ds : List d.Dimension) (i : ℕ) → length ds ≤ i → any_empty (dimensions_in (drop i ds)) ≡ false
end_empty ds i past = at_drop_all (λ rest. any_empty (dimensions_in rest)) ds i past

-- one dimension more, the innermost
pub opened_more : (kept : List d.Dimension) (next : d.Dimension) → reverse (map open_dimension (kept ++ next ∷ [])) ≡ open_dimension next ∷ reverse (map open_dimension kept)
opened_more kept next = ap reverse (map-append open_dimension kept (next ∷ [])) ∙ reverse-append (map open_dimension kept) (open_dimension next ∷ [])

pub opened_length : (kept : List d.Dimension) → length (reverse (map open_dimension kept)) ≡ length kept
opened_length kept = length-reverse (map open_dimension kept) ∙ length-map kept open_dimension

pub ruleset emptiness = (none_empty, one_empty, end_empty)

pub ruleset walking = (opened_more, opened_length)
