-- Elements of arrays over a part of a box.
use Rattle.std.proofs.Common.{◌≡◌, ℕ, zero, suc, ◌+◌, ℤ, pos, ◌+ℤ◌, ◌≤ℤ◌, ◌<ℤ◌, int_le, Bool, true, false, List, [], ◌∷◌, map, length, Option, arith, refl, sym, subst}
use Rattle.std.specs.List.{fold, filter, list_all, list_any}
use Rattle.std.specs.Int.{int_gap}
use Rattle.std.specs.Ordering.{int_eq}
use Rattle.std.proofs.lemmas.Int.{ints, clamps}
use Rattle.std.proofs.lemmas.Bool.{and_from}
use Rattle.sopl_base.proofs.Tests.{le_test, le_tested}
use Rattle.box_problem.specs.Box.{Box, IsBox, Inside}
use Rattle.box_problem.proofs.Counts.{gap_leads}
use Rattle.term_language.specs.declared.answers.Defined.{Defined}
use Rattle.term_language.specs.Terms.{Item, Fixed, Free, Table}
use Rattle.term_language.specs.Arrays.{Entry, indices, entries, item_at, lies_in, reached, counted_up, is_covered, are_covered}
use Rattle.term_language.specs.Ends.{Ends, has, exactly, hull, hull_of}
use Rattle.term_language.specs.Rules.{Reading, Near, Wide, item_ends, if_any, element_ends, reached_mark, element_mark}
use Rattle.term_language.specs.Laws.{Within, Sharper}
use Rattle.term_language.proofs.FormValues.{by_if, and_first, and_second}
use Rattle.term_language.proofs.Lists.{AllLie}
use Rattle.term_language.proofs.Elements.{Has, by_option, counted, all_in, mem_indices, is_found, reached_has}
use Rattle.term_language.proofs.Narrowing.{AllWithin, within_exactly, within_cell, hull_within, sharper_both}

-- an interval within the wider one of two is within their hull, and stays so
within_left : (x a c : Ends) → Within x a → Within x (hull a c)
within_left x a c p = record { ordered = p.ordered; from_low = omega (arith, ints, clamps, p.from_low); to_high = omega (arith, ints, clamps, p.to_high) }

within_right : (x a c : Ends) → Within x c → Within x (hull a c)
within_right x a c p = record { ordered = p.ordered; from_low = omega (arith, ints, clamps, p.from_low); to_high = omega (arith, ints, clamps, p.to_high) }

within_more : (x a : Ends) (later : List Ends) → Within x a → Within x (fold hull a later)
within_more x a [] p = p
within_more x a (c ∷ later) p = within_more x (hull a c) later (within_left x a c p)

abbrev pub item_intervals : Box → List Entry → List Ends
item_intervals b es = map (λ (e : Entry). item_ends b e.item) es

-- the items of entries lie within an interval
abbrev EachIn : Box → Ends → List Entry → Type 0
EachIn b c [] = Unit {0}
EachIn b c (e ∷ later) = Within (item_ends b e.item) c × EachIn b c later

item_within : (part whole : Box) (item : Item) → IsBox whole → Inside part whole → Within (item_ends part item) (item_ends whole item)
item_within part whole (Fixed z) is_box inside = within_exactly z
item_within part whole (Free cell) is_box inside = within_cell part whole cell is_box inside

each_fold : (part whole : Box) (a : Ends) (es : List Entry) → IsBox whole → Inside part whole → EachIn part (fold hull a (item_intervals whole es)) es
each_fold part whole a [] is_box inside = tt
each_fold part whole a (e ∷ later) is_box inside = (
  within_more (item_ends part e.item) (hull a (item_ends whole e.item)) (item_intervals whole later)
      (within_right (item_ends part e.item) a (item_ends whole e.item) (item_within part whole e.item is_box inside)),
  each_fold part whole (hull a (item_ends whole e.item)) later is_box inside,
)

each_hull : (part whole : Box) (es : List Entry) → IsBox whole → Inside part whole → EachIn part (hull_of (item_intervals whole es)) es
each_hull part whole [] is_box inside = tt
each_hull part whole (e ∷ later) is_box inside = (
  within_more (item_ends part e.item) (item_ends whole e.item) (item_intervals whole later) (item_within part whole e.item is_box inside),
  each_fold part whole (item_ends whole e.item) later is_box inside,
)

each_kept : (b : Box) (c : Ends) (test : Entry → Bool) (es : List Entry) → EachIn b c es → EachIn b c (filter test es)
each_kept b c test [] each = tt
each_kept b c test (e ∷ later) each =
    by_if (EachIn b c) (test e) (e ∷ filter test later) (filter test later)
    (λ met. (each.0, each_kept b c test later each.1)) (λ unmet. each_kept b c test later each.1)

each_any : (b : Box) (c : Ends) (some all : List Entry) → EachIn b c some → EachIn b c all → EachIn b c (if_any some all)
each_any b c [] all few many = many
each_any b c (e ∷ later) all few many = few

-- their hull lies within it
hull_each : (b : Box) (c a : Ends) (es : List Entry) → Within a c → EachIn b c es → Within (fold hull a (item_intervals b es)) c
hull_each b c a [] p each = p
hull_each b c a (e ∷ later) p each =
    hull_each b c (hull a (item_ends b e.item)) later (hull_within a (item_ends b e.item) c p each.0) each.1

hull_of_each : (b : Box) (c : Ends) (es : List Entry) → (es ≡ [] → Within (exactly (pos 0)) c) → EachIn b c es → Within (hull_of (item_intervals b es)) c
hull_of_each b c [] none each = none refl
hull_of_each b c (e ∷ later) none each = hull_each b c (item_ends b e.item) later each.0 each.1

none_at_all : (some all : List Entry) → if_any some all ≡ [] → all ≡ []
none_at_all [] all none = none
none_at_all (e ∷ later) all none = absurd (cc)

empty_hull : (b : Box) (es : List Entry) → es ≡ [] → Within (exactly (pos 0)) (hull_of (item_intervals b es))
empty_hull b es none =
    subst (λ (xs : List Entry). Within (exactly (pos 0)) (hull_of (item_intervals b xs))) (sym none) (within_exactly (pos 0))

pub within_element : (reading : Reading) (part whole : Box) (narrow wide : List Ends) (table : Table) → IsBox whole → Inside part whole
    → Within (element_ends reading part narrow table) (element_ends Wide whole wide table)
within_element Wide part whole narrow wide table is_box inside =
    hull_of_each part (hull_of (item_intervals whole (entries table))) (entries table) (empty_hull whole (entries table)) (each_hull part whole (entries table) is_box inside)
within_element Near part whole narrow wide table is_box inside =
    let c = hull_of (item_intervals whole (entries table)) in
    let all = each_hull part whole (entries table) is_box inside in
    hull_of_each part c (if_any (reached narrow table) (entries table))
    (λ none. empty_hull whole (entries table) (none_at_all (reached narrow table) (entries table) none))
    (each_any part c (reached narrow table) (entries table) (each_kept part c (λ (e : Entry). lies_in narrow e.index) (entries table) all) all)

has_wider : (a c : Ends) (z : ℤ) → Within a c → has a z ≡ true → has c z ≡ true
has_wider a c z p inside =
    let from = le_tested a.low z (and_first (int_le a.low z) (int_le z a.high) inside) in
    let to = le_tested z a.high (and_second (int_le a.low z) (int_le z a.high) inside) in
    and_from (int_le c.low z) (int_le z c.high) (le_test c.low z (omega (arith, ints, from, p.from_low))) (le_test z c.high (omega (arith, ints, to, p.to_high)))

allowed : (narrow wide : List Ends) (xs : List ℤ) → AllWithin narrow wide → lies_in narrow xs ≡ true → lies_in wide xs ≡ true
allowed [] [] xs all inside = inside
allowed [] (c ∷ wide) xs all inside = absurd all
allowed (a ∷ narrow) [] xs all inside = absurd all
allowed (a ∷ narrow) (c ∷ wide) [] all inside = cc
allowed (a ∷ narrow) (c ∷ wide) (x ∷ xs) all inside =
    and_from (has c x) (lies_in wide xs) (has_wider a c x all.0 (and_first (has a x) (lies_in narrow xs) inside)) (allowed narrow wide xs all.1 (and_second (has a x) (lies_in narrow xs) inside))

none_kept : (few many : List ℤ → Bool) (es : List Entry) → ((xs : List ℤ) → few xs ≡ true → many xs ≡ true) → filter (λ (e : Entry). many e.index) es ≡ [] → filter (λ (e : Entry). few e.index) es ≡ []
none_kept few many [] goes none = refl
none_kept few many (e ∷ later) goes none =
    by_if (λ (kept : List Entry). kept ≡ [] → filter (λ (x : Entry). few x.index) (e ∷ later) ≡ []) (many e.index) (e ∷ filter (λ (x : Entry). many x.index) later)
    (filter (λ (x : Entry). many x.index) later)
    (λ met is. absurd (cc))
    (λ unmet is.
    by_if (λ (kept : List Entry). kept ≡ []) (few e.index) (e ∷ filter (λ (x : Entry). few x.index) later) (filter (λ (x : Entry). few x.index) later)
    (λ in_few. let in_many = goes e.index in_few in absurd (cc))
    (λ out. none_kept few many later goes is))
    none

-- what is covered over the whole is so over the part, and then some index is allowed there
pub all_counted : (test : ℤ → Bool) (z : ℤ) (n : ℕ) → ((x : ℤ) → z ≤ℤ x → x <ℤ (z +ℤ pos n) → test x ≡ true) → list_all test (counted_up z n) ≡ true
all_counted test z zero each = refl
all_counted test z (suc n) each =
    and_from (test z) (list_all test (counted_up (z +ℤ pos 1) n)) (each z (omega (arith, ints)) (omega (arith, ints)))
    (all_counted test (z +ℤ pos 1) n (λ x low high. each x (omega (arith, ints)) (omega (arith, ints))))

covered_narrower : (a c : Ends) (set : List ℤ) → Within a c → is_covered c set ≡ true → is_covered a set ≡ true
covered_narrower a c set p covered =
    let lead = gap_leads a.low a.high p.ordered in
    let wide = gap_leads c.low c.high (omega (arith, ints, p.ordered, p.from_low, p.to_high)) in
    all_counted (λ number. list_any (int_eq number) set) a.low (int_gap a.low a.high + 1)
    (λ x low high. counted (λ number. list_any (int_eq number) set) x c.low (int_gap c.low c.high + 1) covered (omega (arith, ints, p.from_low)) (omega (arith, ints, lead, wide, p.to_high)))

are_covered_narrower : (narrow wide : List Ends) (sets : List (List ℤ)) → AllWithin narrow wide → are_covered wide sets ≡ true → are_covered narrow sets ≡ true
are_covered_narrower [] [] sets all covered = covered
are_covered_narrower [] (c ∷ wide) sets all covered = absurd all
are_covered_narrower (a ∷ narrow) [] sets all covered = absurd all
are_covered_narrower (a ∷ narrow) (c ∷ wide) [] all covered = cc
are_covered_narrower (a ∷ narrow) (c ∷ wide) (set ∷ sets) all covered =
    and_from (is_covered a set) (are_covered narrow sets) (covered_narrower a c set all.0 (and_first (is_covered c set) (are_covered wide sets) covered))
    (are_covered_narrower narrow wide sets all.1 (and_second (is_covered c set) (are_covered wide sets) covered))

abbrev pub lows_of : List Ends → List ℤ
lows_of es = map (λ (a : Ends). a.low) es

pub lows_lie : (narrow wide : List Ends) → AllWithin narrow wide → AllLie (lows_of narrow) narrow
lows_lie [] wide all = tt
lows_lie (a ∷ narrow) [] all = absurd all
lows_lie (a ∷ narrow) (c ∷ wide) all =
    (record { from_low = omega (arith, ints); to_high = all.0.ordered }, lows_lie narrow wide all.1)

some_reached : (table : Table) (narrow wide : List Ends) → length table.items ≡ length (indices table.sets) → AllWithin narrow wide → are_covered narrow table.sets ≡ true
    → reached narrow table ≡ [] → ⊥
some_reached table narrow wide complete all covered none =
    let lie = lows_lie narrow wide all in
    let xs = lows_of narrow in
    by_option (λ (v : Option Item). item_at table xs ≡ v → ⊥) (item_at table xs)
    (λ missing is. is_found xs (indices table.sets) table.items complete (mem_indices xs table.sets (all_in xs narrow table.sets covered lie)) missing)
    (λ item found is. subst (λ (es : List Entry). Has es item xs) none (reached_has table narrow xs item found lie))
    refl

reached_sharper : (covered all_covered : Bool) (few many : List Entry) → (many ≡ [] → few ≡ []) → (all_covered ≡ true → covered ≡ true) → (covered ≡ true → few ≡ [] → ⊥)
    → Sharper (reached_mark covered few) (reached_mark all_covered many)
reached_sharper covered all_covered [] [] none covers some = tt
reached_sharper covered all_covered (e ∷ few) [] none covers some = absurd (let wrong = none refl in cc)
reached_sharper covered false few (x ∷ many) none covers some = tt
reached_sharper covered true [] (x ∷ many) none covers some = absurd (some (covers refl) refl)
reached_sharper true true (e ∷ few) (x ∷ many) none covers some = tt
reached_sharper false true (e ∷ few) (x ∷ many) none covers some = absurd (let wrong = covers refl in cc)

pub sharper_element : (table : Table) (m n : Defined) (narrow wide : List Ends) → length table.items ≡ length (indices table.sets) → Sharper m n → AllWithin narrow wide
    → Sharper (element_mark table m narrow) (element_mark table n wide)
sharper_element table m n narrow wide complete p all =
    sharper_both m (reached_mark (are_covered narrow table.sets) (reached narrow table)) n (reached_mark (are_covered wide table.sets) (reached wide table)) p
    (reached_sharper (are_covered narrow table.sets) (are_covered wide table.sets) (reached narrow table) (reached wide table)
    (none_kept (lies_in narrow) (lies_in wide) (entries table) (λ xs. allowed narrow wide xs all))
    (are_covered_narrower narrow wide table.sets all)
    (some_reached table narrow wide complete all))
