-- An element whose indices are numbers, and an index of the array's, is as defined as its indices.
use Rattle.std.proofs.Common.{◌≡◌, inl, inr, ◌+◌, ℤ, Bool, true, false, if◌then◌else◌, List, [], ◌∷◌, map, Option, Some, arith}
use Rattle.std.proofs.Common.{refl, ap, subst, sym, ◌∙◌}
use Rattle.std.specs.List.{filter, flat_map, list_all, list_any}
use Rattle.std.specs.Int.{int_gap}
use Rattle.std.specs.Ordering.{int_eq}
use Rattle.std.proofs.lemmas.Int.{ints}
use Rattle.std.proofs.lemmas.Bool.{and_from, or_left, or_right}
use Rattle.box_problem.specs.Box.{Box, IsBox}
use Rattle.box_problem.proofs.Counts.{gap_leads}
use Rattle.term_language.specs.Arrays.{Entry, indices, paired, item_at, lies_in, reached, is_covered, are_covered}
use Rattle.term_language.specs.Ends as ends
use Rattle.term_language.specs.Forms.{Form, atom_form, is_constant}
use Rattle.term_language.specs.Marks.{both, all_marks}
use Rattle.term_language.specs.Rules.{Reading, Near, Wide, forms, mark, marks, intervals, unless_folded, item_form, element_form, element_ends, reached_mark, element_mark}
use Rattle.term_language.specs.Sizes.{alone_weight}
use Rattle.term_language.specs.Laws.{AreProper}
use Rattle.term_language.specs.Terms as rule
use Rattle.term_language.specs.declared.answers.Defined.{Defined}
use Rattle.term_language.specs.declared.answers.Defined.TheVariants.{Always}
use Rattle.term_language.specs.declared.answers.Truth.TheVariants.{True}
use Rattle.term_language.proofs.FormValues.{by_if, by_bool}
use Rattle.term_language.proofs.Products.{in_exactly}
use Rattle.term_language.proofs.Lists.{AllLie, constants}
use Rattle.term_language.proofs.Elements.{Has, Mem, by_option, reached_has}
use Rattle.term_language.proofs.ElementParts.{all_counted}
use Rattle.term_language.proofs.Operations.{equal_tests}
use Rattle.term_language.proofs.ElementPoints.{mem_append}
use Rattle.term_math.proofs.Constants.{constant_intervals}
use Rattle.term_language.proofs.Marks.{both_always}
use Rattle.term_nodes.specs.Things.{a_term}
use Rattle.term_nodes.specs.Built.{Facts, facts_of}
use Rattle.term_store.specs.Atoms.{of_item}

-- an index that has an item is one of the array's
has_index : (test : List ℤ → Bool) (lists : List (List ℤ)) (items : List rule.Item) (item : rule.Item) (xs : List ℤ) → Has (filter (λ (e : Entry). test e.index) (paired lists items)) item xs
    → Mem xs lists
has_index test [] items item xs some = some
has_index test (ys ∷ lists) [] item xs some = absurd some
has_index test (ys ∷ lists) (i ∷ items) item xs some =
    let later : List Entry = filter (λ (e : Entry). test e.index) (paired lists items) in
    let more : Has later item xs → Mem xs (ys ∷ lists) = λ rest. inr (has_index test lists items item xs rest) in
    by_if (λ (kept : List Entry). Has kept item xs → Mem xs (ys ∷ lists)) (test ys) (record { index = ys; item = i } ∷ later) later
    (λ in_it kept. elim kept [
      | inl here ↦ inl here.0
      | inr rest ↦ more rest
    ])
    (λ out kept. more kept) some

-- an index under a number begins with it
none_under : (number : ℤ) (lists : List (List ℤ)) → Mem [] (map (λ later. number ∷ later) lists) → ⊥
none_under number [] some = some
none_under number (ys ∷ lists) (inl here) = cc
none_under number (ys ∷ lists) (inr rest) = none_under number lists rest

mem_under : (x number : ℤ) (xs : List ℤ) (lists : List (List ℤ)) → Mem (x ∷ xs) (map (λ later. number ∷ later) lists) → (number ≡ x) × Mem xs lists
mem_under x number xs [] some = absurd some
mem_under x number xs (ys ∷ lists) (inl here) = (cc, inl (cc))
mem_under x number xs (ys ∷ lists) (inr rest) =
    let found = mem_under x number xs lists rest in
    (found.0, inr found.1)

none_empty : (set : List ℤ) (lists : List (List ℤ)) → Mem [] (flat_map (λ number. map (λ later. number ∷ later) lists) set) → ⊥
none_empty [] lists some = some
none_empty (number ∷ set) lists some =
    elim (mem_append [] (map (λ later. number ∷ later) lists) (flat_map (λ number. map (λ later. number ∷ later) lists) set) some) [
      | inl here ↦ none_under number lists here
      | inr rest ↦ none_empty set lists rest
    ]

mem_numbers : (x : ℤ) (xs set : List ℤ) (lists : List (List ℤ)) → Mem (x ∷ xs) (flat_map (λ number. map (λ later. number ∷ later) lists) set) → (list_any (int_eq x) set ≡ true) × Mem xs lists
mem_numbers x xs [] lists some = absurd some
mem_numbers x xs (number ∷ set) lists some =
    elim (mem_append (x ∷ xs) (map (λ later. number ∷ later) lists) (flat_map (λ number. map (λ later. number ∷ later) lists) set) some) [
      | inl here ↦
          (let found = mem_under x number xs lists here in
          (or_left (int_eq x number) (list_any (int_eq x) set) (equal_tests x number (sym found.0)), found.1))
      | inr rest ↦
          (let found = mem_numbers x xs set lists rest in
          (or_right (int_eq x number) (list_any (int_eq x) set) found.0, found.1))
    ]

-- a number that a set has is covered by it
number_covered : (x : ℤ) (set : List ℤ) → list_any (int_eq x) set ≡ true → is_covered (ends.exactly x) set ≡ true
number_covered x set within =
    all_counted (λ number. list_any (int_eq number) set) x (int_gap x x + 1)
    (λ y low high.
    let same : x ≡ y = omega (arith, ints, gap_leads x x (omega (arith, ints)), low, high) in
    subst (λ (z : ℤ). list_any (int_eq z) set ≡ true) same within)

mem_covered : (xs : List ℤ) (sets : List (List ℤ)) → Mem xs (indices sets) → are_covered (map ends.exactly xs) sets ≡ true
mem_covered [] [] some = refl
mem_covered (x ∷ xs) [] (inl here) = cc
mem_covered (x ∷ xs) [] (inr rest) = absurd rest
mem_covered [] (set ∷ sets) some = absurd (none_empty set (indices sets) some)
mem_covered (x ∷ xs) (set ∷ sets) some =
    let found = mem_numbers x xs set (indices sets) some in
    and_from (is_covered (ends.exactly x) set) (are_covered (map ends.exactly xs) sets) (number_covered x set found.0) (mem_covered xs sets found.1)

-- numbers lie in their own intervals
lie_exactly : (xs : List ℤ) → AllLie xs (map ends.exactly xs)
lie_exactly [] = tt
lie_exactly (x ∷ xs) = (in_exactly x x refl, lie_exactly xs)

always_reached : (covered : Bool) (es : List Entry) (item : rule.Item) (xs : List ℤ) → covered ≡ true → Has es item xs → reached_mark covered es ≡ Always
always_reached covered [] item xs is some = absurd some
always_reached true (e ∷ es) item xs is some = refl
always_reached false (e ∷ es) item xs is some = cc

found_mark : (table : rule.Table) (xs : List ℤ) (item : rule.Item) (m : Defined) → item_at table xs ≡ Some item → element_mark table m (map ends.exactly xs) ≡ m
found_mark table xs item m is =
    let es : List ends.Ends = map ends.exactly xs in
    let has : Has (reached es table) item xs = reached_has table es xs item is (lie_exactly xs) in
    let covered : are_covered es table.sets ≡ true = mem_covered xs table.sets (has_index (lies_in es) (indices table.sets) table.items item xs has) in
    ap (both m) (always_reached (are_covered es table.sets) (reached es table) item xs covered has) ∙ both_always m

-- an element that has the form of an item has indices that are numbers, and an item there
item_plain : (item : rule.Item) → (item_form (Some item)).plain ≡ true
item_plain (rule.Fixed z) = refl
item_plain (rule.Free cell) = refl

form_plain : (item : rule.Item) (f : Form) → item_form (Some item) ≡ f → f.plain ≡ true
form_plain item f is = ap (λ (g : Form). g.plain) (sym is) ∙ item_plain item

all_numbers : (table : rule.Table) (fs : List Form) (item : rule.Item) → item_form (Some item) ≡ element_form table fs → list_all is_constant fs ≡ true
all_numbers table fs item is =
    by_bool (λ (b : Bool). (if b then item_form (item_at table (constants fs)) else atom_form).plain ≡ true → b ≡ true) (list_all is_constant fs)
    (λ all plain. refl) (λ other plain. cc) (form_plain item (element_form table fs) is)

form_there : (table : rule.Table) (fs : List Form) (item : rule.Item) → item_form (Some item) ≡ element_form table fs → (item_form (item_at table (constants fs))).plain ≡ true
form_there table fs item is =
    ap (λ (b : Bool). (if b then item_form (item_at table (constants fs)) else atom_form).plain) (sym (all_numbers table fs item is))
    ∙ form_plain item (element_form table fs) is

known_mark : (table : rule.Table) (fs : List Form) (item : rule.Item) (m : Defined) → item_form (Some item) ≡ element_form table fs → element_mark table m (map ends.exactly (constants fs)) ≡ m
known_mark table fs item m is =
    by_option (λ (v : Option rule.Item). item_at table (constants fs) ≡ v → (item_form v).plain ≡ true → element_mark table m (map ends.exactly (constants fs)) ≡ m) (item_at table (constants fs))
    (λ none same plain. cc)
    (λ found there same plain. found_mark table (constants fs) found m there)
    refl (form_there table fs item is)

-- what is known of it
module _ (root : Box) (table : rule.Table) (ts : rule.Terms) (item : rule.Item) (is_box : IsBox root) (proper : AreProper ts) (known : item_form (Some item) ≡ element_form table (forms root ts)) where
  known_marks : (reading : Reading) → mark reading root root (rule.Element table ts) ≡ all_marks (marks reading root root ts)
  known_marks reading =
      ap (element_mark table (all_marks (marks reading root root ts))) (constant_intervals reading root root ts is_box proper (all_numbers table (forms root ts) item known))
      ∙ known_mark table (forms root ts) item (all_marks (marks reading root root ts)) known

  abbrev facts_with : Form → Defined → Defined → Facts
  facts_with f near far = record {
    form = f;
    mark = near;
    wide_mark = far;
    wide = unless_folded f.plain (element_ends Wide root (intervals Wide root root ts) table);
    weight = alone_weight f (unless_folded f.plain (element_ends Wide root (intervals Wide root root ts) table));
    truth = True;
  }

  item_with : (i : rule.Item) (near far : Defined) → of_item i near far ≡ facts_with (item_form (Some i)) near far
  item_with (rule.Fixed z) near far = refl
  item_with (rule.Free cell) near far = refl

  pub item_kept : (near far : Defined) → near ≡ all_marks (marks Near root root ts) → far ≡ all_marks (marks Wide root root ts) → of_item item near far ≡ facts_of root (a_term (rule.Element table ts))
  item_kept near far is_near is_far =
      item_with item near far
      ∙ ap (λ (m : Defined). facts_with (item_form (Some item)) m far) (is_near ∙ sym (known_marks Near))
      ∙ ap (λ (m : Defined). facts_with (item_form (Some item)) (mark Near root root (rule.Element table ts)) m) (is_far ∙ sym (known_marks Wide))
      ∙ ap (λ (f : Form). facts_with f (mark Near root root (rule.Element table ts)) (mark Wide root root (rule.Element table ts))) known
