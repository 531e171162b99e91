-- The elements of a name, by where they come from.
use Rattle.std.proofs.Common.{arith, ◌≡◌, refl, sym, ap, ◌∙◌, ℕ, zero, suc, ◌+◌, ◌<◌, ◌≤◌, ℤ, Bool, true, false, cond, List, [], ◌∷◌, ◌++◌, length, map, get_or, slice_index_or}
use Rattle.std.proofs.Common.{drop, subst, Result, Ok, Err, OnOk}
use Rattle.std.proofs.lemmas.List.{at_drop_more, at_drop_all, append_assoc, append-nil, map-append, length-map}
use Rattle.std.specs.List.{filter, range_with_len}
use Rattle.std.specs.Str.{bytes_eq}
use Rattle.sopl_ast.specs.Known.{Constant}
use Rattle.sopl_ast.specs.Instances.{Decision, Stochastic}
use Rattle.sopl_scen.specs.Layout.{Layout, cell_in, value_in}
use Rattle.sopl_scen.specs.Levels.{no_variable}
use Rattle.term_language.specs.Terms as c
use Rattle.term_language.specs.Arrays.{Entry}
use Rattle.compile_laws.specs.Instances.{constant_elements, decided_elements, elements, seen_elements}
use Rattle.unfold_tables.specs.declared.listed.ConstantElement.{ConstantElement}
use Rattle.unfold_tables.specs.Listed.{element_shown, elements_named}
use Rattle.compile_names.specs.declared.origins.Origin.TheVariants.{Fixed}
use Rattle.compile_names.specs.declared.origins.Source.{Source}
use Rattle.compile_names.specs.Grouped.{numbers_of}
use Rattle.compile_names.specs.Listing.{constant_entry}
use Rattle.compile_names.specs.Places.{cells_at, values_at}
use Rattle.compile_names.specs.Variables.{decided_entry, decided_name, drawn_entry, drawn_name, entry_from, no_decision}

-- Constants.

pub constants_are : (name : List ℕ) (ks : List Constant) → map constant_entry (elements_named name ks) ≡ constant_elements name ks
constants_are name [] = refl
constants_are name (k ∷ later) = by (bytes_eq name k.name) (constants_are name later)
  where
    by : (b : Bool) → map constant_entry (elements_named name later) ≡ constant_elements name later
        → map constant_entry (map (λ (x : Constant). (x.index, x.value)) (cond b (k ∷ filter (λ (x : Constant). bytes_eq name x.name) later) (filter (λ (x : Constant). bytes_eq name x.name) later)))
        ≡ cond b ((record { index = k.index; item = c.Fixed k.value }) ∷ constant_elements name later) (constant_elements name later)
    by true rest = ap (λ l. (record { index = k.index; item = c.Fixed k.value }) ∷ l) rest
    by false rest = rest

-- Variables with a name, by their numbers.

module _ {A : Type 0} (label : A → List ℕ) (make : ℕ → A → Entry) (d : A) where
  -- what is made of those with a name; so many stand before them
  made : List ℕ → ℕ → List A → List Entry
  made name before [] = []
  made name before (x ∷ xs) = cond (bytes_eq name (label x)) (make before x ∷ made name (before + 1) xs) (made name (before + 1) xs)

  abbrev by_number : List A → ℕ → Entry
  by_number all j = make j (get_or all j d)

  made_are : (name : List ℕ) (all : List A) (before : ℕ) (xs : List A) → ((j : ℕ) → j < length xs → get_or all (before + j) d ≡ get_or xs j d)
      → made name before xs ≡ map (by_number all) (numbers_of name before (map label xs))
  unfolding made
  made_are name all before [] same = refl
  made_are name all before (x ∷ xs) same = by (bytes_eq name (label x)) here (made_are name all (before + 1) xs later)
    where
      here : make before x ≡ by_number all before
      here = ap (make before) (sym (same 0 (omega arith)) ∙ ap (λ k. get_or all k d) (omega arith))

      later : (j : ℕ) → j < length xs → get_or all ((before + 1) + j) d ≡ get_or xs j d
      later j below = ap (λ k. get_or all k d) (omega arith) ∙ same (suc j) (omega (arith, below))

      by : (b : Bool) → make before x ≡ by_number all before → made name (before + 1) xs ≡ map (by_number all) (numbers_of name (before + 1) (map label xs))
          → cond b (make before x ∷ made name (before + 1) xs) (made name (before + 1) xs)
          ≡ map (by_number all) (cond b (before ∷ numbers_of name (before + 1) (map label xs)) (numbers_of name (before + 1) (map label xs)))
      by true first rest = λ i. first i ∷ rest i
      by false first rest = rest

  all_made : (name : List ℕ) (all : List A) → made name 0 all ≡ map (by_number all) (numbers_of name 0 (map label all))
  all_made name all = made_are name all 0 all (λ j below. ap (λ k. get_or all k d) (omega arith))

-- Stochastic variables.

abbrev drawn_made : Layout → ℕ → ℕ → Stochastic → Entry
drawn_made tree i j s = record { index = s.index; item = c.Fixed (value_in tree j i) }

seen_made : (name : List ℕ) (tree : Layout) (i before : ℕ) (ss : List Stochastic)
    → made drawn_name (drawn_made tree i) no_variable name before ss ≡ seen_elements name ss (map (λ j. value_in tree j i) (range_with_len before (length ss)))
unfolding made
seen_made name tree i before [] = refl
seen_made name tree i before (s ∷ ss) = by (bytes_eq name s.name) (seen_made name tree i (before + 1) ss)
  where
    by : {xs ys : List Entry} → (b : Bool) → xs ≡ ys → cond b (drawn_made tree i before s ∷ xs) xs ≡ cond b (drawn_made tree i before s ∷ ys) ys
    by b rest = ap (λ l. cond b (drawn_made tree i before s ∷ l) l) rest

pub seen_are : (name : List ℕ) (ss : List Stochastic) (tree : Layout) (i : ℕ)
    → seen_elements name ss (values_at tree (length ss) i) ≡ map (drawn_entry ss tree i) (numbers_of name 0 (map drawn_name ss))
seen_are name ss tree i = sym (seen_made name tree i 0 ss) ∙ all_made drawn_name (drawn_made tree i) no_variable name ss

-- Decisions.

abbrev decided_made : Layout → ℕ → ℕ → Decision → Entry
decided_made tree i j d = record { index = d.index; item = c.Free (cell_in tree j i) }

chosen_made : (name : List ℕ) (tree : Layout) (i before : ℕ) (ds : List Decision)
    → made decided_name (decided_made tree i) no_decision name before ds ≡ decided_elements name ds (map (λ j. cell_in tree j i) (range_with_len before (length ds)))
unfolding made
chosen_made name tree i before [] = refl
chosen_made name tree i before (d ∷ ds) = by (bytes_eq name d.name) (chosen_made name tree i (before + 1) ds)
  where
    by : {xs ys : List Entry} → (b : Bool) → xs ≡ ys → cond b (decided_made tree i before d ∷ xs) xs ≡ cond b (decided_made tree i before d ∷ ys) ys
    by b rest = ap (λ l. cond b (decided_made tree i before d ∷ l) l) rest

pub decided_are : (name : List ℕ) (ds : List Decision) (tree : Layout) (i : ℕ)
    → decided_elements name ds (cells_at tree (length ds) i) ≡ map (decided_entry ds tree i) (numbers_of name 0 (map decided_name ds))
decided_are name ds tree i = sym (chosen_made name tree i 0 ds) ∙ all_made decided_name (decided_made tree i) no_decision name ds

-- Numbers that exist.

below_all : (name : List ℕ) (before : ℕ) (names : List (List ℕ)) (k d : ℕ) → k < length (numbers_of name before names) → get_or (numbers_of name before names) k d < before + length names
below_all name before [] k d below = absurd (omega (arith, below))
below_all name before (first ∷ later) k d below = by (bytes_eq name first) k below (below_all name (before + 1) later)
  where
    by : (b : Bool) (n : ℕ) → n < length (cond b (before ∷ numbers_of name (before + 1) later) (numbers_of name (before + 1) later))
        → ((m e : ℕ) → m < length (numbers_of name (before + 1) later) → get_or (numbers_of name (before + 1) later) m e < (before + 1) + length later)
        → get_or (cond b (before ∷ numbers_of name (before + 1) later) (numbers_of name (before + 1) later)) n d < before + suc (length later)
    by true zero within rest = omega arith
    by true (suc n) within rest = let h = rest n d (omega (arith, within)) in omega (arith, h)
    by false n within rest = let h = rest n d within in omega (arith, h)

-- a number of a name is that of a thing
pub number_exists : {A : Type 0} (label : A → List ℕ) (xs : List A) (name : List ℕ) (numbers : List ℕ) (k : ℕ) → numbers ≡ numbers_of name 0 (map label xs) → k < length numbers
    → slice_index_or numbers k 0 < length xs
number_exists label xs name numbers k are within =
    let below : k < length (numbers_of name 0 (map label xs)) = subst (λ l. k < length l) are within in
    let h : get_or (numbers_of name 0 (map label xs)) k 0 < 0 + length (map label xs) = below_all name 0 (map label xs) k 0 below in
    let is : slice_index_or numbers k 0 ≡ get_or (numbers_of name 0 (map label xs)) k 0 = ap (λ l. get_or l k 0) are in
    let same : length (map label xs) ≡ length xs = length-map xs label in
    omega (arith, h, is, same)

-- One by one.

module _ (make : Layout → ℕ → ℕ → Entry) (xs : List ℕ) (k : ℕ) where
  listed_more : (x : ℕ) (old new : List Source) (pushed : Source) → k < length xs → x ≡ get_or xs k x → ((tree : Layout) (i : ℕ) → entry_from tree i pushed ≡ make tree i x)
      → new ≡ old ++ pushed ∷ [] → (tree : Layout) (i : ℕ)
      → map (entry_from tree i) new ++ map (make tree i) (drop (k + 1) xs) ≡ map (entry_from tree i) old ++ map (make tree i) (drop k xs)
  listed_more x old new pushed below at made is tree i =
      ap (λ l. map (entry_from tree i) l ++ map (make tree i) (drop (k + 1) xs)) is
      ∙ ap (λ l. l ++ map (make tree i) (drop (k + 1) xs)) (map-append (entry_from tree i) old (pushed ∷ []))
      ∙ append_assoc (map (entry_from tree i) old) (entry_from tree i pushed ∷ []) (map (make tree i) (drop (k + 1) xs))
      ∙ ap (λ e. map (entry_from tree i) old ++ e ∷ map (make tree i) (drop (k + 1) xs)) (made tree i)
      ∙ ap (λ rest. map (entry_from tree i) old ++ rest) (ap (λ y. map (make tree i) (y ∷ drop (k + 1) xs)) at ∙ sym (at_drop_more (λ rest. map (make tree i) rest) xs k x below))

  pub listed_end : (found : List Source) → length xs ≤ k → (tree : Layout) (i : ℕ) → map (entry_from tree i) found ++ map (make tree i) (drop k xs) ≡ map (entry_from tree i) found
  listed_end found past tree i = ap (λ rest. map (entry_from tree i) found ++ rest) (at_drop_all (λ rest. map (make tree i) rest) xs k past) ∙ append-nil (map (entry_from tree i) found)

pub drawn_more : (ss : List Stochastic) (xs : List ℕ) (k x : ℕ) (old new : List Source) (pushed : Source) → k < length xs → x ≡ get_or xs k x
    → ((tree : Layout) (i : ℕ) → entry_from tree i pushed ≡ drawn_entry ss tree i x) → new ≡ old ++ pushed ∷ [] → (tree : Layout) (i : ℕ)
    → map (entry_from tree i) new ++ map (drawn_entry ss tree i) (drop (k + 1) xs) ≡ map (entry_from tree i) old ++ map (drawn_entry ss tree i) (drop k xs)
drawn_more ss = listed_more (drawn_entry ss)

pub decided_more : (ds : List Decision) (xs : List ℕ) (k x : ℕ) (old new : List Source) (pushed : Source) → k < length xs → x ≡ get_or xs k x
    → ((tree : Layout) (i : ℕ) → entry_from tree i pushed ≡ decided_entry ds tree i x) → new ≡ old ++ pushed ∷ [] → (tree : Layout) (i : ℕ)
    → map (entry_from tree i) new ++ map (decided_entry ds tree i) (drop (k + 1) xs) ≡ map (entry_from tree i) old ++ map (decided_entry ds tree i) (drop k xs)
decided_more ds = listed_more (decided_entry ds)

module _ (xs : List ConstantElement) (k : ℕ) where
  -- one constant more
  pub fixed_more : (x : ConstantElement) (old new : List Source) → k < length xs → x ≡ get_or xs k x → new ≡ old ++ (record { index = x.index; origin = Fixed x.value }) ∷ []
      → (tree : Layout) (i : ℕ)
      → map (entry_from tree i) new ++ map constant_entry (map element_shown (drop (k + 1) xs)) ≡ map (entry_from tree i) old ++ map constant_entry (map element_shown (drop k xs))
  fixed_more x old new below at is tree i =
      ap (λ l. map (entry_from tree i) l ++ map constant_entry (map element_shown (drop (k + 1) xs))) is
      ∙ ap (λ l. l ++ map constant_entry (map element_shown (drop (k + 1) xs))) (map-append (entry_from tree i) old ((record { index = x.index; origin = Fixed x.value }) ∷ []))
      ∙ append_assoc (map (entry_from tree i) old) (constant_entry (element_shown x) ∷ []) (map constant_entry (map element_shown (drop (k + 1) xs)))
      ∙ ap (λ rest. map (entry_from tree i) old ++ rest)
      (ap (λ y. map constant_entry (map element_shown (y ∷ drop (k + 1) xs))) at ∙ sym (at_drop_more (λ rest. map constant_entry (map element_shown rest)) xs k x below))

  -- none is left
  pub fixed_end : (found : List Source) → length xs ≤ k → (tree : Layout) (i : ℕ)
      → map (entry_from tree i) found ++ map constant_entry (map element_shown (drop k xs)) ≡ map (entry_from tree i) found
  fixed_end found past tree i =
      ap (λ rest. map (entry_from tree i) found ++ rest) (at_drop_all (λ rest. map constant_entry (map element_shown rest)) xs k past) ∙ append-nil (map (entry_from tree i) found)

same_default : (xs : List ConstantElement) (k : ℕ) (d e : ConstantElement) → k < length xs → get_or xs k d ≡ get_or xs k e
same_default [] k d e below = absurd (omega (arith, below))
same_default (x ∷ xs) zero d e below = refl
same_default (x ∷ xs) (suc k) d e below = same_default xs k d e (omega (arith, below))

-- the one at a place
pub fixed_at : (xs : List ConstantElement) (k : ℕ) (d : ConstantElement) (z : ℤ) (old new : List Source) → k < length xs → z ≡ (get_or xs k d).value
    → new ≡ old ++ (record { index = (get_or xs k d).index; origin = Fixed z }) ∷ [] → (tree : Layout) (i : ℕ)
    → map (entry_from tree i) new ++ map constant_entry (map element_shown (drop (k + 1) xs)) ≡ map (entry_from tree i) old ++ map constant_entry (map element_shown (drop k xs))
fixed_at xs k d z old new below same is =
    fixed_more xs k (get_or xs k d) old new below (same_default xs k d (get_or xs k d) below)
    (is ∙ ap (λ y. old ++ (record { index = (get_or xs k d).index; origin = Fixed y }) ∷ []) same)

-- constants, whatever comes
pub constants_either : {A B : Type 0} (result : Result A B) (old new : List Source) (name : List ℕ) (ks : List Constant) (elements : List ConstantElement) → map element_shown elements
    ≡ elements_named name ks
    → OnOk result ((tree : Layout) (i : ℕ) → map (entry_from tree i) new ≡ map (entry_from tree i) old ++ map constant_entry (map element_shown elements))
    → OnOk result ((tree : Layout) (i : ℕ) → map (entry_from tree i) new ≡ map (entry_from tree i) old ++ constant_elements name ks)
constants_either (Ok x) old new name ks elements are listed =
    λ tree i. listed tree i ∙ ap (λ l. map (entry_from tree i) old ++ l) (ap (map constant_entry) are ∙ constants_are name ks)
constants_either (Err y) old new name ks elements are listed = tt
