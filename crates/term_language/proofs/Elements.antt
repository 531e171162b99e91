-- Elements of arrays.
use Rattle.std.proofs.Common.{◌≡◌, ◌⊎◌, inl, inr, ℕ, zero, suc, ◌+◌, ℤ, pos, ◌+ℤ◌, ◌≤ℤ◌, ◌<ℤ◌, int_le, Bool, true, false, if◌then◌else◌, List, [], ◌∷◌, ◌++◌, map, length}
use Rattle.std.proofs.Common.{Option, Some, None, option_map, option_and_then, IfSome, arith, refl, sym, ap, subst, ◌∙◌}
use Rattle.std.specs.List.{fold, filter, flat_map, list_all, list_any}
use Rattle.std.specs.Int.{int_gap}
use Rattle.std.specs.Ordering.{int_eq}
use Rattle.std.proofs.lemmas.Int.{ints, clamps, by_lt_z}
use Rattle.std.proofs.lemmas.Bool.{and_from, or_cases}
use Rattle.sopl_base.proofs.Tests.{equal_tested}
use Rattle.box_problem.proofs.Counts.{gap_leads}
use Rattle.box_problem.specs.Box.{Box, IsBox, InBox}
use Rattle.term_language.specs.declared.answers.Defined.{Defined}
use Rattle.term_language.specs.declared.answers.Defined.TheVariants.{Never, Maybe, Always}
use Rattle.term_language.specs.Terms.{Item, Fixed, Free, Table}
use Rattle.term_language.specs.Arrays.{Entry, indices, paired, entries, same_index, item_in, item_at, lies_in, reached, counted_up, is_covered, are_covered}
use Rattle.term_language.specs.Ends.{Ends, Lies, has, hull, hull_of}
use Rattle.term_language.specs.Forms.{Form, atom_form, is_constant}
use Rattle.term_language.specs.Marks.{both}
use Rattle.term_language.specs.Rules.{Reading, Near, Wide, unless_folded, item_form, element_form, item_ends, if_any, element_ends, reached_mark, element_mark}
use Rattle.term_language.specs.Values.{item_value}
use Rattle.term_language.specs.Laws.{Marks}
use Rattle.term_language.proofs.Products.{in_exactly}
use Rattle.term_language.proofs.FormValues.{by_if, by_bool, and_first, and_second, Off, cell_lies}
use Rattle.term_language.proofs.Layers.{IsClear, IsRead, marked_map, map_holds, off_atom, read_number, read_cell}
use Rattle.term_language.proofs.Lists.{AllLie, constants, AreRead}
use Rattle.term_language.proofs.Operations.{equal_tests}

-- an entry with this index and this item is in a list
abbrev pub Has : List Entry → Item → List ℤ → Type 0
Has [] item xs = ⊥
Has (e ∷ es) item xs = ((e.index ≡ xs) × (e.item ≡ item)) ⊎ Has es item xs

pub same_index_is : (xs ys : List ℤ) → same_index xs ys ≡ true → xs ≡ ys
same_index_is [] [] same = refl
same_index_is [] (y ∷ ys) same = cc
same_index_is (x ∷ xs) [] same = cc
same_index_is (x ∷ xs) (y ∷ ys) same =
    let first = equal_tested x y (and_first (int_eq x y) (same_index xs ys) same) in
    let later = same_index_is xs ys (and_second (int_eq x y) (same_index xs ys) same) in
    cc

some_item : (x y : Item) → Some x ≡ Some y → x ≡ y
some_item x y same = cc

found : (es : List Entry) (xs : List ℤ) (item : Item) → item_in es xs ≡ Some item → Has es item xs
found [] xs item is = cc
found (e ∷ es) xs item is =
    by_if (λ (v : Option Item). v ≡ Some item → Has (e ∷ es) item xs) (same_index e.index xs) (Some e.item) (item_in es xs)
    (λ same here. inl (same_index_is e.index xs same, some_item e.item item here))
    (λ other here. inr (found es xs item here)) is

has_it : (x : ℤ) (a : Ends) → Lies x a → has a x ≡ true
has_it x a p = and_from (int_le a.low x) (int_le x a.high) (le_test a.low x p.from_low) (le_test x a.high p.to_high)
  where
    le_test : (y z : ℤ) → y ≤ℤ z → int_le y z ≡ true
    le_test y z order = grind (arith, ints)

lies_in_test : (xs : List ℤ) (es : List Ends) → AllLie xs es → lies_in es xs ≡ true
lies_in_test [] [] lie = refl
lies_in_test [] (a ∷ es) lie = absurd lie
lies_in_test (x ∷ xs) [] lie = absurd lie
lies_in_test (x ∷ xs) (a ∷ es) lie = and_from (has a x) (lies_in es xs) (has_it x a lie.0) (lies_in_test xs es lie.1)

has_kept : (test : List ℤ → Bool) (entries : List Entry) (item : Item) (xs : List ℤ) → test xs ≡ true → Has entries item xs → Has (filter (λ (e : Entry). test e.index) entries) item xs
has_kept test [] item xs passes some = some
has_kept test (e ∷ later) item xs passes (inl here) =
    by_if (λ (kept : List Entry). Has kept item xs) (test e.index) (e ∷ filter (λ (e : Entry). test e.index) later) (filter (λ (e : Entry). test e.index) later)
    (λ in_it. inl here)
    (λ out. let in_it = ap test here.0 ∙ passes in absurd (cc))
has_kept test (e ∷ later) item xs passes (inr rest) =
    by_if (λ (kept : List Entry). Has kept item xs) (test e.index) (e ∷ filter (λ (e : Entry). test e.index) later) (filter (λ (e : Entry). test e.index) later)
    (λ in_it. inr (has_kept test later item xs passes rest))
    (λ out. has_kept test later item xs passes rest)

has_any : (some all : List Entry) (item : Item) (xs : List ℤ) → Has some item xs → Has (if_any some all) item xs
has_any [] all item xs some = absurd some
has_any (e ∷ later) all item xs some = some

-- hulls
hull_keeps : (z : ℤ) (a : Ends) (later : List Ends) → Lies z a → Lies z (fold hull a later)
hull_keeps z a [] p = p
hull_keeps z a (c ∷ later) p =
    hull_keeps z (hull a c) later (record { from_low = omega (arith, ints, clamps, p.from_low); to_high = omega (arith, ints, clamps, p.to_high) })

hull_right : (z : ℤ) (a c : Ends) → Lies z c → Lies z (hull a c)
hull_right z a c p = record { from_low = omega (arith, ints, clamps, p.from_low); to_high = omega (arith, ints, clamps, p.to_high) }

hull_has : (b : Box) (z : ℤ) (a : Ends) (entries : List Entry) (item : Item) (xs : List ℤ) → Has entries item xs → Lies z (item_ends b item)
    → Lies z (fold hull a (map (λ (e : Entry). item_ends b e.item) entries))
hull_has b z a [] item xs some p = absurd some
hull_has b z a (e ∷ later) item xs (inl here) p =
    hull_keeps z (hull a (item_ends b e.item)) (map (λ (e : Entry). item_ends b e.item) later)
    (hull_right z a (item_ends b e.item) (subst (λ (i : Item). Lies z (item_ends b i)) (sym here.1) p))
hull_has b z a (e ∷ later) item xs (inr rest) p = hull_has b z (hull a (item_ends b e.item)) later item xs rest p

in_hull : (b : Box) (z : ℤ) (entries : List Entry) (item : Item) (xs : List ℤ) → Has entries item xs → Lies z (item_ends b item) → Lies z (hull_of (map (λ (e : Entry). item_ends b e.item) entries))
in_hull b z [] item xs some p = absurd some
in_hull b z (e ∷ later) item xs (inl here) p =
    hull_keeps z (item_ends b e.item) (map (λ (e : Entry). item_ends b e.item) later) (subst (λ (i : Item). Lies z (item_ends b i)) (sym here.1) p)
in_hull b z (e ∷ later) item xs (inr rest) p = hull_has b z (item_ends b e.item) later item xs rest p

pub reached_has : (table : Table) (es : List Ends) (xs : List ℤ) (item : Item) → item_at table xs ≡ Some item → AllLie xs es → Has (reached es table) item xs
reached_has table es xs item is lie =
    has_kept (lies_in es) (entries table) item xs (lies_in_test xs es lie) (found (entries table) xs item is)

in_element : (reading : Reading) (b : Box) (z : ℤ) (table : Table) (es : List Ends) (xs : List ℤ) (item : Item) → item_at table xs ≡ Some item → AllLie xs es → Lies z (item_ends b item)
    → Lies z (element_ends reading b es table)
in_element Wide b z table es xs item is lie p = in_hull b z (entries table) item xs (found (entries table) xs item is) p
in_element Near b z table es xs item is lie p =
    in_hull b z (if_any (reached es table) (entries table)) item xs (has_any (reached es table) (entries table) item xs (reached_has table es xs item is lie)) p

item_lies : (b : Box) (p : List ℤ) (item : Item) → IsBox b → InBox b p → Lies (item_value p item) (item_ends b item)
item_lies b p (Fixed z) is_box q = in_exactly z z refl
item_lies b p (Free cell) is_box q = cell_lies b p is_box q cell

-- a list is among others
abbrev pub Mem : List ℤ → List (List ℤ) → Type 0
Mem xs [] = ⊥
Mem xs (ys ∷ later) = (ys ≡ xs) ⊎ Mem xs later

mem_left : (xs : List ℤ) (first second : List (List ℤ)) → Mem xs first → Mem xs (first ++ second)
mem_left xs [] second some = absurd some
mem_left xs (ys ∷ later) second (inl here) = inl here
mem_left xs (ys ∷ later) second (inr rest) = inr (mem_left xs later second rest)

mem_right : (xs : List ℤ) (first second : List (List ℤ)) → Mem xs second → Mem xs (first ++ second)
mem_right xs [] second some = some
mem_right xs (ys ∷ later) second some = inr (mem_right xs later second some)

mem_map : (x y : ℤ) (xs : List ℤ) (lists : List (List ℤ)) → x ≡ y → Mem xs lists → Mem (x ∷ xs) (map (λ later. y ∷ later) lists)
mem_map x y xs [] same some = absurd some
mem_map x y xs (ys ∷ later) same (inl here) = inl (sym (ap (λ (zs : List ℤ). x ∷ zs) (sym here) ∙ ap (λ (z : ℤ). z ∷ ys) same))
mem_map x y xs (ys ∷ later) same (inr rest) = inr (mem_map x y xs later same rest)

mem_set : (x : ℤ) (xs : List ℤ) (set : List ℤ) (lists : List (List ℤ)) → list_any (int_eq x) set ≡ true → Mem xs lists → Mem (x ∷ xs) (flat_map (λ number. map (λ later. number ∷ later) lists) set)
mem_set x xs [] lists within some = cc
mem_set x xs (number ∷ set) lists within some =
    elim (or_cases (int_eq x number) (list_any (int_eq x) set) within) [
      | inl here ↦ mem_left (x ∷ xs) (map (λ later. number ∷ later) lists) (flat_map (λ number. map (λ later. number ∷ later) lists) set) (mem_map x number xs lists (equal_tested x number here) some)
      | inr later ↦ mem_right (x ∷ xs) (map (λ later. number ∷ later) lists) (flat_map (λ number. map (λ later. number ∷ later) lists) set) (mem_set x xs set lists later some)
    ]

-- each number is in its set
abbrev pub AllIn : List ℤ → List (List ℤ) → Type 0
AllIn [] [] = Unit {0}
AllIn [] (set ∷ sets) = ⊥
AllIn (x ∷ xs) [] = ⊥
AllIn (x ∷ xs) (set ∷ sets) = (list_any (int_eq x) set ≡ true) × AllIn xs sets

pub mem_indices : (xs : List ℤ) (sets : List (List ℤ)) → AllIn xs sets → Mem xs (indices sets)
mem_indices [] [] within = inl refl
mem_indices [] (set ∷ sets) within = absurd within
mem_indices (x ∷ xs) [] within = absurd within
mem_indices (x ∷ xs) (set ∷ sets) within = mem_set x xs set (indices sets) within.0 (mem_indices xs sets within.1)

-- what passes from one number on passes at each
pub counted : (test : ℤ → Bool) (x z : ℤ) (n : ℕ) → list_all test (counted_up z n) ≡ true → z ≤ℤ x → x <ℤ (z +ℤ pos n) → test x ≡ true
counted test x z zero all low high = absurd (omega (arith, ints))
counted test x z (suc n) all low high =
    by_lt_z z x
    (λ above. counted test x (z +ℤ pos 1) n (and_second (test z) (list_all test (counted_up (z +ℤ pos 1) n)) all) (omega (arith, ints)) (omega (arith, ints)))
    (λ below.
    let same : z ≡ x = omega (arith, ints) in
    subst (λ (y : ℤ). test y ≡ true) same (and_first (test z) (list_all test (counted_up (z +ℤ pos 1) n)) all))

pub all_in : (xs : List ℤ) (es : List Ends) (sets : List (List ℤ)) → are_covered es sets ≡ true → AllLie xs es → AllIn xs sets
all_in [] [] [] covered lie = tt
all_in [] [] (set ∷ sets) covered lie = cc
all_in [] (a ∷ es) sets covered lie = absurd lie
all_in (x ∷ xs) [] sets covered lie = absurd lie
all_in (x ∷ xs) (a ∷ es) [] covered lie = cc
all_in (x ∷ xs) (a ∷ es) (set ∷ sets) covered lie =
    let lead = gap_leads a.low a.high (omega (arith, ints, lie.0.from_low, lie.0.to_high)) in (
      counted (λ number. list_any (int_eq number) set) x a.low (int_gap a.low a.high + 1) (and_first (is_covered a set) (are_covered es sets) covered) lie.0.from_low
          (omega (arith, ints, lie.0.to_high, lead)),
      all_in xs es sets (and_second (is_covered a set) (are_covered es sets) covered) lie.1,
    )

pub same_index_refl : (xs : List ℤ) → same_index xs xs ≡ true
same_index_refl [] = refl
same_index_refl (x ∷ xs) = and_from (int_eq x x) (same_index xs xs) (equal_tests x x refl) (same_index_refl xs)

-- an index that has an item is found
pub is_found : (xs : List ℤ) (lists : List (List ℤ)) (items : List Item) → length items ≡ length lists → Mem xs lists → item_in (paired lists items) xs ≡ None → ⊥
is_found xs [] items paired_up some none = some
is_found xs (ys ∷ lists) [] paired_up some none = omega arith
is_found xs (ys ∷ lists) (item ∷ items) paired_up (inl here) none =
    let same = ap (λ (zs : List ℤ). same_index zs xs) here ∙ same_index_refl xs in
    by_if (λ (v : Option Item). v ≡ None → ⊥) (same_index ys xs) (Some item) (item_in (paired lists items) xs)
    (λ met is. cc) (λ unmet is. cc) none
is_found xs (ys ∷ lists) (item ∷ items) paired_up (inr rest) none =
    by_if (λ (v : Option Item). v ≡ None → ⊥) (same_index ys xs) (Some item) (item_in (paired lists items) xs)
    (λ met is. cc) (λ unmet is. is_found xs lists items (omega arith) rest is) none

-- marks
pub by_option : {A : Type 0} (P : Option A → Type 0) (v : Option A) → (v ≡ None → P None) → ((x : A) → v ≡ Some x → P (Some x)) → P v
by_option P None none some = none refl
by_option P (Some x) none some = some x refl

mark_some : (covered : Bool) (entries : List Entry) (item : Item) (xs : List ℤ) → Has entries item xs → Marks (reached_mark covered entries) (Some item)
mark_some covered [] item xs some = absurd some
mark_some true (e ∷ later) item xs some = tt
mark_some false (e ∷ later) item xs some = tt

mark_none : (covered : Bool) (entries : List Entry) → (covered ≡ true → ⊥) → Marks {A = Item} (reached_mark covered entries) None
mark_none covered [] out = tt
mark_none true (e ∷ later) out = absurd (out refl)
mark_none false (e ∷ later) out = tt

mark_at : (table : Table) (es : List Ends) (xs : List ℤ) → length table.items ≡ length (indices table.sets) → AllLie xs es
    → Marks (reached_mark (are_covered es table.sets) (reached es table)) (item_at table xs)
mark_at table es xs complete lie =
    by_option (λ (v : Option Item). Marks (reached_mark (are_covered es table.sets) (reached es table)) v) (item_at table xs)
    (λ none. mark_none (are_covered es table.sets) (reached es table)
    (λ covered. is_found xs (indices table.sets) table.items complete (mem_indices xs table.sets (all_in xs es table.sets covered lie)) none))
    (λ item is. mark_some (are_covered es table.sets) (reached es table) item xs (reached_has table es xs item is lie))

marked_then : {A B : Type 0} (f : A → Option B) (m n : Defined) (v : Option A) → Marks m v → IfSome v (λ x. Marks n (f x)) → Marks (both m n) (option_and_then f v)
marked_then f Never n None p q = tt
marked_then f Never n (Some x) p q = absurd p
marked_then f Maybe Never None p q = tt
marked_then f Maybe Never (Some x) p q = q
marked_then f Maybe Maybe v p q = tt
marked_then f Maybe Always v p q = tt
marked_then f Always n None p q = absurd p
marked_then f Always n (Some x) p q = q

some_map : {A : Type 0} (P Q : A → Type 0) (v : Option A) → ((x : A) → P x → Q x) → IfSome v P → IfSome v Q
some_map P Q None goes p = tt
some_map P Q (Some x) goes p = goes x p

-- the element at numbers of the index set is its item
item_off : (p : List ℤ) (item : Item) (a : Ends) → Off p (item_value p item) (item_form (Some item)) (unless_folded (item_form (Some item)).plain a)
item_off p (Fixed z) a = (read_number p z).off
item_off p (Free cell) a = (read_cell p cell).off

item_clear : (found : Option Item) (a : Ends) → (item_form found).plain ≡ true → IsClear (unless_folded (item_form found).plain a)
item_clear None a plain = absurd (cc)
item_clear (Some (Fixed z)) a plain = record { low = refl; high = refl }
item_clear (Some (Free cell)) a plain = record { low = refl; high = refl }

two_options : {A B : Type 0} (f : A → Option B) (Q : A → Type 0) (P : B → Type 0) (v : Option A) → IfSome v Q → ((x : A) → Q x → IfSome (f x) P) → IfSome (option_and_then f v) P
two_options f Q P None q goes = tt
two_options f Q P (Some x) q goes = goes x q

some_both : {A C : Type 0} (P R : A → Type 0) (v : Option A) → IfSome v P → (C → IfSome v R) → IfSome v (λ x. P x × (C → R x))
some_both P R None p r = tt
some_both P R (Some x) p r = (p, r)

element_off : (reading : Reading) (b : Box) (p : List ℤ) (table : Table) (fs : List Form) (es : List Ends) (xs : List ℤ) → IsBox b → InBox b p → AllLie xs es
    → (list_all is_constant fs ≡ true → xs ≡ constants fs) → IfSome (item_at table xs)
    (λ item. Off p (item_value p item) (element_form table fs) (unless_folded (element_form table fs).plain (element_ends reading b es table)))
element_off reading b p table fs es xs is_box q lie fixed =
    by_option (λ (v : Option Item). IfSome v (λ item. Off p (item_value p item) (element_form table fs) (unless_folded (element_form table fs).plain (element_ends reading b es table))))
    (item_at table xs)
    (λ none. tt)
    (λ item is.
    by_bool (λ all. Off p (item_value p item) (if all then item_form (item_at table (constants fs)) else atom_form)
    (unless_folded (if all then item_form (item_at table (constants fs)) else atom_form).plain (element_ends reading b es table))) (list_all is_constant fs)
    (λ all.
    let there : item_at table (constants fs) ≡ Some item = ap (item_at table) (sym (fixed all)) ∙ is in
    subst (λ (v : Option Item). Off p (item_value p item) (item_form v) (unless_folded (item_form v).plain (element_ends reading b es table))) (sym there)
    (item_off p item (element_ends reading b es table)))
    (λ other. off_atom p (item_value p item) (element_ends reading b es table) (in_element reading b (item_value p item) table es xs item is lie (item_lies b p item is_box q))))

element_clear : (table : Table) (fs : List Form) (a : Ends) → (element_form table fs).plain ≡ true → IsClear (unless_folded (element_form table fs).plain a)
element_clear table fs a =
    by_bool (λ all. (if all then item_form (item_at table (constants fs)) else atom_form).plain ≡ true
    → IsClear (unless_folded (if all then item_form (item_at table (constants fs)) else atom_form).plain a)) (list_all is_constant fs)
    (λ all plain. item_clear (item_at table (constants fs)) a plain)
    (λ other plain. absurd (cc))

pub read_element : (reading : Reading) (b : Box) (p : List ℤ) (table : Table) (vs : Option (List ℤ)) (fs : List Form) (es : List Ends) (n : Defined) → IsBox b → InBox b p → length table.items
    ≡ length (indices table.sets) → AreRead vs fs es n → IsRead p (option_map (item_value p) (option_and_then (item_at table) vs)) (element_form table fs)
    (unless_folded (element_form table fs).plain (element_ends reading b es table)) (element_mark table n es)
read_element reading b p table vs fs es n is_box q complete read = record {
  off =
      map_holds (item_value p) (λ item. Off p (item_value p item) (element_form table fs) (unless_folded (element_form table fs).plain (element_ends reading b es table)))
      (λ x. Off p x (element_form table fs) (unless_folded (element_form table fs).plain (element_ends reading b es table))) (option_and_then (item_at table) vs) (λ item off. off)
      (two_options (item_at table) (λ xs. AllLie xs es × (list_all is_constant fs ≡ true → xs ≡ constants fs))
      (λ item. Off p (item_value p item) (element_form table fs) (unless_folded (element_form table fs).plain (element_ends reading b es table))) vs
      (some_both (λ xs. AllLie xs es) (λ xs. xs ≡ constants fs) vs read.lie read.fixed)
      (λ xs both_of_xs. element_off reading b p table fs es xs is_box q both_of_xs.0 both_of_xs.1));
  clear = element_clear table fs (element_ends reading b es table);
  marked = marked_map (item_value p) (element_mark table n es) (option_and_then (item_at table) vs)
      (marked_then (item_at table) n (reached_mark (are_covered es table.sets) (reached es table)) vs read.marked
      (some_map (λ xs. AllLie xs es) (λ xs. Marks (reached_mark (are_covered es table.sets) (reached es table)) (item_at table xs)) vs (λ xs lie. mark_at table es xs complete lie) read.lie));
}
