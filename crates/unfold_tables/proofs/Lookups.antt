-- Elements, ranges and sets are found among entries one by one.
use Rattle.std.proofs.Common.{◌≡◌, refl, sym, ap, ◌∙◌, ℕ, ◌+◌, ◌<◌, ◌≤◌, ℤ, Bool, true, false, cond, List, [], ◌∷◌, ◌++◌, length, get_or, drop, Option, Some, None}
use Rattle.std.proofs.lemmas.List.{at_drop_more, at_drop_all}
use Rattle.std.specs.Str.{bytes_eq}
use Rattle.std.specs.declared.alloc.Global.{Global}
use Rattle.std.specs.declared.vec.Vec.{Vec}
use Rattle.sopl_ast.specs.Numbers.{or_else}
use Rattle.sopl_ast.specs.Known.{Constant, NumberSet, NamedSet, constant_value, set_named, is_at, same_values}
use Rattle.unfold_tables.specs.declared.table.Entry.{Entry}
use Rattle.unfold_tables.specs.Tables.{constants_in, sets_in, constants_under, sets_under, element_value, pairs, items}

first_or : {A : Type 0} (b : Bool) (x : A) (r s : Option A) → cond b (Some x) (or_else r s) ≡ or_else (cond b (Some x) r) s
first_or true x r s = refl
first_or false x r s = refl

-- the elements of two lists
pub constant_append : (name : List ℕ) (index : List ℤ) (xs ys : List Constant)
    → constant_value name index (xs ++ ys) ≡ or_else (constant_value name index xs) (constant_value name index ys)
constant_append name index [] ys = refl
constant_append name index (x ∷ xs) ys =
    ap (cond (is_at name index x.name x.index) (Some x.value)) (constant_append name index xs ys)
    ∙ first_or (is_at name index x.name x.index) x.value (constant_value name index xs) (constant_value name index ys)

-- the ranges and sets of two lists
pub set_append : (name : List ℕ) (xs ys : List NamedSet) → set_named name (xs ++ ys) ≡ or_else (set_named name xs) (set_named name ys)
set_append name [] ys = refl
set_append name (x ∷ xs) ys =
    ap (cond (bytes_eq name x.name) (Some x.numbers)) (set_append name xs ys)
    ∙ first_or (bytes_eq name x.name) x.numbers (set_named name xs) (set_named name ys)

-- the values of two lists
pub element_append : (index : List ℤ) (xs ys : List (List ℤ × ℤ)) → element_value index (xs ++ ys) ≡ or_else (element_value index xs) (element_value index ys)
element_append index [] ys = refl
element_append index (x ∷ xs) ys =
    ap (cond (same_values index x.0) (Some x.1)) (element_append index xs ys)
    ∙ first_or (same_values index x.0) x.1 (element_value index xs) (element_value index ys)

module _ (name : List ℕ) (index : List ℤ) (es : List Entry) (i : ℕ) where
  -- an entry, and those behind it
  element_next : (e : Entry) → i < length es → e ≡ get_or es i e
      → constant_value name index (constants_in (drop i es))
      ≡ or_else (constant_value name index (constants_under (items e.name) e.entity)) (constant_value name index (constants_in (drop (i + 1) es)))
  element_next e below at =
      at_drop_more (λ rest. constant_value name index (constants_in rest)) es i e below
      ∙ ap (λ x. constant_value name index (constants_in (x ∷ drop (i + 1) es))) (sym at)
      ∙ constant_append name index (constants_under (items e.name) e.entity) (constants_in (drop (i + 1) es))

  -- the next entry has no such element
  pub element_more : (e : Entry) → i < length es → e ≡ get_or es i e → constant_value name index (constants_under (items e.name) e.entity) ≡ None
      → constant_value name index (constants_in (drop (i + 1) es)) ≡ constant_value name index (constants_in (drop i es))
  element_more e below at none = sym (element_next e below at ∙ ap (λ o. or_else o (constant_value name index (constants_in (drop (i + 1) es)))) none)

  -- the next entry has it
  pub element_here : (e : Entry) (v : ℤ) → i < length es → e ≡ get_or es i e → constant_value name index (constants_under (items e.name) e.entity) ≡ Some v
      → constant_value name index (constants_in (drop i es)) ≡ Some v
  element_here e v below at some = element_next e below at ∙ ap (λ o. or_else o (constant_value name index (constants_in (drop (i + 1) es)))) some

  -- no entry is left
  pub element_end : length es ≤ i → constant_value name index (constants_in (drop i es)) ≡ None
  element_end past = at_drop_all (λ rest. constant_value name index (constants_in rest)) es i past

module _ (name : List ℕ) (es : List Entry) (i : ℕ) where
  -- an entry, and those behind it
  set_next : (e : Entry) → i < length es → e ≡ get_or es i e
      → set_named name (sets_in (drop i es)) ≡ or_else (set_named name (sets_under (items e.name) e.entity)) (set_named name (sets_in (drop (i + 1) es)))
  set_next e below at =
      at_drop_more (λ rest. set_named name (sets_in rest)) es i e below
      ∙ ap (λ x. set_named name (sets_in (x ∷ drop (i + 1) es))) (sym at)
      ∙ set_append name (sets_under (items e.name) e.entity) (sets_in (drop (i + 1) es))

  -- the next entry is no such set
  pub set_more : (e : Entry) → i < length es → e ≡ get_or es i e → set_named name (sets_under (items e.name) e.entity) ≡ None
      → set_named name (sets_in (drop (i + 1) es)) ≡ set_named name (sets_in (drop i es))
  set_more e below at none = sym (set_next e below at ∙ ap (λ o. or_else o (set_named name (sets_in (drop (i + 1) es)))) none)

  -- the next entry is it
  pub set_here : (e : Entry) (v : NumberSet) → i < length es → e ≡ get_or es i e → set_named name (sets_under (items e.name) e.entity) ≡ Some v
      → set_named name (sets_in (drop i es)) ≡ Some v
  set_here e v below at some = set_next e below at ∙ ap (λ o. or_else o (set_named name (sets_in (drop (i + 1) es)))) some

  -- no entry is left
  pub set_end : length es ≤ i → set_named name (sets_in (drop i es)) ≡ None
  set_end past = at_drop_all (λ rest. set_named name (sets_in rest)) es i past

pub ruleset entries = (element_more, element_here, element_end, set_more, set_here, set_end)

module _ (index : List ℤ) (xs : List (Vec ℤ Global × ℤ)) (i : ℕ) where
  -- the next index is another
  pub among_more : (x : Vec ℤ Global × ℤ) → i < length xs → x ≡ get_or xs i x → same_values index (items x.0) ≡ false
      → element_value index (pairs (drop (i + 1) xs)) ≡ element_value index (pairs (drop i xs))
  among_more x below at other =
      sym (ap (λ t. cond t (Some x.1) (element_value index (pairs (drop (i + 1) xs)))) other)
      ∙ ap (λ y. element_value index (pairs (y ∷ drop (i + 1) xs))) at
      ∙ sym (at_drop_more (λ rest. element_value index (pairs rest)) xs i x below)

  -- the next index is the one
  pub among_here : (x : Vec ℤ Global × ℤ) → i < length xs → x ≡ get_or xs i x → same_values index (items x.0) ≡ true
      → element_value index (pairs (drop i xs)) ≡ Some x.1
  among_here x below at one =
      at_drop_more (λ rest. element_value index (pairs rest)) xs i x below
      ∙ sym (ap (λ y. element_value index (pairs (y ∷ drop (i + 1) xs))) at)
      ∙ ap (λ t. cond t (Some x.1) (element_value index (pairs (drop (i + 1) xs)))) one

  -- no index is left
  pub among_end : length xs ≤ i → element_value index (pairs (drop i xs)) ≡ None
  among_end past = at_drop_all (λ rest. element_value index (pairs rest)) xs i past

pub ruleset elements = (among_more, among_here, among_end)
