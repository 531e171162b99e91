-- Where the entries of a name begin: what is passed by has another name.
use Rattle.std.proofs.Common.{◌≡◌, refl, sym, ap, subst, ◌∙◌, ℕ, zero, suc, ◌≤◌, ℤ, Bool, true, false, ◌&&◌, ◌||◌, true≢false, cond, T, is_some, List, [], ◌∷◌, ◌++◌, length, take}
use Rattle.std.proofs.Common.{drop, Option, Some, None, Result, Ok, Err, OnOk, OnErr, nat_eq, int_eq, length-append, arith}
use Rattle.std.proofs.lemmas.List.{append_assoc, append-nil, map-append}
use Rattle.std.specs.Borrow.{Bor}
use Rattle.std.specs.Cmp.Lexicographic.{pointwise, nat_list_eq_equiv}
use Rattle.std.specs.List.{list_any}
use Rattle.std.specs.Map.{lookup}
use Rattle.std.specs.Option.{unwrap_or, option_copied}
use Rattle.std.specs.Str.{bytes_eq}
use Rattle.std.specs.declared.alloc.Global.{Global}
use Rattle.std.specs.declared.vec.Vec.{Vec}
use Rattle.indexmap.specs.IndexMap.{insert_entry}
use Rattle.std.proofs.lemmas.Bool.{or_from, or_parts}
use Rattle.sopl_ast.specs.Numbers.{or_else}
use Rattle.sopl_ast.specs.Known.{constant_value, set_named, same_values}
use Rattle.unfold_tables.specs.declared.table.TableEntry.{TableEntry}
use Rattle.unfold_tables.specs.declared.table.TableEntry.TheVariants as entity
use Rattle.unfold_tables.specs.declared.table.Entry.{Entry}
use Rattle.unfold_tables.specs.Starts.{start_of}
use Rattle.unfold_tables.specs.Tables.{constants_in, sets_in, constants_under, sets_under, element_value, elements_in, named, number_set, pairs, items}
use Rattle.unfold_tables.proofs.Lookups.{constant_append, set_append}

-- whether an entry has a name
abbrev pub has_name : List ℕ → Entry → Bool
has_name name e = bytes_eq name e.name.items

-- a name that is entered behind all others begins where it would have begun
pub start_appended : (name : List ℕ) (ps : List (Vec ℕ Global × ℕ)) (key : Vec ℕ Global) (n : ℕ)
    → start_of name (ps ++ (key, n) ∷ []) n ≡ start_of name ps n
start_appended name [] key n = either (pointwise nat_eq name key.items)
  where
    either : (b : Bool) → unwrap_or (cond b (Some n) None) n ≡ n
    either true = refl
    either false = refl
start_appended name (p ∷ ps) key n = on (start_appended name ps key n) (pointwise nat_eq name p.0.items)
  where
    on : start_of name (ps ++ (key, n) ∷ []) n ≡ start_of name ps n → (b : Bool) → unwrap_or (cond b (Some p.1) (lookup (λ k. pointwise nat_eq name k.items) (ps ++ (key, n) ∷ []))) n
        ≡ unwrap_or (cond b (Some p.1) (lookup (λ k. pointwise nat_eq name k.items) ps)) n
    on rest true = refl
    on rest false = rest

-- the prefix of a list does not change where more stands behind it
prefix_any : {A : Type 0} (p : A → Bool) (xs ys : List A) (n : ℕ) → n ≤ length xs → list_any p (take n (xs ++ ys)) ≡ list_any p (take n xs)
prefix_any p [] ys zero h = refl
prefix_any p [] ys (suc n) h = absurd (omega (arith, h))
prefix_any p (x ∷ xs) ys zero h = refl
prefix_any p (x ∷ xs) ys (suc n) h = ap (λ rest. p x || rest) (prefix_any p xs ys n (omega (arith, h)))

whole_any : {A : Type 0} (p : A → Bool) (xs : List A) → list_any p (take (length xs) xs) ≡ list_any p xs
whole_any p [] = refl
whole_any p (x ∷ xs) = ap (λ rest. p x || rest) (whole_any p xs)

one_more_any : {A : Type 0} (p : A → Bool) (xs : List A) (x : A) → list_any p xs ≡ false → p x ≡ false → list_any p (xs ++ x ∷ []) ≡ false
one_more_any p [] x h q = or_from (p x) false q refl
one_more_any p (y ∷ ys) x h q =
    let s = or_parts (p y) (list_any p ys) h in
    or_from (p y) (list_any p (ys ++ x ∷ [])) s.0 (one_more_any p ys x s.1 q)

module _ (ps : List (Vec ℕ Global × ℕ)) (es : List Entry) (x : Entry) (known : T (is_some (lookup (λ k. pointwise nat_eq x.name.items k.items) ps)))
    (within : (name : List ℕ) → start_of name ps (length es) ≤ length es)
    (passed : (name : List ℕ) → list_any (has_name name) (take (start_of name ps (length es)) es) ≡ false) where
  -- a name that is in no place is not that of the entry
  other : (name : List ℕ) → lookup (λ k. pointwise nat_eq name k.items) ps ≡ None → has_name name x ≡ false
  other name none = by (bytes_eq name x.name.items) refl
    where
      by : (b : Bool) → bytes_eq name x.name.items ≡ b → b ≡ false
      by true p =
          absurd (subst (λ o. T (is_some o)) (ap (λ test. lookup test ps) (λ i k. sym (nat_list_eq_equiv.congr name x.name.items k.items p) i) ∙ none) known)
      by false p = refl

  -- with one entry more, each name still begins within the list
  pub within_more : (name : List ℕ) → start_of name ps (length (es ++ x ∷ [])) ≤ length (es ++ x ∷ [])
  within_more name = by (lookup (λ k. pointwise nat_eq name k.items) ps) (within name)
    where
      by : (o : Option ℕ) → unwrap_or o (length es) ≤ length es → unwrap_or o (length (es ++ x ∷ [])) ≤ length (es ++ x ∷ [])
      by None h = omega arith
      by (Some n) h = omega (arith, h, length-append es (x ∷ []))

  -- and what stands before has another name
  pub passed_more : (name : List ℕ) → list_any (has_name name) (take (start_of name ps (length (es ++ x ∷ []))) (es ++ x ∷ [])) ≡ false
  passed_more name = by (lookup (λ k. pointwise nat_eq name k.items) ps) refl (within name) (passed name)
    where
      by : (o : Option ℕ) → lookup (λ k. pointwise nat_eq name k.items) ps ≡ o → unwrap_or o (length es) ≤ length es
          → list_any (has_name name) (take (unwrap_or o (length es)) es) ≡ false
          → list_any (has_name name) (take (unwrap_or o (length (es ++ x ∷ []))) (es ++ x ∷ [])) ≡ false
      by None none h all =
          whole_any (has_name name) (es ++ x ∷ []) ∙ one_more_any (has_name name) es x (sym (whole_any (has_name name) es) ∙ all) (other name none)
      by (Some n) some h all = prefix_any (has_name name) es (x ∷ []) n h ∙ all

-- elements under a name are found under this name alone
pub under_name : (name own : List ℕ) (index : List ℤ) (xs : List (List ℤ × ℤ))
    → constant_value name index (named own xs) ≡ cond (bytes_eq name own) (element_value index xs) None
under_name name own index [] = either (bytes_eq name own)
  where
    either : (b : Bool) → ◌≡◌ {A = Option ℤ} None (cond b None None)
    either true = refl
    either false = refl
under_name name own index (x ∷ xs) = on (bytes_eq name own) (under_name name own index xs)
  where
    on : (b : Bool) → constant_value name index (named own xs) ≡ cond b (element_value index xs) None
        → cond (b && same_values index x.0) (Some x.1) (constant_value name index (named own xs)) ≡ cond b (cond (same_values index x.0) (Some x.1) (element_value index xs)) None
    on true h = ap (cond (same_values index x.0) (Some x.1)) h
    on false h = h

-- an entry of another name has no such element
no_element : (name : List ℕ) (index : List ℤ) (own : List ℕ) (e : TableEntry) → bytes_eq name own ≡ false → constant_value name index (constants_under own e) ≡ None
no_element name index own (entity.Array elements) h =
    under_name name own index (elements_in elements) ∙ ap (λ b. cond b (element_value index (elements_in elements)) None) h
no_element name index own (entity.Set numbers) h = refl

-- and is no such set
no_set : (name own : List ℕ) (e : TableEntry) → bytes_eq name own ≡ false → set_named name (sets_under own e) ≡ None
no_set name own (entity.Array elements) h = refl
no_set name own (entity.Set numbers) h = ap (λ b. cond b (Some (number_set numbers)) None) h

-- what is passed by has no such element
pub element_passed : (name : List ℕ) (index : List ℤ) (n : ℕ) (es : List Entry) → list_any (has_name name) (take n es) ≡ false
    → constant_value name index (constants_in (drop n es)) ≡ constant_value name index (constants_in es)
element_passed name index zero es h = refl
element_passed name index (suc n) [] h = refl
element_passed name index (suc n) (e ∷ es) h =
    let s = or_parts (has_name name e) (list_any (has_name name) (take n es)) h in
    element_passed name index n es s.1
    ∙ sym (constant_append name index (constants_under (items e.name) e.entity) (constants_in es)
    ∙ ap (λ o. or_else o (constant_value name index (constants_in es))) (no_element name index (items e.name) e.entity s.0))

-- and is no such set
pub set_passed : (name : List ℕ) (n : ℕ) (es : List Entry) → list_any (has_name name) (take n es) ≡ false
    → set_named name (sets_in (drop n es)) ≡ set_named name (sets_in es)
set_passed name zero es h = refl
set_passed name (suc n) [] h = refl
set_passed name (suc n) (e ∷ es) h =
    let s = or_parts (has_name name e) (list_any (has_name name) (take n es)) h in
    set_passed name n es s.1
    ∙ sym (set_append name (sets_under (items e.name) e.entity) (sets_in es)
    ∙ ap (λ o. or_else o (set_named name (sets_in es))) (no_set name (items e.name) e.entity s.0))

-- what comes behind all keys
pub inserted_last : {K X : Type 0} (eq : K → K → Bool) (es : List (K × X)) (key : K) (v : X) → lookup (eq key) es ≡ None → insert_entry eq es key v ≡ es ++ (key, v) ∷ []
inserted_last eq [] key v none = refl
inserted_last {K} {X} eq (e ∷ es) key v none = by (inserted_last eq es key v) (eq key e.0) none
  where
    by : (lookup (eq key) es ≡ None → insert_entry eq es key v ≡ es ++ (key, v) ∷ []) → (b : Bool) → cond b (Some e.1) (lookup (eq key) es) ≡ None
        → cond b ((e.0, v) ∷ es) (e ∷ insert_entry eq es key v) ≡ (e ∷ es) ++ (key, v) ∷ []
    by more true h = absurd (subst (λ o. T (is_some o)) h tt)
    by more false h = ap (λ rest. e ∷ rest) (more h)

-- an element is added among those that came first
pub first_added : (es again new : List (Vec ℤ Global × ℤ)) (key : Vec ℤ Global) (w v : ℤ) (index : List ℤ)
    → again ≡ [] → lookup (λ k. pointwise int_eq index k.items) es ≡ None → key.items ≡ index → w ≡ v
    → new ≡ insert_entry (λ a b. pointwise int_eq a.items b.items) es key w → pairs new ++ pairs again ≡ (pairs es ++ pairs again) ++ (index, v) ∷ []
first_added es again new key w v index alone none is_key is_w is =
    let fresh : lookup (λ k. pointwise int_eq key.items k.items) es ≡ None = (λ i. lookup (λ k. pointwise int_eq (is_key i) k.items) es) ∙ none in
    (λ i. pairs ((is ∙ inserted_last (λ a b. pointwise int_eq a.items b.items) es key w fresh) i) ++ pairs (alone i))
    ∙ append-nil (pairs (es ++ (key, w) ∷ []))
    ∙ map-append (λ (e : Vec ℤ Global × ℤ). (items e.0, e.1)) es ((key, w) ∷ [])
    ∙ (λ i. sym (append-nil (pairs es)) i ++ (is_key i, is_w i) ∷ [])
    ∙ (λ i. (pairs es ++ pairs (sym alone i)) ++ (index, v) ∷ [])

-- a look-up among those that came first
pub first_found : (index : List ℤ) (es : List (Vec ℤ Global × ℤ)) → lookup (λ k. pointwise int_eq index k.items) es ≡ element_value index (pairs es)
first_found index [] = refl
first_found index (e ∷ es) = ap (cond (same_values index (items e.0)) (Some e.1)) (first_found index es)

-- a look-up that found nothing
pub nothing_found : {A : Type 0} (r : Option (Bor A)) (o : Option A) (b : Bool) → b ≡ is_some r → b ≡ false → option_copied r ≡ o → o ≡ None
nothing_found None o b p q is = sym is
nothing_found (Some x) o b p q is = absurd (true≢false (sym p ∙ q))

-- a name is entered behind all others, or nothing is
pub start_kept : {A B : Type 0} (result : Result A B) (ps new : List (Vec ℕ Global × ℕ)) (key : Vec ℕ Global) (name asked : List ℕ) (m n : ℕ)
    → OnOk result (new ≡ insert_entry (λ a b. pointwise nat_eq a.items b.items) ps key m) → OnErr result (new ≡ ps)
    → key.items ≡ name → asked ≡ name → lookup (λ k. pointwise nat_eq asked k.items) ps ≡ None → m ≡ n
    → (other : List ℕ) → start_of other new n ≡ start_of other ps n
start_kept (Ok r) ps new key name asked m n ok err is_key is_asked none is other =
    let fresh : lookup (λ k. pointwise nat_eq key.items k.items) ps ≡ None = (λ i. lookup (λ k. pointwise nat_eq ((is_key ∙ sym is_asked) i) k.items) ps) ∙ none in
    (λ i. start_of other ((ok ∙ inserted_last (λ a b. pointwise nat_eq a.items b.items) ps key m fresh) i) n)
    ∙ (λ i. start_of other (ps ++ (key, is i) ∷ []) n)
    ∙ start_appended other ps key n
start_kept (Err e) ps new key name asked m n ok err is_key is_asked none is other = ap (λ places. start_of other places n) err

-- one entry more
pub constants_more : (es : List Entry) (e : Entry) → constants_in (es ++ e ∷ []) ≡ constants_in es ++ constants_under (items e.name) e.entity
constants_more [] e = append-nil (constants_under (items e.name) e.entity)
constants_more (x ∷ xs) e =
    ap (λ rest. constants_under (items x.name) x.entity ++ rest) (constants_more xs e)
    ∙ sym (append_assoc (constants_under (items x.name) x.entity) (constants_in xs) (constants_under (items e.name) e.entity))

pub sets_more : (es : List Entry) (e : Entry) → sets_in (es ++ e ∷ []) ≡ sets_in es ++ sets_under (items e.name) e.entity
sets_more [] e = append-nil (sets_under (items e.name) e.entity)
sets_more (x ∷ xs) e =
    ap (λ rest. sets_under (items x.name) x.entity ++ rest) (sets_more xs e)
    ∙ sym (append_assoc (sets_under (items x.name) x.entity) (sets_in xs) (sets_under (items e.name) e.entity))

-- one entry is pushed, or none
module _ (pushed : Bool) (ps : List (Vec ℕ Global × ℕ)) (es new : List Entry) (x : Entry) (is : new ≡ cond pushed (es ++ x ∷ []) es)
    (known : is_some (lookup (λ k. pointwise nat_eq x.name.items k.items) ps) ≡ true)
    (within : (name : List ℕ) → start_of name ps (length es) ≤ length es)
    (passed : (name : List ℕ) → list_any (has_name name) (take (start_of name ps (length es)) es) ≡ false) where
  abbrev Within : List Entry → Type 0
  Within entries = (name : List ℕ) → start_of name ps (length entries) ≤ length entries

  abbrev Passed : List Entry → Type 0
  Passed entries = (name : List ℕ) → list_any (has_name name) (take (start_of name ps (length entries)) entries) ≡ false

  pub within_pushed : Within new
  within_pushed = subst Within (sym is) (on pushed)
    where
      on : (b : Bool) → Within (cond b (es ++ x ∷ []) es)
      on true = within_more ps es x (subst T (sym known) tt) within passed
      on false = within

  pub passed_pushed : Passed new
  passed_pushed = subst Passed (sym is) (on pushed)
    where
      on : (b : Bool) → Passed (cond b (es ++ x ∷ []) es)
      on true = passed_more ps es x (subst T (sym known) tt) within passed
      on false = passed

-- a name that is placed, in other words
pub placed_as : (a b : List ℕ) (ps : List (Vec ℕ Global × ℕ)) → b ≡ a → is_some (lookup (λ k. pointwise nat_eq b k.items) ps) ≡ true
    → is_some (lookup (λ k. pointwise nat_eq a k.items) ps) ≡ true
placed_as a b ps is h = subst (λ name. is_some (lookup (λ k. pointwise nat_eq name k.items) ps) ≡ true) is h
