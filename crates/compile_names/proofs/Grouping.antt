-- The numbers of a name, added one by one.
use Rattle.std.proofs.Common.{arith, ◌≡◌, refl, sym, ap, subst, ◌∙◌, ℕ, zero, suc, ◌+◌, ◌<◌, ◌≤◌, nat_lt, nat_eq, Bool, true, false, true≢false, not, cond, List, [], ◌∷◌, ◌++◌}
use Rattle.std.proofs.Common.{length, map, get_or, drop, slice_get, Option, Some, None, is_some, option_map, Result, Ok, Err, OnOk, Bor}
use Rattle.std.proofs.lemmas.Bool.{ltb-true}
use Rattle.std.proofs.lemmas.Bool.Decides.{same_from_decides}
use Rattle.std.proofs.lemmas.List.{at_drop_more, at_drop_all, append-nil, append_assoc, map-append}
use Rattle.std.proofs.lemmas.Slice.Eq.{bytes_eq-Decides}
use Rattle.std.specs.Cmp.Lexicographic.{pointwise}
use Rattle.std.specs.List.{position, position_or_len}
use Rattle.std.specs.Map.{keys_of, lookup, values_of}
use Rattle.std.specs.Option.{unwrap_or}
use Rattle.std.specs.Str.{bytes_eq}
use Rattle.std.specs.declared.alloc.Global.{Global}
use Rattle.std.specs.declared.vec.Vec.{Vec}
use Rattle.sopl_ast.specs.References.{now_of}
use Rattle.indexmap.specs.IndexMap.{insert_entry, set_value_at}
use Rattle.compile_names.specs.declared.names.Names.{Names}
use Rattle.compile_names.specs.Grouped.{Group, group_of, numbers_in, numbers_of, with_number}

abbrev Entry : Type 0
Entry = Vec ℕ Global × Vec ℕ Global

-- the numbers of a name among groups
abbrev numbers_among : List ℕ → List Group → List ℕ
numbers_among name groups = unwrap_or (lookup (bytes_eq name) groups) []

-- the test of a key
abbrev pub is_key : List ℕ → Vec ℕ Global → Bool
is_key name key = pointwise nat_eq name key.items

-- a look-up among groups is one among entries
pub group_found : (name : List ℕ) (es : List Entry) → lookup (bytes_eq name) (map group_of es) ≡ option_map (λ (v : Vec ℕ Global). v.items) (lookup (is_key name) es)
group_found name [] = refl
group_found name (e ∷ es) = by (bytes_eq name e.0.items) (group_found name es)
  where
    by : (b : Bool) → lookup (bytes_eq name) (map group_of es) ≡ option_map (λ (v : Vec ℕ Global). v.items) (lookup (is_key name) es)
        → cond b (Some e.1.items) (lookup (bytes_eq name) (map group_of es)) ≡ option_map (λ (v : Vec ℕ Global). v.items) (cond b (Some e.1) (lookup (is_key name) es))
    by true rest = refl
    by false rest = rest

-- Where a name stands.

-- the first group of a name stands at a place
FirstAt : List ℕ → List Group → ℕ → Type 0
FirstAt name [] place = ⊥
FirstAt name (g ∷ later) zero = bytes_eq name g.0 ≡ true
FirstAt name (g ∷ later) (suc place) = (bytes_eq name g.0 ≡ false) × FirstAt name later place

first_from : (name : List ℕ) (es : List Entry) (place : ℕ) → position_or_len (is_key name) (keys_of es) ≡ place → place < length (keys_of es) → FirstAt name (map group_of es) place
unfolding FirstAt
first_from name [] place at below = absurd (omega (arith, below))
first_from name (e ∷ es) place at below = by (bytes_eq name e.0.items) refl at (first_from name es)
  where
    by : (b : Bool) → bytes_eq name e.0.items ≡ b → cond (not b) (1 + position_or_len (is_key name) (keys_of es)) 0 ≡ place
        → ((k : ℕ) → position_or_len (is_key name) (keys_of es) ≡ k → k < length (keys_of es) → FirstAt name (map group_of es) k)
        → FirstAt name (map group_of (e ∷ es)) place
    by true is here later = subst (λ k. FirstAt name (map group_of (e ∷ es)) k) here is
    by false is here later =
        let k = position_or_len (is_key name) (keys_of es) in
        let next : suc k ≡ place = omega (arith, here) in
        subst (λ n. FirstAt name (map group_of (e ∷ es)) n) next (is, later k refl (omega (arith, below, next)))

position_is : (b : Bool) (n place : ℕ) → cond b (Some n) None ≡ Some place → (b ≡ true) × (n ≡ place)
position_is true n place at = (refl, ap (λ o. unwrap_or o 0) at)
position_is false n place at = absurd (true≢false (sym (ap is_some at)))

first_at : (name : List ℕ) (es : List Entry) (place : ℕ) → position (is_key name) (keys_of es) ≡ Some place → FirstAt name (map group_of es) place
first_at name es place at =
    let found = position_is (nat_lt (position_or_len (is_key name) (keys_of es)) (length (keys_of es))) (position_or_len (is_key name) (keys_of es)) place at in
    first_from name es place found.1 (subst (λ k. k < length (keys_of es)) found.1 (ltb-true (position_or_len (is_key name) (keys_of es)) (length (keys_of es)) found.0))

-- One number more.

-- what comes behind the numbers of a name
abbrev behind : List ℕ → ℕ → List ℕ → List ℕ
behind name number other = cond (bytes_eq other name) (number ∷ []) []

pub same_name : (name other : List ℕ) → bytes_eq name other ≡ true → name ≡ other
same_name name other is = (bytes_eq-Decides name other).0 is

bytes_sym : (xs ys : List ℕ) → bytes_eq xs ys ≡ bytes_eq ys xs
bytes_sym xs ys =
    same_from_decides (bytes_eq xs ys) (bytes_eq ys xs) (bytes_eq-Decides xs ys) ((λ is. sym ((bytes_eq-Decides ys xs).0 is)), (λ same. (bytes_eq-Decides ys xs).1 (sym same)))

differs : (name first other : List ℕ) → bytes_eq name first ≡ false → bytes_eq other first ≡ true → bytes_eq other name ≡ false
differs name first other apart is = ap (λ x. bytes_eq x name) (same_name other first is) ∙ bytes_sym first name ∙ apart

-- a group of another name has nothing behind it
nothing_behind : (name first other : List ℕ) (number : ℕ) (numbers : List ℕ) → bytes_eq name first ≡ false → bytes_eq other first ≡ true → numbers ≡ numbers ++ behind name number other
nothing_behind name first other number numbers apart is = sym (ap (λ c. numbers ++ cond c (number ∷ []) []) (differs name first other apart is) ∙ append-nil numbers)

at_first : (b : Bool) (number : ℕ) (numbers : List ℕ) (rest : Option (List ℕ))
    → unwrap_or (cond b (Some (numbers ++ number ∷ [])) rest) [] ≡ unwrap_or (cond b (Some numbers) rest) [] ++ cond b (number ∷ []) []
at_first true number numbers rest = refl
at_first false number numbers rest = sym (append-nil (unwrap_or rest []))

at_place : (name : List ℕ) (number : ℕ) (groups : List Group) (place : ℕ) → FirstAt name groups place → (other : List ℕ)
    → numbers_among other (with_number place number groups) ≡ numbers_among other groups ++ behind name number other
unfolding FirstAt
at_place name number [] place first other = absurd first
at_place name number (g ∷ later) zero first other =
    at_first (bytes_eq other g.0) number g.1 (lookup (bytes_eq other) later)
    ∙ ap (λ c. numbers_among other (g ∷ later) ++ cond c (number ∷ []) []) (ap (bytes_eq other) (sym (same_name name g.0 first)))
at_place name number (g ∷ later) (suc place) first other = by (bytes_eq other g.0) refl (at_place name number later place first.1 other)
  where
    by : (b : Bool) → bytes_eq other g.0 ≡ b → numbers_among other (with_number place number later) ≡ numbers_among other later ++ behind name number other
        → unwrap_or (cond b (Some g.1) (lookup (bytes_eq other) (with_number place number later))) [] ≡ unwrap_or (cond b (Some g.1) (lookup (bytes_eq other) later)) [] ++ behind name number other
    by true is rest = nothing_behind name g.0 other number g.1 first.0 is
    by false is rest = rest

-- a number of a name that is there
pub found_either : {A B : Type 0} (result : Result A B) (name : List ℕ) (es : List Entry) (place number : ℕ) (new : List Group)
    → position (is_key name) (keys_of es) ≡ Some place → OnOk result (new ≡ with_number place number (map group_of es))
    → OnOk result ((other : List ℕ) → numbers_among other new ≡ numbers_among other (map group_of es) ++ behind name number other)
found_either (Ok x) name es place number new at is = λ other. ap (numbers_among other) is ∙ at_place name number (map group_of es) place (first_at name es place at) other
found_either (Err y) name es place number new at is = tt

-- a name that is new comes behind all
comes_last : (name : List ℕ) (number : ℕ) (groups : List Group) → lookup (bytes_eq name) groups ≡ None → (other : List ℕ)
    → numbers_among other (groups ++ (name, number ∷ []) ∷ []) ≡ numbers_among other groups ++ behind name number other
comes_last name number [] none other = alone (bytes_eq other name)
  where
    alone : (b : Bool) → unwrap_or (cond b (Some (number ∷ [])) None) [] ≡ [] ++ cond b (number ∷ []) []
    alone true = refl
    alone false = refl
comes_last name number (g ∷ later) none other = by (bytes_eq name g.0) refl none (λ rest. comes_last name number later rest other)
  where
    then : (b : Bool) → bytes_eq name g.0 ≡ false → bytes_eq other g.0 ≡ b → numbers_among other (later ++ (name, number ∷ []) ∷ []) ≡ numbers_among other later ++ behind name number other
        → unwrap_or (cond b (Some g.1) (lookup (bytes_eq other) (later ++ (name, number ∷ []) ∷ []))) [] ≡ unwrap_or (cond b (Some g.1) (lookup (bytes_eq other) later)) [] ++ behind name number other
    then true apart is rest = nothing_behind name g.0 other number g.1 apart is
    then false apart is rest = rest

    by : (b : Bool) → bytes_eq name g.0 ≡ b → cond b (Some g.1) (lookup (bytes_eq name) later) ≡ None
        → (lookup (bytes_eq name) later ≡ None → numbers_among other (later ++ (name, number ∷ []) ∷ []) ≡ numbers_among other later ++ behind name number other)
        → numbers_among other ((g ∷ later) ++ (name, number ∷ []) ∷ []) ≡ numbers_among other (g ∷ later) ++ behind name number other
    by true is there rest = absurd (true≢false (ap is_some there))
    by false apart gone rest = then (bytes_eq other g.0) apart refl (rest gone)

pub new_either : {A B : Type 0} (result : Result A B) (name : List ℕ) (es : List Entry) (number : ℕ) (new : List Group)
    → lookup (bytes_eq name) (map group_of es) ≡ None → OnOk result (new ≡ map group_of es ++ (name, number ∷ []) ∷ [])
    → OnOk result ((other : List ℕ) → numbers_among other new ≡ numbers_among other (map group_of es) ++ behind name number other)
new_either (Ok x) name es number new none is = λ other. ap (numbers_among other) is ∙ comes_last name number (map group_of es) none other
new_either (Err y) name es number new none is = tt

-- Entries.

inserted : (name : List ℕ) (es : List Entry) (key v : Vec ℕ Global) → key.items ≡ name → lookup (bytes_eq name) (map group_of es) ≡ None
    → insert_entry (λ (a : Vec ℕ Global) (b : Vec ℕ Global). pointwise nat_eq a.items b.items) es key v ≡ es ++ (key, v) ∷ []
inserted name [] key v is none = refl
inserted name (e ∷ es) key v is none = by (bytes_eq name e.0.items) refl none (inserted name es key v is)
  where
    by : (b : Bool) → bytes_eq name e.0.items ≡ b → cond b (Some e.1.items) (lookup (bytes_eq name) (map group_of es)) ≡ None
        → (lookup (bytes_eq name) (map group_of es) ≡ None → insert_entry (λ (a : Vec ℕ Global) (b : Vec ℕ Global). pointwise nat_eq a.items b.items) es key v ≡ es ++ (key, v) ∷ [])
        → insert_entry (λ (a : Vec ℕ Global) (b : Vec ℕ Global). pointwise nat_eq a.items b.items) (e ∷ es) key v ≡ (e ∷ es) ++ (key, v) ∷ []
    by true same there rest = absurd (true≢false (ap is_some there))
    by false apart gone rest =
        ap (λ b. cond b ((e.0, v) ∷ es) (e ∷ insert_entry (λ (a : Vec ℕ Global) (b : Vec ℕ Global). pointwise nat_eq a.items b.items) es key v)) (ap (λ k. pointwise nat_eq k e.0.items) is ∙ apart)
        ∙ ap (λ l. e ∷ l) (rest gone)

-- the entry of a new name
pub entered : (name : List ℕ) (es new : List Entry) (key v : Vec ℕ Global) (number : ℕ) → lookup (bytes_eq name) (map group_of es) ≡ None → key.items ≡ name → v.items ≡ number ∷ []
    → new ≡ insert_entry (λ (a : Vec ℕ Global) (b : Vec ℕ Global). pointwise nat_eq a.items b.items) es key v → map group_of new ≡ map group_of es ++ (name, number ∷ []) ∷ []
entered name es new key v number none is_key is_v is =
    ap (map group_of) (is ∙ inserted name es key v is_key none)
    ∙ map-append group_of es ((key, v) ∷ [])
    ∙ (λ i. map group_of es ++ (is_key i, is_v i) ∷ [])

-- the entry at a place
pub pushed_at : (es : List Entry) (place number : ℕ) (v w : Vec ℕ Global) → slice_get (values_of es) place ≡ Some v → w.items ≡ v.items ++ number ∷ []
    → map group_of (set_value_at es place w) ≡ with_number place number (map group_of es)
pushed_at [] place number v w at is = refl
pushed_at (e ∷ es) zero number v w at is = ap (λ x. (e.0.items, x) ∷ map group_of es) (is ∙ ap (λ x. x.items ++ number ∷ []) (sym (ap (λ o. unwrap_or o e.1) at)))
pushed_at (e ∷ es) (suc place) number v w at is = ap (λ l. group_of e ∷ l) (pushed_at es place number v w at is)

-- apart entry there
pub none_at : (es : List Entry) (place number : ℕ) → slice_get (values_of es) place ≡ None → map group_of es ≡ with_number place number (map group_of es)
none_at [] place number at = refl
none_at (e ∷ es) zero number at = absurd (true≢false (ap is_some at))
none_at (e ∷ es) (suc place) number at = ap (λ l. group_of e ∷ l) (none_at es place number at)

-- All names.

grouped_more : (b : Bool) (i : ℕ) (done rest : List ℕ) → (done ++ cond b (i ∷ []) []) ++ rest ≡ done ++ cond b (i ∷ rest) rest
grouped_more true i done rest = append_assoc done (i ∷ []) rest
grouped_more false i done rest = ap (λ l. l ++ rest) (append-nil done)

module _ (xs : List (Bor (List ℕ))) (i : ℕ) where
  -- one name more
  pub name_grouped : (x : Bor (List ℕ)) (old new : Names) → i < length xs → x ≡ get_or xs i x
      → ((other : List ℕ) → numbers_in new other ≡ numbers_in old other ++ cond (bytes_eq other x.now) (i ∷ []) []) → (other : List ℕ)
      → numbers_in new other ++ numbers_of other (i + 1) (map now_of (drop (i + 1) xs)) ≡ numbers_in old other ++ numbers_of other i (map now_of (drop i xs))
  name_grouped x old new below at step other =
      ap (λ l. l ++ numbers_of other (i + 1) (map now_of (drop (i + 1) xs))) (step other)
      ∙ grouped_more (bytes_eq other x.now) i (numbers_in old other) (numbers_of other (i + 1) (map now_of (drop (i + 1) xs)))
      ∙ ap (λ y. numbers_in old other ++ numbers_of other i (map now_of (y ∷ drop (i + 1) xs))) at
      ∙ sym (at_drop_more (λ rest. numbers_in old other ++ numbers_of other i (map now_of rest)) xs i x below)

  -- none is left
  pub all_grouped : (names : Names) → length xs ≤ i → (other : List ℕ) → numbers_in names other ++ numbers_of other i (map now_of (drop i xs)) ≡ numbers_in names other
  all_grouped names past other =
      at_drop_all (λ rest. numbers_in names other ++ numbers_of other i (map now_of rest)) xs i past ∙ append-nil (numbers_in names other)

-- Look-ups.

-- no entry has the name
pub not_grouped : (o : Option ℕ) (name : List ℕ) (es : List Entry) → is_some o ≡ is_some (lookup (is_key name) es) → o ≡ None → lookup (bytes_eq name) (map group_of es) ≡ None
not_grouped o name es same none = group_found name es ∙ ap (option_map (λ (v : Vec ℕ Global). v.items)) (missing (lookup (is_key name) es) (sym same ∙ ap is_some none))
  where
    missing : (r : Option (Vec ℕ Global)) → is_some r ≡ false → r ≡ None
    missing None h = refl
    missing (Some x) h = absurd (true≢false h)

-- the numbers that are looked up
pub numbers_found : (names : Names) (name : List ℕ) (v : Vec ℕ Global) → lookup (is_key name) names.groups.entries ≡ Some v → numbers_in names name ≡ v.items
numbers_found names name v found = ap (λ o. unwrap_or o []) (group_found name names.groups.entries ∙ ap (option_map (λ (x : Vec ℕ Global). x.items)) found)

pub no_numbers : (names : Names) (name : List ℕ) → lookup (is_key name) names.groups.entries ≡ None → numbers_in names name ≡ []
no_numbers names name found = ap (λ o. unwrap_or o []) (group_found name names.groups.entries ∙ ap (option_map (λ (x : Vec ℕ Global). x.items)) found)
