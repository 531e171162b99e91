-- The elements of a name, one entry after the other.
use Rattle.std.proofs.Common.{◌≡◌, refl, sym, ap, ◌∙◌, ℕ, zero, suc, ◌+◌, ◌<◌, ◌≤◌, ℤ, true, false, cond, List, [], ◌∷◌, ◌++◌, length, map, get_or, take, drop, Result, Ok, Err, OnOk}
use Rattle.std.proofs.lemmas.List.{at_drop_more, at_drop_all, map-append, append_assoc, append-nil}
use Rattle.std.proofs.lemmas.List.Elements.{filter-append}
use Rattle.std.specs.List.{filter, list_any}
use Rattle.std.specs.Str.{bytes_eq}
use Rattle.std.specs.declared.alloc.Global.{Global}
use Rattle.std.specs.declared.vec.Vec.{Vec}
use Rattle.std.proofs.lemmas.Bool.{or_parts}
use Rattle.sopl_ast.specs.Known.{Constant}
use Rattle.unfold_tables.specs.declared.elements.Elements.{Elements}
use Rattle.unfold_tables.specs.declared.listed.ConstantElement.{ConstantElement}
use Rattle.unfold_tables.specs.declared.table.TableEntry.{TableEntry}
use Rattle.unfold_tables.specs.declared.table.TableEntry.TheVariants as entity
use Rattle.unfold_tables.specs.declared.table.Entry.{Entry}
use Rattle.unfold_tables.specs.Listed.{element_shown, elements_named}
use Rattle.unfold_tables.proofs.Placing.{has_name}
use Rattle.unfold_tables.specs.Tables.{constants_in, constants_under, elements_in, items, named, pairs}

-- the elements of a name in two lists
pub named_append : (name : List ℕ) (xs ys : List Constant) → elements_named name (xs ++ ys) ≡ elements_named name xs ++ elements_named name ys
named_append name xs ys =
    ap (map (λ (k : Constant). (k.index, k.value))) (filter-append (λ (k : Constant). bytes_eq name k.name) xs ys)
    ∙ map-append (λ (k : Constant). (k.index, k.value)) (filter (λ (k : Constant). bytes_eq name k.name) xs) (filter (λ (k : Constant). bytes_eq name k.name) ys)

-- elements under their own name
pub own_named : (name own : List ℕ) (elements : List (List ℤ × ℤ)) → bytes_eq name own ≡ true → elements_named name (named own elements) ≡ elements
own_named name own [] is = refl
own_named name own (e ∷ later) is =
    ap (λ b. map (λ (k : Constant). (k.index, k.value)) (cond b ((record { name = own; index = e.0; value = e.1 }) ∷ filter (λ (k : Constant). bytes_eq name k.name) (named own later))
    (filter (λ (k : Constant). bytes_eq name k.name) (named own later)))) is
    ∙ ap (λ rest. (e.0, e.1) ∷ rest) (own_named name own later is)

-- and under another
other_named : (name own : List ℕ) (elements : List (List ℤ × ℤ)) → bytes_eq name own ≡ false → elements_named name (named own elements) ≡ []
other_named name own [] other = refl
other_named name own (e ∷ later) other =
    ap (λ b. map (λ (k : Constant). (k.index, k.value)) (cond b ((record { name = own; index = e.0; value = e.1 }) ∷ filter (λ (k : Constant). bytes_eq name k.name) (named own later))
    (filter (λ (k : Constant). bytes_eq name k.name) (named own later)))) other
    ∙ other_named name own later other

-- an entry of another name has none
pub none_named : (name own : List ℕ) (e : TableEntry) → bytes_eq name own ≡ false → elements_named name (constants_under own e) ≡ []
none_named name own (entity.Array elements) other = other_named name own (elements_in elements) other
none_named name own (entity.Set numbers) other = refl

-- what is passed by has none
pub named_passed : (name : List ℕ) (n : ℕ) (es : List Entry) → list_any (has_name name) (take n es) ≡ false
    → elements_named name (constants_in (drop n es)) ≡ elements_named name (constants_in es)
named_passed name zero es h = refl
named_passed name (suc n) [] h = refl
named_passed name (suc n) (e ∷ es) h =
    let s = or_parts (has_name name e) (list_any (has_name name) (take n es)) h in
    named_passed name n es s.1
    ∙ sym (named_append name (constants_under (items e.name) e.entity) (constants_in es)
    ∙ ap (λ found. found ++ elements_named name (constants_in es)) (none_named name (items e.name) e.entity s.0))

module _ (name : List ℕ) (es : List Entry) (i : ℕ) (done : List (List ℤ × ℤ)) where
  -- one entry more
  pub entry_more : (e : Entry) (new : List (List ℤ × ℤ)) → i < length es → e ≡ get_or es i e → new ≡ done ++ elements_named name (constants_under (items e.name) e.entity)
      → new ++ elements_named name (constants_in (drop (i + 1) es)) ≡ done ++ elements_named name (constants_in (drop i es))
  entry_more e new below at is =
      ap (λ found. found ++ elements_named name (constants_in (drop (i + 1) es))) is
      ∙ append_assoc done (elements_named name (constants_under (items e.name) e.entity)) (elements_named name (constants_in (drop (i + 1) es)))
      ∙ ap (λ rest. done ++ rest) (sym (at_drop_more (λ rest. elements_named name (constants_in rest)) es i e below
      ∙ ap (λ x. elements_named name (constants_in (x ∷ drop (i + 1) es))) (sym at)
      ∙ named_append name (constants_under (items e.name) e.entity) (constants_in (drop (i + 1) es))))

  -- no entry is left
  pub entries_end : length es ≤ i → done ++ elements_named name (constants_in (drop i es)) ≡ done
  entries_end past = ap (λ rest. done ++ rest) (at_drop_all (λ rest. elements_named name (constants_in rest)) es i past) ∙ append-nil done

module _ (xs : List (Vec ℤ Global × ℤ)) (i : ℕ) (done : List (List ℤ × ℤ)) where
  -- one element more
  pub pair_more : (x : Vec ℤ Global × ℤ) (new : List (List ℤ × ℤ)) → i < length xs → x ≡ get_or xs i x → new ≡ done ++ (items x.0, x.1) ∷ []
      → new ++ pairs (drop (i + 1) xs) ≡ done ++ pairs (drop i xs)
  pair_more x new below at is =
      ap (λ found. found ++ pairs (drop (i + 1) xs)) is
      ∙ append_assoc done ((items x.0, x.1) ∷ []) (pairs (drop (i + 1) xs))
      ∙ ap (λ rest. done ++ rest) (sym (at_drop_more (λ rest. pairs rest) xs i x below ∙ ap (λ y. pairs (y ∷ drop (i + 1) xs)) (sym at)))

  -- no element is left
  pub pairs_end : length xs ≤ i → done ++ pairs (drop i xs) ≡ done
  pairs_end past = ap (λ rest. done ++ rest) (at_drop_all (λ rest. pairs rest) xs i past) ∙ append-nil done

-- one element is pushed
pub pushed : (xs new : List ConstantElement) (x : ConstantElement) → new ≡ xs ++ x ∷ [] → map element_shown new ≡ map element_shown xs ++ element_shown x ∷ []
pushed xs new x is = ap (map element_shown) is ∙ map-append element_shown xs (x ∷ [])

-- the next element is taken
pub pair_taken : (done new : List (List ℤ × ℤ)) (key : Vec ℤ Global) (v : ℤ) (rest all : List (Vec ℤ Global × ℤ)) → all ≡ (key, v) ∷ rest
    → new ≡ done ++ (items key, v) ∷ [] → new ++ pairs rest ≡ done ++ pairs all
pair_taken done new key v rest all split is =
    ap (λ found. found ++ pairs rest) is ∙ append_assoc done ((items key, v) ∷ []) (pairs rest) ∙ ap (λ left. done ++ pairs left) (sym split)

-- none is left
pub pairs_taken : (done : List (List ℤ × ℤ)) → done ++ [] ≡ done
pairs_taken done = append-nil done

-- an entry of another name adds none
pub other_listed : (done : List (List ℤ × ℤ)) (name own : List ℕ) (e : TableEntry) → bytes_eq name own ≡ false → done ≡ done ++ elements_named name (constants_under own e)
other_listed done name own e other = sym (ap (λ rest. done ++ rest) (none_named name own e other) ∙ append-nil done)

-- and one of the name adds its own
pub own_listed : {A B : Type 0} (result : Result A B) (done new : List (List ℤ × ℤ)) (name own : List ℕ) (elements : Elements) (e : TableEntry)
    → e ≡ entity.Array elements → bytes_eq name own ≡ true → OnOk result (new ≡ done ++ elements_in elements)
    → OnOk result (new ≡ done ++ elements_named name (constants_under own e))
own_listed (Ok x) done new name own elements e is same added =
    added ∙ ap (λ rest. done ++ rest) (sym (ap (λ x. elements_named name (constants_under own x)) is ∙ own_named name own (elements_in elements) same))
own_listed (Err y) done new name own elements e is same added = tt
