-- What stands at an index of a name's elements is what a place of evaluation finds there.
use Rattle.std.proofs.Common.{◌≡◌, ◌∙◌, refl, ap, ℕ, ℤ, Bool, true, false, ◌&&◌, List, [], ◌∷◌, ◌++◌, Option, Some, None, option_map, if◌then◌else◌}
use Rattle.std.specs.Str.{bytes_eq}
use Rattle.sopl_base.proofs.Tests.{equal_turned}
use Rattle.sopl_ast.specs.Numbers.{or_else}
use Rattle.sopl_ast.specs.Known.{Binding, Constant, same_values, bound_value, constant_value}
use Rattle.sopl_ast.specs.Instances.{Stochastic}
use Rattle.sopl_ast.specs.Meanings.{seen_value}
use Rattle.term_language.specs.Terms.{Item, Fixed}
use Rattle.term_language.specs.Arrays.{Entry, item_in, same_index}
use Rattle.compile_laws.specs.Instances.{bound_elements, constant_elements, seen_elements}

-- two lists of numbers are the same in both words
pub same_turned : (xs ys : List ℤ) → same_index xs ys ≡ same_values ys xs
same_turned [] [] = refl
same_turned [] (y ∷ ys) = refl
same_turned (x ∷ xs) [] = refl
same_turned (x ∷ xs) (y ∷ ys) = λ i. equal_turned x y i && same_turned xs ys i

-- one more element of a name
more : (name : List ℕ) (index own : List ℤ) (b : Bool) (item : Item) (rest : List Entry) (found : Option ℤ) (z : ℤ) → item ≡ Fixed z
    → item_in rest index ≡ option_map Fixed found
    → item_in (if b then (record { index = own; item = item }) ∷ rest else rest) index ≡ option_map Fixed (if b && same_values index own then Some z else found)
more name index own false item rest found z is later = later
more name index own true item rest found z is later =
    ap (λ t. if t then Some item else item_in rest index) (same_turned own index)
    ∙ by_test (same_values index own)
  where
    by_test : (t : Bool) → (if t then Some item else item_in rest index) ≡ option_map Fixed (if t then Some z else found)
    by_test true = ap Some is
    by_test false = later

pub bound_is : (name : List ℕ) (index : List ℤ) (bs : List Binding) → item_in (bound_elements name bs) index ≡ option_map Fixed (bound_value name index bs)
bound_is name index [] = refl
bound_is name index (b ∷ later) =
    more name index [] (bytes_eq name b.name) (Fixed b.value) (bound_elements name later) (bound_value name index later) b.value refl (bound_is name index later)

pub constant_is : (name : List ℕ) (index : List ℤ) (ks : List Constant) → item_in (constant_elements name ks) index ≡ option_map Fixed (constant_value name index ks)
constant_is name index [] = refl
constant_is name index (k ∷ later) =
    more name index k.index (bytes_eq name k.name) (Fixed k.value) (constant_elements name later) (constant_value name index later) k.value refl (constant_is name index later)

pub seen_is : (name : List ℕ) (index : List ℤ) (ss : List Stochastic) (values : List ℤ) → item_in (seen_elements name ss values) index ≡ option_map Fixed (seen_value name index ss values)
seen_is name index [] values = refl
seen_is name index (s ∷ later) [] = refl
seen_is name index (s ∷ later) (v ∷ values) =
    more name index s.index (bytes_eq name s.name) (Fixed v) (seen_elements name later values) (seen_value name index later values) v refl (seen_is name index later values)

-- elements behind others
pub item_append : (xs ys : List Entry) (index : List ℤ) → item_in (xs ++ ys) index ≡ or_else (item_in xs index) (item_in ys index)
item_append [] ys index = refl
item_append (x ∷ xs) ys index = by_test (same_index x.index index) (item_append xs ys index)
  where
    by_test : (t : Bool) → item_in (xs ++ ys) index ≡ or_else (item_in xs index) (item_in ys index)
        → (if t then Some x.item else item_in (xs ++ ys) index) ≡ or_else (if t then Some x.item else item_in xs index) (item_in ys index)
    by_test true later = refl
    by_test false later = later

-- a binder gives nothing to a name with an index
pub bound_none : (name : List ℕ) (x : ℤ) (xs : List ℤ) (bs : List Binding) → bound_value name (x ∷ xs) bs ≡ None
bound_none name x xs [] = refl
bound_none name x xs (b ∷ later) = by_test (bytes_eq name b.name) (bound_none name x xs later)
  where
    by_test : (t : Bool) → bound_value name (x ∷ xs) later ≡ None → (if t && false then Some b.value else bound_value name (x ∷ xs) later) ≡ None
    by_test true none = none
    by_test false none = none
