-- The first element of a name without an index.
use Rattle.std.proofs.Common.{arith, ◌≡◌, ◌++◌, option_map, sym, ap, ◌∙◌, ℕ, ◌+◌, ◌<◌, ◌≤◌, ◌==◌, ℤ, Bool, true, false, cond, List, [], ◌∷◌, length, map, drop, get_or, Option, Some, None}
use Rattle.std.proofs.lemmas.List.{at_drop_more, at_drop_all}
use Rattle.sopl_scen.specs.Layout.{Layout}
use Rattle.term_language.specs.Terms.{Item}
use Rattle.term_language.specs.Arrays.{Entry, item_in, same_index}
use Rattle.compile_laws.proofs.Lookups.{item_append}
use Rattle.compile_names.specs.declared.origins.Origin.{Origin}
use Rattle.compile_names.specs.declared.origins.Source.{Source}
use Rattle.sopl_ast.specs.Numbers.{or_else}
use Rattle.compile_names.specs.Variables.{entry_from, item_from}

empty_is : (index : List ℤ) (b : Bool) → b ≡ (length index == 0) → same_index index [] ≡ b
empty_is [] b is = sym is
empty_is (x ∷ xs) b is = grind (arith, is)

module _ (make : Layout → ℕ → ℕ → Entry) (numbers : List ℕ) (k : ℕ) (source : Source) (below : k < length numbers)
    (made : (tree : Layout) (i : ℕ) → entry_from tree i source ≡ make tree i (get_or numbers k 0)) (tree : Layout) (i : ℕ) where
  abbrev later : Option Item
  later = item_in (map (make tree i) (drop (k + 1) numbers)) []

  -- what is asked of the first that is left
  opened : item_in (map (make tree i) (drop k numbers)) [] ≡ cond (same_index source.index.now []) (Some (item_from tree i source.origin)) later
  opened =
      at_drop_more (λ rest. item_in (map (make tree i) rest) []) numbers k 0 below
      ∙ ap (λ (e : Entry). item_in (e ∷ map (make tree i) (drop (k + 1) numbers)) []) (sym (made tree i))

  -- it has no index
  pub scalar_here : (whole : Option Item) (b : Bool) → b ≡ (length source.index.now == 0) → b ≡ true → item_in (map (make tree i) (drop k numbers)) [] ≡ whole
      → Some (item_from tree i source.origin) ≡ whole
  scalar_here whole b is empty left = sym (ap (λ t. cond t (Some (item_from tree i source.origin)) later) (empty_is source.index.now b is ∙ empty)) ∙ sym opened ∙ left

  -- it has one
  pub scalar_later : (whole : Option Item) (b : Bool) → b ≡ (length source.index.now == 0) → b ≡ false → item_in (map (make tree i) (drop k numbers)) [] ≡ whole → later ≡ whole
  scalar_later whole b is indexed left = sym (ap (λ t. cond t (Some (item_from tree i source.origin)) later) (empty_is source.index.now b is ∙ indexed)) ∙ sym opened ∙ left

-- none is left
pub scalar_none : (make : ℕ → Entry) (numbers : List ℕ) (k : ℕ) (whole : Option Item) → length numbers ≤ k → item_in (map make (drop k numbers)) [] ≡ whole → None ≡ whole
scalar_none make numbers k whole past left = sym (at_drop_all (λ rest. item_in (map make rest) []) numbers k past) ∙ left

-- the first of two lists of elements that has one
pub first_some : (f : Origin → Item) (o : Option Origin) (xs ys : List Entry) (x : Origin) → option_map f o ≡ item_in xs [] → o ≡ Some x → Some (f x) ≡ item_in (xs ++ ys) []
first_some f o xs ys x found is = sym (item_append xs ys [] ∙ ap (λ r. or_else r (item_in ys [])) (sym found ∙ ap (option_map f) is))

pub first_none : (f : Origin → Item) (o : Option Origin) (xs ys : List Entry) (rest : Option Item) → option_map f o ≡ item_in xs [] → o ≡ None → rest ≡ item_in ys []
    → rest ≡ item_in (xs ++ ys) []
first_none f o xs ys rest found is later = later ∙ sym (item_append xs ys [] ∙ ap (λ r. or_else r (item_in ys [])) (sym found ∙ ap (option_map f) is))
