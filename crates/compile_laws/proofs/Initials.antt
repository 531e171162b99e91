-- The initial values of a constant stand at all indices of its array, each once and in order, where no expression stands too deep and each bracket has
-- as many parts as its index set has numbers.
use Rattle.std.proofs.Common.{◌≡◌, ◌∙◌, refl, ap, arith, ℕ, ◌+◌, ◌<◌, nat_eq, nat_le, ℤ, Bool, true, false, ◌||◌, List, [], ◌∷◌, ◌++◌, length, map, ◌⊎◌, inl, inr, Option}
use Rattle.std.proofs.lemmas.Bool.{eqb-true, leb-true, or_cases}
use Rattle.std.proofs.lemmas.List.{map-append}
use Rattle.std.specs.List.{flat_map}
use Rattle.sopl_base.specs.declared.fault.Refusal.{Refusal}
use Rattle.sopl_base.specs.declared.codes.TheConstants as codes
use Rattle.sopl_ast.specs.Tree.{place_of}
use Rattle.sopl_ast.specs.Whole.{InitTree, InitTrees, One, Many, no_init, init, inits_list}
use Rattle.sopl_ast.specs.Known.{Known}
use Rattle.sopl_ast.specs.Constants.{value_or_zero}
use Rattle.sopl_ast.specs.Mistakes.{mistake_unless, first_of, wrong_depths, wrong_parts}
use Rattle.sopl_ast.specs.UnfoldEvents.{refused_unless}
use Rattle.sopl_ast.specs.Arrays.{Dimension, indices, taking, with_index}
use Rattle.sopl_ast.specs.Declarations.{values_from, values_in, init_events, inits_events}
use Rattle.unfold_laws.specs.Passing.{NothingFails}
use Rattle.unfold_laws.proofs.Passing.{parts_pass, test_holds}

-- Mistakes that are none.

-- two lists are empty where one behind the other is
pub none_both : {A : Type 0} (xs ys : List A) → xs ++ ys ≡ [] → (xs ≡ []) × (ys ≡ [])
none_both [] ys is = (refl, is)
none_both (x ∷ xs) ys is = absurd (cc)

no_mistake : (b : Bool) (code at : ℕ) → mistake_unless b code at ≡ [] → b ≡ true
no_mistake true code at is = refl
no_mistake false code at is = absurd (cc)

pub first_none : (rs : List Refusal) → first_of rs ≡ [] → rs ≡ []
first_none [] is = refl
first_none (r ∷ rs) is = absurd (cc)

not_depth : (depth dims : ℕ) → dims < depth → (nat_eq depth 0 ≡ true) ⊎ (nat_eq depth dims ≡ true) → ⊥
not_depth depth dims deep (inl is) = let h = eqb-true depth 0 is in omega (arith, h, deep)
not_depth depth dims deep (inr is) = let h = eqb-true depth dims is in omega (arith, h, deep)

not_fewer : (depth dims : ℕ) → dims < depth + 1 → nat_le (depth + 1) dims ≡ true → ⊥
not_fewer depth dims deep is = let h = leb-true (depth + 1) dims is in omega (arith, h, deep)

-- an initial value that stands in more brackets than there are dimensions is a mistake
too_deep : (x : InitTree) (dims depth : ℕ) → dims < depth → wrong_depths dims depth x ≡ [] → ⊥
too_deep (One e) dims depth deep right =
    not_depth depth dims deep (or_cases (nat_eq depth 0) (nat_eq depth dims) (no_mistake (nat_eq depth 0 || nat_eq depth dims) codes.DIMENSIONS (place_of e) right))
too_deep (Many at no_init) dims depth deep right = not_fewer depth dims (omega (arith, deep)) (no_mistake (nat_le (depth + 1) dims) codes.DIMENSIONS at right)
too_deep (Many at (init x xs)) dims depth deep right =
    too_deep x dims (depth + 1) (omega (arith, deep)) (none_both (wrong_depths dims (depth + 1) x) (wrong_parts dims (depth + 1) xs) right).0

-- Indices.

-- the index of an initial value
abbrev pub index_of : List ℤ × ℤ → List ℤ
index_of entry = entry.0

one_full : (f : List ℤ → ℤ) (is : List (List ℤ)) → map index_of (map (λ index. (index, f index)) is) ≡ is
one_full f [] = refl
one_full f (index ∷ is) = ap (λ later. index ∷ later) (one_full f is)

behind_full : (number : ℤ) (entries : List (List ℤ × ℤ))
    → map index_of (map (λ (entry : List ℤ × ℤ). (number ∷ entry.0, entry.1)) entries) ≡ map (λ later. number ∷ later) (map index_of entries)
behind_full number [] = refl
behind_full number (entry ∷ entries) = ap (λ later. (number ∷ entry.0) ∷ later) (behind_full number entries)

-- the parts of a bracket are as many as its index set has numbers
as_many : (at : ℕ) (parts : InitTrees) (numbers : List ℤ) → NothingFails (refused_unless (nat_eq (length (inits_list parts)) (length numbers)) codes.BRACKET_LENGTH at)
    → length (inits_list parts) ≡ length numbers
as_many at parts numbers passes =
    eqb-true (length (inits_list parts)) (length numbers) (test_holds (nat_eq (length (inits_list parts)) (length numbers)) codes.BRACKET_LENGTH at passes)

mutual
  pub values_full : (x : InitTree) (known : Known) (ds : List Dimension) (dims depth : ℕ) → depth + length ds ≡ dims → wrong_depths dims depth x ≡ []
      → NothingFails (init_events known ds x) → map index_of (values_from known ds x) ≡ indices ds
  values_full (One e) known ds dims depth same right passes = one_full (λ index. value_or_zero (with_index ds index known) e) (indices ds)
  values_full (Many at no_init) known [] dims depth same right passes =
      absurd (not_fewer depth dims (omega (arith, same)) (no_mistake (nat_le (depth + 1) dims) codes.DIMENSIONS at right))
  values_full (Many at (init x xs)) known [] dims depth same right passes =
      absurd (too_deep x dims (depth + 1) (omega (arith, same)) (none_both (wrong_depths dims (depth + 1) x) (wrong_parts dims (depth + 1) xs) right).0)
  values_full (Many at no_init) known (d ∷ ds) dims depth same right passes =
      let both = parts_pass (refused_unless (nat_eq (length (inits_list no_init)) (length d.numbers)) codes.BRACKET_LENGTH at) (inits_events known d.name ds d.numbers no_init) passes in
      parts_full no_init known d.name ds d.numbers dims (depth + 1) (omega (arith, same)) refl (as_many at no_init d.numbers both.0) both.1
  values_full (Many at (init x xs)) known (d ∷ ds) dims depth same right passes =
      let both = parts_pass (refused_unless (nat_eq (length (inits_list (init x xs))) (length d.numbers)) codes.BRACKET_LENGTH at) (inits_events known d.name ds d.numbers (init x xs)) passes in
      parts_full (init x xs) known d.name ds d.numbers dims (depth + 1) (omega (arith, same)) right (as_many at (init x xs) d.numbers both.0) both.1

  parts_full : (xs : InitTrees) (known : Known) (name : Option (List ℕ)) (ds : List Dimension) (numbers : List ℤ) (dims depth : ℕ) → depth + length ds ≡ dims
      → wrong_parts dims depth xs ≡ [] → length (inits_list xs) ≡ length numbers → NothingFails (inits_events known name ds numbers xs)
      → map index_of (values_in known name ds numbers xs) ≡ flat_map (λ number. map (λ later. number ∷ later) (indices ds)) numbers
  parts_full no_init known name ds [] dims depth same right count passes = refl
  parts_full no_init known name ds (number ∷ numbers) dims depth same right count passes = absurd (omega (arith, count))
  parts_full (init x xs) known name ds [] dims depth same right count passes = absurd (omega (arith, count))
  parts_full (init x xs) known name ds (number ∷ numbers) dims depth same right count passes =
      let rights = none_both (wrong_depths dims depth x) (wrong_parts dims depth xs) right in
      let both = parts_pass (init_events (taking name number known) ds x) (inits_events known name ds numbers xs) passes in
      let first = values_full x (taking name number known) ds dims depth same rights.0 both.0 in
      let rest = parts_full xs known name ds numbers dims depth same rights.1 (omega (arith, count)) both.1 in
      map-append index_of (map (λ (entry : List ℤ × ℤ). (number ∷ entry.0, entry.1)) (values_from (taking name number known) ds x)) (values_in known name ds numbers xs)
      ∙ (λ i. (behind_full number (values_from (taking name number known) ds x) ∙ ap (map (λ later. number ∷ later)) first) i ++ rest i)
