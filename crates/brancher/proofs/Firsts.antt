-- The first item that passes a test.
use Rattle.std.specs.Str.{bytes_eq}
use Rattle.brancher.specs.Rules.{Rule}
use Rattle.brancher.specs.Picks.{chosen_rule}
use Rattle.std.proofs.Common.{◌≡◌, ℕ, map, slice_get, option_map, refl, sym, ap, ◌∙◌, Bool, true, false, List, [], ◌∷◌, ◌++◌, Option, None, Some, find, if◌then◌else◌}

-- the item that was found, or else another one
abbrev pub or_found : {A : Type 0} → Option A → Option A → Option A
or_found None other = other
or_found (Some x) other = Some x

or_none : {A : Type 0} (first : Bool) (x : A) (found : Option A) → or_found (if first then Some x else None) found ≡ (if first then Some x else found)
or_none true x found = refl
or_none false x found = refl

or_more : {A : Type 0} (first : Bool) (y : A) (rest other : Option A) → or_found (if first then Some y else rest) other ≡ (if first then Some y else or_found rest other)
or_more true y rest other = refl
or_more false y rest other = refl

pub found_more : {A : Type 0} (p : A → Bool) (xs : List A) (x : A) (found : Option A)
    → or_found (find p (xs ++ x ∷ [])) found ≡ or_found (find p xs) (if p x then Some x else found)
found_more p [] x found = or_none (p x) x found
found_more p (y ∷ xs) x found =
    or_more (p y) y (find p (xs ++ x ∷ [])) found
    ∙ ap (λ rest. if p y then Some y else rest) (found_more p xs x found)
    ∙ sym (or_more (p y) y (find p xs) (if p x then Some x else found))

-- the rule of the first of a name is that of the first pair with it
module _ {A : Type 0} (label : A → List ℕ) (rule : A → Rule) where
  pub chosen_named : (name : List ℕ) (xs : List A) → option_map rule (find (λ x. bytes_eq (label x) name) xs) ≡ chosen_rule (map (λ x. (label x, rule x)) xs) (Some name)
  chosen_named name [] = refl
  chosen_named name (x ∷ xs) = either (bytes_eq (label x) name) x (find (λ y. bytes_eq (label y) name) xs) (find (λ (k : List ℕ × Rule). bytes_eq k.0 name) (map (λ y. (label y, rule y)) xs)) (chosen_named name xs)
    where
      either : (b : Bool) (y : A) (rest : Option A) (pairs : Option (List ℕ × Rule)) → option_map rule rest ≡ option_map (λ (k : List ℕ × Rule). k.1) pairs
          → option_map rule (if b then Some y else rest) ≡ option_map (λ (k : List ℕ × Rule). k.1) (if b then Some (label y, rule y) else pairs)
      either true y rest pairs is = refl
      either false y rest pairs is = is

  pub chosen_first : (xs : List A) → option_map rule (slice_get xs 0) ≡ chosen_rule (map (λ x. (label x, rule x)) xs) None
  chosen_first [] = refl
  chosen_first (x ∷ xs) = refl
