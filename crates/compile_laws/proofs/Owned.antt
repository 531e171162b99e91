-- The indices of the elements of a name: those of some sets and no others; and what one more declaration does to them.
use Rattle.std.proofs.Common.{◌≡◌, ◌∙◌, refl, sym, ap, subst, ℕ, ℤ, Bool, true, false, List, [], ◌∷◌, ◌++◌, map, ◌⊎◌, inl, inr, Option, Some, None, if◌then◌else◌}
use Rattle.std.specs.Str.{bytes_eq}
use Rattle.sopl_ast.specs.Mistakes.{Entity}
use Rattle.policy_tree.proofs.Members.{In, In-before, In-after, from_append}
use Rattle.term_language.specs.Arrays.{indices}

-- the indices of the things of a name, in order
abbrev pub named : {A : Type 0} → (A → List ℕ) → (A → List ℤ) → List ℕ → List A → List (List ℤ)
named name_of index_of name [] = []
named name_of index_of name (x ∷ later) =
    if bytes_eq name (name_of x) then index_of x ∷ named name_of index_of name later else named name_of index_of name later

module _ {A : Type 0} (name_of : A → List ℕ) (index_of : A → List ℤ) (name : List ℕ) where
  pub named_append : (xs ys : List A) → named name_of index_of name (xs ++ ys) ≡ named name_of index_of name xs ++ named name_of index_of name ys
  named_append [] ys = refl
  named_append (x ∷ xs) ys = by_test (bytes_eq name (name_of x)) (named_append xs ys)
    where
      by_test : (b : Bool) → named name_of index_of name (xs ++ ys) ≡ named name_of index_of name xs ++ named name_of index_of name ys
          → (if b then index_of x ∷ named name_of index_of name (xs ++ ys) else named name_of index_of name (xs ++ ys))
          ≡ (if b then index_of x ∷ named name_of index_of name xs else named name_of index_of name xs) ++ named name_of index_of name ys
      by_test true later = ap (λ is. index_of x ∷ is) later
      by_test false later = later

  -- things that all have one name
  pub named_map : {X : Type 0} (f : X → A) (b : Bool) → ((x : X) → bytes_eq name (name_of (f x)) ≡ b) → (xs : List X)
      → named name_of index_of name (map f xs) ≡ (if b then map (λ x. index_of (f x)) xs else [])
  named_map f true same [] = refl
  named_map f false same [] = refl
  named_map f true same (x ∷ xs) =
      λ i. if same x i then index_of (f x) ∷ named_map f true same xs i else named name_of index_of name (map f xs)
  named_map f false same (x ∷ xs) =
      λ i. if same x i then index_of (f x) ∷ named name_of index_of name (map f xs) else named_map f false same xs i

  pub in_named : (xs : List A) (x : A) → In x xs → bytes_eq name (name_of x) ≡ true → In (index_of x) (named name_of index_of name xs)
  in_named [] x h is = h
  in_named (y ∷ xs) x (inl e) is =
      let P : Bool → Type 0 = λ b. In (index_of x) (if b then index_of y ∷ named name_of index_of name xs else named name_of index_of name xs) in
      let test : bytes_eq name (name_of y) ≡ true = ap (λ z. bytes_eq name (name_of z)) e ∙ is in
      subst P (sym test) (inl (ap index_of e))
  in_named (y ∷ xs) x (inr h) is = by_test (bytes_eq name (name_of y)) (in_named xs x h is)
    where
      by_test : (b : Bool) → In (index_of x) (named name_of index_of name xs)
          → In (index_of x) (if b then index_of y ∷ named name_of index_of name xs else named name_of index_of name xs)
      by_test true later = inr later
      by_test false later = later

  -- an index is that of a thing of the name
  abbrev pub IsNamed : List A → List ℤ → Type 0
  IsNamed xs index = (x : A) × In x xs × (bytes_eq name (name_of x) ≡ true) × (index_of x ≡ index)

  pub from_named : (xs : List A) (index : List ℤ) → In index (named name_of index_of name xs) → IsNamed xs index
  from_named [] index h = absurd h
  from_named (y ∷ xs) index h = by_test (bytes_eq name (name_of y)) refl h (from_named xs index)
    where
      behind : IsNamed xs index → IsNamed (y ∷ xs) index
      behind found = (found.0, inr found.1, found.2, found.3)

      by_test : (b : Bool) → bytes_eq name (name_of y) ≡ b → In index (if b then index_of y ∷ named name_of index_of name xs else named name_of index_of name xs)
          → (In index (named name_of index_of name xs) → IsNamed xs index) → IsNamed (y ∷ xs) index
      by_test true is (inl e) later = (y, inl refl, is, e)
      by_test true is (inr g) later = behind (later g)
      by_test false is g later = behind (later g)

-- these are the indices of the sets
pub record AreExactly (sets is : List (List ℤ)) : Type 0 where
  pub all : (index : List ℤ) → In index (indices sets) → In index is
  pub only : (index : List ℤ) → In index is → In index (indices sets)

pub exactly_those : (sets is : List (List ℤ)) → is ≡ indices sets → AreExactly sets is
exactly_those sets is same =
    record { all = λ index h. subst (In index) (sym same) h; only = λ index h. subst (In index) same h }

-- the elements of a name have all indices of some sets; where nothing is known of the name there are none
pub record IsOwned (known : Option Entity) (is : List (List ℤ)) : Type 0 where
  pub sets : List (List ℤ)
  pub exact : AreExactly sets is
  pub absent : known ≡ None → (index : List ℤ) → In index is → ⊥

-- these are the old ones and some more
pub record AreMore (old more new : List (List ℤ)) : Type 0 where
  pub kept : (index : List ℤ) → In index old → In index new
  pub added : (index : List ℤ) → In index more → In index new
  pub each : (index : List ℤ) → In index new → In index old ⊎ In index more

pub more_last : (old more : List (List ℤ)) → AreMore old more (old ++ more)
more_last old more = record { kept = In-before old more; added = In-after old more; each = from_append old more }

pub more_first : (old more later : List (List ℤ)) → AreMore (old ++ later) more ((old ++ more) ++ later)
more_first old more later =
    record {
      kept = λ index h. kept index (from_append old later index h);
      added = λ index h. In-before (old ++ more) later index (In-after old more index h);
      each = λ index h. each index (from_append (old ++ more) later index h);
    }
  where
    kept : (index : List ℤ) → In index old ⊎ In index later → In index ((old ++ more) ++ later)
    kept index (inl h) = In-before (old ++ more) later index (In-before old more index h)
    kept index (inr h) = In-after (old ++ more) later index h

    sorted : (index : List ℤ) → In index old ⊎ In index more → In index (old ++ later) ⊎ In index more
    sorted index (inl h) = inl (In-before old later index h)
    sorted index (inr h) = inr h

    each : (index : List ℤ) → In index (old ++ more) ⊎ In index later → In index (old ++ later) ⊎ In index more
    each index (inl h) = sorted index (from_append old more index h)
    each index (inr h) = inl (In-after old later index h)

pub more_behind : (first old more new : List (List ℤ)) → AreMore old more new → AreMore (first ++ old) more (first ++ new)
more_behind first old more new are =
    record {
      kept = λ index h. kept index (from_append first old index h);
      added = λ index h. In-after first new index (are.added index h);
      each = λ index h. each index (from_append first new index h);
    }
  where
    kept : (index : List ℤ) → In index first ⊎ In index old → In index (first ++ new)
    kept index (inl h) = In-before first new index h
    kept index (inr h) = In-after first new index (are.kept index h)

    sorted : (index : List ℤ) → In index old ⊎ In index more → In index (first ++ old) ⊎ In index more
    sorted index (inl h) = inl (In-after first old index h)
    sorted index (inr h) = inr h

    each : (index : List ℤ) → In index first ⊎ In index new → In index (first ++ old) ⊎ In index more
    each index (inl h) = inl (In-before first old index h)
    each index (inr h) = sorted index (are.each index h)

-- a declaration gives its own name the indices of its sets, of which nothing was known; all other names keep theirs
pub owned_more : (b : Bool) (entity : Entity) (known : Option Entity) (old own new sets : List (List ℤ)) → (b ≡ true → known ≡ None) → IsOwned known old → AreExactly sets own
    → AreMore old (if b then own else []) new → IsOwned (if b then Some entity else known) new
owned_more true entity known old own new sets fresh owned exact more =
    record {
      sets = sets;
      exact = record { all = λ index h. more.added index (exact.all index h); only = λ index h. only index (more.each index h) };
      absent = λ none. absurd (cc);
    }
  where
    only : (index : List ℤ) → In index old ⊎ In index own → In index (indices sets)
    only index (inl h) = absurd (owned.absent (fresh refl) index h)
    only index (inr h) = exact.only index h
owned_more false entity known old own new sets fresh owned exact more =
    record {
      sets = owned.sets;
      exact = record { all = λ index h. more.kept index (owned.exact.all index h); only = λ index h. owned.exact.only index (old_one index (more.each index h)) };
      absent = λ none index h. owned.absent none index (old_one index (more.each index h));
    }
  where
    old_one : (index : List ℤ) → In index old ⊎ In index [] → In index old
    old_one index (inl h) = h
    old_one index (inr h) = absurd h

-- a declaration of a name that has no elements
pub owned_named : (b : Bool) (entity : Entity) (known : Option Entity) (is : List (List ℤ)) → IsOwned known is → IsOwned (if b then Some entity else known) is
owned_named true entity known is owned = record { sets = owned.sets; exact = owned.exact; absent = λ none. absurd (cc) }
owned_named false entity known is owned = owned
