-- Lists from which an element is taken, and into which one is put.
use Rattle.std.proofs.Common.{◌≡◌, ◌⊎◌, inl, inr, ℕ, zero, suc, ◌<◌, List, [], ◌∷◌, ◌++◌, length, get_or, AllPairs, Contains, arith, refl, sym, ap, ◌∙◌}
use Rattle.std.proofs.lemmas.List.Elements.{Contains-append_left, Contains-append_right, Contains-append_cases, Contains-get_or}
use Rattle.std.proofs.lemmas.List.Kept.{AllPairs-cons}
use Rattle.sopl_base.proofs.Lists.{contains_later}

-- the first element, or a later one
first_is : {X : Type 0} (x : X) (xs : List X) → Contains (x ∷ xs) x
first_is x xs = (zero, omega arith, refl)

first_or_later_at : {X : Type 0} (x : X) (xs : List X) (y : X) (k : ℕ) → k < length (x ∷ xs) → get_or (x ∷ xs) k y ≡ y → (x ≡ y) ⊎ Contains xs y
first_or_later_at x xs y zero exists is = inl is
first_or_later_at x xs y (suc k) exists is = inr (k, omega arith, is)

pub first_or_later : {X : Type 0} (x : X) (xs : List X) (y : X) → Contains (x ∷ xs) y → (x ≡ y) ⊎ Contains xs y
first_or_later x xs y has = first_or_later_at x xs y has.0 has.1 has.2

pub none_has : {X : Type 0} (y : X) → ¬ Contains [] y
none_has y has = omega (arith, has.1)

-- an element in the middle, and the others
pub middle_is : {X : Type 0} (prefix back : List X) (x : X) → Contains (prefix ++ x ∷ back) x
middle_is prefix back x = Contains-append_right prefix (x ∷ back) x (first_is x back)

pub others_have : {X : Type 0} (prefix back : List X) (x y : X) → Contains (prefix ++ back) y → Contains (prefix ++ x ∷ back) y
others_have prefix back x y has =
    elim (Contains-append_cases prefix back y has) [
      | inl before ↦ Contains-append_left prefix (x ∷ back) y before
      | inr behind ↦ Contains-append_right prefix (x ∷ back) y (contains_later x back y behind)
    ]

pub middle_or_others : {X : Type 0} (prefix back : List X) (x y : X) → Contains (prefix ++ x ∷ back) y → (x ≡ y) ⊎ Contains (prefix ++ back) y
middle_or_others prefix back x y has =
    elim (Contains-append_cases prefix (x ∷ back) y has) [
      | inl before ↦ inr (Contains-append_left prefix back y before)
      | inr behind ↦ elim (first_or_later x back y behind) [
        | inl here ↦ inl here
        | inr later ↦ inr (Contains-append_right prefix back y later)
      ]
    ]

-- a list that has an element is cut there
pub record IsCutAt {X : Type 0} (xs : List X) (x : X) : Type 0 where
  pub prefix : List X
  pub back : List X
  pub is : xs ≡ prefix ++ x ∷ back

longer_cut : {X : Type 0} (y : X) (xs : List X) (x : X) → IsCutAt xs x → IsCutAt (y ∷ xs) x
longer_cut {X} y xs x cut = record { prefix = y ∷ cut.prefix; back = cut.back; is = ap (λ (zs : List X). y ∷ zs) cut.is }

pub cut_at : {X : Type 0} (xs : List X) (x : X) → Contains xs x → IsCutAt xs x
cut_at [] x has = absurd (none_has x has)
cut_at {X} (y ∷ xs) x has =
    elim (first_or_later y xs x has) [
      | inl here ↦ record { prefix = []; back = xs; is = ap (λ (z : X). z ∷ xs) here }
      | inr later ↦ longer_cut y xs x (cut_at xs x later)
    ]

-- no two are equal
abbrev pub AreApart : {X : Type 0} → List X → Type 0
AreApart xs = AllPairs (λ x y. ¬ x ≡ y) xs

first_apart : {X : Type 0} (x : X) (xs : List X) (y : X) → AreApart (x ∷ xs) → Contains xs y → ¬ x ≡ y
first_apart x xs y apart has same = apart zero (suc has.0) y (omega arith) (omega (arith, has.1)) (same ∙ sym has.2)

later_apart : {X : Type 0} (x : X) (xs : List X) → AreApart (x ∷ xs) → AreApart xs
later_apart x xs apart = λ i j d before exists. apart (suc i) (suc j) d (omega arith) (omega arith)

longer_apart : {X : Type 0} (x : X) (xs : List X) → ((y : X) → Contains xs y → ¬ x ≡ y) → AreApart xs → AreApart (x ∷ xs)
longer_apart x xs differs apart =
    AllPairs-cons (λ a b. ¬ a ≡ b) x xs (λ k d exists. differs (get_or xs k d) (Contains-get_or xs k d exists)) apart

pub others_apart : {X : Type 0} (prefix back : List X) (x : X) → AreApart (prefix ++ x ∷ back) → AreApart (prefix ++ back)
others_apart [] back x apart = later_apart x back apart
others_apart (y ∷ prefix) back x apart =
    longer_apart y (prefix ++ back)
    (λ z has. first_apart y (prefix ++ x ∷ back) z apart (others_have prefix back x z has))
    (others_apart prefix back x (later_apart y (prefix ++ x ∷ back) apart))

pub middle_apart : {X : Type 0} (prefix back : List X) (x y : X) → AreApart (prefix ++ x ∷ back) → Contains (prefix ++ back) y → ¬ x ≡ y
middle_apart [] back x y apart has same = first_apart x back y apart has same
middle_apart (z ∷ prefix) back x y apart has same =
    elim (first_or_later z (prefix ++ back) y has) [
      | inl here ↦ first_apart z (prefix ++ x ∷ back) x apart (middle_is prefix back x) (here ∙ sym same)
      | inr later ↦ middle_apart prefix back x y (later_apart z (prefix ++ x ∷ back) apart) later same
    ]

pub put_apart : {X : Type 0} (left right : List X) (x : X) → AreApart (left ++ right) → ((y : X) → Contains (left ++ right) y → ¬ x ≡ y) → AreApart (left ++ x ∷ right)
put_apart [] right x apart differs = longer_apart x right differs apart
put_apart (y ∷ left) right x apart differs =
    longer_apart y (left ++ x ∷ right)
    (λ z has same. elim (middle_or_others left right x z has) [
      | inl here ↦ differs y (first_is y (left ++ right)) (here ∙ sym same)
      | inr other ↦ first_apart y (left ++ right) z apart other same
    ])
    (put_apart left right x (later_apart y (left ++ right) apart) (λ z has. differs z (contains_later y (left ++ right) z has)))
