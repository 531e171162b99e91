-- Whether a number was put into a set.
use Rattle.std.proofs.Common.{◌≡◌, refl, sym, ap, subst, ◌∙◌, ℤ, Bool, true, false, ◌||◌, T, List, [], ◌∷◌, ◌++◌}
use Rattle.std.proofs.lemmas.List.Folds.{list_any-append}
use Rattle.std.specs.BTreeSet.{insert_key}
use Rattle.std.specs.FinMap.{int_cmp-IsAntisymmetric}
use Rattle.std.specs.List.{list_any}
use Rattle.std.specs.Ordering.{int_cmp, int_eq, match_ordering}
use Rattle.std.specs.declared.cmp.Ordering.{Ordering}
use Rattle.std.specs.declared.cmp.Ordering.TheVariants.{Less, Equal, Greater}

chosen : (o : Ordering) (q x k : ℤ) (ks rest : List ℤ) → int_cmp x k ≡ o → list_any (int_eq q) rest ≡ (int_eq q x || list_any (int_eq q) ks)
    → list_any (int_eq q) (match_ordering o (x ∷ k ∷ ks) (k ∷ ks) (k ∷ rest)) ≡ (int_eq q x || (int_eq q k || list_any (int_eq q) ks))
chosen Less q x k ks rest is more = refl
chosen Equal q x k ks rest is more = twice (int_eq q k) (int_eq q x) (list_any (int_eq q) ks) (ap (int_eq q) (sym (int_cmp-IsAntisymmetric x k is)))
  where
    twice : (a b c : Bool) → a ≡ b → (a || c) ≡ (b || (a || c))
    twice true true c same = refl
    twice true false c same = refl
    twice false true c same = absurd (subst T (sym same) tt)
    twice false false c same = refl
chosen Greater q x k ks rest is more = ap (λ r. int_eq q k || r) more ∙ turned (int_eq q k) (int_eq q x) (list_any (int_eq q) ks)
  where
    turned : (a b c : Bool) → (a || (b || c)) ≡ (b || (a || c))
    turned true true c = refl
    turned true false c = refl
    turned false b c = refl

-- what a set has when a number was put into it
put_any : (q x : ℤ) (ks : List ℤ) → list_any (int_eq q) (insert_key int_cmp ks x) ≡ (int_eq q x || list_any (int_eq q) ks)
put_any q x [] = refl
put_any q x (k ∷ ks) = chosen (int_cmp x k) q x k ks (insert_key int_cmp ks x) refl (put_any q x ks)

-- a set has the numbers of a list
abbrev pub Same : List ℤ → List ℤ → Type 0
Same keys earlier = (q : ℤ) → list_any (int_eq q) keys ≡ list_any (int_eq q) earlier

or_turned : (a b : Bool) → (a || b) ≡ (b || (a || false))
or_turned true true = refl
or_turned true false = refl
or_turned false true = refl
or_turned false false = refl

-- one number more
pub same_more : (keys earlier : List ℤ) (x : ℤ) → Same keys earlier → Same (insert_key int_cmp keys x) (earlier ++ x ∷ [])
same_more keys earlier x same q =
    put_any q x keys
    ∙ ap (λ b. int_eq q x || b) (same q)
    ∙ or_turned (int_eq q x) (list_any (int_eq q) earlier)
    ∙ sym (list_any-append (int_eq q) earlier (x ∷ []))
