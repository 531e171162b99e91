-- That no index stands twice in an array that is written out: by a test of its indices.
use Rattle.std.proofs.Common.{◌≡◌, ℕ, zero, suc, ◌<◌, ℤ, pos, Bool, true, ◌&&◌, ◌||◌, not, List, [], ◌∷◌, length, slice_index_or, AllPairs, Vec, Global, arith, refl, ap, subst, sym, ◌∙◌}
use Rattle.std.specs.List.{list_any}
use Rattle.std.proofs.lemmas.List.{length-map}
use Rattle.std.proofs.lemmas.List.Kept.{AllPairs-cons}
use Rattle.term_language.specs.Arrays.{indices, same_index}
use Rattle.term_language.specs.Laws.{IsTable}
use Rattle.term_language.proofs.FormValues.{by_bool, and_first, and_second}
use Rattle.term_language.proofs.Elements.{same_index_refl}
use Rattle.term_math.specs.Kept.{item_of, sets_of, table_of}
use Rattle.term_math.specs.declared.tables.Table.{Table}

-- no index is one of those behind it
abbrev pub none_twice : List (List ℤ) → Bool
none_twice [] = true
none_twice (xs ∷ lists) = not (list_any (same_index xs) lists) && none_twice lists

not_any : (xs ys : List ℤ) (lists : List (List ℤ)) → not (list_any (same_index xs) (ys ∷ lists)) ≡ true → (¬ xs ≡ ys) × (not (list_any (same_index xs) lists) ≡ true)
not_any xs ys lists none =
    by_bool (λ b. not (b || list_any (same_index xs) lists) ≡ true → (¬ xs ≡ ys) × (not (list_any (same_index xs) lists) ≡ true)) (same_index xs ys)
    (λ same here. absurd (cc)) (λ other here. (λ is. let itself = sym (same_index_refl xs) ∙ ap (same_index xs) is ∙ other in absurd (cc), here)) none

apart_from : (xs : List ℤ) (lists : List (List ℤ)) → not (list_any (same_index xs) lists) ≡ true → (k : ℕ) (d : List ℤ) → k < length lists → ¬ xs ≡ slice_index_or lists k d
apart_from xs [] none k d below = absurd (omega (arith, below))
apart_from xs (ys ∷ lists) none zero d below = (not_any xs ys lists none).0
apart_from xs (ys ∷ lists) none (suc k) d below = apart_from xs lists (not_any xs ys lists none).1 k d (omega (arith, below))

pub all_apart : (lists : List (List ℤ)) → none_twice lists ≡ true → AllPairs (λ (p q : List ℤ). ¬ p ≡ q) lists
all_apart [] none = λ i j d before below. absurd (omega (arith, below))
all_apart (xs ∷ lists) none =
    AllPairs-cons (λ (p q : List ℤ). ¬ p ≡ q) xs lists (apart_from xs lists (and_first (not (list_any (same_index xs) lists)) (none_twice lists) none))
    (all_apart lists (and_second (not (list_any (same_index xs) lists)) (none_twice lists) none))

pub table_is : (table : Table) (sets : List (List ℤ)) → sets_of table.sets.items ≡ sets → length table.elements.items ≡ length (indices sets) → none_twice (indices sets) ≡ true
    → IsTable (table_of table)
table_is table sets is complete apart = record {
  complete = length-map table.elements.items item_of ∙ complete ∙ sym (ap (λ (ss : List (List ℤ)). length (indices ss)) is);
  distinct = subst (λ (ss : List (List ℤ)). AllPairs (λ (p q : List ℤ). ¬ p ≡ q) (indices ss)) (sym is) (all_apart (indices sets) apart);
}

-- the arrays of the tests
pub empty_is : (table : Table) (set : Vec ℤ Global) → table.sets.items ≡ set ∷ [] → set.items ≡ [] → length table.elements.items ≡ 0 → IsTable (table_of table)
empty_is table set sets numbers none = table_is table ([] ∷ []) (ap sets_of sets ∙ ap (λ (s : List ℤ). s ∷ []) numbers) none refl

pub turned_is : (table : Table) (set : Vec ℤ Global) → table.sets.items ≡ set ∷ [] → set.items ≡ pos 3 ∷ pos 1 ∷ [] → length table.elements.items ≡ 2 → IsTable (table_of table)
turned_is table set sets numbers two = table_is table ((pos 3 ∷ pos 1 ∷ []) ∷ []) (ap sets_of sets ∙ ap (λ (s : List ℤ). s ∷ []) numbers) two refl

pub grid_is : (table : Table) (rows columns : Vec ℤ Global) → table.sets.items ≡ rows ∷ columns ∷ [] → rows.items ≡ pos 1 ∷ pos 3 ∷ [] → columns.items ≡ pos 2 ∷ pos 5 ∷ pos 7 ∷ []
    → length table.elements.items ≡ 6 → IsTable (table_of table)
grid_is table rows columns sets first second six =
    table_is table ((pos 1 ∷ pos 3 ∷ []) ∷ (pos 2 ∷ pos 5 ∷ pos 7 ∷ []) ∷ []) (ap sets_of sets ∙ ap (λ (s : List ℤ). s ∷ columns.items ∷ []) first
    ∙ ap (λ (s : List ℤ). (pos 1 ∷ pos 3 ∷ []) ∷ s ∷ []) second) six refl
