-- The arrays of the tests have one item for each index, and no index twice.
use Rattle.std.proofs.Common.{◌≡◌, ℤ, pos, List, [], ◌∷◌, length, AllPairs, Vec, Global, refl, ap, subst, sym, ◌∙◌}
use Rattle.std.proofs.lemmas.List.{length-map}
use Rattle.term_language.specs.Arrays.{indices}
use Rattle.term_language.specs.Laws.{IsTable}
use Rattle.term_math.specs.Kept.{sets_of, table_of}
use Rattle.term_math.specs.declared.tables.Table.{Table}
use Rattle.term_math.proofs.Apart.{all_apart, table_is}
use Rattle.term_nodes.specs.Things.{Thing, thing_at}
use Rattle.term_store.specs.declared.ids.TermId.{TermId}
use Rattle.sopl_term.specs.Built as builder

pub pair_is : (table : Table) (set : Vec ℤ Global) → table.sets.items ≡ set ∷ [] → set.items ≡ pos 1 ∷ pos 3 ∷ [] → length table.elements.items ≡ 2 → IsTable (table_of table)
pair_is table set sets numbers two =
    table_is table ((pos 1 ∷ pos 3 ∷ []) ∷ []) (ap sets_of sets ∙ ap (λ (s : List ℤ). s ∷ []) numbers) two refl

pub grid_is : (table : Table) (rows columns : Vec ℤ Global) → table.sets.items ≡ rows ∷ columns ∷ [] → rows.items ≡ pos 1 ∷ pos 2 ∷ [] → columns.items ≡ pos 2 ∷ pos 3 ∷ []
    → length table.elements.items ≡ 4 → IsTable (table_of table)
grid_is table rows columns sets first second four =
    table_is table ((pos 1 ∷ pos 2 ∷ []) ∷ (pos 2 ∷ pos 3 ∷ []) ∷ []) (ap sets_of sets ∙ ap (λ (s : List ℤ). s ∷ columns.items ∷ []) first
    ∙ ap (λ (s : List ℤ). (pos 1 ∷ pos 2 ∷ []) ∷ s ∷ []) second) four refl

pub row_is : (table : Table) (rows columns layers : Vec ℤ Global) → table.sets.items ≡ rows ∷ columns ∷ layers ∷ [] → rows.items ≡ pos 1 ∷ pos 2 ∷ [] → columns.items ≡ pos 4 ∷ []
    → layers.items ≡ pos 3 ∷ [] → length table.elements.items ≡ 2 → IsTable (table_of table)
row_is table rows columns layers sets first second third two =
    table_is table ((pos 1 ∷ pos 2 ∷ []) ∷ (pos 4 ∷ []) ∷ (pos 3 ∷ []) ∷ []) (ap sets_of sets ∙ ap (λ (s : List ℤ). s ∷ columns.items ∷ layers.items ∷ []) first
    ∙ ap (λ (s : List ℤ). (pos 1 ∷ pos 2 ∷ []) ∷ s ∷ layers.items ∷ []) second ∙ ap (λ (s : List ℤ). (pos 1 ∷ pos 2 ∷ []) ∷ (pos 4 ∷ []) ∷ s ∷ []) third) two refl

-- an array that a builder is given by its terms
pub built_is : (things : List Thing) (sets : List (List ℤ)) (items : List TermId) → sets ≡ (pos 1 ∷ pos 3 ∷ []) ∷ [] → length items ≡ 2 → IsTable (builder.table_of things sets items)
built_is things sets items is two = record {
  complete = length-map items (λ (id : TermId). builder.item_of (thing_at things id.0)) ∙ two ∙ sym (ap (λ (ss : List (List ℤ)). length (indices ss)) is);
  distinct = subst (λ (ss : List (List ℤ)). AllPairs (λ (p q : List ℤ). ¬ p ≡ q) (indices ss)) (sym is) (all_apart (indices ((pos 1 ∷ pos 3 ∷ []) ∷ [])) refl);
}
