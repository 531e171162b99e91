-- Steps of what puts the cells of forms and of arrays into a set, and which of them an element mentions.
use Rattle.std.proofs.Common.{◌≡◌, ℕ, ◌+◌, ◌<◌, ◌≤◌, Bool, true, false, List, ◌∷◌, ◌++◌, length, get_or, drop, Option, Some, None, if◌then◌else◌, refl, ap, sym, ◌∙◌}
use Rattle.std.proofs.lemmas.List.{at_drop_more, at_drop_all}
use Rattle.std.proofs.lemmas.List.Sums.{fold-append}
use Rattle.std.specs.BTreeSet.{insert_key}
use Rattle.std.specs.List.{flat_map}
use Rattle.std.specs.Ordering.{nat_cmp}
use Rattle.box_problem.specs.Box.{Box}
use Rattle.term_language.specs.Forms as forms
use Rattle.term_language.specs.Rules.{form, forms as all_forms, item_form}
use Rattle.term_language.specs.Terms.{Item, Fixed, Free, Table, Terms, Element as TheElement}
use Rattle.term_math.specs.Shown.{cells_of}
use Rattle.term_math.specs.declared.forms.Coefficient.{Coefficient}
use Rattle.term_math.specs.Kept.{item_of, items_of, table_of}
use Rattle.term_math.specs.declared.elements.Element.{Element}
use Rattle.term_math.specs.declared.tables.Table as own
use Rattle.term_nodes.specs.Things.{no_table}
use Rattle.term_language.specs.Mentions.{item_mentions, table_mentions, named_item, element_mentions}
use Rattle.term_language.proofs.Forms.{element_is_named}
use Rattle.term_cells.specs.Cells.{with_cells, form_cells}

-- one of several more
pub next_coefficient : (before after : List ℕ) (xs : List Coefficient) (i : ℕ) (x : Coefficient) → i < length xs → x ≡ get_or xs i x → after ≡ insert_key nat_cmp before x.cell
    → with_cells after (form_cells (cells_of (drop (i + 1) xs))) ≡ with_cells before (form_cells (cells_of (drop i xs)))
next_coefficient before after xs i x below at put =
    ap (λ (set : List ℕ). with_cells set (form_cells (cells_of (drop (i + 1) xs)))) put
    ∙ ap (λ (y : Coefficient). with_cells before (y.cell ∷ form_cells (cells_of (drop (i + 1) xs)))) at
    ∙ sym (at_drop_more (λ ys. with_cells before (form_cells (cells_of ys))) xs i x below)

pub next_element : (before after : List ℕ) (xs : List Element) (i : ℕ) (x : Element) → i < length xs → x ≡ get_or xs i x → after ≡ with_cells before (item_mentions (item_of x))
    → with_cells after (flat_map item_mentions (items_of (drop (i + 1) xs))) ≡ with_cells before (flat_map item_mentions (items_of (drop i xs)))
next_element before after xs i x below at put =
    ap (λ (set : List ℕ). with_cells set (flat_map item_mentions (items_of (drop (i + 1) xs)))) put
    ∙ sym (fold-append (insert_key nat_cmp) before (item_mentions (item_of x)) (flat_map item_mentions (items_of (drop (i + 1) xs))))
    ∙ ap (λ (y : Element). with_cells before (item_mentions (item_of y) ++ flat_map item_mentions (items_of (drop (i + 1) xs)))) at
    ∙ sym (at_drop_more (λ ys. with_cells before (flat_map item_mentions (items_of ys))) xs i x below)

-- none is left
pub no_coefficient_left : (set : List ℕ) (xs : List Coefficient) (i : ℕ) → length xs ≤ i → with_cells set (form_cells (cells_of (drop i xs))) ≡ set
no_coefficient_left set xs i past = at_drop_all (λ ys. with_cells set (form_cells (cells_of ys))) xs i past

pub no_element_left : (set : List ℕ) (xs : List Element) (i : ℕ) → length xs ≤ i → with_cells set (flat_map item_mentions (items_of (drop i xs))) ≡ set
no_element_left set xs i past = at_drop_all (λ ys. with_cells set (flat_map item_mentions (items_of ys))) xs i past

-- the cells of the form, where it is plain; else those of the array
pub of_form : (plain : Bool) (before after own_cells others : List ℕ) → plain ≡ true → after ≡ with_cells before own_cells → after ≡ with_cells before (if plain then own_cells else others)
of_form plain before after own_cells others is put = put ∙ ap (λ (b : Bool). with_cells before (if b then own_cells else others)) (sym is)

pub of_table : (plain : Bool) (before after own_cells : List ℕ) (t : own.Table) (table : Table) → plain ≡ false → table_of t ≡ table → after ≡ with_cells before (table_mentions (table_of t))
    → after ≡ with_cells before (if plain then own_cells else table_mentions table)
of_table plain before after own_cells t table is found put =
    put ∙ ap (λ (u : Table). with_cells before (table_mentions u)) found ∙ ap (λ (b : Bool). with_cells before (if b then own_cells else table_mentions table)) (sym is)

pub of_no_table : (plain : Bool) (set own_cells : List ℕ) (table : Table) → plain ≡ false → no_table ≡ table → set ≡ with_cells set (if plain then own_cells else table_mentions table)
of_no_table plain set own_cells table is missing =
    ap (λ (u : Table). with_cells set (table_mentions u)) missing ∙ ap (λ (b : Bool). with_cells set (if b then own_cells else table_mentions table)) (sym is)

-- which of them an element mentions
item_told : (table : Table) (found : Option Item) → (if (item_form found).plain then form_cells (item_form found).cells else table_mentions table) ≡ element_mentions table found
item_told table None = refl
item_told table (Some (Fixed z)) = refl
item_told table (Some (Free cell)) = refl

pub element_told : (root : Box) (table : Table) (at : Terms) (f : forms.Form) (before after : List ℕ) → f ≡ form root (TheElement table at) → after
    ≡ with_cells before (if f.plain then form_cells f.cells else table_mentions table) → after ≡ with_cells before (element_mentions table (named_item table (all_forms root at)))
element_told root table at f before after is put =
    put ∙ ap (λ (g : forms.Form). with_cells before (if g.plain then form_cells g.cells else table_mentions table)) (is ∙ element_is_named table (all_forms root at))
    ∙ ap (with_cells before) (item_told table (named_item table (all_forms root at)))
