-- Each rule over boxes that agree on cells.
use Rattle.std.proofs.Common.{◌≡◌, ℕ, negsuc, Bool, List, [], ◌∷◌, map, Option, Some, None, if◌then◌else◌, refl, sym, subst, ap, ap₂, ◌∙◌}
use Rattle.std.specs.List.{filter, flat_map}
use Rattle.box_problem.specs.Box.{Box}
use Rattle.term_language.specs.Terms.{Item, Fixed, Free, Table}
use Rattle.term_language.specs.Arrays.{Entry, indices, paired, entries, lies_in, reached}
use Rattle.term_language.specs.Ends.{Ends, exactly, plus, scaled, times, hull_of, cell_ends}
use Rattle.term_language.specs.Forms.{Coefficient, Form, is_constant, plus_form, cells_ends, whole}
use Rattle.term_language.specs.Globals.{TaskEnds}
use Rattle.term_language.specs.Rules.{Reading, Near, Wide, unless_folded, item_form, element_form, item_ends, if_any, readable, element_ends, product_atoms, difference_ends}
use Rattle.term_language.proofs.FormValues.{by_if}
use Rattle.term_language.specs.Mentions.{item_mentions, named_item, element_mentions, table_mentions}
use Rattle.term_language.proofs.Reaching.{Reach, first, second, alone}
use Rattle.term_language.proofs.Forms.{Over, over_combined, element_is_named}

abbrev pub Same : Box → Box → ℕ → Type 0
Same b c cell = cell_ends b cell ≡ cell_ends c cell

same_cells : (b c : Box) (cells : List Coefficient) → Over (Same b c) cells → cells_ends b cells ≡ cells_ends c cells
same_cells b c [] over = refl
same_cells b c (k ∷ later) over = ap₂ plus (ap (scaled k.k) over.0) (same_cells b c later over.1)

pub same_whole : (b c : Box) (f : Form) (x y : Ends) → Over (Same b c) f.cells → x ≡ y → whole b f x ≡ whole c f y
same_whole b c f x y over same = ap (plus (exactly f.constant)) (ap₂ plus (same_cells b c f.cells over) same)

abbrev choice : Form → Form → Ends → Ends → Ends → Ends → Ends
choice f g x y v w = if is_constant f then scaled f.constant y else if is_constant g then scaled g.constant x else times v w

pub same_product : (b c : Box) (f g : Form) (x y v w : Ends) → Over (Same b c) f.cells → Over (Same b c) g.cells → x ≡ v → y ≡ w → product_atoms b f g x y ≡ product_atoms c f g v w
same_product b c f g x y v w left right first_same second_same =
    ap₂ (λ (p q : Ends). choice f g p q (whole b f x) (whole b g y)) first_same second_same
    ∙ ap₂ (choice f g v w) (same_whole b c f x v left first_same) (same_whole b c g y w right second_same)

-- items and elements
same_item : (b c : Box) (item : Item) → Reach (Same b c) (item_mentions item) → item_ends b item ≡ item_ends c item
same_item b c (Fixed z) reach = refl
same_item b c (Free cell) reach = alone (Same b c) cell reach

abbrev SameEntries : Box → Box → List Entry → Type 0
SameEntries b c [] = Unit {0}
SameEntries b c (e ∷ es) = (item_ends b e.item ≡ item_ends c e.item) × SameEntries b c es

same_paired : (b c : Box) (lists : List (List _)) (items : List Item) → Reach (Same b c) (flat_map item_mentions items) → SameEntries b c (paired lists items)
same_paired b c [] items reach = tt
same_paired b c (index ∷ later) [] reach = tt
same_paired b c (index ∷ later) (item ∷ items) reach = (
  same_item b c item (first (Same b c) (item_mentions item) (flat_map item_mentions items) reach),
  same_paired b c later items (second (Same b c) (item_mentions item) (flat_map item_mentions items) reach),
)

same_filtered : (b c : Box) (test : Entry → Bool) (es : List Entry) → SameEntries b c es → SameEntries b c (filter test es)
same_filtered b c test [] same = tt
same_filtered b c test (e ∷ es) same =
    by_if (SameEntries b c) (test e) (e ∷ filter test es) (filter test es) (λ kept. (same.0, same_filtered b c test es same.1)) (λ left_out. same_filtered b c test es same.1)

same_any : (b c : Box) (es all : List Entry) → SameEntries b c es → SameEntries b c all → SameEntries b c (if_any es all)
same_any b c [] all some every = every
same_any b c (e ∷ es) all some every = some

same_readable : (reading : Reading) (b c : Box) (intervals : List Ends) (table : Table) → SameEntries b c (entries table) → SameEntries b c (readable reading intervals table)
same_readable Wide b c intervals table every = every
same_readable Near b c intervals table every =
    same_any b c (reached intervals table) (entries table) (same_filtered b c (λ (e : Entry). lies_in intervals e.index) (entries table) every) every

same_entries : (b c : Box) (es : List Entry) → SameEntries b c es → map (λ (e : Entry). item_ends b e.item) es ≡ map (λ (e : Entry). item_ends c e.item) es
same_entries b c [] same = refl
same_entries b c (e ∷ es) same = ap₂ (λ (x : Ends) (xs : List Ends). x ∷ xs) same.0 (same_entries b c es same.1)

same_elements : (reading : Reading) (b c : Box) (table : Table) (xs ys : List Ends) → Reach (Same b c) (table_mentions table) → xs ≡ ys → element_ends reading b xs table
    ≡ element_ends reading c ys table
same_elements reading b c table xs ys reach same =
    let every = same_paired b c (indices table.sets) table.items reach in
    ap hull_of (same_entries b c (readable reading xs table) (same_readable reading b c xs table every))
    ∙ ap (λ (zs : List Ends). element_ends reading c zs table) same

-- what an element is besides its form; nothing, where its indices name an item
same_element : (reading : Reading) (b c : Box) (table : Table) (found : Option Item) (xs ys : List Ends) → Reach (Same b c) (element_mentions table found) → xs ≡ ys
    → unless_folded (item_form found).plain (element_ends reading b xs table) ≡ unless_folded (item_form found).plain (element_ends reading c ys table)
same_element reading b c table None xs ys reach same = same_elements reading b c table xs ys reach same
same_element reading b c table (Some (Fixed z)) xs ys reach same = refl
same_element reading b c table (Some (Free cell)) xs ys reach same = refl

pub same_named : (reading : Reading) (b c : Box) (table : Table) (at : List Form) (xs ys : List Ends) → Reach (Same b c) (element_mentions table (named_item table at)) → xs ≡ ys
    → unless_folded (element_form table at).plain (element_ends reading b xs table) ≡ unless_folded (element_form table at).plain (element_ends reading c ys table)
same_named reading b c table at xs ys reach same =
    subst (λ (f : Form). unless_folded f.plain (element_ends reading b xs table) ≡ unless_folded f.plain (element_ends reading c ys table)) (sym (element_is_named table at))
    (same_element reading b c table (named_item table at) xs ys reach same)

-- differences
pub same_difference : (b c : Box) (f g : Form) (x y v w : Ends) → Over (Same b c) f.cells → Over (Same b c) g.cells → x ≡ v → y ≡ w → difference_ends b f g x y ≡ difference_ends c f g v w
same_difference b c f g x y v w left right first_same second_same =
    same_whole b c (plus_form (negsuc 0) f g) (plus x (scaled (negsuc 0) y)) (plus v (scaled (negsuc 0) w)) (over_combined (Same b c) (negsuc 0) f.cells g.cells left right)
    (ap₂ (λ (p q : Ends). plus p (scaled (negsuc 0) q)) first_same second_same)

-- tasks
abbrev task_of : Ends → Ends → Ends → TaskEnds
task_of start duration demand = record { start = start; duration = duration; demand = demand }

pub one_task : (s d m : Ends) (later : List TaskEnds) (t e n : Ends) (others : List TaskEnds) → s ≡ t → d ≡ e → m ≡ n → later ≡ others → task_of s d m ∷ later ≡ task_of t e n ∷ others
one_task s d m later t e n others start duration demand rest =
    ap₂ (λ (x y : Ends). task_of x y m ∷ later) start duration ∙ ap₂ (λ (z : Ends) (zs : List TaskEnds). task_of t e z ∷ zs) demand rest
