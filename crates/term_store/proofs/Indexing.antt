-- What is known of elements of arrays is right.
use Rattle.std.proofs.Common.{◌≡◌, ℕ, ◌+◌, ◌<◌, ◌≤◌, ℤ, pos, Bool, true, false, if◌then◌else◌, List, map, [], ◌∷◌, ◌++◌, length, get_or, drop, Option, None}
use Rattle.std.proofs.Common.{append_assoc, append-nil, refl, ap, subst, sym, ◌∙◌}
use Rattle.std.specs.List.{list_all}
use Rattle.std.proofs.lemmas.List.{at_drop_more, at_drop_all}
use Rattle.box_problem.specs.Box.{Box}
use Rattle.term_language.specs.Arrays.{item_at}
use Rattle.term_language.specs.Ends as ends
use Rattle.term_language.specs.Forms.{Form, atom_form, is_constant}
use Rattle.term_language.specs.Rules.{Near, Wide, form, forms, atoms, mark, intervals, unless_folded, item_form, item_ends, element_form, element_ends}
use Rattle.term_language.specs.Sizes.{size}
use Rattle.term_language.specs.Laws.{IsTable}
use Rattle.term_language.specs.Terms as rule
use Rattle.term_language.specs.declared.answers.Defined.{Defined}
use Rattle.term_math.specs.Kept.{items_of, table_of}
use Rattle.term_math.specs.declared.tables.Table as own
use Rattle.term_nodes.specs.declared.items.Item.{Item}
use Rattle.term_nodes.specs.Things.{Thing, no_table, a_term, term_at, terms_at, table_at, things}
use Rattle.term_nodes.specs.Built.{IsBuilt, facts_of}
use Rattle.term_nodes.specs.Seen.{Sight}
use Rattle.term_math.proofs.Reaching.{all_read}
use Rattle.term_store.specs.Atoms.{any_element, of_folded, size_of_folded}
use Rattle.term_store.proofs.Folding.{kept_as, measured_as}

-- the item that an element is, if its indices are numbers
abbrev pub numbers : Box → rule.Terms → List ℤ
numbers root ts = map (λ (f : Form). f.constant) (forms root ts)

pub no_numbers_form : (table : rule.Table) (fs : List Form) → list_all is_constant fs ≡ false → item_form None ≡ element_form table fs
no_numbers_form table fs some = sym (ap (λ (b : Bool). if b then item_form (item_at table (map (λ (f : Form). f.constant) fs)) else atom_form) some)

pub numbers_form : (table : rule.Table) (fs : List Form) (v : Option rule.Item) → list_all is_constant fs ≡ true → v ≡ item_at table (map (λ (f : Form). f.constant) fs) → item_form v
    ≡ element_form table fs
numbers_form table fs v all found =
    ap item_form found ∙ sym (ap (λ (b : Bool). if b then item_form (item_at table (map (λ (f : Form). f.constant) fs)) else atom_form) all)

-- an element that may be any of the array's
module _ (root : Box) (table : rule.Table) (ts : rule.Terms) (is_table : IsTable table) (none : item_form None ≡ element_form table (forms root ts)) where
  any_atoms : atoms Wide root root (rule.Element table ts) ≡ ends.hull_of (map (item_ends root) table.items)
  any_atoms =
      ap (λ (f : Form). unless_folded f.plain (element_ends Wide root (intervals Wide root root ts) table)) (sym none)
      ∙ ap ends.hull_of (all_read root table is_table.complete)

  pub any_kept : (near : Defined) (wide : Sight) → near ≡ mark Near root root (rule.Element table ts) → wide ≡ any_element root table ts → of_folded false near wide
      ≡ facts_of root (a_term (rule.Element table ts))
  any_kept near wide is_near is_wide =
      kept_as root (rule.Element table ts) false (pos 0) (any_element root table ts).ends (sym none) any_atoms refl (λ same. absurd (cc))
      near (mark Wide root root (rule.Element table ts)) near false wide (sym is_near) refl refl refl is_wide

  pub any_sized : (a : ends.Ends) → a ≡ (any_element root table ts).ends → size_of_folded false a ≡ size root (rule.Element table ts)
  any_sized a is =
      ap (size_of_folded false) is
      ∙ measured_as root (rule.Element table ts) false (pos 0) (any_element root table ts).ends (sym none) any_atoms refl (λ same. absurd (cc))
      (mark Wide root root (rule.Element table ts)) false (any_element root table ts) refl refl

-- the hull of all elements of an array
pub hull_found : (b : Box) (t : own.Table) (table : rule.Table) (a : ends.Ends) → table_of t ≡ table → a ≡ ends.hull_of (map (item_ends b) (items_of t.elements.items)) → a
    ≡ ends.hull_of (map (item_ends b) table.items)
hull_found b t table a found hull = hull ∙ ap (λ (u : rule.Table). ends.hull_of (map (item_ends b) u.items)) found

pub hull_missing : (b : Box) (table : rule.Table) (a : ends.Ends) → no_table ≡ table → a ≡ ends.exactly (pos 0) → a ≡ ends.hull_of (map (item_ends b) table.items)
hull_missing b table a missing zero = zero ∙ ap (λ (u : rule.Table). ends.hull_of (map (item_ends b) u.items)) missing

-- an array as it is kept
pub seen_table : (root : Box) (items others : List Item) (table : ℕ) (t : rule.Table) → others ≡ items → IsBuilt root items → ((r : Box) → IsBuilt r others → t ≡ table_at (things others) table)
    → t ≡ table_at (things items) table
seen_table root items others table t same all found =
    found root (subst (IsBuilt root) (sym same) all) ∙ ap (λ (xs : List Item). table_at (things xs) table) same

-- steps over the indices
pub next_numbers : (root : Box) (made : List ℤ) (all : List Thing) (xs : List ℕ) (i x : ℕ) → i < length xs → x ≡ get_or xs i x → made ++ numbers root (terms_at all (drop i xs))
    ≡ (made ++ (form root (term_at all x)).constant ∷ []) ++ numbers root (terms_at all (drop (i + 1) xs))
next_numbers root made all xs i x below at =
    at_drop_more (λ ys. made ++ numbers root (terms_at all ys)) xs i x below
    ∙ ap (λ (y : ℕ). made ++ (form root (term_at all y)).constant ∷ numbers root (terms_at all (drop (i + 1) xs))) (sym at)
    ∙ sym (append_assoc made ((form root (term_at all x)).constant ∷ []) (numbers root (terms_at all (drop (i + 1) xs))))

pub no_numbers : (root : Box) (made : List ℤ) (all : List Thing) (xs : List ℕ) (i : ℕ) → length xs ≤ i → made ++ numbers root (terms_at all (drop i xs)) ≡ made
no_numbers root made all xs i past = at_drop_all (λ ys. made ++ numbers root (terms_at all ys)) xs i past ∙ append-nil made
