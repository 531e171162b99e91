-- The cells of a form ascend, and none of them is there 0 times; so once the form, and nothing else, is the form.
use Rattle.std.proofs.Common.{◌≡◌, ℕ, ◌<◌, nat_lt, nat_eq, ℤ, pos, ◌+ℤ◌, ◌*ℤ◌, Bool, true, false, ◌||◌, List, [], ◌∷◌, map, Option, Some, None, if◌then◌else◌, arith, refl, ap, subst, ◌∙◌}
use Rattle.std.proofs.lemmas.Bool.Decides.{nat_tests}
use Rattle.std.specs.Ordering.{int_eq}
use Rattle.std.specs.List.{list_all}
use Rattle.sopl_base.proofs.Tests.{nat_tested}
use Rattle.sopl_base.proofs.Integers.{zero_plus}
use Rattle.term_language.specs.Arrays.{item_at}
use Rattle.box_problem.specs.Box.{Box}
use Rattle.term_language.specs.Forms.{Coefficient, Form, number_form, atom_form, is_constant, unless_zero, put, combined, plus_form, times_form, product_form, sign}
use Rattle.term_language.specs.Terms.{Item, Fixed, Free, Term, Constant, Cell, Sum, Product, Made, Selected, Element, Number, Parts, no_part, part, Table}
use Rattle.term_language.specs.Rules.{form, forms, sum_form, folded, item_form, element_form}
use Rattle.term_language.proofs.FormValues.{by_if, same_cell}
use Rattle.term_language.proofs.Products.{one-*ℤ}

abbrev Above : ℕ → List Coefficient → Type 0
Above cell [] = Unit {0}
Above cell (c ∷ later) = (cell < c.cell) × Above cell later

abbrev pub Ordered : List Coefficient → Type 0
Ordered [] = Unit {0}
Ordered (c ∷ later) = Above c.cell later × (int_eq c.k (pos 0) ≡ false) × Ordered later

above_less : (a b : ℕ) (cells : List Coefficient) → a < b → Above b cells → Above a cells
above_less a b [] less above = tt
above_less a b (c ∷ later) less above = (omega (arith, less, above.0), above_less a b later less above.1)

unless_zero_above : (d cell : ℕ) (k : ℤ) (later : List Coefficient) → d < cell → Above d later → Above d (unless_zero cell k later)
unless_zero_above d cell k later less above =
    by_if (Above d) (int_eq k (pos 0)) later (record { cell = cell; k = k } ∷ later) (λ zero. above) (λ other. (less, above))

put_above : (d cell : ℕ) (k : ℤ) (cells : List Coefficient) → d < cell → Above d cells → Above d (put cell k cells)
put_above d cell k [] less above = unless_zero_above d cell k [] less tt
put_above d cell k (c ∷ later) less above =
    by_if (Above d) (nat_lt c.cell cell) (c ∷ put cell k later) (if nat_eq c.cell cell then unless_zero cell (c.k +ℤ k) later else unless_zero cell k (c ∷ later))
    (λ before. (above.0, put_above d cell k later less above.1))
    (λ behind.
    by_if (Above d) (nat_eq c.cell cell) (unless_zero cell (c.k +ℤ k) later) (unless_zero cell k (c ∷ later))
    (λ same. unless_zero_above d cell (c.k +ℤ k) later less above.1)
    (λ other. unless_zero_above d cell k (c ∷ later) less above))

unless_zero_ordered : (cell : ℕ) (k : ℤ) (later : List Coefficient) → Above cell later → Ordered later → Ordered (unless_zero cell k later)
unless_zero_ordered cell k later above ordered =
    by_if Ordered (int_eq k (pos 0)) later (record { cell = cell; k = k } ∷ later) (λ zero. ordered) (λ other. (above, other, ordered))

behind_less : (a b : ℕ) → nat_lt a b ≡ false → nat_eq a b ≡ false → b < a
behind_less a b behind other = grind (arith, nat_tests)

put_ordered : (cell : ℕ) (k : ℤ) (cells : List Coefficient) → Ordered cells → Ordered (put cell k cells)
put_ordered cell k [] ordered = unless_zero_ordered cell k [] tt tt
put_ordered cell k (c ∷ later) ordered =
    by_if Ordered (nat_lt c.cell cell) (c ∷ put cell k later) (if nat_eq c.cell cell then unless_zero cell (c.k +ℤ k) later else unless_zero cell k (c ∷ later))
    (λ before. (put_above c.cell cell k later (nat_tested c.cell cell before) ordered.0, ordered.1, put_ordered cell k later ordered.2))
    (λ behind.
    by_if Ordered (nat_eq c.cell cell) (unless_zero cell (c.k +ℤ k) later) (unless_zero cell k (c ∷ later))
    (λ same. unless_zero_ordered cell (c.k +ℤ k) later (subst (λ (n : ℕ). Above n later) (same_cell c.cell cell same) ordered.0) ordered.2)
    (λ other.
    let less = behind_less c.cell cell behind other in
    unless_zero_ordered cell k (c ∷ later) (less, above_less cell c.cell later less ordered.0) ordered))

combined_ordered : (factor : ℤ) (cells others : List Coefficient) → Ordered cells → Ordered (combined factor cells others)
combined_ordered factor cells [] ordered = ordered
combined_ordered factor cells (c ∷ later) ordered = put_ordered c.cell (factor *ℤ c.k) (combined factor cells later) (combined_ordered factor cells later ordered)

folded_ordered : (fold : Bool) (z : ℤ) → Ordered (folded fold z).cells
folded_ordered true z = tt
folded_ordered false z = tt

item_ordered : (item : Option Item) → Ordered (item_form item).cells
item_ordered (Some (Fixed z)) = tt
item_ordered (Some (Free cell)) = (tt, refl, tt)
item_ordered None = tt

element_ordered : (table : Table) (fs : List Form) → Ordered (element_form table fs).cells
element_ordered table fs =
    by_if (λ (f : Form). Ordered f.cells) (list_all is_constant fs) (item_form (item_at table (map (λ (f : Form). f.constant) fs))) atom_form
    (λ constant. item_ordered (item_at table (map (λ (f : Form). f.constant) fs))) (λ other. tt)

product_ordered : (f g : Form) → Ordered (product_form f g).cells
product_ordered f g =
    by_if (λ (h : Form). Ordered h.cells) (is_constant f) (times_form f.constant g) (if is_constant g then times_form g.constant f else record { constant = pos 0; cells = []; plain = false })
    (λ constant. combined_ordered f.constant [] g.cells tt)
    (λ other.
    by_if (λ (h : Form). Ordered h.cells) (is_constant g) (times_form g.constant f) (record { constant = pos 0; cells = []; plain = false })
    (λ constant. combined_ordered g.constant [] f.cells tt) (λ another. tt))

mutual
  pub form_ordered : (root : Box) (t : Term) → Ordered (form root t).cells
  form_ordered root (Constant z) = tt
  form_ordered root (Cell cell) = (tt, refl, tt)
  form_ordered root (Sum parts) = sum_ordered root parts
  form_ordered root (Product a c) = product_ordered (form root a) (form root c)
  form_ordered root (Made op a) = folded_ordered _ _
  form_ordered root (Selected which a later) = folded_ordered _ _
  form_ordered root (Element table at) = element_ordered table (forms root at)
  form_ordered root (Number c) = tt

  sum_ordered : (root : Box) (parts : Parts) → Ordered (sum_form root parts).cells
  sum_ordered root no_part = tt
  sum_ordered root (part subtracted t later) = combined_ordered (sign subtracted) (sum_form root later).cells (form root t).cells (sum_ordered root later)

put_front : (c : Coefficient) (later : List Coefficient) → Above c.cell later → int_eq c.k (pos 0) ≡ false → put c.cell c.k later ≡ c ∷ later
put_front c [] above other = rw other refl
put_front c (d ∷ later) above other =
    let not_less : nat_lt d.cell c.cell ≡ false = grind (arith, nat_tests, above.0) in
    let not_same : nat_eq d.cell c.cell ≡ false = grind (arith, nat_tests, above.0) in
    rw (not_less, not_same, other) refl

once_cells : (cells : List Coefficient) → Ordered cells → combined (pos 1) [] cells ≡ cells
once_cells [] ordered = refl
once_cells (c ∷ later) ordered =
    ap (λ (k : ℤ). put c.cell k (combined (pos 1) [] later)) (one-*ℤ c.k)
    ∙ ap (put c.cell c.k) (once_cells later ordered.2)
    ∙ put_front c later ordered.0 ordered.1

once_plain : (b : Bool) → (b || int_eq (pos 1) (pos 0)) ≡ b
once_plain true = refl
once_plain false = refl

pub once : (f : Form) → Ordered f.cells → plus_form (pos 1) (number_form (pos 0)) f ≡ f
once f ordered =
    ap (λ (z : ℤ). record { constant = z; cells = combined (pos 1) [] f.cells; plain = f.plain || int_eq (pos 1) (pos 0) }) (ap (λ (z : ℤ). pos 0 +ℤ z) (one-*ℤ f.constant) ∙ zero_plus f.constant)
    ∙ ap (λ (cells : List Coefficient). record { constant = f.constant; cells = cells; plain = f.plain || int_eq (pos 1) (pos 0) }) (once_cells f.cells ordered)
    ∙ ap (λ (b : Bool). record { constant = f.constant; cells = f.cells; plain = b }) (once_plain f.plain)
