-- The cells of linear forms are mentioned.
use Rattle.std.proofs.Common.{◌≡◌, ℕ, nat_lt, nat_eq, ℤ, pos, ◌+ℤ◌, ◌*ℤ◌, Bool, true, false, List, [], ◌∷◌, map, Option, Some, None, if◌then◌else◌, All, Contains, refl, sym, subst}
use Rattle.std.proofs.lemmas.List.Elements.{All-nil, All-cons}
use Rattle.std.specs.List.{list_all}
use Rattle.std.specs.Ordering.{int_eq}
use Rattle.box_problem.specs.Box.{Box}
use Rattle.term_language.specs.Terms.{Item, Fixed, Free, Table, Term, Constant, Cell, Sum, Product, Made, Selected, Element, Number, Parts, no_part, part}
use Rattle.term_language.specs.Arrays.{item_at}
use Rattle.term_language.specs.Forms.{Coefficient, Form, atom_form, is_constant, unless_zero, put, combined, times_form, product_form, sign}
use Rattle.term_language.specs.Rules.{folded, item_form, element_form, form, forms, sum_form}
use Rattle.term_language.proofs.FormValues.{by_if, by_bool}
use Rattle.term_language.specs.Mentions.{named_item, element_mentions, mentions, terms_mention, parts_mention}
use Rattle.term_language.proofs.Reaching.{Reach, first, second, alone}

-- a fact of each cell of a form
abbrev pub Over : (ℕ → Type 0) → List Coefficient → Type 0
Over P [] = Unit {0}
Over P (c ∷ later) = P c.cell × Over P later

over_unless : (P : ℕ → Type 0) (cell : ℕ) (k : ℤ) (later : List Coefficient) → P cell → Over P later → Over P (unless_zero cell k later)
over_unless P cell k later here rest =
    by_if (Over P) (int_eq k (pos 0)) later (record { cell = cell; k = k } ∷ later) (λ zero. rest) (λ other. (here, rest))

over_put : (P : ℕ → Type 0) (cell : ℕ) (k : ℤ) (cells : List Coefficient) → P cell → Over P cells → Over P (put cell k cells)
over_put P cell k [] here rest = over_unless P cell k [] here rest
over_put P cell k (c ∷ later) here rest =
    by_if (Over P) (nat_lt c.cell cell) (c ∷ put cell k later) (if nat_eq c.cell cell then unless_zero cell (c.k +ℤ k) later else unless_zero cell k (c ∷ later))
    (λ before. (rest.0, over_put P cell k later here rest.1))
    (λ behind.
    by_if (Over P) (nat_eq c.cell cell) (unless_zero cell (c.k +ℤ k) later) (unless_zero cell k (c ∷ later))
    (λ same. over_unless P cell (c.k +ℤ k) later here rest.1)
    (λ other. over_unless P cell k (c ∷ later) here rest))

pub over_combined : (P : ℕ → Type 0) (factor : ℤ) (cells others : List Coefficient) → Over P cells → Over P others → Over P (combined factor cells others)
over_combined P factor cells [] all rest = all
over_combined P factor cells (c ∷ later) all rest =
    over_put P c.cell (factor *ℤ c.k) (combined factor cells later) rest.0 (over_combined P factor cells later all rest.1)

over_times : (P : ℕ → Type 0) (factor : ℤ) (f : Form) → Over P f.cells → Over P (times_form factor f).cells
over_times P factor f all = over_combined P factor [] f.cells tt all

over_product : (P : ℕ → Type 0) (f g : Form) → Over P f.cells → Over P g.cells → Over P (product_form f g).cells
over_product P f g left right =
    by_if (λ (h : Form). Over P h.cells) (is_constant f) (times_form f.constant g) (if is_constant g then times_form g.constant f else atom_form)
    (λ constant. over_times P f.constant g right)
    (λ other.
    by_if (λ (h : Form). Over P h.cells) (is_constant g) (times_form g.constant f) atom_form
    (λ constant. over_times P g.constant f left) (λ neither. tt))

over_folded : (P : ℕ → Type 0) (folds : Bool) (z : ℤ) → Over P (folded folds z).cells
over_folded P true z = tt
over_folded P false z = tt

-- an element's form is that of the item that its indices name
pub element_is_named : (table : Table) (indices : List Form) → element_form table indices ≡ item_form (named_item table indices)
element_is_named table indices =
    let found = item_at table (map (λ (f : Form). f.constant) indices) in
    by_bool (λ constant. (if constant then item_form found else atom_form) ≡ item_form (if constant then found else None)) (list_all is_constant indices) (λ all. refl) (λ other. refl)

over_item : (P : ℕ → Type 0) (table : Table) (found : Option Item) → Reach P (element_mentions table found) → Over P (item_form found).cells
over_item P table None reach = tt
over_item P table (Some (Fixed z)) reach = tt
over_item P table (Some (Free cell)) reach = (alone P cell reach, tt)

mutual
  pub over_form : (P : ℕ → Type 0) (root : Box) (t : Term) → Reach P (mentions root t) → Over P (form root t).cells
  over_form P root (Constant z) reach = tt
  over_form P root (Cell cell) reach = (alone P cell reach, tt)
  over_form P root (Sum parts) reach = over_sum P root parts reach
  over_form P root (Product a b) reach =
      over_product P (form root a) (form root b) (over_form P root a (first P (mentions root a) (mentions root b) reach)) (over_form P root b (second P (mentions root a) (mentions root b) reach))
  over_form P root (Made op a) reach = over_folded P _ _
  over_form P root (Selected which a later) reach = over_folded P _ _
  over_form P root (Element table indices) reach =
      let item = named_item table (forms root indices) in
      subst (λ (f : Form). Over P f.cells) (sym (element_is_named table (forms root indices)))
      (over_item P table item (first P (element_mentions table item) (terms_mention root indices) reach))
  over_form P root (Number c) reach = tt

  over_sum : (P : ℕ → Type 0) (root : Box) (parts : Parts) → Reach P (parts_mention root parts) → Over P (sum_form root parts).cells
  over_sum P root no_part reach = tt
  over_sum P root (part subtracted t later) reach =
      over_combined P (sign subtracted) (sum_form root later).cells (form root t).cells
      (over_sum P root later (second P (mentions root t) (parts_mention root later) reach)) (over_form P root t (first P (mentions root t) (parts_mention root later) reach))

all_over : (P : ℕ → Type 0) (cells : List Coefficient) → Over P cells → All (λ (c : Coefficient). P c.cell) cells
all_over P [] over = All-nil (λ (c : Coefficient). P c.cell)
all_over P (c ∷ later) over = All-cons (λ (c : Coefficient). P c.cell) c later over.0 (all_over P later over.1)

-- the law
pub forms_are_mentioned : (root : Box) (t : Term) → All (λ (c : Coefficient). Contains (mentions root t) c.cell) (form root t).cells
forms_are_mentioned root t = all_over (Contains (mentions root t)) (form root t).cells (over_form (Contains (mentions root t)) root t (λ cell there. there))
