-- Where all terms are small over the root, what is computed over a box inside it has room.
use Rattle.std.proofs.Common.{◌≡◌, inl, inr, ℕ, ◌+◌, ◌-◌, ◌*◌, ◌<◌, ◌≤◌, ◌^◌, zero, suc, pos, negsuc, ◌*ℤ◌, unsigned_abs, List, [], ◌∷◌, length, get_or, drop, arith, refl, ap, subst, sym}
use Rattle.std.proofs.lemmas.Bool.{cases_lt}
use Rattle.std.proofs.lemmas.Int.{unsigned_abs-mul}
use Rattle.std.proofs.lemmas.List.{get_or_default}
use Rattle.sopl_base.proofs.Sizes.{plus_size}
use Rattle.box_problem.specs.Box.{Box, IsBox, Inside}
use Rattle.term_language.specs.Ends as ends
use Rattle.term_language.specs.Forms as forms
use Rattle.term_language.specs.Terms.{Term, Constant, Product, Sum, Parts}
use Rattle.term_language.specs.Rules.{Reading, Wide, form, atoms, sum_atoms, product_atoms}
use Rattle.term_language.specs.Sizes.{weight_of, cells_weight, atoms_weight, sum_weight, size}
use Rattle.term_language.specs.Laws.{IsProper, AreProper, AreProperParts, IsTable}
use Rattle.term_language.proofs.Bounds.{Bounds, bounded, bounded_parts, sign_size}
use Rattle.term_language.proofs.Sharpening.{narrow, narrow_parts}
use Rattle.term_language.proofs.Shared.{bounds_within}
use Rattle.term_math.specs.declared.forms.Form.{Form}
use Rattle.term_math.specs.Shown.{IsFit, WholeFits, ProductFits, DifferenceFits, cells_of, ends_at, ends_of, form_of, box_in}
use Rattle.term_math.proofs.Fits.{fit, fit_at, product_fits, difference_fits, whole_fits}
use Rattle.term_math.proofs.Weights.{combined_weighted, cells_weighted}
use Rattle.term_nodes.specs.declared.nodes.Signed.{Signed}
use Rattle.term_nodes.specs.declared.items.Item.{Item}
use Rattle.term_nodes.specs.declared.evaluation.Evaluator.{Evaluator}
use Rattle.term_nodes.specs.Things.{Thing, no_table, term_in, table_in, term_at, terms_at, table_at, parts_at, things}
use Rattle.term_nodes.specs.Built.{IsAt, IsBuilt, IsSoundTerm}
use Rattle.term_math.specs.declared.values.AbstractValue as own
use Rattle.term_nodes.specs.Seen.{CanRead, Sight, reading_of, sight, sight_of, sum_sight}
use Rattle.term_nodes.proofs.Reading.{nothing_past}
use Rattle.term_nodes.proofs.Steps.{next_part}

-- each number stands for a small term
pub nothing_small : (root : Box) → IsSoundTerm root (Constant (pos 0))
nothing_small root = record { proper = tt; small = omega arith }

pub small_term : (root : Box) (items : List Item) (id : ℕ) → IsBuilt root items → IsSoundTerm root (term_at (things items) id)
small_term root [] id all = nothing_small root
small_term root (first ∷ rest) id all =
    elim (cases_lt id (length (first ∷ rest))) [
      | inl there ↦
          let items : List Item = first ∷ rest in
          let at : IsAt root (things items) id (get_or items id first) = all.each id (get_or items id first) there (get_or_default items id first (get_or items id first) there) in
          subst (λ (t : Thing). IsSoundTerm root (term_in t)) (sym at.thing) at.sound.term
      | inr past ↦ subst (λ (t : Thing). IsSoundTerm root (term_in t)) (sym (nothing_past (first ∷ rest) id past)) (nothing_small root)
    ]

-- and for proper terms and arrays
pub terms_proper : (root : Box) (items : List Item) (ids : List ℕ) → IsBuilt root items → AreProper (terms_at (things items) ids)
terms_proper root items [] all = tt
terms_proper root items (id ∷ ids) all = ((small_term root items id all).proper, terms_proper root items ids all)

pub no_table_is : IsTable no_table
no_table_is = record { complete = refl; distinct = λ i j d before exists. absurd (omega (arith, exists)) }

pub table_proper : (root : Box) (items : List Item) (id : ℕ) → IsBuilt root items → IsTable (table_at (things items) id)
table_proper root [] id all = no_table_is
table_proper root (first ∷ rest) id all =
    elim (cases_lt id (length (first ∷ rest))) [
      | inl there ↦
          let items : List Item = first ∷ rest in
          let at : IsAt root (things items) id (get_or items id first) = all.each id (get_or items id first) there (get_or_default items id first (get_or items id first) there) in
          subst (λ (t : Thing). IsTable (table_in t)) (sym at.thing) at.sound.table
      | inr past ↦ subst (λ (t : Thing). IsTable (table_in t)) (sym (nothing_past (first ∷ rest) id past)) no_table_is
    ]

-- its interval over a box inside the root
pub near_bounds : (reading : Reading) (root b : Box) (t : Term) → IsBox root → Inside b root → IsProper t → Bounds (atoms reading root b t) (atoms_weight root t)
near_bounds reading root b t is_box inside proper =
    bounds_within (atoms reading root b t) (atoms Wide root root t) (atoms_weight root t) (narrow reading root b root t is_box inside proper).within (bounded root t proper)

near_parts : (reading : Reading) (root b : Box) (parts : Parts) → IsBox root → Inside b root → AreProperParts parts → Bounds (sum_atoms reading root b parts) (sum_weight root parts)
near_parts reading root b parts is_box inside proper =
    bounds_within (sum_atoms reading root b parts) (sum_atoms Wide root root parts) (sum_weight root parts) (narrow_parts reading root b root parts is_box inside proper).within
    (bounded_parts root parts proper)

drop_proper : (all : List Thing) (i : ℕ) (parts : List Signed) → AreProperParts (parts_at all parts) → AreProperParts (parts_at all (drop i parts))
drop_proper all zero parts proper = proper
drop_proper all (suc i) [] proper = tt
drop_proper all (suc i) (p ∷ parts) proper = drop_proper all i parts proper.1

pub drop_lighter : (root : Box) (all : List Thing) (i : ℕ) (parts : List Signed) → sum_weight root (parts_at all (drop i parts)) ≤ sum_weight root (parts_at all parts)
drop_lighter root all zero parts = omega arith
drop_lighter root all (suc i) [] = omega arith
drop_lighter root all (suc i) (p ∷ parts) = omega (arith, drop_lighter root all i parts)

-- the steps of a sum
pub times_fit : (here : Evaluator) (subtracted : _) (id : ℕ) → CanRead here
    → IsFit (ends_at (forms.sign subtracted) (atoms (reading_of here) (box_in here.root) (box_in here.view) (term_at (things here.items.now) id)))
times_fit here subtracted id ready =
    let t = term_at (things here.items.now) id in
    let sound = small_term (box_in here.root) here.items.now id ready.built in
    fit_at (forms.sign subtracted) (atoms (reading_of here) (box_in here.root) (box_in here.view) t) (atoms_weight (box_in here.root) t)
    (near_bounds (reading_of here) (box_in here.root) (box_in here.view) t ready.root_is_box ready.inside sound.proper)
    (let once : unsigned_abs (forms.sign subtracted) * atoms_weight (box_in here.root) t
    ≡ 1 * atoms_weight (box_in here.root) t = ap (λ (n : ℕ). n * atoms_weight (box_in here.root) t) (sign_size subtracted) in
    omega (arith, once, sound.small))

pub sum_fit : (here : Evaluator) (xs : List Signed) (i : ℕ) (x : Signed) → CanRead here → IsSoundTerm (box_in here.root) (Sum (parts_at (things here.items.now) xs)) → i < length xs → x
    ≡ get_or xs i x → IsFit (ends.plus (ends.scaled (forms.sign x.subtracted) (atoms (reading_of here) (box_in here.root) (box_in here.view) (term_at (things here.items.now) x.term)))
    (sum_atoms (reading_of here) (box_in here.root) (box_in here.view) (parts_at (things here.items.now) (drop (i + 1) xs))))
sum_fit here xs i x ready sound below at =
    let root = box_in here.root in
    let b = box_in here.view in
    let all = things here.items.now in
    let parts = parts_at all (drop i xs) in
    subst IsFit (ap (λ s. s.ends) (next_part (reading_of here) root b all xs i x below at))
    (fit (sum_atoms (reading_of here) root b parts) (sum_weight root parts) (near_parts (reading_of here) root b parts ready.root_is_box ready.inside (drop_proper all i xs sound.proper))
    (omega (arith, drop_lighter root all i xs, sound.small)))

-- a product
pub sized_form : (root : Box) (t : Term) (f : Form) → form_of f ≡ form root t → size root t ≤ 2 ^ 40
    → unsigned_abs f.constant + (cells_weight root (cells_of f.cells.items) + atoms_weight root t) < 2 ^ 63
sized_form root t f is small =
    let same : unsigned_abs f.constant + cells_weight root (cells_of f.cells.items)
    ≡ unsigned_abs (form root t).constant + cells_weight root (form root t).cells = ap (λ (g : forms.Form). unsigned_abs g.constant + cells_weight root g.cells) is in
    omega (arith, same, small)

product_same : (reading : Reading) (root b : Box) (s t : Term) (f g : Form) (n : ℕ) → form_of f ≡ form root s → form_of g ≡ form root t
    → Bounds (product_atoms b (form root s) (form root t) (atoms reading root b s) (atoms reading root b t)) n
    → Bounds (product_atoms b (form_of f) (form_of g) (atoms reading root b s) (atoms reading root b t)) n
product_same reading root b s t f g n left right bounds =
    subst (λ (h : forms.Form). Bounds (product_atoms b h (form_of g) (atoms reading root b s) (atoms reading root b t)) n) (sym left)
    (subst (λ (h : forms.Form). Bounds (product_atoms b (form root s) h (atoms reading root b s) (atoms reading root b t)) n) (sym right) bounds)

pub product_fit : (here : Evaluator) (x y : ℕ) (f g : Form) → CanRead here → form_of f ≡ form (box_in here.root) (term_at (things here.items.now) x) → form_of g
    ≡ form (box_in here.root) (term_at (things here.items.now) y) → IsSoundTerm (box_in here.root) (Product (term_at (things here.items.now) x) (term_at (things here.items.now) y))
    → ProductFits (box_in here.view) f g (atoms (reading_of here) (box_in here.root) (box_in here.view) (term_at (things here.items.now) x))
    (atoms (reading_of here) (box_in here.root) (box_in here.view) (term_at (things here.items.now) y))
product_fit here x y f g ready left right sound =
    let root = box_in here.root in
    let b = box_in here.view in
    let s = term_at (things here.items.now) x in
    let t = term_at (things here.items.now) y in
    let s_sound = small_term root here.items.now x ready.built in
    let t_sound = small_term root here.items.now y ready.built in
    let whole = near_bounds (reading_of here) root b (Product s t) ready.root_is_box ready.inside sound.proper in
    product_fits root b f g (atoms (reading_of here) root b s) (atoms (reading_of here) root b t) (atoms_weight root s) (atoms_weight root t) (atoms_weight root (Product s t)) ready.root_is_box ready.inside
    (near_bounds (reading_of here) root b s ready.root_is_box ready.inside s_sound.proper) (near_bounds (reading_of here) root b t ready.root_is_box ready.inside t_sound.proper)
    (sized_form root s f left s_sound.small) (sized_form root t g right t_sound.small)
    (product_same (reading_of here) root b s t f g (atoms_weight root (Product s t)) left right whole) (omega (arith, sound.small))

-- a comparison
pub difference_light : (root : Box) (s t : Term) (f : Form) → form_of f ≡ forms.plus_form (negsuc 0) (form root s) (form root t) → size root s ≤ 2 ^ 40 → size root t ≤ 2 ^ 40
    → unsigned_abs f.constant + (cells_weight root (cells_of f.cells.items) + (atoms_weight root s + atoms_weight root t)) < 2 ^ 63
difference_light root s t f is s_small t_small =
    let d = forms.plus_form (negsuc 0) (form root s) (form root t) in
    let same : unsigned_abs f.constant + cells_weight root (cells_of f.cells.items)
    ≡ unsigned_abs d.constant + cells_weight root d.cells = ap (λ (g : forms.Form). unsigned_abs g.constant + cells_weight root g.cells) is in
    let w : ℕ → ℕ = λ cell. weight_of (ends.cell_ends root cell) in
    let cells = combined_weighted w (negsuc 0) (form root s).cells (form root t).cells in
    let constant = plus_size (form root s).constant (negsuc 0 *ℤ (form root t).constant) in
    omega (
      arith,
      same,
      cells,
      constant,
      unsigned_abs-mul (negsuc 0) (form root t).constant,
      cells_weighted root d.cells,
      cells_weighted root (form root s).cells,
      cells_weighted root (form root t).cells,
      s_small,
      t_small,
    )

pub difference_fit : (here : Evaluator) (x y : ℕ) (f : Form) → CanRead here → form_of f
    ≡ forms.plus_form (negsuc 0) (form (box_in here.root) (term_at (things here.items.now) x)) (form (box_in here.root) (term_at (things here.items.now) y))
    → DifferenceFits (box_in here.view) f (atoms (reading_of here) (box_in here.root) (box_in here.view) (term_at (things here.items.now) x))
    (atoms (reading_of here) (box_in here.root) (box_in here.view) (term_at (things here.items.now) y))
difference_fit here x y f ready is =
    let root = box_in here.root in
    let b = box_in here.view in
    let s = term_at (things here.items.now) x in
    let t = term_at (things here.items.now) y in
    let s_sound = small_term root here.items.now x ready.built in
    let t_sound = small_term root here.items.now y ready.built in
    difference_fits root b f (atoms (reading_of here) root b s) (atoms (reading_of here) root b t) (atoms_weight root s) (atoms_weight root t) ready.root_is_box ready.inside
    (near_bounds (reading_of here) root b s ready.root_is_box ready.inside s_sound.proper) (near_bounds (reading_of here) root b t ready.root_is_box ready.inside t_sound.proper)
    (difference_light root s t f is s_sound.small t_sound.small)

pub difference_seen : (here : Evaluator) (x y : ℕ) (f : Form) (l r : own.AbstractValue) → CanRead here → form_of f
    ≡ forms.plus_form (negsuc 0) (form (box_in here.root) (term_at (things here.items.now) x)) (form (box_in here.root) (term_at (things here.items.now) y)) → sight_of l
    ≡ sight (reading_of here) (box_in here.root) (box_in here.view) (term_at (things here.items.now) x) → sight_of r ≡ sight (reading_of here) (box_in here.root) (box_in here.view) (term_at (things here.items.now) y)
    → DifferenceFits (box_in here.view) f (ends_of l.ends) (ends_of r.ends)
difference_seen here x y f l r ready is left right =
    subst (λ (a : ends.Ends). DifferenceFits (box_in here.view) f a (ends_of r.ends)) (sym (ap (λ (s : Sight). s.ends) left))
    (subst (λ (a : ends.Ends). DifferenceFits (box_in here.view) f (atoms (reading_of here) (box_in here.root) (box_in here.view) (term_at (things here.items.now) x)) a) (sym (ap (λ (s : Sight). s.ends) right))
    (difference_fit here x y f ready is))

pub times_seen : (here : Evaluator) (subtracted : _) (id : ℕ) (s : own.AbstractValue) → CanRead here → sight_of s ≡ sight (reading_of here) (box_in here.root) (box_in here.view) (term_at (things here.items.now) id)
    → IsFit (ends_at (forms.sign subtracted) (ends_of s.ends))
times_seen here subtracted id s ready is =
    subst (λ (a : ends.Ends). IsFit (ends_at (forms.sign subtracted) a)) (sym (ap (λ (s : Sight). s.ends) is)) (times_fit here subtracted id ready)

pub sum_seen : (here : Evaluator) (xs : List Signed) (i : ℕ) (d : Signed) (part sum : own.AbstractValue) → CanRead here → IsSoundTerm (box_in here.root) (Sum (parts_at (things here.items.now) xs))
    → 0 < i → i ≤ length xs → sight_of part ≡ sight (reading_of here) (box_in here.root) (box_in here.view) (term_at (things here.items.now) (get_or xs (i - 1) d).term) → sight_of sum
    ≡ sum_sight (reading_of here) (box_in here.root) (box_in here.view) (parts_at (things here.items.now) (drop i xs))
    → IsFit (ends.plus (ends.scaled (forms.sign (get_or xs (i - 1) d).subtracted) (ends_of part.ends)) (ends_of sum.ends))
sum_seen here xs i d part sum ready sound positive most first later =
    let there : i - 1 < length xs = omega (arith, positive, most) in
    let again : i - 1 + 1 ≡ i = omega (arith, positive) in
    let x : Signed = get_or xs (i - 1) d in
    let fits = sum_fit here xs (i - 1) x ready sound there (get_or_default xs (i - 1) d x there) in
    let here_fits = subst (λ (j : ℕ). IsFit (ends.plus (ends.scaled (forms.sign x.subtracted) (atoms (reading_of here) (box_in here.root) (box_in here.view) (term_at (things here.items.now) x.term)))
    (sum_atoms (reading_of here) (box_in here.root) (box_in here.view) (parts_at (things here.items.now) (drop j xs))))) again fits in
    subst (λ (a : ends.Ends). IsFit (ends.plus (ends.scaled (forms.sign x.subtracted) a) (ends_of sum.ends))) (sym (ap (λ (s : Sight). s.ends) first))
    (subst (λ (a : ends.Ends). IsFit (ends.plus (ends.scaled (forms.sign x.subtracted) (atoms (reading_of here) (box_in here.root) (box_in here.view) (term_at (things here.items.now) x.term))) a))
    (sym (ap (λ (s : Sight). s.ends) later)) here_fits)

-- the whole interval of a term
pub range_fit : (here : Evaluator) (id : ℕ) (f : Form) (s : own.AbstractValue) → CanRead here → form_of f ≡ form (box_in here.root) (term_at (things here.items.now) id) → sight_of s
    ≡ sight (reading_of here) (box_in here.root) (box_in here.view) (term_at (things here.items.now) id) → WholeFits (box_in here.view) f (ends_of s.ends)
range_fit here id f s ready is seen =
    let root = box_in here.root in
    let t = term_at (things here.items.now) id in
    let sound = small_term root here.items.now id ready.built in
    subst (λ (a : ends.Ends). WholeFits (box_in here.view) f a) (sym (ap (λ (s : Sight). s.ends) seen))
    (whole_fits root (box_in here.view) f (atoms (reading_of here) root (box_in here.view) t) (atoms_weight root t) ready.root_is_box ready.inside
    (near_bounds (reading_of here) root (box_in here.view) t ready.root_is_box ready.inside sound.proper) (sized_form root t f is sound.small))
