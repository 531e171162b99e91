-- What is known of a product is right, and has room.
use Rattle.std.proofs.Common.{◌≡◌, ℕ, ◌+◌, ◌*◌, ◌<◌, ◌≤◌, ◌^◌, max, ℤ, pos, unsigned_abs, if◌then◌else◌, List, arith, ap, subst, sym}
use Rattle.std.proofs.Math.Nat.{mul-le-mul_left, mul-le-mul_right}
use Rattle.box_problem.specs.Box.{Box, IsBox}
use Rattle.box_problem.proofs.Boxes.{part_of_itself}
use Rattle.term_language.specs.Ends as ends
use Rattle.term_language.specs.Forms.{Form, number_form, atom_form, is_constant, times_form, product_form, whole}
use Rattle.term_language.specs.Terms as rule
use Rattle.term_language.specs.Rules.{Wide, form, atoms, interval, product_atoms}
use Rattle.term_language.specs.Sizes.{weight_of, atoms_weight, product_weight, size}
use Rattle.term_language.proofs.Bounds.{Bounds, bounded, bounded_whole}
use Rattle.term_language.proofs.FormValues.{by_bool, by_if}
use Rattle.term_math.specs.declared.forms.Form as own
use Rattle.term_math.specs.Shown.{ProductFits, ends_of, form_of}
use Rattle.term_math.specs.Sums.{mass_of, weight_in}
use Rattle.term_math.proofs.Fits.{product_fits}
use Rattle.term_math.proofs.Products.{weight_times}
use Rattle.term_nodes.specs.declared.items.Item.{Item}
use Rattle.term_nodes.specs.Things.{term_at, things}
use Rattle.term_nodes.specs.Built.{IsBuilt}
use Rattle.term_math.specs.declared.values.AbstractValue as seen
use Rattle.term_nodes.specs.Seen.{Sight, sight_of, sight}
use Rattle.term_nodes.proofs.Ready.{small_term, sized_form}
use Rattle.term_store.proofs.Differences.{form_mass}
use Rattle.term_store.proofs.Summing.{plus_large, weight_large, form_light}

-- a product of two numbers below 2^40 each
both_small : (m n : ℕ) → m ≤ 2 ^ 40 → n ≤ 2 ^ 40 → m * n ≤ 2 ^ 80
both_small m n p q = omega (arith, mul-le-mul_left m q, mul-le-mul_right (2 ^ 40) p)

constant_small : (root : Box) (items : List Item) (id : ℕ) (f : Form) → IsBuilt root items → f ≡ form root (term_at (things items) id) → unsigned_abs f.constant ≤ 2 ^ 40
constant_small root items id f all is = omega (arith, ap (λ (g : Form). unsigned_abs g.constant) is, (small_term root items id all).small)

pub scaled_room : (root : Box) (items : List Item) (x y : ℕ) (f g : Form) (k : ℤ) → IsBuilt root items → f ≡ form root (term_at (things items) x) → g ≡ form root (term_at (things items) y)
    → k ≡ f.constant → unsigned_abs k * mass_of g < 2 ^ 127
scaled_room root items x y f g k all f_is g_is k_is =
    let first : unsigned_abs k ≤ 2 ^ 40 = omega (arith, ap (λ (z : ℤ). unsigned_abs z) k_is, constant_small root items x f all f_is) in
    let second : mass_of g ≤ 2 ^ 40 = omega (arith, ap mass_of g_is, form_mass root (term_at (things items) y) (small_term root items y all)) in
    omega (arith, both_small (unsigned_abs k) (mass_of g) first second)

-- how large products get before they are refused
times_light : (root : Box) (f : Form) (k : ℤ) → unsigned_abs k ≤ 2 ^ 40 → weight_in root f ≤ 2 ^ 40 → weight_in root (times_form k f) ≤ 2 ^ 80
times_light root f k small light =
    let w : ℕ → ℕ = λ cell. weight_of (ends.cell_ends root cell) in
    omega (
      arith,
      weight_large root (times_form k f),
      plus_large w k (number_form (pos 0)) f,
      weight_large root f,
      both_small (unsigned_abs k) (weight_in root f) small light,
      ap (λ (n : ℕ). unsigned_abs k * n) (weight_large root f),
    )

constant_light : (root : Box) (f : Form) → weight_in root f ≤ 2 ^ 40 → unsigned_abs f.constant ≤ 2 ^ 40
constant_light root f light = omega (arith, light)

product_light : (root : Box) (f g : Form) → weight_in root f ≤ 2 ^ 40 → weight_in root g ≤ 2 ^ 40 → weight_in root (product_form f g) ≤ 2 ^ 80
product_light root f g f_light g_light =
    by_if (λ (h : Form). weight_in root h ≤ 2 ^ 80) (is_constant f) (times_form f.constant g) (if is_constant g then times_form g.constant f else atom_form)
    (λ constant. times_light root g f.constant (constant_light root f f_light) g_light)
    (λ other. by_if (λ (h : Form). weight_in root h ≤ 2 ^ 80) (is_constant g) (times_form g.constant f) atom_form
    (λ constant. times_light root f g.constant (constant_light root g g_light) f_light) (λ another. omega arith))

ends_small : (a : ends.Ends) (n : ℕ) → Bounds a n → max (unsigned_abs a.low) (unsigned_abs a.high) ≤ n
ends_small a n bounds = omega (arith, bounds.low, bounds.high)

product_heavy : (root : Box) (f g : Form) (m n : ℕ) (a c : ends.Ends) → weight_in root f ≤ 2 ^ 40 → weight_in root g ≤ 2 ^ 40 → m ≤ 2 ^ 40 → n ≤ 2 ^ 40 → Bounds (whole root f a) (2 ^ 40)
    → Bounds (whole root g c) (2 ^ 40) → product_weight f g m n (product_atoms root f g a c) ≤ 2 ^ 80
product_heavy root f g m n a c f_light g_light m_small n_small left right =
    by_bool (λ p. (if p then unsigned_abs f.constant * n else if is_constant g then unsigned_abs g.constant * m else weight_of
    (if p then ends.scaled f.constant c else if is_constant g then ends.scaled g.constant a else ends.times (whole root f a) (whole root g c))) ≤ 2 ^ 80) (is_constant f)
    (λ constant. both_small (unsigned_abs f.constant) n (constant_light root f f_light) n_small)
    (λ other.
    by_bool (λ p. (if p then unsigned_abs g.constant * m else weight_of (if p then ends.scaled g.constant a else ends.times (whole root f a) (whole root g c))) ≤ 2 ^ 80) (is_constant g)
    (λ constant. both_small (unsigned_abs g.constant) m (constant_light root g g_light) m_small)
    (λ another.
    omega (
      arith,
      weight_times (whole root f a) (whole root g c),
      both_small (max (unsigned_abs (whole root f a).low) (unsigned_abs (whole root f a).high)) (max (unsigned_abs (whole root g c).low) (unsigned_abs (whole root g c).high))
          (ends_small (whole root f a) (2 ^ 40) left) (ends_small (whole root g c) (2 ^ 40) right),
    )))

whole_small : (root : Box) (items : List Item) (id : ℕ) → IsBuilt root items → Bounds (interval Wide root root (term_at (things items) id)) (2 ^ 40)
whole_small root items id all =
    let sound = small_term root items id all in
    let t = term_at (things items) id in
    let bounds = bounded_whole root t sound.proper in
    record { low = omega (arith, bounds.low, sound.small); high = omega (arith, bounds.high, sound.small) }

atoms_small : (root : Box) (items : List Item) (id : ℕ) → IsBuilt root items → atoms_weight root (term_at (things items) id) ≤ 2 ^ 40
atoms_small root items id all = omega (arith, (small_term root items id all).small)

pub weight_room : (root : Box) (items : List Item) (x y : ℕ) (h : Form) (weight : ℕ) → IsBuilt root items → h
    ≡ product_form (form root (term_at (things items) x)) (form root (term_at (things items) y)) → weight ≡ atoms_weight root (rule.Product (term_at (things items) x) (term_at (things items) y))
    → weight_in root h + weight < 2 ^ 127
weight_room root items x y h weight all is weight_is =
    let s = term_at (things items) x in
    let t = term_at (things items) y in
    let light = product_light root (form root s) (form root t) (form_light root items x all) (form_light root items y all) in
    let heavy : atoms_weight root (rule.Product s t) ≤ 2 ^ 80 = product_heavy root (form root s) (form root t) (atoms_weight root s) (atoms_weight root t) (atoms Wide root root s)
    (atoms Wide root root t) (form_light root items x all) (form_light root items y all) (atoms_small root items x all) (atoms_small root items y all) (whole_small root items x all)
    (whole_small root items y all) in
    omega (arith, ap (weight_in root) is, weight_is, light, heavy)

-- intervals over the root
pub product_known_fits : (root : Box) (items : List Item) (x y : ℕ) (f g : own.Form) (l r : seen.AbstractValue) → IsBox root → IsBuilt root items → form_of f ≡ form root (term_at (things items) x)
    → form_of g ≡ form root (term_at (things items) y) → sight_of l ≡ sight Wide root root (term_at (things items) x) → sight_of r ≡ sight Wide root root (term_at (things items) y)
    → size root (rule.Product (term_at (things items) x) (term_at (things items) y)) ≤ 2 ^ 40 → ProductFits root f g (ends_of l.ends) (ends_of r.ends)
product_known_fits root items x y f g l r is_box all left right l_is r_is small =
    let s = term_at (things items) x in
    let t = term_at (things items) y in
    let s_sound = small_term root items x all in
    let t_sound = small_term root items y all in
    let bounds : Bounds (product_atoms root (form root s) (form root t) (atoms Wide root root s) (atoms Wide root root t)) (atoms_weight root (rule.Product s t)) =
    bounded root (rule.Product s t) (s_sound.proper, t_sound.proper) in
    let moved = subst (λ (h : Form). Bounds (product_atoms root h (form_of g) (atoms Wide root root s) (atoms Wide root root t)) (atoms_weight root (rule.Product s t))) (sym left)
    (subst (λ (h : Form). Bounds (product_atoms root (form root s) h (atoms Wide root root s) (atoms Wide root root t)) (atoms_weight root (rule.Product s t))) (sym right) bounds) in
    subst (λ (a : ends.Ends). ProductFits root f g a (ends_of r.ends)) (sym (ap (λ (s : Sight). s.ends) l_is))
    (subst (λ (a : ends.Ends). ProductFits root f g (atoms Wide root root s) a) (sym (ap (λ (s : Sight). s.ends) r_is))
    (product_fits root root f g (atoms Wide root root s) (atoms Wide root root t) (atoms_weight root s) (atoms_weight root t) (atoms_weight root (rule.Product s t)) is_box (part_of_itself root is_box)
    (bounded root s s_sound.proper) (bounded root t t_sound.proper) (sized_form root s f left s_sound.small) (sized_form root t g right t_sound.small) moved (omega (arith, small))))
