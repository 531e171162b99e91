-- Forms of differences have room.
use Rattle.std.proofs.Common.{◌≡◌, ℕ, ◌+◌, ◌*◌, ◌<◌, ◌≤◌, ◌^◌, ℤ, pos, negsuc, ◌*ℤ◌, unsigned_abs, List, arith, ap, ◌∙◌}
use Rattle.std.proofs.lemmas.Int.{unsigned_abs-mul}
use Rattle.sopl_base.proofs.Sizes.{plus_size}
use Rattle.sopl_base.proofs.Naturals.{spread_left}
use Rattle.box_problem.specs.Box.{Box}
use Rattle.term_language.specs.Forms.{Form, number_form, plus_form}
use Rattle.term_language.specs.Terms as rule
use Rattle.term_language.specs.Rules.{form}
use Rattle.term_math.specs.Sums.{mass, mass_of}
use Rattle.term_math.proofs.Weights.{combined_weighted, mass_weight}
use Rattle.term_nodes.specs.declared.items.Item.{Item}
use Rattle.term_nodes.specs.Things.{term_at, things}
use Rattle.term_nodes.specs.Built.{IsBuilt, IsSoundTerm}
use Rattle.term_store.proofs.OrderedForms.{form_ordered, once}
use Rattle.term_nodes.proofs.Ready.{small_term}

pub form_mass : (root : Box) (t : rule.Term) → IsSoundTerm root t → mass_of (form root t) ≤ 2 ^ 40
form_mass root t sound = omega (arith, sound.small, mass_weight root (form root t).cells)

pub plus_mass : (factor : ℤ) (f g : Form) → mass_of (plus_form factor f g) ≤ mass_of f + unsigned_abs factor * mass_of g
plus_mass factor f g =
    omega (
      arith,
      plus_size f.constant (factor *ℤ g.constant),
      unsigned_abs-mul factor g.constant,
      combined_weighted (λ cell. 1) factor f.cells g.cells,
      spread_left (unsigned_abs factor) (unsigned_abs g.constant) (mass g.cells),
    )

-- the two steps of a difference
pub first_room : (root : Box) (items : List Item) (id : ℕ) (f : Form) → IsBuilt root items → f ≡ form root (term_at (things items) id)
    → mass_of (number_form (pos 0)) + unsigned_abs (pos 1) * mass_of f < 2 ^ 127
first_room root items id f all is =
    let light = form_mass root (term_at (things items) id) (small_term root items id all) in
    omega (arith, light, ap mass_of is)

pub first_is : (root : Box) (items : List Item) (id : ℕ) (f sum : Form) → f ≡ form root (term_at (things items) id) → sum ≡ plus_form (pos 1) (number_form (pos 0)) f → sum
    ≡ form root (term_at (things items) id)
first_is root items id f sum is added =
    added ∙ ap (plus_form (pos 1) (number_form (pos 0))) is ∙ once (form root (term_at (things items) id)) (form_ordered root (term_at (things items) id))

pub second_room : (root : Box) (items : List Item) (x y : ℕ) (sum g : Form) → IsBuilt root items → sum ≡ form root (term_at (things items) x) → g ≡ form root (term_at (things items) y)
    → mass_of sum + unsigned_abs (negsuc 0) * mass_of g < 2 ^ 127
second_room root items x y sum g all sum_is is =
    let light = form_mass root (term_at (things items) x) (small_term root items x all) in
    let other = form_mass root (term_at (things items) y) (small_term root items y all) in
    omega (arith, light, other, ap mass_of sum_is, ap mass_of is)

pub difference_is : (root : Box) (items : List Item) (x y : ℕ) (sum g all_sum : Form) → sum ≡ form root (term_at (things items) x) → g ≡ form root (term_at (things items) y) → all_sum
    ≡ plus_form (negsuc 0) sum g → all_sum ≡ plus_form (negsuc 0) (form root (term_at (things items) x)) (form root (term_at (things items) y))
difference_is root items x y sum g all_sum sum_is is added =
    added ∙ ap (λ (f : Form). plus_form (negsuc 0) f g) sum_is ∙ ap (plus_form (negsuc 0) (form root (term_at (things items) x))) is

pub difference_small : (root : Box) (items : List Item) (x y : ℕ) (f : Form) → IsBuilt root items → f
    ≡ plus_form (negsuc 0) (form root (term_at (things items) x)) (form root (term_at (things items) y)) → mass_of f < 2 ^ 63
difference_small root items x y f all is =
    let light = form_mass root (term_at (things items) x) (small_term root items x all) in
    let other = form_mass root (term_at (things items) y) (small_term root items y all) in
    omega (arith, light, other, ap mass_of is, plus_mass (negsuc 0) (form root (term_at (things items) x)) (form root (term_at (things items) y)))

-- the interval of a difference over the root
