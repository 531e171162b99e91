-- What a list of multiples of several terms is, as it grows.
use Rattle.std.proofs.Common.{◌≡◌, ℕ, ◌+◌, ◌*◌, ◌<◌, ◌≤◌, ◌^◌, zero, suc, ℤ, ◌*ℤ◌, ◌≤ℤ◌, unsigned_abs, Bool, true, false, if◌then◌else◌, List, [], ◌∷◌, ◌++◌, map, length}
use Rattle.std.proofs.Common.{get_or, drop, Option, Some, None, arith, refl, ap, subst, sym, ◌∙◌}
use Rattle.std.proofs.lemmas.Int.{ints, clamps, unsigned_abs-mul}
use Rattle.std.proofs.lemmas.List.{at_drop_all, get_or_default}
use Rattle.std.proofs.Math.Nat.{mul-le-mul_left, mul_assoc}
use Rattle.box_problem.specs.Box.{Box, Inside}
use Rattle.term_language.specs.Ends as ends
use Rattle.term_language.specs.Forms.{Form, is_constant, atom_form, times_form, product_form, sign}
use Rattle.std.specs.List.{list_all}
use Rattle.box_problem.proofs.Shared.{lows_inside}
use Rattle.term_language.specs.Arrays.{item_at}
use Rattle.term_language.proofs.FormValues.{by_bool}
use Rattle.term_language.specs.Rules.{Near, Wide, form, forms, element_form, item_form, atoms, sum_atoms, interval, folded, product_atoms}
use Rattle.term_language.specs.Sizes.{product_weight, atoms_weight, sum_weight}
use Rattle.term_language.specs.Terms as term
use Rattle.term_language.proofs.Bounds.{sign_size}
use Rattle.term_language.proofs.Layers.{IsClear}
use Rattle.term_language.proofs.Sharpening.{narrow_parts}
use Rattle.term_language.proofs.Soundness.{read}
use Rattle.term_math.specs.Shown.{box_in}
use Rattle.term_nodes.specs.declared.nodes.Node.{Node}
use Rattle.term_nodes.specs.declared.nodes.Node.TheVariants as node
use Rattle.term_nodes.specs.declared.nodes.Signed.{Signed}
use Rattle.term_nodes.specs.declared.items.Item.{Item}
use Rattle.term_nodes.specs.declared.evaluation.Evaluator.{Evaluator}
use Rattle.term_nodes.specs.Built.{IsAt}
use Rattle.term_nodes.specs.Built as built
use Rattle.term_nodes.specs.Seen.{IsReady, Sight}
use Rattle.term_nodes.specs.Things.{Thing, table_at, term_in, term_at, thing_of, parts_at, terms_at, things}
use Rattle.term_nodes.proofs.Ready.{small_term}
use Rattle.term_nodes.proofs.Steps.{next_part}
use Rattle.term_store.proofs.Summing.{parts_proper}
use Rattle.term_goals.specs.declared.sums.Atom.{Atom}
use Rattle.term_goals.specs.Goals.{AtomsExist, all_weight, atoms_ends, listed_ends}
use Rattle.term_goals.proofs.Steps.{next_atoms}
use Rattle.term_goals.proofs.Summing.{zero_plus, clear_scaled}
use Rattle.term_goals.proofs.Leaves.{scaled_plus, scaled_twice, scaled_zero, plus_zero, plus_assoc, leaf_interval, weighs, times_other}

-- one more at the end
pub listed_more : (root b : Box) (all : List Thing) (xs : List Atom) (a : Atom) → listed_ends root b all (xs ++ a ∷ [])
    ≡ ends.plus (listed_ends root b all xs) (ends.scaled a.k (interval Near root b (term_at all a.term)))
listed_more root b all [] a =
    let here = ends.scaled a.k (interval Near root b (term_at all a.term)) in
    plus_zero here ∙ sym (zero_plus here)
listed_more root b all (x ∷ xs) a =
    let first = ends.scaled x.k (interval Near root b (term_at all x.term)) in
    ap (ends.plus first) (listed_more root b all xs a) ∙ sym (plus_assoc first (listed_ends root b all xs) (ends.scaled a.k (interval Near root b (term_at all a.term))))

pub leaf_added : (root b : Box) (all : List Thing) (xs ys : List Atom) (a : Atom) (k : ℤ) (id : ℕ) → form root (term_at all id) ≡ atom_form → ys ≡ xs ++ a ∷ [] → a ≡ record { k = k; term = id }
    → listed_ends root b all ys ≡ ends.plus (listed_ends root b all xs) (ends.scaled k (atoms Near root b (term_at all id)))
leaf_added root b all xs ys a k id leaf is a_is =
    ap (listed_ends root b all) (is ∙ ap (λ (x : Atom). xs ++ x ∷ []) a_is)
    ∙ listed_more root b all xs (record { k = k; term = id })
    ∙ ap (λ (e : ends.Ends). ends.plus (listed_ends root b all xs) (ends.scaled k e)) (leaf_interval root b (term_at all id) leaf)

-- nothing more
clear_added : (l a : ends.Ends) (k : ℤ) → IsClear a → l ≡ ends.plus l (ends.scaled k a)
clear_added l a k clear = sym (plus_zero l) ∙ ap (ends.plus l) (sym (clear_scaled k a clear))

pub plain_form : (root : Box) (all : List Thing) (id : ℕ) (item : Item) → IsAt root all id item → item.facts.form.plain ≡ (form root (term_at all id)).plain
plain_form root all id item at =
    ap (λ (f : built.Facts). f.form.plain) at.kept ∙ ap (λ (t : Thing). (form root (term_in t)).plain) (sym at.thing)

pub plain_added : (here : Evaluator) (b : Box) (xs : List Atom) (k : ℤ) (id : ℕ) (item : Item) → IsReady here → IsAt (box_in here.root) (things here.items.now) id item → item.facts.form.plain
    ≡ true → Inside b (box_in here.root) → listed_ends (box_in here.root) b (things here.items.now) xs
    ≡ ends.plus (listed_ends (box_in here.root) b (things here.items.now) xs) (ends.scaled k (atoms Near (box_in here.root) b (term_at (things here.items.now) id)))
plain_added here b xs k id item ready at plain inside =
    let root = box_in here.root in
    let all = things here.items.now in
    let t = term_at all id in
    clear_added (listed_ends root b all xs) (atoms Near root b t) k
    ((read Near root b b.lows t inside.is_box (lows_inside b inside.is_box) (small_term root here.items.now id ready.built).proper).clear (sym (plain_form root all id item at) ∙ plain))

-- a node that is no sum and no product
abbrev pub is_leaf : Node → Bool
is_leaf (node.Sum parts) = false
is_leaf (node.Product a c) = false
is_leaf x = true

folded_leaf : (fold : Bool) (z : ℤ) → (folded fold z).plain ≡ false → folded fold z ≡ atom_form
folded_leaf true z other = cc
folded_leaf false z other = refl

item_leaf : (v : Option term.Item) → (item_form v).plain ≡ false → item_form v ≡ atom_form
item_leaf (Some (term.Fixed z)) other = cc
item_leaf (Some (term.Free cell)) other = cc
item_leaf None other = refl

element_leaf : (table : term.Table) (fs : List Form) → (element_form table fs).plain ≡ false → element_form table fs ≡ atom_form
element_leaf table fs other =
    by_bool (λ b. (if b then item_form (item_at table (map (λ (f : Form). f.constant) fs)) else atom_form).plain ≡ false
    → (if b then item_form (item_at table (map (λ (f : Form). f.constant) fs)) else atom_form) ≡ atom_form) (list_all is_constant fs)
    (λ met plain. item_leaf (item_at table (map (λ (f : Form). f.constant) fs)) plain) (λ unmet plain. refl) other

leaf_of : (root : Box) (all : List Thing) (x : Node) → is_leaf x ≡ true → (form root (term_in (thing_of all x))).plain ≡ false → form root (term_in (thing_of all x)) ≡ atom_form
leaf_of root all (node.Constant z) leaf other = cc
leaf_of root all (node.Cell cell) leaf other = cc
leaf_of root all (node.Sum parts) leaf other = cc
leaf_of root all (node.Product a c) leaf other = cc
leaf_of root all (node.Operation op a) leaf other = folded_leaf _ _ other
leaf_of root all (node.Extreme e first later) leaf other = folded_leaf _ _ other
leaf_of root all (node.Element table at) leaf other = element_leaf (table_at all table) (forms root (terms_at all at.items)) other
leaf_of root all (node.Number c) leaf other = refl
leaf_of root all (node.Compare c) leaf other = cc
leaf_of root all (node.Not c) leaf other = cc
leaf_of root all (node.All conds) leaf other = cc
leaf_of root all (node.Any conds) leaf other = cc
leaf_of root all (node.Implies a c) leaf other = cc
leaf_of root all (node.AllDifferent terms) leaf other = cc
leaf_of root all (node.Cumulative tasks capacity) leaf other = cc
leaf_of root all (node.Table t) leaf other = cc

pub leaf_form : (root : Box) (all : List Thing) (id : ℕ) (item : Item) (x : Node) → IsAt root all id item → item.node ≡ x → is_leaf x ≡ true → item.facts.form.plain ≡ false
    → form root (term_at all id) ≡ atom_form
leaf_form root all id item x at is leaf other =
    let here : term_at all id ≡ term_in (thing_of all x) = ap term_in at.thing ∙ ap (λ (n : Node). term_in (thing_of all n)) is in
    ap (form root) here ∙ leaf_of root all x leaf (ap (λ (t : term.Term). (form root t).plain) (sym here) ∙ sym (plain_form root all id item at) ∙ other)

-- a sum
pub term_is : (root : Box) (all : List Thing) (id : ℕ) (item : Item) (x : Node) → IsAt root all id item → item.node ≡ x → term_at all id ≡ term_in (thing_of all x)
term_is root all id item x at is = ap term_in at.thing ∙ ap (λ (n : Node). term_in (thing_of all n)) is

pub other_at : (root : Box) (all : List Thing) (id : ℕ) (item : Item) → IsAt root all id item → item.facts.form.plain ≡ false → (form root (term_at all id)).plain ≡ false
other_at root all id item at other = sym (plain_form root all id item at) ∙ other

scaled_ordered : (k : ℤ) (a : ends.Ends) → (ends.scaled k a).low ≤ℤ (ends.scaled k a).high
scaled_ordered k a = omega (arith, ints, clamps)

part_weight : (root : Box) (all : List Thing) (xs : List Signed) (i : ℕ) (x : Signed) → i < length xs → x ≡ get_or xs i x → atoms_weight root (term_at all x.term) ≤ sum_weight root (parts_at all xs)
part_weight root all [] i x below at = let empty : ⊥ = omega (arith, below) in elim empty [ ]
part_weight root all (y ∷ xs) zero x below at =
    let same : atoms_weight root (term_at all x.term) ≡ atoms_weight root (term_at all y.term) = ap (λ (s : Signed). atoms_weight root (term_at all s.term)) at in
    omega (arith, same)
part_weight root all (y ∷ xs) (suc i) x below at = omega (arith, part_weight root all xs i x (omega (arith, below)) at)

pub part_room : (root : Box) (all : List Thing) (xs : List Signed) (i : ℕ) (d : Signed) (k m : ℤ) → i < length xs → m ≡ k *ℤ sign (get_or xs i d).subtracted
    → unsigned_abs k * sum_weight root (parts_at all xs) < 2 ^ 127 → unsigned_abs m * atoms_weight root (term_at all (get_or xs i d).term) < 2 ^ 127
part_room root all xs i d k m below is room =
    let x : Signed = get_or xs i d in
    let n : ℕ = atoms_weight root (term_at all x.term) in
    let size : unsigned_abs m ≡ unsigned_abs k = ap (λ (z : ℤ). unsigned_abs z) is ∙ unsigned_abs-mul k (sign x.subtracted) ∙ ap (λ (n : ℕ). unsigned_abs k * n) (sign_size x.subtracted)
    ∙ omega arith in
    let same : unsigned_abs m * n ≡ unsigned_abs k * n = ap (λ (u : ℕ). u * n) size in
    omega (arith, same, mul-le-mul_left (unsigned_abs k) (part_weight root all xs i x below (get_or_default xs i d x below)), room)

pub part_step : (here : Evaluator) (b : Box) (xs : List Signed) (i : ℕ) (d : Signed) (k m : ℤ) (list next result : ends.Ends) → IsReady here → Inside b (box_in here.root) → i < length xs
    → m ≡ k *ℤ sign (get_or xs i d).subtracted → next ≡ ends.plus list (ends.scaled m (atoms Near (box_in here.root) b (term_at (things here.items.now) (get_or xs i d).term)))
    → ends.plus list (ends.scaled k (sum_atoms Near (box_in here.root) b (parts_at (things here.items.now) (drop i xs)))) ≡ result
    → ends.plus next (ends.scaled k (sum_atoms Near (box_in here.root) b (parts_at (things here.items.now) (drop (i + 1) xs)))) ≡ result
part_step here b xs i d k m list next result ready inside below m_is next_is before =
    let root = box_in here.root in
    let all = things here.items.now in
    let x : Signed = get_or xs i d in
    let s : ℤ = sign x.subtracted in
    let a : ends.Ends = atoms Near root b (term_at all x.term) in
    let rest : ends.Ends = sum_atoms Near root b (parts_at all (drop (i + 1) xs)) in
    let is : sum_atoms Near root b (parts_at all (drop i xs)) ≡ ends.plus (ends.scaled s a) rest = ap (λ (e : Sight). e.ends) (next_part Near root b all xs i x below (get_or_default xs i d x below)) in
    let ordered = (narrow_parts Near root b root (parts_at all (drop (i + 1) xs)) ready.root_is_box inside (parts_proper root here.items.now (drop (i + 1) xs) ready.built)).within.ordered in
    let split : ends.scaled k (ends.plus (ends.scaled s a) rest) ≡ ends.plus (ends.scaled m a) (ends.scaled k rest) =
    scaled_plus k (ends.scaled s a) rest (scaled_ordered s a) ordered ∙ ap (λ (e : ends.Ends). ends.plus e (ends.scaled k rest)) (scaled_twice k s a ∙ ap (λ (z : ℤ). ends.scaled z a) (sym m_is)) in
    ap (λ (e : ends.Ends). ends.plus e (ends.scaled k rest)) next_is
    ∙ plus_assoc list (ends.scaled m a) (ends.scaled k rest)
    ∙ ap (ends.plus list) (sym split)
    ∙ ap (λ (e : ends.Ends). ends.plus list (ends.scaled k e)) (sym is)
    ∙ before

pub parts_done : (root b : Box) (all : List Thing) (xs : List Signed) (i : ℕ) (k : ℤ) (list result : ends.Ends) → length xs ≤ i
    → ends.plus list (ends.scaled k (sum_atoms Near root b (parts_at all (drop i xs)))) ≡ result → list ≡ result
parts_done root b all xs i k list result past before =
    sym (plus_zero list) ∙ ap (ends.plus list) (sym (scaled_zero k))
    ∙ ap (λ (e : ends.Ends). ends.plus list (ends.scaled k e)) (sym (at_drop_all (λ ys. sum_atoms Near root b (parts_at all ys)) xs i past))
    ∙ before

-- a product with a number
product_left : (b : Box) (f g : Form) (f_atoms g_atoms : ends.Ends) → is_constant f ≡ true → product_atoms b f g f_atoms g_atoms ≡ ends.scaled f.constant g_atoms
product_left b f g f_atoms g_atoms left = rw left refl

product_right : (b : Box) (f g : Form) (f_atoms g_atoms : ends.Ends) → is_constant f ≡ false → is_constant g ≡ true → product_atoms b f g f_atoms g_atoms ≡ ends.scaled g.constant f_atoms
product_right b f g f_atoms g_atoms left right = rw (left, right) refl

weight_left : (f g : Form) (m n : ℕ) (wide : ends.Ends) → is_constant f ≡ true → product_weight f g m n wide ≡ unsigned_abs f.constant * n
weight_left f g m n wide left = rw left refl

weight_right : (f g : Form) (m n : ℕ) (wide : ends.Ends) → is_constant f ≡ false → is_constant g ≡ true → product_weight f g m n wide ≡ unsigned_abs g.constant * m
weight_right f g m n wide left right = rw (left, right) refl

form_left : (f g : Form) → is_constant f ≡ true → product_form f g ≡ times_form f.constant g
form_left f g left = rw left refl

form_right : (f g : Form) → is_constant f ≡ false → is_constant g ≡ true → product_form f g ≡ times_form g.constant f
form_right f g left right = rw (left, right) refl

pub product_leaf : (root : Box) (s t whole : term.Term) → whole ≡ term.Product s t → is_constant (form root s) ≡ false → is_constant (form root t) ≡ false → form root whole ≡ atom_form
product_leaf root s t whole is left right = ap (form root) is ∙ neither (form root s) (form root t) left right where
  neither : (f g : Form) → is_constant f ≡ false → is_constant g ≡ false → product_form f g ≡ atom_form
  neither f g left right = rw (left, right) refl

times_room : (k c : ℤ) (n : ℕ) → 1 ≤ n → unsigned_abs k * (unsigned_abs c * n) < 2 ^ 127 → (unsigned_abs (k *ℤ c) * n < 2 ^ 127) × (unsigned_abs (k *ℤ c) < 2 ^ 127)
times_room k c n some room =
    let size : unsigned_abs (k *ℤ c) * n ≡ unsigned_abs k * (unsigned_abs c * n) = ap (λ (u : ℕ). u * n) (unsigned_abs-mul k c) ∙ mul_assoc (unsigned_abs k) (unsigned_abs c) n in
    let more : unsigned_abs (k *ℤ c) * 1 ≤ unsigned_abs (k *ℤ c) * n = mul-le-mul_left (unsigned_abs (k *ℤ c)) some in
    (omega (arith, size, room), omega (arith, size, room, more))

-- how often the other operand is taken has room, by itself and with what it weighs
pub left_room : (root : Box) (s t whole : term.Term) (k : ℤ) → whole ≡ term.Product s t → is_constant (form root s) ≡ true → (form root whole).plain ≡ false
    → unsigned_abs k * atoms_weight root whole < 2 ^ 127 → (unsigned_abs (k *ℤ (form root s).constant) * atoms_weight root t < 2 ^ 127) × (unsigned_abs (k *ℤ (form root s).constant) < 2 ^ 127)
left_room root s t whole k is left other room =
    let plain : (times_form (form root s).constant (form root t)).plain ≡ false = ap (λ (f : Form). f.plain) (sym (ap (form root) is ∙ form_left (form root s) (form root t) left)) ∙ other in
    let weight : atoms_weight root whole ≡ unsigned_abs (form root s).constant * atoms_weight root t = ap (atoms_weight root) is
    ∙ weight_left (form root s) (form root t) (atoms_weight root s) (atoms_weight root t) (atoms Wide root root (term.Product s t)) left in
    times_room k (form root s).constant (atoms_weight root t) (weighs root t (times_other (form root s).constant (form root t) plain).0) (subst (λ (n : ℕ). unsigned_abs k * n < 2 ^ 127) weight room)

pub right_room : (root : Box) (s t whole : term.Term) (k : ℤ) → whole ≡ term.Product s t → is_constant (form root s) ≡ false → is_constant (form root t) ≡ true → (form root whole).plain
    ≡ false → unsigned_abs k * atoms_weight root whole < 2 ^ 127 → (unsigned_abs (k *ℤ (form root t).constant) * atoms_weight root s < 2 ^ 127) × (unsigned_abs (k *ℤ (form root t).constant) < 2 ^ 127)
right_room root s t whole k is left right other room =
    let plain : (times_form (form root t).constant (form root s)).plain ≡ false = ap (λ (f : Form). f.plain) (sym (ap (form root) is ∙ form_right (form root s) (form root t) left right)) ∙ other in
    let weight : atoms_weight root whole ≡ unsigned_abs (form root t).constant * atoms_weight root s = ap (atoms_weight root) is
    ∙ weight_right (form root s) (form root t) (atoms_weight root s) (atoms_weight root t) (atoms Wide root root (term.Product s t)) left right in
    times_room k (form root t).constant (atoms_weight root s) (weighs root s (times_other (form root t).constant (form root s) plain).0) (subst (λ (n : ℕ). unsigned_abs k * n < 2 ^ 127) weight room)

pub left_is : (root b : Box) (s t whole : term.Term) (k : ℤ) → whole ≡ term.Product s t → is_constant (form root s) ≡ true → ends.scaled (k *ℤ (form root s).constant) (atoms Near root b t)
    ≡ ends.scaled k (atoms Near root b whole)
left_is root b s t whole k is left =
    sym (scaled_twice k (form root s).constant (atoms Near root b t))
    ∙ ap (ends.scaled k) (sym (ap (atoms Near root b) is ∙ product_left b (form root s) (form root t) (atoms Near root b s) (atoms Near root b t) left))

pub right_is : (root b : Box) (s t whole : term.Term) (k : ℤ) → whole ≡ term.Product s t → is_constant (form root s) ≡ false → is_constant (form root t) ≡ true
    → ends.scaled (k *ℤ (form root t).constant) (atoms Near root b s) ≡ ends.scaled k (atoms Near root b whole)
right_is root b s t whole k is left right =
    sym (scaled_twice k (form root t).constant (atoms Near root b s))
    ∙ ap (ends.scaled k) (sym (ap (atoms Near root b) is ∙ product_right b (form root s) (form root t) (atoms Near root b s) (atoms Near root b t) left right))

pub small_at : (root : Box) (all : List Thing) (id : ℕ) (item : Item) (k : ℤ) → IsAt root all id item → item.facts.form.plain ≡ false → unsigned_abs k * atoms_weight root (term_at all id) < 2 ^ 127
    → unsigned_abs k < 2 ^ 127
small_at root all id item k at other room =
    let some = weighs root (term_at all id) (other_at root all id item at other) in
    omega (arith, room, mul-le-mul_left (unsigned_abs k) some)

-- all atoms of a sum
pub atom_room : (root : Box) (all : List Thing) (xs : List Atom) (i : ℕ) (d : Atom) (k : ℤ) → i < length xs → k ≡ (get_or xs i d).k → all_weight root all xs < 2 ^ 127
    → unsigned_abs k * atoms_weight root (term_at all (get_or xs i d).term) < 2 ^ 127
atom_room root all [] i d k below is room = let empty : ⊥ = omega (arith, below) in elim empty [ ]
atom_room root all (x ∷ xs) zero d k below is room =
    let same : unsigned_abs k * atoms_weight root (term_at all x.term)
    ≡ unsigned_abs x.k * atoms_weight root (term_at all x.term) = ap (λ (z : ℤ). unsigned_abs z * atoms_weight root (term_at all x.term)) is in
    omega (arith, same, room)
atom_room root all (x ∷ xs) (suc i) d k below is room = atom_room root all xs i d k (omega (arith, below)) is (omega (arith, room))

pub atom_step : (root b : Box) (all : List Thing) (xs : List Atom) (i : ℕ) (d : Atom) (k : ℤ) (list next result : ends.Ends) → i < length xs → k ≡ (get_or xs i d).k → next
    ≡ ends.plus list (ends.scaled k (atoms Near root b (term_at all (get_or xs i d).term))) → ends.plus list (atoms_ends root b all (drop i xs)) ≡ result
    → ends.plus next (atoms_ends root b all (drop (i + 1) xs)) ≡ result
atom_step root b all xs i d k list next result below k_is next_is before =
    let x : Atom = get_or xs i d in
    let a : ends.Ends = atoms Near root b (term_at all x.term) in
    let rest : ends.Ends = atoms_ends root b all (drop (i + 1) xs) in
    ap (λ (e : ends.Ends). ends.plus e rest) next_is
    ∙ plus_assoc list (ends.scaled k a) rest
    ∙ ap (λ (z : ℤ). ends.plus list (ends.plus (ends.scaled z a) rest)) k_is
    ∙ ap (ends.plus list) (sym (next_atoms root b all xs i x below (get_or_default xs i d x below)))
    ∙ before

pub atoms_done : (root b : Box) (all : List Thing) (xs : List Atom) (i : ℕ) (list result : ends.Ends) → length xs ≤ i → ends.plus list (atoms_ends root b all (drop i xs)) ≡ result → list ≡ result
atoms_done root b all xs i list result past before =
    sym (plus_zero list) ∙ ap (ends.plus list) (sym (at_drop_all (λ ys. atoms_ends root b all ys) xs i past)) ∙ before

-- one atom more exists
pub atom_exists : (n : ℕ) (list next : List Atom) (atom : Atom) (k : ℤ) (id : ℕ) → AtomsExist n list → id < n → next ≡ list ++ atom ∷ [] → atom ≡ record { k = k; term = id } → AtomsExist n next
atom_exists n list next atom k id all there next_is atom_is =
    subst (AtomsExist n) (sym next_is) (more list all (subst (λ (a : Atom). a.term < n) (sym atom_is) there))
  where
    more : (xs : List Atom) → AtomsExist n xs → atom.term < n → AtomsExist n (xs ++ atom ∷ [])
    more [] all here = (here, tt)
    more (x ∷ xs) all here = (all.0, more xs all.1 here)
