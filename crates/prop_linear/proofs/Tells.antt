-- A linear comparison is false over a box exactly where no number of its sum's interval compares so with 0.
use Rattle.std.proofs.Common.{◌≡◌, inl, inr, ℕ, ◌+◌, ◌≤◌, ◌^◌, ℤ, pos, negsuc, ◌+ℤ◌, ◌*ℤ◌, unsigned_abs, Bool, true, false, ◌&&◌, ◌||◌, if◌then◌else◌, List, [], ◌∷◌, length}
use Rattle.std.proofs.Common.{get_or, Option, Some, None, arith, ap, refl, sym, subst, ◌∙◌}
use Rattle.std.proofs.lemmas.Bool.{cases_lt}
use Rattle.std.proofs.lemmas.Int.{ints, clamps, unsigned_abs-mul}
use Rattle.std.proofs.lemmas.List.{get_or_default}
use Rattle.std.proofs.lemmas.Option.{none-some}
use Rattle.sopl_base.specs.declared.comparison.CmpOp.{CmpOp}
use Rattle.sopl_base.proofs.Sizes.{plus_size}
use Rattle.box_problem.specs.Box.{Box, IsBox, Inside}
use Rattle.box_problem.proofs.Boxes.{points_of_parts}
use Rattle.box_problem.proofs.Shared.{lows_inside}
use Rattle.term_language.specs.declared.answers.Defined.{Defined}
use Rattle.term_language.specs.declared.answers.Defined.TheVariants.{Never, Maybe, Always}
use Rattle.term_language.specs.Ends.{Ends, ends, exactly, plus, scaled, cell_ends}
use Rattle.term_language.specs.Forms.{Form, cells_ends, plus_form}
use Rattle.term_language.specs.Laws.{Marks}
use Rattle.term_language.specs.Marks.{both, is_always, judged, none_compares, all_compare}
use Rattle.term_language.specs.Rules.{Near, form, atoms, mark, truth, difference_ends}
use Rattle.term_language.specs.Sizes.{cells_weight, weight_of}
use Rattle.term_language.specs.Terms.{Term, Constant, Sum, no_part, part, Cond, Compare, Not, All, Any, Implies, AllDifferent, Cumulative}
use Rattle.term_language.specs.Values.{value}
use Rattle.term_language.proofs.FormValues.{and_first, and_second, by_bool}
use Rattle.term_language.proofs.Layers.{IsClear}
use Rattle.term_language.proofs.Marks.{both_not_never}
use Rattle.term_language.proofs.Soundness.{marks_tell, read}
use Rattle.term_problem.specs.Refuted.{is_false}
use Rattle.term_nodes.proofs.Ready.{nothing_small, small_term}
use Rattle.term_nodes.proofs.Reading.{nothing_past}
use Rattle.term_nodes.specs.Built.{IsAt, IsBuilt, IsSoundTerm}
use Rattle.term_nodes.specs.declared.items.Item.{Item}
use Rattle.term_nodes.specs.declared.nodes.Node.{Node}
use Rattle.term_nodes.specs.declared.nodes.Node.TheVariants as node
use Rattle.term_nodes.specs.Things.{Thing, cond_at, cond_in, thing_of, things}
use Rattle.term_program.specs.Comparisons.{Difference, is_linear_pair, linear_in}
use Rattle.term_math.proofs.Weights.{cells_weighted, combined_weighted}
use Rattle.term_store.proofs.OrderedForms.{Ordered, form_ordered, once}

-- both sides of a comparison are small and proper
abbrev left_of : Cond → Term
left_of (Compare op a c) = a
left_of other = Constant (pos 0)

abbrev right_of : Cond → Term
right_of (Compare op a c) = c
right_of other = Constant (pos 0)

pub record AreSound (root : Box) (c : Cond) : Type 0 where
  pub left : IsSoundTerm root (left_of c)
  pub right : IsSoundTerm root (right_of c)

none_sound : (root : Box) (c : Cond) → left_of c ≡ Constant (pos 0) → right_of c ≡ Constant (pos 0) → AreSound root c
none_sound root c left right = record {
  left = subst (IsSoundTerm root) (sym left) (nothing_small root);
  right = subst (IsSoundTerm root) (sym right) (nothing_small root);
}

node_sound : (root : Box) (items : List Item) (x : Node) → IsBuilt root items → AreSound root (cond_in (thing_of (things items) x))
node_sound root items (node.Constant z) built = none_sound root _ refl refl
node_sound root items (node.Cell cell) built = none_sound root _ refl refl
node_sound root items (node.Sum parts) built = none_sound root _ refl refl
node_sound root items (node.Product a b) built = none_sound root _ refl refl
node_sound root items (node.Operation op a) built = none_sound root _ refl refl
node_sound root items (node.Extreme e first later) built = none_sound root _ refl refl
node_sound root items (node.Element table at) built = none_sound root _ refl refl
node_sound root items (node.Number c) built = none_sound root _ refl refl
node_sound root items (node.Compare c) built = record { left = small_term root items c.left built; right = small_term root items c.right built }
node_sound root items (node.Not c) built = none_sound root _ refl refl
node_sound root items (node.All conds) built = none_sound root _ refl refl
node_sound root items (node.Any conds) built = none_sound root _ refl refl
node_sound root items (node.Implies a c) built = none_sound root _ refl refl
node_sound root items (node.AllDifferent terms) built = none_sound root _ refl refl
node_sound root items (node.Cumulative tasks capacity) built = none_sound root _ refl refl
node_sound root items (node.Table t) built = none_sound root _ refl refl

pub cond_sound : (root : Box) (items : List Item) (id : ℕ) → IsBuilt root items → AreSound root (cond_at (things items) id)
cond_sound root [] id built =
    subst (λ (t : Thing). AreSound root (cond_in t)) (sym (nothing_past [] id (omega arith))) (none_sound root _ refl refl)
cond_sound root (first ∷ rest) id built =
    elim (cases_lt id (length (first ∷ rest))) [
      | inl there ↦
          let items : List Item = first ∷ rest in
          let at : IsAt root (things items) id (get_or items id first) = built.each id (get_or items id first) there (get_or_default items id first (get_or items id first) there) in
          subst (λ (t : Thing). AreSound root (cond_in t)) (sym at.thing) (node_sound root items (get_or items id first).node built)
      | inr past ↦
          subst (λ (t : Thing). AreSound root (cond_in t)) (sym (nothing_past (first ∷ rest) id past)) (none_sound root _ refl refl)
    ]

-- a linear comparison, taken apart
pub record IsPair (root : Box) (c : Cond) (d : Difference) : Type 0 where
  pub op : CmpOp
  pub left : Term
  pub right : Term
  pub cond : c ≡ Compare op left right
  pub linear : is_linear_pair root left right ≡ true
  pub op_is : d.op ≡ op
  pub form_is : d.form ≡ plus_form (negsuc 0) (form root left) (form root right)

abbrev difference : CmpOp → Form → Difference
difference op f = record { op = op; form = f }

abbrev if_linear : Bool → Difference → Option Difference
if_linear test d = if test then Some d else None

abbrev inner : Difference → Option Difference → Difference
inner d None = d
inner d (Some x) = x

pair_here : (root : Box) (op : CmpOp) (a b : Term) (d : Difference) → is_linear_pair root a b ≡ true → difference op (plus_form (negsuc 0) (form root a) (form root b)) ≡ d
    → IsPair root (Compare op a b) d
pair_here root op a b d met all = record {
  op = op;
  left = a;
  right = b;
  cond = refl;
  linear = met;
  op_is = sym (ap (λ (x : Difference). x.op) all);
  form_is = sym (ap (λ (x : Difference). x.form) all);
}

pub pair_of : (root : Box) (c : Cond) (d : Difference) → linear_in root c ≡ Some d → IsPair root c d
pair_of root (Compare op a b) d is =
    by_bool (λ test. if_linear test (difference op (plus_form (negsuc 0) (form root a) (form root b))) ≡ Some d → IsPair root (Compare op a b) d) (is_linear_pair root a b)
    (λ met same. pair_here root op a b d met (ap (inner d) same))
    (λ unmet same. absurd (none-some d same))
    is
pair_of root (Not c) d is = absurd (none-some d is)
pair_of root (All conds) d is = absurd (none-some d is)
pair_of root (Any conds) d is = absurd (none-some d is)
pair_of root (Implies a c) d is = absurd (none-some d is)
pair_of root (AllDifferent terms) d is = absurd (none-some d is)
pair_of root (Cumulative tasks capacity) d is = absurd (none-some d is)

-- marks: what is Always defined over the root is never undefined over a box inside it
both_always : (m n : Defined) → is_always (both m n) ≡ true → (m ≡ Always) × (n ≡ Always)
both_always Never n always = cc
both_always Maybe Never always = cc
both_always Maybe Maybe always = cc
both_always Maybe Always always = cc
both_always Always Never always = cc
both_always Always Maybe always = cc
both_always Always Always always = (refl, refl)

never_is_not : Never ≡ Always → ⊥
never_is_not same = cc

known_not_never : {A : Type 0} (m n : Defined) (v : Option A) → Marks m v → Marks n v → n ≡ Always → ¬ m ≡ Never
known_not_never Never Always None undefined defined is = absurd defined
known_not_never Never Never v undefined defined is = absurd (never_is_not is)
known_not_never Never Maybe None undefined defined is = cc
known_not_never Never n (Some x) undefined defined is = absurd undefined
known_not_never Maybe n v undefined defined is = λ wrong. cc
known_not_never Always n v undefined defined is = λ wrong. cc

not_never : (root b : Box) (t : Term) → IsBox root → Inside b root → IsSoundTerm root t → mark Near root root t ≡ Always → ¬ mark Near root b t ≡ Never
not_never root b t is_root inside sound always =
    let point = lows_inside b inside.is_box in
    known_not_never (mark Near root b t) (mark Near root root t) (value b.lows t)
    (marks_tell Near root b b.lows t inside.is_box point sound.proper)
    (marks_tell Near root root b.lows t is_root (points_of_parts b root b.lows inside point) sound.proper) always

-- there nothing but cells is in the sum
plain_clear : (root b : Box) (t : Term) → Inside b root → IsSoundTerm root t → (form root t).plain ≡ true → IsClear (atoms Near root b t)
plain_clear root b t inside sound plain =
    (read Near root b b.lows t inside.is_box (lows_inside b inside.is_box) sound.proper).clear plain

judged_false : (m : Defined) (fails holds : Bool) → ¬ m ≡ Never → is_false (judged m fails holds) ≡ fails
judged_false Never fails holds defined = absurd (defined refl)
judged_false Maybe true holds defined = refl
judged_false Maybe false holds defined = refl
judged_false Always true holds defined = refl
judged_false Always false true defined = refl
judged_false Always false false defined = refl

pub same_compares : (op : CmpOp) (a c : Ends) → a.low ≡ c.low → a.high ≡ c.high → none_compares op a ≡ none_compares op c
same_compares op a c low high = by_ends op a.low c.low a.high c.high low high
  where
    by_ends : (op : CmpOp) (x y z w : ℤ) → x ≡ y → z ≡ w → none_compares op (ends x z) ≡ none_compares op (ends y w)
    by_ends op x y z w first second =
        ap (λ (n : ℤ). none_compares op (ends n z)) first ∙ ap (λ (n : ℤ). none_compares op (ends y n)) second

-- the interval of the sum over a box
abbrev pub sum_of : Form → Box → Ends
sum_of f b = plus (exactly f.constant) (cells_ends b f.cells)

pair_tells : (root b : Box) (op : CmpOp) (a c : Term) → IsBox root → Inside b root → IsSoundTerm root a → IsSoundTerm root c → is_linear_pair root a c ≡ true
    → is_false (truth Near root b (Compare op a c)) ≡ none_compares op (sum_of (plus_form (negsuc 0) (form root a) (form root c)) b)
pair_tells root b op a c is_root inside left right linear =
    let f = form root a in
    let g = form root c in
    let plain : (f.plain && (g.plain || false)) ≡ true = and_first (f.plain && (g.plain || false)) (is_always (both (mark Near root root a) (mark Near root root c))) linear in
    let always = both_always (mark Near root root a) (mark Near root root c) (and_second (f.plain && (g.plain || false)) (is_always (both (mark Near root root a) (mark Near root root c))) linear) in
    let f_clear = plain_clear root b a inside left (and_first f.plain (g.plain || false) plain) in
    let g_clear = plain_clear root b c inside right (only_first g.plain (and_second f.plain (g.plain || false) plain)) in
    let defined = both_not_never (mark Near root b a) (mark Near root b c) (not_never root b a is_root inside left always.0) (not_never root b c is_root inside right always.1) in
    let all = difference_ends b f g (atoms Near root b a) (atoms Near root b c) in
    judged_false (both (mark Near root b a) (mark Near root b c)) (none_compares op all) (all_compare op all) defined
    ∙ same_compares op all (sum_of (plus_form (negsuc 0) f g) b)
    (no_atoms (plus_form (negsuc 0) f g).constant (cells_ends b (plus_form (negsuc 0) f g).cells).low (atoms Near root b a) (atoms Near root b c) f_clear g_clear).0
    (no_atoms (plus_form (negsuc 0) f g).constant (cells_ends b (plus_form (negsuc 0) f g).cells).high (atoms Near root b a) (atoms Near root b c) f_clear g_clear).1
  where
    only_first : (p : Bool) → (p || false) ≡ true → p ≡ true
    only_first true is = refl
    only_first false is = is

    no_atoms : (constant cells : ℤ) (x y : Ends) → IsClear x → IsClear y
        → ((constant +ℤ (cells +ℤ (x.low +ℤ (scaled (negsuc 0) y).low))) ≡ constant +ℤ cells) × ((constant +ℤ (cells +ℤ (x.high +ℤ (scaled (negsuc 0) y).high))) ≡ constant +ℤ cells)
    no_atoms constant cells x y x_clear y_clear =
        let low : negsuc 0 *ℤ y.low ≡ pos 0 = ap (λ (z : ℤ). negsuc 0 *ℤ z) y_clear.low in
        let high : negsuc 0 *ℤ y.high ≡ pos 0 = ap (λ (z : ℤ). negsuc 0 *ℤ z) y_clear.high in (
          omega (arith, ints, clamps, x_clear.low, low, high),
          omega (arith, ints, clamps, x_clear.high, low, high),
        )

pub linear_tells : (root b : Box) (c : Cond) (d : Difference) → IsBox root → Inside b root → AreSound root c → linear_in root c ≡ Some d → is_false (truth Near root b c)
    ≡ none_compares d.op (sum_of d.form b)
linear_tells root b c d is_root inside sound is =
    let pair = pair_of root c d is in
    let sides = subst (AreSound root) pair.cond sound in
    ap (λ (x : Cond). is_false (truth Near root b x)) pair.cond
    ∙ pair_tells root b pair.op pair.left pair.right is_root inside sides.left sides.right pair.linear
    ∙ ap (λ (op : CmpOp). none_compares op (sum_of (plus_form (negsuc 0) (form root pair.left) (form root pair.right)) b)) (sym pair.op_is)
    ∙ ap (λ (f : Form). none_compares d.op (sum_of f b)) (sym pair.form_is)

-- the form is light, and its cells ascend
pair_light : (root : Box) (a c : Term) → IsSoundTerm root a → IsSoundTerm root c
    → unsigned_abs (plus_form (negsuc 0) (form root a) (form root c)).constant + cells_weight root (plus_form (negsuc 0) (form root a) (form root c)).cells ≤ 2 ^ 41
pair_light root a c left right =
    let d = plus_form (negsuc 0) (form root a) (form root c) in
    let cells = combined_weighted (λ cell. weight_of (cell_ends root cell)) (negsuc 0) (form root a).cells (form root c).cells in
    let constant = plus_size (form root a).constant (negsuc 0 *ℤ (form root c).constant) in
    omega (
      arith,
      cells,
      constant,
      unsigned_abs-mul (negsuc 0) (form root c).constant,
      cells_weighted root d.cells,
      cells_weighted root (form root a).cells,
      cells_weighted root (form root c).cells,
      left.small,
      right.small,
    )

pub linear_light : (root : Box) (c : Cond) (d : Difference) → AreSound root c → linear_in root c ≡ Some d → unsigned_abs d.form.constant + cells_weight root d.form.cells ≤ 2 ^ 41
linear_light root c d sound is =
    let pair = pair_of root c d is in
    let sides = subst (AreSound root) pair.cond sound in
    subst (λ (f : Form). unsigned_abs f.constant + cells_weight root f.cells ≤ 2 ^ 41) (sym pair.form_is) (pair_light root pair.left pair.right sides.left sides.right)

pub linear_ordered : (root : Box) (c : Cond) (d : Difference) → linear_in root c ≡ Some d → Ordered d.form.cells
linear_ordered root c d is =
    let pair = pair_of root c d is in
    let same : form root (Sum (part true pair.right (part false pair.left no_part))) ≡ plus_form (negsuc 0) (form root pair.left) (form root pair.right) =
    ap (λ (f : Form). plus_form (negsuc 0) f (form root pair.right)) (once (form root pair.left) (form_ordered root pair.left)) in
    subst (λ (f : Form). Ordered f.cells) (same ∙ sym pair.form_is) (form_ordered root (Sum (part true pair.right (part false pair.left no_part))))
