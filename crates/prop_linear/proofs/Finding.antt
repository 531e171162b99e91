-- What the propagator of a linear comparison finds.
use Rattle.std.proofs.Common.{◌≡◌, inl, inr, ℕ, ◌<◌, ◌≤◌, ℤ, pos, unsigned_abs, List, [], ◌∷◌, Option, Some, None, IfSome, option_map, Bool, true, false, slice_get, arith}
use Rattle.std.proofs.Common.{ap, refl, sym, subst, ◌∙◌}
use Rattle.std.specs.List.{All, Contains}
use Rattle.std.specs.Option.{option_and_then, option_map_or}
use Rattle.std.proofs.lemmas.Int.{ints}
use Rattle.std.proofs.lemmas.List.{get_or-set_other}
use Rattle.std.proofs.lemmas.List.Elements.{All-contains}
use Rattle.std.proofs.Math.Nat.{mul-le-mul_left}
use Rattle.sopl_base.specs.declared.comparison.CmpOp.{CmpOp}
use Rattle.sopl_base.specs.declared.reason.Reason.{Reason}
use Rattle.sopl_base.specs.declared.reason.Reason.TheVariants.{Hard}
use Rattle.sopl_base.specs.declared.reason.Step.{Step}
use Rattle.box_problem.specs.Box.{Box, IsBox, Inside, high, low, with_high, with_low}
use Rattle.box_problem.specs.Rightness.{Quiets}
use Rattle.box_problem.specs.Steps.{removed}
use Rattle.box_problem.proofs.Boxes.{parts_of_parts}
use Rattle.box_problem.proofs.Cuts.{cuts_make_parts, high_lowered, low_raised}
use Rattle.term_language.specs.Ends as rule
use Rattle.term_language.specs.Forms as forms
use Rattle.term_language.specs.Marks.{none_compares}
use Rattle.term_language.specs.Rules.{Near, truth}
use Rattle.term_language.specs.Sizes.{cells_weight, weight_of}
use Rattle.term_language.specs.Terms.{Cond}
use Rattle.term_language.proofs.Narrowing.{within_cell}
use Rattle.prop_shave.specs.Removals.{IsOpenAt, Removes}
use Rattle.term_program.specs.Stated.{box_problem_of}
use Rattle.term_problem.specs.Refuted.{is_false, refutes}
use Rattle.prop_core.specs.Findings.{Closes, Narrows}
use Rattle.term_program.specs.declared.program.Program.{Program}
use Rattle.term_program.specs.declared.shapes.Form.TheVariants.{Linear}
use Rattle.term_program.specs.Comparisons as shapes
use Rattle.term_program.specs.Programs.{problem_in, root_in}
use Rattle.term_math.specs.declared.forms.Coefficient.{Coefficient}
use Rattle.term_math.specs.Shown.{cells_of}
use Rattle.term_store.proofs.OrderedForms.{Ordered}
use Rattle.prop_core.proofs.OneReason.{for_each, itself}
use Rattle.prop_linear.specs.declared.balances.Difference.{Difference}
use Rattle.prop_linear.specs.declared.linear_constraint.LinearConstraint.{LinearConstraint}
use Rattle.prop_linear.specs.Balances.{AreAbove, Ascend, IsLight, box_of, closes}
use Rattle.prop_linear.specs.Kinds.{IsLinear, IsLinearOf, TellsOf, condition_of}
use Rattle.prop_linear.proofs.Summing.{value_size}
use Rattle.prop_linear.proofs.Cells.{cell_or_not, same_cells}
use Rattle.prop_linear.proofs.Tells.{cond_sound, linear_light, linear_ordered, linear_tells}

-- what a program tells of a linear comparison, put together
pub record IsRead (p : LinearConstraint) (program : Program) (parts : List Coefficient) (d : shapes.Difference) : Type 0 where
  pub is : shapes.linear_in (root_in program) (condition_of p program) ≡ Some d
  pub op : d.op ≡ p.op
  pub constant : d.form.constant ≡ p.constant
  pub cells : d.form.cells ≡ cells_of parts

pub no_value : {A B : Type 0} (f : A → B) (x : B) → option_map f None ≡ Some x → ⊥
no_value f x is = cc

pub the_value : {A B : Type 0} (f : A → B) (a : A) (x : B) → option_map f (Some a) ≡ Some x → f a ≡ x
the_value f a x is = ap (λ (o : Option _). or_else x o) is
  where
    or_else : {B : Type 0} → B → Option B → B
    or_else y None = y
    or_else y (Some z) = z

pub read_by : (p : LinearConstraint) (program : Program) (parts : List Coefficient) → IsLinearOf p program
    → option_map (λ d. d.form.cells) (shapes.linear_in (root_in program) (condition_of p program)) ≡ Some (cells_of parts) → (d : shapes.Difference) × IsRead p program parts d
read_by p program parts fits cells =
    by_option (shapes.linear_in (root_in program) (condition_of p program)) refl fits.op fits.constant cells
  where
    by_option : (o : Option shapes.Difference) → shapes.linear_in (root_in program) (condition_of p program) ≡ o → option_map (λ (d : shapes.Difference). d.op) o ≡ Some p.op
        → option_map (λ (d : shapes.Difference). d.form.constant) o ≡ Some p.constant → option_map (λ (d : shapes.Difference). d.form.cells) o ≡ Some (cells_of parts)
        → (d : shapes.Difference) × IsRead p program parts d
    by_option None is op constant at = absurd (no_value (λ (d : shapes.Difference). d.op) p.op op)
    by_option (Some d) is op constant at = (
      d,
      record {
        is = is;
        op = the_value (λ (e : shapes.Difference). e.op) d p.op op;
        constant = the_value (λ (e : shapes.Difference). e.form.constant) d p.constant constant;
        cells = the_value (λ (e : shapes.Difference). e.form.cells) d (cells_of parts) at;
      },
    )

-- the cells that are kept are those of the program's comparison
pub parts_kept : (p : LinearConstraint) (program : Program) (parts : List Coefficient) → IsLinearOf p program → parts ≡ p.parts.items
    → option_map (λ d. d.form.cells) (shapes.linear_in (root_in program) (condition_of p program)) ≡ Some (cells_of parts)
parts_kept p program parts fits same = fits.parts ∙ ap (λ (cs : List Coefficient). Some (cells_of cs)) (sym same)

-- where the comparison is false over a box, the reason closes it
pub tells_at : (p : LinearConstraint) (program : Program) (o : CmpOp) (k : ℤ) (parts : List Coefficient) → IsLinearOf p program → o ≡ p.op → k ≡ p.constant
    → option_map (λ e. e.form.cells) (shapes.linear_in (root_in program) (condition_of p program)) ≡ Some (cells_of parts) → (b : Box) (v : Option ℤ) → Inside b (root_in program)
    → none_compares o (rule.plus (rule.exactly k) (forms.cells_ends b (cells_of parts))) ≡ refutes (root_in program) (problem_in program) (Hard p.instance p.scenario) b v
tells_at p program o k parts fits op constant cells b v inside =
    let root = root_in program in
    let c = condition_of p program in
    let found = read_by p program parts fits cells in
    let e = found.0 in
    let read = found.1 in
    let sound = cond_sound root program.draft.store.items.items p.cond.0 fits.made.draft.store.built in
    let tells = linear_tells root b c e fits.made.draft.store.root_is_box inside sound read.is in
    ap (λ (x : CmpOp). none_compares x (rule.plus (rule.exactly k) (forms.cells_ends b (cells_of parts)))) (op ∙ sym read.op)
    ∙ ap (λ (x : ℤ). none_compares e.op (rule.plus (rule.exactly x) (forms.cells_ends b (cells_of parts)))) (constant ∙ sym read.constant)
    ∙ ap (λ (cs : List forms.Coefficient). none_compares e.op (rule.plus (rule.exactly e.form.constant) (forms.cells_ends b cs))) (sym read.cells)
    ∙ sym tells
    ∙ sym (ap (λ (x : Option Cond). option_map_or (λ y. is_false (truth Near root b y)) x false) fits.condition)

pub tells_of : (p : LinearConstraint) (program : Program) (d : Difference) → IsLinearOf p program → d.op ≡ p.op → d.constant ≡ p.constant
    → option_map (λ e. e.form.cells) (shapes.linear_in (root_in program) (condition_of p program)) ≡ Some (cells_of d.parts.now) → TellsOf program (Hard p.instance p.scenario) d
tells_of p program d fits op constant cells = record { tells = tells_at p program d.op d.constant d.parts.now fits op constant cells }

-- the comparison is light over each box inside the root
weight_narrower : (part whole : Box) (cell : ℕ) → IsBox whole → Inside part whole → weight_of (rule.cell_ends part cell) ≤ weight_of (rule.cell_ends whole cell)
weight_narrower part whole cell is_box inside =
    let within = within_cell part whole cell is_box inside in
    let first = value_size (rule.cell_ends whole cell) (low part cell) within.from_low (omega (arith, ints, within.ordered, within.to_high)) in
    let second = value_size (rule.cell_ends whole cell) (high part cell) (omega (arith, ints, within.from_low, within.ordered)) within.to_high in
    omega (arith, first, second)

cells_narrower : (part whole : Box) (cells : List forms.Coefficient) → IsBox whole → Inside part whole → cells_weight part cells ≤ cells_weight whole cells
cells_narrower part whole [] is_box inside = omega arith
cells_narrower part whole (c ∷ later) is_box inside =
    let rest = cells_narrower part whole later is_box inside in
    let here = mul-le-mul_left (unsigned_abs c.k) (weight_narrower part whole c.cell is_box inside) in
    omega (arith, rest, here)

above_rest : (c : Coefficient) (later : List Coefficient) → Ordered (cells_of (c ∷ later)) → AreAbove c.cell later
above_rest c [] ordered = tt
above_rest c (x ∷ later) ordered = (ordered.0.0, above_less c.cell x.cell later ordered.0.0 (above_rest x later ordered.2))
  where
    above_less : (a b : ℕ) (parts : List Coefficient) → a < b → AreAbove b parts → AreAbove a parts
    above_less a b [] less above = tt
    above_less a b (y ∷ parts) less above = (omega (arith, less, above.0), above_less a b parts less above.1)

ascend_of : (parts : List Coefficient) → Ordered (cells_of parts) → Ascend parts
ascend_of [] ordered = tt
ascend_of (c ∷ later) ordered = (above_rest c later ordered, ascend_of later ordered.2)

pub light_in : (p : LinearConstraint) (program : Program) (d : Difference) (b : Box) → IsLinearOf p program → box_of d ≡ b → Inside b (root_in program) → d.constant ≡ p.constant
    → option_map (λ e. e.form.cells) (shapes.linear_in (root_in program) (condition_of p program)) ≡ Some (cells_of d.parts.now) → IsLight d
light_in p program d b fits seen within constant cells =
    let root = root_in program in
    let inside : Inside (box_of d) root = subst (λ (x : Box). Inside x root) (sym seen) within in
    let c = condition_of p program in
    let found = read_by p program d.parts.now fits cells in
    let e = found.0 in
    let read = found.1 in
    let sound = cond_sound root program.draft.store.items.items p.cond.0 fits.made.draft.store.built in
    let light = linear_light root c e sound read.is in
    let same : unsigned_abs e.form.constant ≡ unsigned_abs d.constant = ap unsigned_abs (read.constant ∙ sym constant) in
    let weight : cells_weight root e.form.cells ≡ cells_weight root (cells_of d.parts.now) = ap (cells_weight root) read.cells in
    let less = cells_narrower (box_of d) root (cells_of d.parts.now) fits.made.draft.store.root_is_box inside in
    record {
      is_box = inside.is_box;
      light = omega (arith, light, same, weight, less);
      ascend = ascend_of d.parts.now (subst Ordered read.cells (linear_ordered root c e read.is));
    }

pub is_linear : (program : Program) (instance scenario : ℕ) (cond : Cond) → IsLinear program instance scenario
    → option_and_then (λ conditions. slice_get conditions scenario) (slice_get (problem_in program).hards instance) ≡ Some cond → shapes.shape_in (root_in program) cond ≡ Linear
is_linear program instance scenario cond linear at =
    subst (λ (o : Option Cond). IfSome o (λ (c : Cond). shapes.shape_in (root_in program) c ≡ Linear)) at linear

module _ (program : Program) (mine : Reason) (d : Difference) (v : Option ℤ) (tells : TellsOf program mine d) (inside : Inside (box_of d) (root_in program)) where
  pub found_dead : (reason : Reason) → reason ≡ mine → closes d (box_of d) ≡ true → Closes (box_problem_of program) (mine ∷ []) v (box_of d) reason
  unfolding box_problem_of
  found_dead reason is closed = record {
    own = subst (Contains (mine ∷ [])) (sym is) (itself mine);
    closed = ap (λ (r : Reason). refutes (root_in program) (problem_in program) r (box_of d) v) is ∙ sym (tells.tells (box_of d) v inside) ∙ closed;
  }

  pub found_cut : (step : Step) → step.reason ≡ mine → closes d (box_of d) ≡ false → Removes (closes d) (box_of d) step → Narrows (box_problem_of program) (mine ∷ []) v (box_of d) step
  unfolding box_problem_of
  found_cut step is whole removes =
      let gone = removed (box_of d) step in
      let part = parts_of_parts gone (box_of d) (root_in program) (cuts_make_parts (box_of d) step.cell step.side step.k inside.is_box removes.cut).1 inside in
      record {
        own = subst (Contains (mine ∷ [])) (sym is) (itself mine);
        right = record {
          cut = removes.cut;
          refuted = ap (λ (r : Reason). refutes (root_in program) (problem_in program) r gone v) is ∙ sym (tells.tells gone v part) ∙ removes.closed;
        };
        whole = for_each mine (λ other. refutes (root_in program) (problem_in program) other (box_of d) v ≡ false) (sym (tells.tells (box_of d) v inside) ∙ whole);
      }

  -- a cell of the comparison was tried; another one changes nothing
  open_at : All (λ (c : Coefficient). IsOpenAt (closes d) (box_of d) c.cell) d.parts.now → closes d (box_of d) ≡ false → (cell : ℕ) → IsOpenAt (closes d) (box_of d) cell
  open_at opened whole cell =
      let b = box_of d in
      elim (cell_or_not d.parts.now cell) [
        | inl found ↦
            subst (IsOpenAt (closes d) b) found.same (All-contains (λ (c : Coefficient). IsOpenAt (closes d) b c.cell) d.parts.now found.part opened found.own)
        | inr nowhere ↦
            record {
              at_low = λ exists.
                  ap (λ (a : rule.Ends). none_compares d.op (rule.plus (rule.exactly d.constant) a))
                  (same_cells b (with_high b cell (low b cell)) d.parts.now
                  (λ c there. ap (λ (z : ℤ). rule.ends (low b c.cell) z) (get_or-set_other b.highs cell c.cell (low b cell) (pos 0) (nowhere c there))))
                  ∙ whole;
              at_high = λ exists.
                  ap (λ (a : rule.Ends). none_compares d.op (rule.plus (rule.exactly d.constant) a))
                  (same_cells b (with_low b cell (high b cell)) d.parts.now
                  (λ c there. ap (λ (z : ℤ). rule.ends z (high b c.cell)) (get_or-set_other b.lows cell c.cell (high b cell) (pos 0) (nowhere c there))))
                  ∙ whole;
            }
      ]

  pub found_quiet : closes d (box_of d) ≡ false → All (λ (c : Coefficient). IsOpenAt (closes d) (box_of d) c.cell) d.parts.now → Quiets (box_problem_of program) (mine ∷ []) v (box_of d)
  unfolding box_problem_of
  found_quiet whole opened =
      let b = box_of d in
      let refuted : Reason → Box → Bool = λ reason box. refutes (root_in program) (problem_in program) reason box v in
      record {
        whole = for_each mine (λ other. refuted other b ≡ false) (sym (tells.tells b v inside) ∙ whole);
        at_low = λ reason cell own exists.
            let ordered = inside.is_box.ordered cell exists in
            let part = parts_of_parts (with_high b cell (low b cell)) b (root_in program) (high_lowered b cell (low b cell) inside.is_box exists (omega (arith, ints)) ordered) inside in
            for_each mine (λ other. refuted other (with_high b cell (low b cell)) ≡ false) (sym (tells.tells (with_high b cell (low b cell)) v part)
            ∙ (open_at opened whole cell).at_low exists) reason own;
        at_high = λ reason cell own exists.
            let ordered = inside.is_box.ordered cell exists in
            let part = parts_of_parts (with_low b cell (high b cell)) b (root_in program) (low_raised b cell (high b cell) inside.is_box exists ordered (omega (arith, ints))) inside in
            for_each mine (λ other. refuted other (with_low b cell (high b cell)) ≡ false) (sym (tells.tells (with_low b cell (high b cell)) v part)
            ∙ (open_at opened whole cell).at_high exists) reason own;
      }
