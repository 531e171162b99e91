-- The cells that a linear comparison's condition mentions are those at which its reason looks.
use Rattle.std.proofs.Common.{◌≡◌, inl, inr, ℕ, negsuc, Bool, List, [], ◌∷◌, ◌++◌, Option, Some, None, option_map, ap, ap₂, refl, sym, subst, ◌∙◌}
use Rattle.std.specs.List.{Contains}
use Rattle.sopl_base.specs.declared.reason.Reason.{Reason}
use Rattle.box_problem.specs.Box.{Box}
use Rattle.term_language.specs.Ends as rule
use Rattle.term_language.specs.Forms as forms
use Rattle.term_language.specs.Marks.{none_compares}
use Rattle.term_language.specs.Mentions.{cond_mentions, mentions}
use Rattle.term_language.specs.Rules.{form}
use Rattle.term_language.specs.Terms.{Cond}
use Rattle.term_language.proofs.Forms.{Over, over_combined, over_form}
use Rattle.term_language.proofs.Reaching.{Reach, first, second}
use Rattle.term_math.specs.declared.forms.Coefficient.{Coefficient}
use Rattle.term_math.specs.Shown.{cells_of}
use Rattle.term_problem.specs.Refuted.{refutes}
use Rattle.term_program.specs.declared.program.Program.{Program}
use Rattle.term_program.specs.Comparisons.{Difference, linear_in}
use Rattle.term_program.specs.Mentions.{IsListOf}
use Rattle.term_program.specs.Programs.{problem_in, root_in}
use Rattle.term_program.specs.Stated.{box_problem_of}
use Rattle.prop_core.proofs.OneReason.{for_each}
use Rattle.prop_core.specs.Watches.{LooksAt}
use Rattle.prop_linear.specs.declared.linear_constraint.LinearConstraint.{LinearConstraint}
use Rattle.prop_linear.specs.Kinds.{AreWatched, IsLinearOf, reason_of}
use Rattle.prop_linear.proofs.Cells.{first_or_later, none_there, same_cells}
use Rattle.prop_linear.proofs.Finding.{no_value, tells_at, the_value}
use Rattle.prop_linear.proofs.Tells.{pair_of}

-- the cells of the parts are mentioned
over_each : (P : ℕ → Type 0) (parts : List Coefficient) (c : Coefficient) → Over P (cells_of parts) → Contains parts c → P c.cell
over_each P [] c over own = absurd (none_there c own)
over_each P (x ∷ later) c over own =
    elim (first_or_later x later c own) [
      | inl same ↦ subst (λ (y : Coefficient). P y.cell) same over.0
      | inr there ↦ over_each P later c over.1 there
    ]

pub parts_mentioned : (root : Box) (cond : Cond) (parts : List Coefficient) (cells : List ℕ) → option_map (λ d. d.form.cells) (linear_in root cond) ≡ Some (cells_of parts)
    → IsListOf (cond_mentions root cond) cells → (part : Coefficient) → Contains parts part → Contains cells part.cell
parts_mentioned root cond parts cells at listed part own =
    by_option (linear_in root cond) refl at
  where
    by_option : (o : Option Difference) → linear_in root cond ≡ o → option_map (λ (d : Difference). d.form.cells) o ≡ Some (cells_of parts) → Contains cells part.cell
    by_option None is known = absurd (no_value (λ (d : Difference). d.form.cells) (cells_of parts) known)
    by_option (Some d) is known =
        let pair = pair_of root cond d is in
        let reach : Reach (Contains cells) (mentions root pair.left ++ mentions root pair.right) =
        λ cell here. (listed.mentions cell).1 (subst (λ (c : Cond). Contains (cond_mentions root c) cell) (sym pair.cond) here)
        in
        let over =
        over_combined (Contains cells) (negsuc 0) (form root pair.left).cells (form root pair.right).cells
        (over_form (Contains cells) root pair.left (first (Contains cells) (mentions root pair.left) (mentions root pair.right) reach))
        (over_form (Contains cells) root pair.right (second (Contains cells) (mentions root pair.left) (mentions root pair.right) reach))
        in
        let same : forms.combined (negsuc 0) (form root pair.left).cells (form root pair.right).cells ≡ cells_of parts =
        sym (ap (λ (f : forms.Form). f.cells) pair.form_is) ∙ the_value (λ (e : Difference). e.form.cells) d (cells_of parts) known
        in
        over_each (Contains cells) parts part (subst (Over (Contains cells)) same over) own

-- and no others matter
pub constraint_looks : (p : LinearConstraint) (program : Program) → IsLinearOf p program → AreWatched p → LooksAt (box_problem_of program) (reason_of p ∷ []) p.cells.items
unfolding box_problem_of
constraint_looks p program fits watched = λ b c v reason b_in c_in agree own.
    let root = root_in program in
    let refuted : Reason → Box → Bool = λ reason box. refutes root (problem_in program) reason box v in
    for_each (reason_of p) (λ other. refuted other b ≡ refuted other c)
    (sym (tells_at p program p.op p.constant p.parts.items fits refl refl fits.parts b v b_in)
    ∙ ap (λ (a : rule.Ends). none_compares p.op (rule.plus (rule.exactly p.constant) a))
    (same_cells c b p.parts.items
    (λ part there. ap₂ rule.ends (agree.lows part.cell (watched.each part there)) (agree.highs part.cell (watched.each part there))))
    ∙ tells_at p program p.op p.constant p.parts.items fits refl refl fits.parts c v c_in)
    reason own
