use Rattle.std.proofs.Common.{ℕ, List, subst, sym}
use Rattle.std.specs.List.{Contains}
use Rattle.term_math.specs.declared.forms.Coefficient.{Coefficient}
use Rattle.term_language.specs.Mentions.{cond_mentions}
use Rattle.term_nodes.specs.Things.{cond_at}
use Rattle.term_program.specs.Mentions.{IsListOf}
use Rattle.term_program.specs.Programs.{root_in, things_in}
use Rattle.prop_linear.proofs.Watched.{parts_mentioned}
use Rattle.prop_linear.proofs.linear_constraint.LinearConstraint.new.Goals as goal

pub returns-clause-watched : goal.returns-clause-watched
returns-clause-watched c = record {
  each = λ part own.
      subst (λ (list : List ℕ). Contains list part.cell) (sym c.in_ok-cells.ensures.items)
      (parts_mentioned (root_in c.args.program.now) (cond_at (things_in c.args.program.now) c.hard-cond.result.0) c.parts.result.now c.cells_of.result.now c.parts.ensures
      c.cells_of.ensures.cells part (subst (λ (list : List Coefficient). Contains list part) c.in_ok-parts.ensures.items own));
}

pub returns-clause-listed : goal.returns-clause-listed
returns-clause-listed c =
    subst (IsListOf (cond_mentions (root_in c.args.program.now) (cond_at (things_in c.args.program.now) c.hard-cond.result.0))) (sym c.in_ok-cells.ensures.items) c.cells_of.ensures.cells
