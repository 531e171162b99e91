-- The conditions of constraints are there, and what is met in them passes.
use Rattle.std.proofs.Common.{◌≡◌, sym, subst, List}
use Rattle.std.specs.List.{AllByRecursion}
use Rattle.sopl_ast.specs.Instances.{Chance, Hard}
use Rattle.sopl_ast.specs.Known.{Known}
use Rattle.sopl_ast.specs.Tree.{Tree}
use Rattle.sopl_ast.specs.Unfolding.{problem_of, text_events}
use Rattle.sopl_ast.specs.Whole.{ModelTree}
use Rattle.unfold_laws.proofs.Conditions.{chances_are_met, hards_are_met}
use Rattle.unfold_laws.specs.Conditions.{IsMet, IsThreshold}
use Rattle.unfold_laws.specs.Passing.{NothingFails}

-- the constraints of a text that passes, over a table and conditions that are its own
module _ (model : ModelTree) (known : Known) (conditions : List Tree) (passes : NothingFails (text_events model)) (knows : known ≡ (problem_of model).known)
    (same : conditions ≡ (problem_of model).conditions) where
  pub hards_met : (hards : List Hard) → hards ≡ (problem_of model).hards → AllByRecursion (λ (h : Hard). IsMet known conditions h.text h.bound) hards
  hards_met hards is =
      subst (λ (hs : List Hard). AllByRecursion (λ (h : Hard). IsMet known conditions h.text h.bound) hs) (sym is)
      (subst (λ (cs : List Tree). AllByRecursion (λ (h : Hard). IsMet known cs h.text h.bound) (problem_of model).hards) (sym same)
      (subst (λ (k : Known). AllByRecursion (λ (h : Hard). IsMet k (problem_of model).conditions h.text h.bound) (problem_of model).hards) (sym knows) (hards_are_met model passes)))

  pub chances_met : (chances : List Chance) → chances ≡ (problem_of model).chances
      → AllByRecursion (λ (c : Chance). IsMet known conditions c.text c.bound × IsThreshold c.p c.q) chances
  chances_met chances is =
      subst (λ (xs : List Chance). AllByRecursion (λ (c : Chance). IsMet known conditions c.text c.bound × IsThreshold c.p c.q) xs) (sym is)
      (subst (λ (cs : List Tree). AllByRecursion (λ (c : Chance). IsMet known cs c.text c.bound × IsThreshold c.p c.q) (problem_of model).chances) (sym same)
      (subst (λ (k : Known). AllByRecursion (λ (c : Chance). IsMet k (problem_of model).conditions c.text c.bound × IsThreshold c.p c.q) (problem_of model).chances) (sym knows)
      (chances_are_met model passes)))
