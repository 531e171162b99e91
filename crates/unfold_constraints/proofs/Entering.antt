-- The next binder, where so many have values; and what was counted is no less behind a constraint.
use Rattle.std.proofs.Common.{◌≡◌, ap, ℕ, suc, ◌<◌, ◌≤◌, List, length, get_or, None, Ok, Result}
use Rattle.sopl_base.specs.declared.fault.Fault.{Fault}
use Rattle.sopl_ast.specs.Known.{Known, with_bound}
use Rattle.sopl_ast.specs.Lists.{BinderTree}
use Rattle.sopl_ast.specs.Whole.{ConsTree}
use Rattle.unfold_constants.specs.Evaluation.{Step, ◌>>=◌, for_each, range_numbers}
use Rattle.unfold_constants.proofs.Entering.{next_binder}
use Rattle.unfold_constants.proofs.Growing.{step_grows}
use Rattle.unfold_constraints.specs.Stepping as spec
use Rattle.unfold_constraints.specs.Stepping.{Found}
use Rattle.unfold_constraints.proofs.SteppingAgreement.{agree_constraint}

module _ (bs : List BinderTree) (body : Known → Found → Step Found) (here : Known) (found : Found) (d : ℕ) where
  pub part_next : (b : BinderTree) → d < length bs → b ≡ get_or bs d b
      → spec.inside bs body d here found ≡ range_numbers here None b.range >>= (λ ns. for_each (λ n more. spec.inside bs body (suc d) (with_bound b.name n here) more) ns found)
  part_next b below at = ap (λ rest. spec.over here rest body found) (next_binder bs d b below at)

pub constraint_grows : (known : Known) (first : ℕ) (c : ConsTree) (found : Found) (count : ℕ) (x : Found) (behind : ℕ)
    → ◌≡◌ {A = Result (Found × ℕ) Fault} (spec.constraint known first c found count) (Ok (x, behind)) → count ≤ behind
constraint_grows known first c found count x behind is = step_grows (agree_constraint c known first found) count x behind is

pub ruleset growing = (constraint_grows)
