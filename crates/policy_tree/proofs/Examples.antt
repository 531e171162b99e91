-- The values of the small problems.
use Rattle.std.proofs.Common.{◌≡◌, refl, sym, ℤ, pos, negsuc, neg_ℤ, ◌+ℤ◌, ◌*ℤ◌, true≢false, subst, arith, true, [], ◌∷◌, Option, Some, None}
use Rattle.std.specs.Ordering.{int_eq}
use Rattle.std.specs.Cmp.{signed_Decides}
use Rattle.std.specs.FinMap.{get}
use Rattle.sopl_base.specs.declared.comparison.CmpOp.TheVariants.{Eq}
use Rattle.sopl_ast.specs.Policies.{Key, Policy}
use Rattle.sopl_ast.specs.Meanings.{compared}
use Rattle.sopl_ast.specs.Cells.{cells, policy_at}
use Rattle.sopl_ast.specs.Optimal.{numerator, IsInfeasible}
use Rattle.sopl_ast.specs.Scenarios.{Scenario}
use Rattle.policy_tree.specs.WorkedOptima.{ordering, ordering_worth, guessing, hard}
use Rattle.policy_tree.proofs.Bijection.{value_at}

-- the key of x
abbrev x_key : Key
x_key = (0, [])

-- the key of y after this value is seen
abbrev y_key : ℤ → Key
y_key seen = (1, seen ∷ [])

-- what a scenario is worth
abbrev after : ℤ → ℤ → ℤ
after x y = (pos 4 *ℤ y) +ℤ (neg_ℤ (pos 3 *ℤ x) +ℤ pos 0)

-- what a policy of these values is worth
abbrev worth_of : ℤ → ℤ → ℤ → ℤ
worth_of x y z = (pos 1 *ℤ after x y) +ℤ ((pos 1 *ℤ after x z) +ℤ pos 0)

worth_at : (policy : Policy) (x y z : ℤ) → get policy x_key ≡ Some x → get policy (y_key (pos 1)) ≡ Some y → get policy (y_key (pos 3)) ≡ Some z
    → numerator ordering policy ≡ Some (worth_of x y z)
worth_at policy x y z a b c = rw (a, b, c) refl

worth : (x y z : ℤ) → ordering_worth x y z ≡ Some (worth_of x y z)
worth x y z =
    let values = x ∷ y ∷ z ∷ [] in
    worth_at (policy_at (cells ordering) values) x y z (value_at (cells ordering) values x_key) (value_at (cells ordering) values (y_key (pos 1))) (value_at (cells ordering) values (y_key (pos 3)))

pub mixed_worth : ordering_worth (pos 3) (pos 1) (pos 3) ≡ Some (negsuc 1)
mixed_worth = worth (pos 3) (pos 1) (pos 3)

pub zeros_worth : ordering_worth (pos 0) (pos 0) (pos 0) ≡ Some (pos 0)
zeros_worth = worth (pos 0) (pos 0) (pos 0)

pub ones_worth : ordering_worth (pos 1) (pos 1) (pos 1) ≡ Some (pos 2)
ones_worth = worth (pos 1) (pos 1) (pos 1)

-- no number is 1 and 3
never : (o : Option ℤ) → compared Eq o (Some (pos 1)) ≡ true → compared Eq o (Some (pos 3)) ≡ true → ⊥
never None a b = true≢false (sym a)
never (Some v) a b =
    let P : ℤ → Type 0 = λ z. int_eq z (pos 3) ≡ true in
    let r : int_eq (pos 1) (pos 3) ≡ true = subst P ((signed_Decides v (pos 1)).0 a) b in
    true≢false (sym r)

pub guessing_none : IsInfeasible guessing
guessing_none = record {
  none = λ policy is sat.
      let any : Scenario = record { values = []; weight = pos 0 } in
      never (get policy x_key) (sat.hards 0 (hard 0) (omega arith) 0 any (omega arith)) (sat.hards 0 (hard 0) (omega arith) 1 any (omega arith));
}
