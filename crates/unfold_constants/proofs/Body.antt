-- Expressions that are handed on by reference: each of them is no heavier than all together.
use Rattle.std.proofs.Common.{ℕ, zero, suc, ◌+◌, ◌<◌, ◌≤◌, List, [], ◌∷◌, length, get_or, arith}
use Rattle.std.specs.Borrow.{Bor}
use Rattle.sopl_ast.specs.Tree.{Tree}
use Rattle.sopl_ast.specs.Weight.{weight}

-- what the expressions of a body weigh
abbrev pub weight_of_body : List (Bor Tree) → ℕ
weight_of_body [] = 0
weight_of_body (e ∷ es) = weight e.now + weight_of_body es

pub body_weight : (body : List (Bor Tree)) (i : ℕ) (d : Bor Tree) → i < length body → weight (get_or body i d).now ≤ weight_of_body body
body_weight [] i d h = absurd (omega arith)
body_weight (e ∷ es) zero d h = omega arith
body_weight (e ∷ es) (suc i) d h = omega (arith, body_weight es i d (omega arith))

-- a part of a body
pub ruleset parts = (body_weight)
