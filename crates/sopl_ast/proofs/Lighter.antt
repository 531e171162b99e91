-- An element weighs less than its list, by which a walk over trees ends.
use Rattle.std.proofs.Common.{ℕ, zero, suc, ◌<◌, List, [], ◌∷◌, length, get_or, map, arith, Bool}
use Rattle.sopl_ast.proofs.ConstraintTrees.{constraints}
use Rattle.sopl_ast.specs.declared.constraints.Cons.{Cons}
use Rattle.sopl_ast.specs.declared.inits.Init.{Init}
use Rattle.sopl_ast.specs.declared.operators.MulOp.{MulOp}
use Rattle.sopl_ast.specs.Constraints.{cons_tree}
use Rattle.sopl_ast.specs.Inits.{init_tree}
use Rattle.sopl_ast.specs.Tree.{Tree}
use Rattle.sopl_ast.specs.Lists.{BinderTree, factors}
use Rattle.sopl_ast.specs.Weight.{weight, weight_of_trees, weight_of_terms, weight_factors, weight_of_binder, weight_of_binders}
use Rattle.sopl_ast.specs.Whole.{conses}
use Rattle.sopl_ast.specs.WholeWeight.{weight_init, weight_of_inits, weight_cons, weight_conses}

pub weight-trees : (ts : List Tree) (i : ℕ) (d : Tree) → i < length ts → weight (get_or ts i d) < weight_of_trees ts
weight-trees [] i d h = absurd (omega arith)
weight-trees (t ∷ ts) zero d h = omega arith
weight-trees (t ∷ ts) (suc i) d h = omega (arith, weight-trees ts i d (omega arith))

pub weight-terms : (ts : List (Bool × Tree)) (i : ℕ) (d : Bool × Tree) → i < length ts → weight (get_or ts i d).1 < weight_of_terms ts
weight-terms [] i d h = absurd (omega arith)
weight-terms (t ∷ ts) zero d h = omega arith
weight-terms (t ∷ ts) (suc i) d h = omega (arith, weight-terms ts i d (omega arith))

pub weight-factors : (fs : List (MulOp × Tree)) (i : ℕ) (d : MulOp × Tree) → i < length fs → weight (get_or fs i d).1 < weight_factors (factors fs)
weight-factors [] i d h = absurd (omega arith)
weight-factors (f ∷ fs) zero d h = omega arith
weight-factors (f ∷ fs) (suc i) d h = omega (arith, weight-factors fs i d (omega arith))

pub weight-binders : (bs : List BinderTree) (i : ℕ) (d : BinderTree) → i < length bs → weight_of_binder (get_or bs i d) < weight_of_binders bs
weight-binders [] i d h = absurd (omega arith)
weight-binders (b ∷ bs) zero d h = omega arith
weight-binders (b ∷ bs) (suc i) d h = omega (arith, weight-binders bs i d (omega arith))

-- an element weighs less than its list
pub ruleset lighter = (weight-trees, weight-terms, weight-factors, weight-binders)

-- an initial value weighs less than its list
pub lighter_init : (xs : List Init) (i : ℕ) (d : Init) → i < length xs → weight_init (init_tree (get_or xs i d)) < weight_of_inits (map init_tree xs)
lighter_init [] i d h = absurd (omega arith)
lighter_init (x ∷ xs) zero d h = omega arith
lighter_init (x ∷ xs) (suc i) d h = omega (arith, lighter_init xs i d (omega arith))

-- a constraint weighs less than its list
pub weight-constraint : (xs : List Cons) (i : ℕ) (d : Cons) → i < length xs → weight_cons (cons_tree (get_or xs i d)) < weight_conses (conses (map cons_tree xs))
weight-constraint [] i d h = absurd (omega arith)
weight-constraint (x ∷ xs) zero d h = omega arith
weight-constraint (x ∷ xs) (suc i) d h = omega (arith, weight-constraint xs i d (omega arith))

-- a constraint and its parts by what they show
pub ruleset lighter_constraints = (constraints, weight-constraint)
