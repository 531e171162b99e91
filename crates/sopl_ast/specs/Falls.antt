-- Each part of an expression weighs less than the expression.
use Rattle.std.specs.Prelude.{◌≤◌}
use Rattle.std.proofs.Common.{arith}
use Rattle.sopl_ast.specs.Weight.{weight_shape, weight_range}
use Rattle.sopl_ast.specs.Sight.{shape_of_kind}
use Rattle.sopl_ast.specs.Ranges.{range_of}
use Rattle.sopl_ast.specs.declared.expr.Kind.{Kind}
use Rattle.sopl_ast.specs.declared.expr.Kind.TheVariants as k
use Rattle.sopl_ast.specs.declared.binders.RangeText.{RangeText}
use Rattle.sopl_ast.specs.declared.binders.RangeText.TheVariants as text
use Rattle.sopl_ast.specs.declared.binders.Binder.TheDeep.{deep-Kind, deep-RangeText}

-- the children of a range weigh no more than it
pub falls_range : (r : RangeText) → deep-RangeText r ≤ weight_range (range_of r)
falls_range (text.Named x1 x2) = omega arith
falls_range (text.Ends x1 x2) = omega arith

-- the children of an expression weigh no more than it
pub falls_kind : (x : Kind) → deep-Kind x ≤ weight_shape (shape_of_kind x)
falls_kind (k.Lit x1) = omega arith
falls_kind (k.Name x1) = omega arith
falls_kind (k.Index x1 x2) = omega arith
falls_kind (k.Call x1 x2) = omega arith
falls_kind (k.Add x1) = omega arith
falls_kind (k.Mul x1) = omega arith
falls_kind (k.Cmp x1 x2 x3) = omega arith
falls_kind (k.Not x1) = omega arith
falls_kind (k.And x1) = omega arith
falls_kind (k.Or x1) = omega arith
falls_kind (k.Implies x1 x2) = omega arith
falls_kind (k.Sum x1 x2) = omega arith
falls_kind (k.Selected x1 x2) = omega arith
falls_kind (k.AllDifferent x1 x2) = omega arith
falls_kind (k.Cumulative x1 x2 x3 x4 x5) = omega arith
