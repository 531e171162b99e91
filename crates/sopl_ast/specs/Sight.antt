-- What contracts see of an expression: its tree, with no address in it.
use Rattle.sopl_ast.specs.Tree as t
use Rattle.sopl_ast.specs.Lists.{trees, terms, factors, binders}
use Rattle.sopl_ast.specs.declared.expr.Kind.{Kind}
use Rattle.sopl_ast.specs.declared.expr.Kind.TheVariants as k
use Rattle.sopl_ast.specs.declared.expr.Expr.TheInside.{Inside}

-- what an expression is, as plain data
abbrev pub shape_of_kind : Kind → t.Shape
shape_of_kind (k.Lit value) = t.Lit value
shape_of_kind (k.Name name) = t.Name name
shape_of_kind (k.Index name es) = t.Index name (trees es)
shape_of_kind (k.Call f a) = t.Call f a.value
shape_of_kind (k.Add ts) = t.Add (terms ts)
shape_of_kind (k.Mul fs) = t.Mul fs.first (factors fs.others)
shape_of_kind (k.Cmp op a b) = t.Cmp op a.value b.value
shape_of_kind (k.Not a) = t.Not a.value
shape_of_kind (k.And es) = t.And (trees es)
shape_of_kind (k.Or es) = t.Or (trees es)
shape_of_kind (k.Implies a b) = t.Implies a.value b.value
shape_of_kind (k.Sum bs a) = t.Sum (binders bs) a.value
shape_of_kind (k.Selected which es) = t.Selected which (trees es)
shape_of_kind (k.AllDifferent bs a) = t.AllDifferent (binders bs) a.value
shape_of_kind (k.Cumulative bs a b c d) = t.Cumulative (binders bs) a.value b.value c.value d.value

-- an expression's tree
abbrev pub tree_of : Inside → t.Tree
tree_of a = t.Node a.at (shape_of_kind a.kind)
