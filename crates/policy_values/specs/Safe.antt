-- What an evaluation asks of an expression at a place: the ranges of binders and the divisors pass, and the value of each number expression
-- in it is, where it is there, of a size that constants have.
use Rattle.std.specs.Prelude.{ℤ, ◌*ℤ◌, Option, None, IfSome, option_map}
use Rattle.std.specs.List.{AllByRecursion}
use Rattle.compile_counts.specs.Walked.{AreMet}
use Rattle.sopl_ast.specs.declared.operators.MulOp.TheVariants.{Times, Div, Mod}
use Rattle.sopl_ast.specs.Constants.{value, all_bindings}
use Rattle.sopl_ast.specs.Known.{Known}
use Rattle.sopl_ast.specs.Meanings.{Place, knowing, places, meaning, sum_value, divided}
use Rattle.sopl_ast.specs.Numbers.{both_of, all_of, called, total}
use Rattle.sopl_ast.specs.UnfoldEvents.{divisor_events}
use Rattle.sopl_ast.specs.Tree as t
use Rattle.sopl_ast.specs.Tree.{Tree, Shape, Trees, Terms, Factors, Binders, Node, no_tree, tree, no_term, term, no_factor, factor}
use Rattle.unfold_laws.specs.Passing.{IsConstant, NothingFails}

-- a number is of a size that constants have, where it is there
abbrev pub HasConstantSize : Option ℤ → Type 0
HasConstantSize worth = IfSome worth IsConstant

abbrev mutual
  -- an expression as a number
  pub IsSafe : Place → Tree → Type 0
  IsSafe place (Node at shape) = ShapeIsSafe place shape

  pub ShapeIsSafe : Place → Shape → Type 0
  ShapeIsSafe place (t.Lit z) = Unit {0}
  ShapeIsSafe place (t.Name name) = Unit {0}
  ShapeIsSafe place (t.Index name es) = AreSafe place es
  ShapeIsSafe place (t.Call f e) = HasConstantSize (option_map (called f) (meaning place e).value) × IsSafe place e
  ShapeIsSafe place (t.Add parts) = HasConstantSize (sum_value place parts) × TermsAreSafe place parts
  ShapeIsSafe place (t.Mul first others) = IsSafe place first × FactorsAreSafe place (meaning place first).value others
  ShapeIsSafe place (t.Cmp op a b) = IsSafe place a × IsSafe place b
  ShapeIsSafe place (t.Not e) = IsTestable place e
  ShapeIsSafe place (t.And es) = AreTestable place es
  ShapeIsSafe place (t.Or es) = AreTestable place es
  ShapeIsSafe place (t.Implies a b) = IsTestable place a × IsTestable place b
  ShapeIsSafe place (t.Sum bs e) =
      AreMet place.known None bs
      × HasConstantSize (option_map total (all_of (λ here. (meaning here e).value) (places place bs)))
      × AllByRecursion (λ (here : Known). IsSafe (knowing place here) e) (all_bindings place.known bs)
  ShapeIsSafe place (t.Selected which es) = AreSafe place es
  ShapeIsSafe place (t.AllDifferent bs e) =
      AreMet place.known None bs × AllByRecursion (λ (here : Known). IsSafe (knowing place here) e) (all_bindings place.known bs)
  ShapeIsSafe place (t.Cumulative bs start duration demand capacity) =
      AreMet place.known None bs
      × AllByRecursion (λ (here : Known). IsSafe (knowing place here) start × IsSafe (knowing place here) duration × IsSafe (knowing place here) demand) (all_bindings place.known bs)
      × IsSafe place capacity

  -- an expression as a condition; a number is none, and nothing in it is evaluated
  pub IsTestable : Place → Tree → Type 0
  IsTestable place (Node at shape) = ShapeIsTestable place shape

  pub ShapeIsTestable : Place → Shape → Type 0
  ShapeIsTestable place (t.Lit z) = Unit {0}
  ShapeIsTestable place (t.Name name) = Unit {0}
  ShapeIsTestable place (t.Index name es) = Unit {0}
  ShapeIsTestable place (t.Call f e) = Unit {0}
  ShapeIsTestable place (t.Add parts) = Unit {0}
  ShapeIsTestable place (t.Mul first others) = Unit {0}
  ShapeIsTestable place (t.Cmp op a b) = IsSafe place a × IsSafe place b
  ShapeIsTestable place (t.Not e) = IsTestable place e
  ShapeIsTestable place (t.And es) = AreTestable place es
  ShapeIsTestable place (t.Or es) = AreTestable place es
  ShapeIsTestable place (t.Implies a b) = IsTestable place a × IsTestable place b
  ShapeIsTestable place (t.Sum bs e) = Unit {0}
  ShapeIsTestable place (t.Selected which es) = Unit {0}
  ShapeIsTestable place (t.AllDifferent bs e) =
      AreMet place.known None bs × AllByRecursion (λ (here : Known). IsSafe (knowing place here) e) (all_bindings place.known bs)
  ShapeIsTestable place (t.Cumulative bs start duration demand capacity) =
      AreMet place.known None bs
      × AllByRecursion (λ (here : Known). IsSafe (knowing place here) start × IsSafe (knowing place here) duration × IsSafe (knowing place here) demand) (all_bindings place.known bs)
      × IsSafe place capacity

  pub AreSafe : Place → Trees → Type 0
  AreSafe place no_tree = Unit {0}
  AreSafe place (tree e es) = IsSafe place e × AreSafe place es

  pub AreTestable : Place → Trees → Type 0
  AreTestable place no_tree = Unit {0}
  AreTestable place (tree e es) = IsTestable place e × AreTestable place es

  pub TermsAreSafe : Place → Terms → Type 0
  TermsAreSafe place no_term = Unit {0}
  TermsAreSafe place (term minus e later) = IsSafe place e × TermsAreSafe place later

  -- the factors behind what stands before: each product and each quotient on the way is of such a size
  pub FactorsAreSafe : Place → Option ℤ → Factors → Type 0
  FactorsAreSafe place before no_factor = Unit {0}
  FactorsAreSafe place before (factor Times e later) =
      HasConstantSize (both_of ◌*ℤ◌ before (meaning place e).value) × IsSafe place e × FactorsAreSafe place (both_of ◌*ℤ◌ before (meaning place e).value) later
  FactorsAreSafe place before (factor Div e later) =
      HasConstantSize (divided Div before (value place.known e)) × NothingFails (divisor_events place.known e)
      × FactorsAreSafe place (divided Div before (value place.known e)) later
  FactorsAreSafe place before (factor Mod e later) =
      HasConstantSize (divided Mod before (value place.known e)) × NothingFails (divisor_events place.known e)
      × FactorsAreSafe place (divided Mod before (value place.known e)) later

-- a number behind binders
abbrev pub OverIsSafe : Place → Binders → Tree → Type 0
OverIsSafe place bs e = AreMet place.known None bs × AllByRecursion (λ (here : Known). IsSafe (knowing place here) e) (all_bindings place.known bs)

-- tasks behind binders
abbrev pub TasksAreSafe : Place → Binders → Tree → Tree → Tree → Type 0
TasksAreSafe place bs start duration demand =
    AreMet place.known None bs
    × AllByRecursion (λ (here : Known). IsSafe (knowing place here) start × IsSafe (knowing place here) duration × IsSafe (knowing place here) demand) (all_bindings place.known bs)
