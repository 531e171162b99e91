-- What passes inside an expression that passes: the ranges of its binders, at each place that they give, and its divisors.
use Rattle.std.specs.Prelude.{ℕ, List, Option, Some, None}
use Rattle.std.specs.List.{AllByRecursion}
use Rattle.sopl_ast.specs.declared.operators.MulOp.{MulOp}
use Rattle.sopl_ast.specs.declared.operators.MulOp.TheVariants.{Times, Div, Mod}
use Rattle.sopl_ast.specs.Tree as t
use Rattle.sopl_ast.specs.Tree.{Tree, Shape, Trees, Terms, Factors, Binders, Node, no_tree, tree, no_term, term, no_factor, factor, no_binder, binder, place_of}
use Rattle.sopl_ast.specs.Known.{Known, with_bound}
use Rattle.sopl_ast.specs.Constants.{numbers_in, all_bindings}
use Rattle.sopl_ast.specs.UnfoldEvents.{UnfoldEvent, binding_events, divisor_events, events_in, range_events}
use Rattle.unfold_laws.specs.Passing.{NothingFails}

-- the ranges of binders pass, each for all ways in which those before it take their values; they belong to the constant expression that begins at
-- `whole`, if there is one
abbrev pub AreMet : Known → Option ℕ → Binders → Type 0
AreMet known whole no_binder = Unit {0}
AreMet known whole (binder name at range more) =
    NothingFails (range_events known whole range)
    × AllByRecursion (λ number. AreMet (with_bound name number known) whole more) (numbers_in known range)

-- a divisor passes; inside a constant expression it is a part like others
abbrev pub IsDivisor : Option ℕ → Known → MulOp → Tree → Type 0
IsDivisor (Some whole) known op e = Unit {0}
IsDivisor None known Times e = Unit {0}
IsDivisor None known Div e = NothingFails (divisor_events known e)
IsDivisor None known Mod e = NothingFails (divisor_events known e)

-- where the constant expression begins that a factor is inside of: a divisor is one of its own
abbrev pub whole_of : Option ℕ → MulOp → Tree → Option ℕ
whole_of (Some whole) op e = Some whole
whole_of None Times e = None
whole_of None Div e = Some (place_of e)
whole_of None Mod e = Some (place_of e)

abbrev mutual
  -- all binders and divisors inside an expression pass
  pub IsWalked : Option ℕ → Known → Tree → Type 0
  IsWalked whole known (Node at shape) = ShapeIsWalked whole known shape

  -- those inside its parts
  pub ShapeIsWalked : Option ℕ → Known → Shape → Type 0
  ShapeIsWalked whole known (t.Lit z) = Unit {0}
  ShapeIsWalked whole known (t.Name name) = Unit {0}
  ShapeIsWalked whole known (t.Index name es) = AreWalked whole known es
  ShapeIsWalked whole known (t.Call f e) = IsWalked whole known e
  ShapeIsWalked whole known (t.Add parts) = TermsAreWalked whole known parts
  ShapeIsWalked whole known (t.Mul first others) = IsWalked whole known first × FactorsAreWalked whole known others
  ShapeIsWalked whole known (t.Cmp op a b) = IsWalked whole known a × IsWalked whole known b
  ShapeIsWalked whole known (t.Not e) = IsWalked whole known e
  ShapeIsWalked whole known (t.And es) = AreWalked whole known es
  ShapeIsWalked whole known (t.Or es) = AreWalked whole known es
  ShapeIsWalked whole known (t.Implies a b) = IsWalked whole known a × IsWalked whole known b
  ShapeIsWalked whole known (t.Sum bs e) = AreMet known whole bs × AllByRecursion (λ here. IsWalked whole here e) (all_bindings known bs)
  ShapeIsWalked whole known (t.Selected which es) = AreWalked whole known es
  ShapeIsWalked whole known (t.AllDifferent bs e) = AreMet known whole bs × AllByRecursion (λ here. IsWalked whole here e) (all_bindings known bs)
  ShapeIsWalked whole known (t.Cumulative bs start duration demand capacity) =
      AreMet known whole bs
      × AllByRecursion (λ here. IsWalked whole here start × IsWalked whole here duration × IsWalked whole here demand) (all_bindings known bs)
      × IsWalked whole known capacity

  -- those inside some expressions
  pub AreWalked : Option ℕ → Known → Trees → Type 0
  AreWalked whole known no_tree = Unit {0}
  AreWalked whole known (tree e es) = IsWalked whole known e × AreWalked whole known es

  -- those inside the parts of a chain of `+` and `-`
  pub TermsAreWalked : Option ℕ → Known → Terms → Type 0
  TermsAreWalked whole known no_term = Unit {0}
  TermsAreWalked whole known (term minus e more) = IsWalked whole known e × TermsAreWalked whole known more

  -- those inside the factors of a product, and its divisors themselves
  pub FactorsAreWalked : Option ℕ → Known → Factors → Type 0
  FactorsAreWalked whole known no_factor = Unit {0}
  FactorsAreWalked whole known (factor op e more) =
      IsDivisor whole known op e × IsWalked (whole_of whole op e) known e × FactorsAreWalked whole known more

-- the ranges of binders pass where a way through them does
abbrev pub RangesPass : Type 0
RangesPass =
    (bs : Binders) (known : Known) (whole : Option ℕ) (each : Known → List UnfoldEvent)
    → NothingFails (binding_events known whole bs each) → AreMet known whole bs

-- what stands behind binders passes at each place that they give, where a way through them does
abbrev pub BodiesPass : Type 0
BodiesPass =
    (bs : Binders) (known : Known) (whole : Option ℕ) (each : Known → List UnfoldEvent)
    → NothingFails (binding_events known whole bs each) → AllByRecursion (λ here. NothingFails (each here)) (all_bindings known bs)

-- all binders and divisors inside an expression pass where a way through it does
abbrev pub ExpressionsAreWalked : Type 0
ExpressionsAreWalked = (e : Tree) (whole : Option ℕ) (known : Known) → NothingFails (events_in whole known e) → IsWalked whole known e
