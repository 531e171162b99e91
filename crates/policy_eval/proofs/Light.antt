-- What is worth something at a point is no larger than its size.
use Rattle.std.proofs.Common.{arith, ◌≤◌, ℤ, unsigned_abs, List, [], ◌∷◌, ◌++◌, Option, Some, None, IfSome}
use Rattle.std.proofs.lemmas.Int.{ints}
use Rattle.std.specs.List.{AllByRecursion}
use Rattle.sopl_base.proofs.Sizes.{sized}
use Rattle.sopl_ast.specs.declared.operators.MulOp.TheVariants.{Times, Div, Mod}
use Rattle.sopl_ast.specs.Constants as constant
use Rattle.sopl_ast.specs.Tree.{Tree, Factors, no_factor, factor}
use Rattle.sopl_ast.specs.UnfoldEvents.{divisor_events}
use Rattle.unfold_laws.specs.Passing.{IsConstant, NothingFails}
use Rattle.box_problem.specs.Box.{Box, IsBox, InBox}
use Rattle.box_problem.proofs.Boxes.{part_of_itself}
use Rattle.term_language.specs.Ends.{Lies}
use Rattle.term_language.specs.Laws.{IsAtMost, IsProper}
use Rattle.term_language.specs.Rules.{Near, interval}
use Rattle.term_language.specs.Sizes.{size}
use Rattle.term_language.specs.declared.made.Operation.{Operation}
use Rattle.term_language.specs.declared.made.Operation.TheVariants as unary
use Rattle.term_language.specs.declared.made.Divisor.{Divisor}
use Rattle.term_language.specs.Terms as c
use Rattle.term_language.specs.Values.{value}
use Rattle.term_language.proofs.Bounds.{sizes_bound}
use Rattle.term_language.proofs.Soundness.{values_lie}
use Rattle.compile_laws.specs.Instances.{Place, divided, instance, product_instance}
use Rattle.compile_laws.specs.Measured.{most_size}
use Rattle.compile_laws.specs.Subterms.{subterms}
use Rattle.compile_counts.specs.Walked.{FactorsAreWalked}
use Rattle.policy_eval.proofs.Divided.{IsDivisor, divisor_is, from_divided}

-- terms whose sizes are at most 2^40
abbrev pub AreLight : Box → List c.Term → Type 0
AreLight root terms = AllByRecursion (λ t. size root t ≤ most_size) terms

-- the parts of a list
pub before : (root : Box) (xs ys : List c.Term) → AreLight root (xs ++ ys) → AreLight root xs
before root [] ys all = tt
before root (x ∷ xs) ys all = (all.0, before root xs ys all.1)

pub behind : (root : Box) (xs ys : List c.Term) → AreLight root (xs ++ ys) → AreLight root ys
behind root [] ys all = all
behind root (x ∷ xs) ys all = behind root xs ys all.1

-- a term is the last of those in it
pub itself : (root : Box) (t : c.Term) → AreLight root (subterms t) → size root t ≤ most_size
itself root (c.Constant z) light = light.0
itself root (c.Cell cell) light = light.0
itself root (c.Sum parts) light = (behind root _ (c.Sum parts ∷ []) light).0
itself root (c.Product a b) light = (behind root (subterms b) (c.Product a b ∷ []) (behind root (subterms a) _ light)).0
itself root (c.Made how a) light = (behind root (subterms a) (c.Made how a ∷ []) light).0
itself root (c.Selected which a later) light = (behind root _ (c.Selected which a later ∷ []) (behind root (subterms a) _ light)).0
itself root (c.Element table indices) light = (behind root _ (c.Element table indices ∷ []) light).0
itself root (c.Number cond) light = (behind root _ (c.Number cond ∷ []) light).0

pub no_larger : (root : Box) (point : List ℤ) (t : c.Term) → IsBox root → InBox root point → IsProper t → IfSome (value point t) (λ z. unsigned_abs z ≤ size root t)
no_larger root point t is_box inside proper = by_value (value point t) (values_lie Near root root point t is_box inside proper) (sizes_bound Near root root t is_box (part_of_itself root is_box) proper)
  where
    by_value : (v : Option ℤ) → IfSome v (λ z. Lies z (interval Near root root t)) → IsAtMost (interval Near root root t) (size root t) → IfSome v (λ z. unsigned_abs z ≤ size root t)
    by_value None lies most = tt
    by_value (Some z) lies most = sized z (size root t) (omega (arith, ints, lies.from_low, most.above)) (omega (arith, ints, lies.to_high, most.below))

pub is_small : (root : Box) (point : List ℤ) (t : c.Term) → IsBox root → InBox root point → IsProper t → size root t ≤ most_size → IfSome (value point t) IsConstant
is_small root point t is_box inside proper light = by_value (value point t) (no_larger root point t is_box inside proper)
  where
    by_value : (v : Option ℤ) → IfSome v (λ z. unsigned_abs z ≤ size root t) → IfSome v IsConstant
    by_value None small = tt
    by_value (Some z) small = omega (arith, small, light)

-- what a product begins with is in it, where its divisors are there
module _ (root : Box) (place : Place) where
  by_divisor : (make : Divisor → Operation) (e : Tree) (b : c.Term) → NothingFails (divisor_events place.known e)
      → AreLight root (subterms (divided make b (constant.value place.known e))) → AreLight root (subterms b)
  by_divisor make e b passes light =
      let d : IsDivisor place.known e = divisor_is place.known e passes in
      before root (subterms b) _ (from_divided (λ t. AreLight root (subterms t)) make b d.number d.nonzero (constant.value place.known e) d.is light)

  pub first_light : (others : Factors) (b : c.Term) → FactorsAreWalked None place.known others → AreLight root (subterms (product_instance place b others)) → AreLight root (subterms b)
  first_light no_factor b walked light = light
  first_light (factor Times e later) b walked light = before root (subterms b) _ (first_light later (c.Product b (instance place e).term) walked.2 light)
  first_light (factor Div e later) b walked light = by_divisor unary.Quotient e b walked.0 (first_light later (divided unary.Quotient b (constant.value place.known e)) walked.2 light)
  first_light (factor Mod e later) b walked light = by_divisor unary.Remainder e b walked.0 (first_light later (divided unary.Remainder b (constant.value place.known e)) walked.2 light)
