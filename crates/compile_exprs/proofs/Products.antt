-- Products, factor by factor.
use Rattle.std.proofs.Common.{◌≡◌, ◌∙◌, refl, ap, sym, subst, ℕ, ℤ, pos, false, if◌then◌else◌, List, [], ◌∷◌, Option, Some, None}
use Rattle.std.specs.Ordering.{int_eq}
use Rattle.sopl_base.specs.declared.fault.Fault.{Fault}
use Rattle.box_problem.specs.Box.{Box}
use Rattle.term_language.specs.declared.made.Operation.{Operation}
use Rattle.term_language.specs.declared.made.Operation.TheVariants as unary
use Rattle.term_language.specs.declared.made.Divisor.{Divisor}
use Rattle.term_language.specs.Terms as c
use Rattle.term_language.specs.Terms.{Term}
use Rattle.compile_counts.specs.Walked.{FactorsAreWalked, IsDivisor, IsWalked, whole_of}
use Rattle.compile_counts.proofs.Passed.{divisor_nonzero, divisor_part}
use Rattle.unfold_laws.specs.Passing.{NothingFails}
use Rattle.unfold_laws.proofs.Passing.{value_given}
use Rattle.compile_laws.specs.Instances.{Place, divided, instance, product_instance, undefined}
use Rattle.compile_names.specs.declared.setting.Scenarios.{Scenarios}
use Rattle.compile_laws.specs.Subterms.{subterms}
use Rattle.compile_scene.specs.Scenes.{root_in}
use Rattle.compile_scene.specs.Works.{Extends, things_of}
use Rattle.compile_scene.specs.declared.work.Lowering.{Lowering}
use Rattle.compile_scene.proofs.Growing.{extends_twice}
use Rattle.sopl_ast.specs.declared.operators.MulOp.{MulOp}
use Rattle.sopl_ast.specs.declared.operators.MulOp.TheVariants.{Times, Div, Mod}
use Rattle.sopl_ast.specs.Constants.{value}
use Rattle.sopl_ast.specs.Known.{Known}
use Rattle.sopl_ast.specs.UnfoldEvents.{divisor_events}
use Rattle.sopl_ast.specs.Lists.{factors}
use Rattle.sopl_ast.specs.Tree.{Tree, Factors, no_factor, factor, place_of}
use Rattle.term_nodes.specs.Things.{a_term, term_at}
use Rattle.compile_exprs.specs.Made.{SizesFail, IsMade, IsOperand}
use Rattle.compile_exprs.proofs.Sizes.{fails_first}
use Rattle.compile_exprs.proofs.Steps.{operand_made, term_is}

-- a number that is there and is not 0 divides
pub divided_by : (make : Divisor → Operation) (a : Term) (v : Option ℤ) (z : ℤ) → v ≡ Some z → int_eq z (pos 0) ≡ false → divided make a v ≡ c.Made (make (record { number = z })) a
divided_by make a v z is nonzero = ap (divided make a) is ∙ ap (λ b. if b then undefined else c.Made (make (record { number = z })) a) nonzero

divided_fault : (root : Box) (make : Divisor → Operation) (known : Known) (e : Tree) (a : Term) (fault : Fault) → NothingFails (divisor_events known e) → SizesFail root (subterms a) fault
    → SizesFail root (subterms (divided make a (value known e))) fault
divided_fault root make known e a fault passes large =
    let there = value_given known (place_of e) e (divisor_part known e passes) in
    subst (λ y. SizesFail root (subterms y) fault) (sym (divided_by make a (value known e) there.0 there.1 (divisor_nonzero known e there.0 passes there.1)))
    (fails_first root (subterms a) (c.Made (make (record { number = there.0 })) a ∷ []) fault large)

-- one factor in front of others
one_factor : (place : Place) (x : Term) (op : MulOp) (e : Tree) (fs : Factors)
    → product_instance place (product_instance place x (factor op e no_factor)) fs ≡ product_instance place x (factor op e fs)
one_factor place x Times e fs = refl
one_factor place x Div e fs = refl
one_factor place x Mod e fs = refl

-- what is too large in front of factors is too large in their product
pub product_fault : (root : Box) (place : Place) (fs : Factors) (x : Term) (fault : Fault) → FactorsAreWalked None place.known fs → SizesFail root (subterms x) fault
    → SizesFail root (subterms (product_instance place x fs)) fault
product_fault root place no_factor x fault holds is = is
product_fault root place (factor Times e later) x fault holds is =
    product_fault root place later (c.Product x (instance place e).term) fault holds.2
    (fails_first root (subterms x) _ fault is)
product_fault root place (factor Div e later) x fault holds is =
    product_fault root place later (divided unary.Quotient x (value place.known e)) fault holds.2 (divided_fault root unary.Quotient place.known e x fault holds.0 is)
product_fault root place (factor Mod e later) x fault holds is =
    product_fault root place later (divided unary.Remainder x (value place.known e)) fault holds.2 (divided_fault root unary.Remainder place.known e x fault holds.0 is)

-- a term so far, which makes up the product with the factors that are left
pub record IsFactored (place : Place) (setting : Scenarios) (before now : Lowering) (first id : ℕ) (left all : List (MulOp × Tree)) : Type 0 where
  pub extends : Extends setting before now
  pub operand : IsOperand setting now id
  pub is : product_instance place (term_at (things_of now) id) (factors left) ≡ product_instance place (term_at (things_of before) first) (factors all)
  pub holds : FactorsAreWalked None place.known (factors left)

module _ (place : Place) (setting : Scenarios) (before now : Lowering) (first id : ℕ) (left all : List (MulOp × Tree)) where
  pub factored_holds : (f : MulOp × Tree) (later : List (MulOp × Tree)) → left ≡ f ∷ later → IsFactored place setting before now first id left all
      → IsDivisor None place.known f.0 f.1 × IsWalked (whole_of None f.0 f.1) place.known f.1
  factored_holds f later is l =
      let held = subst (λ fs. FactorsAreWalked None place.known (factors fs)) is l.holds in
      (held.0, held.1)

  pub factored_more : (f : MulOp × Tree) (later : List (MulOp × Tree)) (after : Lowering) (new : ℕ) → left ≡ f ∷ later
      → IsMade setting now after new (a_term (product_instance place (term_at (things_of now) id) (factor f.0 f.1 no_factor)))
      (subterms (product_instance place (term_at (things_of now) id) (factor f.0 f.1 no_factor)))
      → IsFactored place setting before now first id left all → IsFactored place setting before after first new later all
  factored_more f later after new is made l = record {
    extends = extends_twice setting before now after l.extends made.extends;
    operand = operand_made setting now after new (product_instance place (term_at (things_of now) id) (factor f.0 f.1 no_factor)) made;
    is = ap (λ x. product_instance place x (factors later)) (term_is (things_of after) new (product_instance place (term_at (things_of now) id) (factor f.0 f.1 no_factor)) made.stands)
        ∙ (one_factor place (term_at (things_of now) id) f.0 f.1 (factors later)
        ∙ (ap (λ fs. product_instance place (term_at (things_of now) id) (factors fs)) (sym is) ∙ l.is));
    holds = (subst (λ fs. FactorsAreWalked None place.known (factors fs)) is l.holds).2;
  }

  pub factored_fault : (f : MulOp × Tree) (later : List (MulOp × Tree)) (fault : Fault) → left ≡ f ∷ later
      → SizesFail (root_in setting) (subterms (product_instance place (term_at (things_of now) id) (factor f.0 f.1 no_factor))) fault
      → IsFactored place setting before now first id left all → SizesFail (root_in setting) (subterms (product_instance place (term_at (things_of before) first) (factors all))) fault
  factored_fault f later fault is large l =
      subst (λ x. SizesFail (root_in setting) (subterms x) fault)
      (one_factor place (term_at (things_of now) id) f.0 f.1 (factors later) ∙ (ap (λ fs. product_instance place (term_at (things_of now) id) (factors fs)) (sym is) ∙ l.is))
      (product_fault (root_in setting) place (factors later) (product_instance place (term_at (things_of now) id) (factor f.0 f.1 no_factor)) fault
      (subst (λ fs. FactorsAreWalked None place.known (factors fs)) is l.holds).2 large)
