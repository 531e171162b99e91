-- The binders and divisors inside an expression that passes.
use Rattle.std.proofs.Common.{◌≡◌, ap, subst, ℕ, ℤ, List, ◌++◌, Option, Some, None, Ok, is_ok}
use Rattle.std.specs.List.{AllByRecursion}
use Rattle.sopl_ast.specs.declared.operators.MulOp.TheVariants.{Times, Div, Mod}
use Rattle.sopl_ast.specs.Tree as t
use Rattle.sopl_ast.specs.Tree.{Tree, Shape, Trees, Terms, Factors, Binders, Node, no_tree, tree, no_term, term, no_factor, factor, place_of}
use Rattle.sopl_ast.specs.Known.{Known}
use Rattle.sopl_ast.specs.Constants.{value, applied_within, all_bindings}
use Rattle.sopl_ast.specs.UnfoldEvents.{UnfoldEvent, all_events, binding_events, divisor_events, events_in, expression_events, factors_events, first_failure, inside_events, no_value, terms_events}
use Rattle.unfold_laws.specs.Passing.{NothingFails}
use Rattle.unfold_laws.proofs.Passing.{parts_pass}
use Rattle.compile_counts.specs.Walked.{AreMet, IsWalked, ShapeIsWalked, AreWalked, TermsAreWalked, FactorsAreWalked, ExpressionsAreWalked}
use Rattle.compile_counts.proofs.Passed.{divisor_part}
use Rattle.compile_counts.proofs.Binding.{ranges_pass, bodies_pass}
use Rattle.unfold_laws.proofs.Declared.{each_of}

-- binders, and what holds of what stands behind them
abbrev Behind : Option ℕ → Known → Binders → (Known → Type 0) → Type 0
Behind whole known bs Q = AreMet known whole bs × AllByRecursion Q (all_bindings known bs)

behind : (whole : Option ℕ) (known : Known) (bs : Binders) (each : Known → List UnfoldEvent) (Q : Known → Type 0)
    → ((here : Known) → NothingFails (each here) → Q here) → NothingFails (binding_events known whole bs each) → Behind whole known bs Q
behind whole known bs each Q so is =
    (ranges_pass bs known whole each is, each_of (λ here. NothingFails (each here)) Q so (all_bindings known bs) (bodies_pass bs known whole each is))

mutual
  walked : (e : Tree) (whole : Option ℕ) (known : Known) → NothingFails (events_in whole known e) → IsWalked whole known e
  walked (Node at shape) None known is = inside_walked shape None known is
  walked (Node at shape) (Some whole) known is =
      inside_walked shape (Some whole) known (parts_pass (inside_events (Some whole) known shape) (no_value (value known (Node at shape)) whole) is).0

  inside_walked : (shape : Shape) (whole : Option ℕ) (known : Known) → NothingFails (inside_events whole known shape) → ShapeIsWalked whole known shape
  inside_walked (t.Lit z) whole known is = tt
  inside_walked (t.Name name) whole known is = tt
  inside_walked (t.Index name es) whole known is = all_walked es whole known is
  inside_walked (t.Call f e) whole known is = walked e whole known is
  inside_walked (t.Add parts) whole known is = terms_walked parts whole known is
  inside_walked (t.Mul first others) whole known is =
      let both = parts_pass (events_in whole known first) (factors_events whole known (value known first) others) is in
      (walked first whole known both.0, factors_walked others whole known (value known first) both.1)
  inside_walked (t.Cmp op a b) whole known is =
      let both = parts_pass (events_in whole known a) (events_in whole known b) is in
      (walked a whole known both.0, walked b whole known both.1)
  inside_walked (t.Not e) whole known is = walked e whole known is
  inside_walked (t.And es) whole known is = all_walked es whole known is
  inside_walked (t.Or es) whole known is = all_walked es whole known is
  inside_walked (t.Implies a b) whole known is =
      let both = parts_pass (events_in whole known a) (events_in whole known b) is in
      (walked a whole known both.0, walked b whole known both.1)
  inside_walked (t.Sum bs e) whole known is =
      behind whole known bs (λ here. events_in whole here e) (λ here. IsWalked whole here e) (λ here passes. walked e whole here passes) is
  inside_walked (t.Selected which es) whole known is = all_walked es whole known is
  inside_walked (t.AllDifferent bs e) whole known is =
      behind whole known bs (λ here. events_in whole here e) (λ here. IsWalked whole here e) (λ here passes. walked e whole here passes) is
  inside_walked (t.Cumulative bs start duration demand capacity) whole known is =
      let both = parts_pass (binding_events known whole bs (λ here. events_in whole here start ++ (events_in whole here duration ++ events_in whole here demand)))
      (events_in whole known capacity) is in
      let tasks = behind whole known bs (λ here. events_in whole here start ++ (events_in whole here duration ++ events_in whole here demand))
      (λ here. IsWalked whole here start × IsWalked whole here duration × IsWalked whole here demand)
      (λ here passes.
      let first = parts_pass (events_in whole here start) (events_in whole here duration ++ events_in whole here demand) passes in
      let second = parts_pass (events_in whole here duration) (events_in whole here demand) first.1 in
      (walked start whole here first.0, walked duration whole here second.0, walked demand whole here second.1)) both.0 in
      (tasks.0, tasks.1, walked capacity whole known both.1)

  all_walked : (es : Trees) (whole : Option ℕ) (known : Known) → NothingFails (all_events whole known es) → AreWalked whole known es
  all_walked no_tree whole known is = tt
  all_walked (tree e es) whole known is =
      let both = parts_pass (events_in whole known e) (all_events whole known es) is in
      (walked e whole known both.0, all_walked es whole known both.1)

  terms_walked : (parts : Terms) (whole : Option ℕ) (known : Known) → NothingFails (terms_events whole known parts) → TermsAreWalked whole known parts
  terms_walked no_term whole known is = tt
  terms_walked (term minus e more) whole known is =
      let both = parts_pass (events_in whole known e) (terms_events whole known more) is in
      (walked e whole known both.0, terms_walked more whole known both.1)

  factors_walked : (parts : Factors) (whole : Option ℕ) (known : Known) (before : Option ℤ) → NothingFails (factors_events whole known before parts)
      → FactorsAreWalked whole known parts
  factors_walked no_factor whole known before is = tt
  factors_walked (factor op e more) (Some whole) known before is =
      let prefix = applied_within op before (value known e) in
      let both = parts_pass (events_in (Some whole) known e) (no_value prefix whole ++ factors_events (Some whole) known prefix more) is in
      let rest = parts_pass (no_value prefix whole) (factors_events (Some whole) known prefix more) both.1 in
      (tt, walked e (Some whole) known both.0, factors_walked more (Some whole) known prefix rest.1)
  factors_walked (factor Times e more) None known before is =
      let both = parts_pass (events_in None known e) (factors_events None known before more) is in
      (tt, walked e None known both.0, factors_walked more None known before both.1)
  factors_walked (factor Div e more) None known before is =
      let both = parts_pass (divisor_events known e) (factors_events None known before more) is in
      (both.0, walked e (Some (place_of e)) known (divisor_part known e both.0), factors_walked more None known before both.1)
  factors_walked (factor Mod e more) None known before is =
      let both = parts_pass (divisor_events known e) (factors_events None known before more) is in
      (both.0, walked e (Some (place_of e)) known (divisor_part known e both.0), factors_walked more None known before both.1)

pub expressions_are_walked : ExpressionsAreWalked
expressions_are_walked e whole known is = walked e whole known is

-- the binders of a sum that nothing stops
pub sum_met : (known : Known) (e : Tree) (at n : ℕ) (bs : Binders) (inner : Tree) → e ≡ Node at (t.Sum bs inner) → first_failure 0 (expression_events known e) ≡ Ok n → AreMet known None bs
sum_met known e at n bs inner same is =
    (walked (Node at (t.Sum bs inner)) None known (subst (λ x. NothingFails (expression_events known x)) same (ap is_ok is))).0
