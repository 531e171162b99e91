-- Loops that put what they find behind a list, and loops that add up.
use Rattle.std.proofs.Common.{arith, ◌≡◌, refl, sym, ap, subst, ◌∙◌, ℕ, ◌+◌, ◌*◌, ◌≤◌, ℤ, neg_ℤ, ◌+ℤ◌, unsigned_abs, Bool, true, false, List, [], ◌∷◌, ◌++◌, map, Option, Some, None, option_map, Result, Ok, Err, IfOk, if◌then◌else◌}
use Rattle.std.proofs.Math.IntN.{+ℤ_assoc}
use Rattle.std.proofs.lemmas.Int.{ints}
use Rattle.std.proofs.lemmas.List.{append_assoc}
use Rattle.std.proofs.lemmas.Option.{none-some, same_Some}
use Rattle.std.specs.declared.alloc.AllocError.{AllocError}
use Rattle.std.specs.declared.alloc.Global.{Global}
use Rattle.std.specs.declared.vec.Vec.{Vec}
use Rattle.unfold_tables.specs.Tables.{items, tasks_of}
use Rattle.std.specs.List.{AllByRecursion}
use Rattle.sopl_ast.specs.declared.operators.MulOp.{MulOp}
use Rattle.sopl_ast.specs.declared.operators.MulOp.TheVariants.{Times, Div, Mod}
use Rattle.sopl_ast.specs.Known.{Known}
use Rattle.sopl_ast.specs.Lists.{factors, terms, trees}
use Rattle.sopl_ast.specs.Meanings.{Place, defined_values, knowing, meaning, product_value, sum_value}
use Rattle.sopl_ast.specs.Numbers.{Task, all_of, both_of}
use Rattle.sopl_ast.specs.Tree as t
use Rattle.sopl_ast.specs.Tree.{Tree, Factors, Trees, Node, factor, no_factor}
use Rattle.policy_values.specs.Listing.{task_numbers}
use Rattle.policy_values.specs.Played.{place_of}
use Rattle.policy_values.specs.Safe.{AreSafe, AreTestable, FactorsAreSafe, IsSafe, IsTestable, TermsAreSafe}
use Rattle.policy_values.specs.declared.played.PlayedScenario.{PlayedScenario}

-- what is left holds what its evaluation asks for, and with what was found it makes up all
pub record IsLeft {A B : Type 0} (P : A → Type 0) (f : A → Option B) (flat : List B → List ℤ) (found : List ℤ) (left : List A) (all : Option (List ℤ)) : Type 0 where
  pub holds : AllByRecursion P left
  pub rest : option_map (λ ys. found ++ flat ys) (all_of f left) ≡ all

abbrev pub same_list : List ℤ → List ℤ
same_list xs = xs

-- at the places of binders
pub places_are : {B : Type 0} (f : Place → Option B) (played : PlayedScenario) (known : Known) (all : List Known)
    → all_of (λ here. f (place_of played here)) all ≡ all_of f (map (knowing (place_of played known)) all)
places_are f played known [] = refl
places_are f played known (here ∷ all) = ap (both_of (λ x xs. x ∷ xs) (f (place_of played here))) (places_are f played known all)

-- Values in order.
pub record IsValued (place : Place) (found : List ℤ) (left : List Tree) (all : Option (List ℤ)) : Type 0 where
  pub holds : AreSafe place (trees left)
  pub rest : option_map (λ ys. found ++ ys) (defined_values place (trees left)) ≡ all

moved : (found : List ℤ) (x : ℤ) (rest : Option (List ℤ)) → option_map (λ ys. found ++ ys) (option_map (λ ys. x ∷ ys) rest) ≡ option_map (λ ys. (found ++ x ∷ []) ++ ys) rest
moved found x None = refl
moved found x (Some ys) = ap Some (sym (append_assoc found (x ∷ []) ys))

module _ (place : Place) (found : List ℤ) (left : List Tree) (all : Option (List ℤ)) (e : Tree) (later : List Tree) (is : left ≡ e ∷ later) where
  pub valued_holds : IsValued place found left all → IsSafe place e
  valued_holds l = (subst (λ es. AreSafe place (trees es)) is l.holds).0

  pub valued_more : (x : ℤ) (new : List ℤ) → Some x ≡ (meaning place e).value → new ≡ found ++ x ∷ [] → IsValued place found left all → IsValued place new later all
  valued_more x new there put l =
      record {
        holds = (subst (λ es. AreSafe place (trees es)) is l.holds).1;
        rest = ap (λ zs. option_map (λ ys. zs ++ ys) (defined_values place (trees later))) put
            ∙ sym (moved found x (defined_values place (trees later)))
            ∙ ap (λ o. option_map (λ ys. found ++ ys) (both_of (λ z zs. z ∷ zs) o (defined_values place (trees later)))) there
            ∙ ap (λ es. option_map (λ ys. found ++ ys) (defined_values place (trees es))) (sym is)
            ∙ l.rest;
      }

-- Chains of `+` and `-`.
pub record IsSummed (place : Place) (sum : ℤ) (i : ℕ) (left : List (Bool × Tree)) (all : Option ℤ) : Type 0 where
  pub holds : TermsAreSafe place (terms left)
  pub bound : unsigned_abs sum ≤ 9223372036854775808 * i
  pub rest : option_map (λ y. sum +ℤ y) (sum_value place (terms left)) ≡ all

module _ (place : Place) (sum : ℤ) (i : ℕ) (left : List (Bool × Tree)) (all : Option ℤ) where
  pub summed_holds : (p : Bool × Tree) (later : List (Bool × Tree)) → left ≡ p ∷ later → IsSummed place sum i left all → IsSafe place p.1
  summed_holds p later is l = (subst (λ ps. TermsAreSafe place (terms ps)) is l.holds).0

  abbrev signed : Bool → ℤ → ℤ
  signed minus x = if minus then neg_ℤ x else x

  added : (minus : Bool) (x : ℤ) (rest : Option ℤ)
      → option_map (λ y. sum +ℤ y) (option_map (λ y. signed minus x +ℤ y) rest) ≡ option_map (λ y. (sum +ℤ signed minus x) +ℤ y) rest
  added minus x None = refl
  added minus x (Some y) = ap Some (sym (+ℤ_assoc sum (signed minus x) y))

  pub summed_more : (p : Bool × Tree) (later : List (Bool × Tree)) (x new : ℤ) (next : ℕ) → left ≡ p ∷ later → Some x ≡ (meaning place p.1).value → new ≡ sum +ℤ signed p.0 x
      → unsigned_abs new ≤ 9223372036854775808 * next → IsSummed place sum i left all → IsSummed place new next later all
  summed_more p later x new next is there put bound l =
      record {
        holds = (subst (λ ps. TermsAreSafe place (terms ps)) is l.holds).1;
        bound = bound;
        rest = ap (λ z. option_map (λ y. z +ℤ y) (sum_value place (terms later))) put
            ∙ sym (added p.0 x (sum_value place (terms later)))
            ∙ ap (λ o. option_map (λ y. sum +ℤ y) (both_of (λ z y. signed p.0 z +ℤ y) o (sum_value place (terms later)))) there
            ∙ ap (λ ps. option_map (λ y. sum +ℤ y) (sum_value place (terms ps))) (sym is)
            ∙ l.rest;
      }

-- Products.
pub record IsMultiplied (place : Place) (before : Option ℤ) (left : List (MulOp × Tree)) (all : Option ℤ) : Type 0 where
  pub holds : FactorsAreSafe place before (factors left)
  pub rest : product_value place before (factors left) ≡ all

first_factor : (place : Place) (before : Option ℤ) (op : MulOp) (e : Tree) (later : Factors) → FactorsAreSafe place before (factor op e later) → FactorsAreSafe place before (factor op e no_factor)
first_factor place before Times e later safe = (safe.0, safe.1, tt)
first_factor place before Div e later safe = (safe.0, safe.1, tt)
first_factor place before Mod e later safe = (safe.0, safe.1, tt)

module _ (place : Place) (before : Option ℤ) (left : List (MulOp × Tree)) (all : Option ℤ) where
  pub multiplied_holds : (p : MulOp × Tree) (later : List (MulOp × Tree)) → left ≡ p ∷ later → IsMultiplied place before left all
      → FactorsAreSafe place before (factor p.0 p.1 no_factor)
  multiplied_holds p later is l = first_factor place before p.0 p.1 (factors later) (subst (λ ps. FactorsAreSafe place before (factors ps)) is l.holds)

-- Conditions.
pub record IsTested (place : Place) (test : Trees → Bool) (left : List Tree) (all : Bool) : Type 0 where
  pub holds : AreTestable place (trees left)
  pub rest : test (trees left) ≡ all

pub tested_holds : (place : Place) (left : List Tree) (all : Bool) (e : Tree) (later : List Tree) → left ≡ e ∷ later → (test : Trees → Bool) → IsTested place test left all → IsTestable place e
tested_holds place left all e later is test l = (subst (λ es. AreTestable place (trees es)) is l.holds).0

-- what may be evaluated as a number may be so as a condition
pub testable : (place : Place) (e : Tree) → IsSafe place e → IsTestable place e
testable place (Node at (t.Lit z)) safe = tt
testable place (Node at (t.Name name)) safe = tt
testable place (Node at (t.Index name es)) safe = tt
testable place (Node at (t.Call f e)) safe = tt
testable place (Node at (t.Add parts)) safe = tt
testable place (Node at (t.Mul first others)) safe = tt
testable place (Node at (t.Cmp op a b)) safe = safe
testable place (Node at (t.Not e)) safe = safe
testable place (Node at (t.And es)) safe = safe
testable place (Node at (t.Or es)) safe = safe
testable place (Node at (t.Implies a b)) safe = safe
testable place (Node at (t.Sum bs e)) safe = tt
testable place (Node at (t.Selected which es)) safe = tt
testable place (Node at (t.AllDifferent bs e)) safe = safe
testable place (Node at (t.Cumulative bs start duration demand capacity)) safe = safe

pub ruleset testing = (testable)

-- What is handed on.
pub values_either : (r : Result (Option (Vec ℤ Global)) AllocError) (a b : Option (List ℤ)) → a ≡ b → IfOk r (λ xs. option_map items xs ≡ a) → IfOk r (λ xs. option_map items xs ≡ b)
values_either (Ok xs) a b same is = is ∙ same
values_either (Err e) a b same is = tt

pub truth_either : (r : Result Bool AllocError) (a b : Bool) → a ≡ b → IfOk r (λ holds. holds ≡ a) → IfOk r (λ holds. holds ≡ b)
truth_either (Ok holds) a b same is = is ∙ same
truth_either (Err e) a b same is = tt

-- tasks, and their numbers
numbers_back : (ts : List Task) → tasks_of (task_numbers ts) ≡ ts
numbers_back [] = refl
numbers_back (t ∷ ts) = ap (λ rest. t ∷ rest) (numbers_back ts)

pub tasks_back : (o : Option (Vec ℤ Global)) (ts : Option (List Task)) → option_map items o ≡ option_map task_numbers ts → option_map (λ xs. tasks_of (items xs)) o ≡ ts
tasks_back None None same = refl
tasks_back None (Some ts) same = absurd (none-some (task_numbers ts) same)
tasks_back (Some xs) None same = absurd (none-some (items xs) (sym same))
tasks_back (Some xs) (Some ts) same = ap Some (ap tasks_of (same_Some (items xs) (task_numbers ts) same) ∙ numbers_back ts)

-- a sum with one more has room
pub bound_more : (sum x : ℤ) (i : ℕ) (minus : Bool) → unsigned_abs sum ≤ 9223372036854775808 * i → unsigned_abs x ≤ 9223372036854775808
    → unsigned_abs (sum +ℤ (if minus then neg_ℤ x else x)) ≤ 9223372036854775808 * (i + 1)
bound_more sum x i true one two = omega (arith, ints, one, two)
bound_more sum x i false one two = omega (arith, ints, one, two)
