-- The objective's value lies in its interval, and at one point is all of it.
use Rattle.std.proofs.Common.{refl, arith, zero, ℤ, pos, Bool, true, false, if◌then◌else◌, List, [], ◌∷◌, All, Option, Some, None, IsSome, IfSome}
use Rattle.std.proofs.lemmas.Int.{ints}
use Rattle.std.specs.List.{AllByRecursion}
use Rattle.sopl_base.specs.declared.direction.Direction.{Direction}
use Rattle.sopl_base.specs.declared.direction.Direction.TheVariants.{Minimize, Maximize, Nothing}
use Rattle.sopl_base.specs.declared.extreme.Extreme.TheVariants.{Least, Greatest}
use Rattle.box_problem.specs.Box.{Box, IsBox, InBox, IsPoint}
use Rattle.term_language.specs.declared.answers.Defined.{Defined}
use Rattle.term_language.specs.declared.answers.Defined.TheVariants.{Never, Maybe, Always}
use Rattle.term_language.specs.Ends.{Ends, Lies, exactly}
use Rattle.term_language.specs.Forms.{Form, whole}
use Rattle.term_language.specs.Laws.{Exact, Marks, IsProper}
use Rattle.term_language.specs.Marks.{both}
use Rattle.term_language.specs.Rules.{Near, form, atoms, mark, interval}
use Rattle.term_language.specs.Terms.{Term}
use Rattle.term_language.specs.Values.{value}
use Rattle.term_language.proofs.Exactness.{IsOne, exact_part, one_whole, one_picked}
use Rattle.term_language.proofs.Layers.{IsRead, both_hold, read_number, read_part}
use Rattle.term_language.proofs.OnPoints.{points_exact}
use Rattle.term_language.proofs.Operations.{in_picked}
use Rattle.term_language.proofs.Soundness.{read, values_lie, lies_some}
use Rattle.term_problem.specs.Points.{expected_value, worse, worst_value, goal_value}
use Rattle.term_problem.specs.Problems.{GoalTerms}
use Rattle.term_problem.proofs.Worth.{behind_first}
use Rattle.term_problem.specs.Objective.{expected_form, expected_atoms, expected_ends, worse_ends, worst_ends, goal_ends_of}

-- the mark of all terms together
abbrev expected_mark : Box → Box → List ℤ → List Term → Defined
expected_mark root b [] terms = Always
expected_mark root b (weight ∷ weights) [] = Always
expected_mark root b (weight ∷ weights) (term ∷ later) = both (mark Near root b term) (expected_mark root b weights later)

-- where a value is there, what is exact holds
pub exact_there : (m : Defined) (fact : Type 0) (v : Option ℤ) → Exact m fact → Marks m v → IsSome v → fact
exact_there Never fact None exact marked there = absurd (cc)
exact_there Never fact (Some x) exact marked there = absurd marked
exact_there Maybe fact v exact marked there = absurd exact
exact_there Always fact v exact marked there = exact

-- the worse of two
worse_lies : (direction : Direction) (x y : ℤ) (a c : Ends) → Lies x a → Lies y c → Lies (worse direction x y) (worse_ends direction a c)
worse_lies Minimize x y a c p q = in_picked Greatest x y a c p q
worse_lies Maximize x y a c p q = in_picked Least x y a c p q
worse_lies Nothing x y a c p q = p

one_worse : (direction : Direction) (a c : Ends) → IsOne a → IsOne c → IsOne (worse_ends direction a c)
one_worse Minimize a c p q = one_picked Greatest a c p q
one_worse Maximize a c p q = one_picked Least a c p q
one_worse Nothing a c p q = p

module _ (root b : Box) (point : List ℤ) (is_box : IsBox b) (inside : InBox b point) where
  expected_read : (weights : List ℤ) (terms : List Term) → AllByRecursion IsProper terms
      → IsRead point (expected_value point weights terms) (expected_form root weights terms) (expected_atoms root b weights terms) (expected_mark root b weights terms)
  expected_read [] terms proper = read_number point (pos 0)
  expected_read (weight ∷ weights) [] proper = read_number point (pos 0)
  expected_read (weight ∷ weights) (term ∷ later) proper =
      read_part point weight (value point term) (expected_value point weights later) (form root term) (expected_form root weights later) (atoms Near root b term) (expected_atoms root b weights later)
      (mark Near root b term) (expected_mark root b weights later)
      (read Near root b point term is_box inside proper.0) (expected_read weights later proper.1)

  expected_lies : (weights : List ℤ) (terms : List Term) → AllByRecursion IsProper terms → IfSome (expected_value point weights terms) (λ z. Lies z (expected_ends root b weights terms))
  expected_lies weights terms proper =
      lies_some b point (expected_value point weights terms) (expected_form root weights terms) (expected_atoms root b weights terms) is_box inside (expected_read weights terms proper).off

  worst_lies : (direction : Direction) (terms : List Term) → AllByRecursion IsProper terms → IfSome (worst_value (worse direction) point terms) (λ z. Lies z (worst_ends direction root b terms))
  worst_lies direction [] proper = tt
  worst_lies direction (last ∷ []) proper = values_lie Near root b point last is_box inside proper.0
  worst_lies direction (first ∷ second ∷ later) proper =
      both_hold (worse direction) (λ z. Lies z (interval Near root b first)) (λ z. Lies z (worst_ends direction root b (second ∷ later)))
      (λ z. Lies z (worst_ends direction root b (first ∷ second ∷ later)))
      (value point first) (worst_value (worse direction) point (second ∷ later))
      (λ x y p q. worse_lies direction x y (interval Near root b first) (worst_ends direction root b (second ∷ later)) p q)
      (values_lie Near root b point first is_box inside proper.0) (worst_lies direction (second ∷ later) proper.1)

  pub goal_lies : (weights : List ℤ) (goal : GoalTerms) → AllByRecursion IsProper goal.terms → IfSome (goal_value point weights goal) (λ z. Lies z (goal_ends_of root b weights goal))
  goal_lies weights goal proper = by_worst goal.worst
    where
      by_worst : (w : Bool) → IfSome (if w then worst_value (worse goal.direction) point goal.terms else expected_value point weights goal.terms)
          (λ z. Lies z (if w then worst_ends goal.direction root b goal.terms else expected_ends root b weights goal.terms))
      by_worst true = worst_lies goal.direction goal.terms proper
      by_worst false = expected_lies weights goal.terms proper

  -- at one point, where all is defined
  abbrev AreThere : List Term → Type 0
  AreThere terms = All (λ term. IsSome (value point term)) terms

  one_interval : IsPoint b → (term : Term) → IsProper term → IsSome (value point term) → IsOne (interval Near root b term)
  one_interval one term proper there =
      exact_there (mark Near root b term) (IsOne (interval Near root b term)) (value point term) (points_exact root b term is_box one proper)
      (read Near root b point term is_box inside proper).marked there

  -- a form is one number on a point, so what else is in it is one as well
  one_atoms : IsPoint b → (f : Form) (a : Ends) → IsOne (whole b f a) → IsOne a
  one_atoms one f a p = let cells = one_whole b f (exactly (pos 0)) is_box one refl in omega (arith, ints, p, cells)

  one_expected_atoms : IsPoint b → (weights : List ℤ) (terms : List Term) → AllByRecursion IsProper terms → AreThere terms → IsOne (expected_atoms root b weights terms)
  one_expected_atoms one [] terms proper all = refl
  one_expected_atoms one (weight ∷ weights) [] proper all = refl
  one_expected_atoms one (weight ∷ weights) (term ∷ later) proper all =
      exact_part weight (atoms Near root b term) (expected_atoms root b weights later) Always Always
      (one_atoms one (form root term) (atoms Near root b term) (one_interval one term proper.0 (all zero term (omega arith))))
      (one_expected_atoms one weights later proper.1 (behind_first point term later all))

  one_expected : IsPoint b → (weights : List ℤ) (terms : List Term) → AllByRecursion IsProper terms → AreThere terms → IsOne (expected_ends root b weights terms)
  one_expected one weights terms proper all =
      one_whole b (expected_form root weights terms) (expected_atoms root b weights terms) is_box one (one_expected_atoms one weights terms proper all)

  one_worst : IsPoint b → (direction : Direction) (terms : List Term) → AllByRecursion IsProper terms → AreThere terms → IsOne (worst_ends direction root b terms)
  one_worst one direction [] proper all = refl
  one_worst one direction (last ∷ []) proper all = one_interval one last proper.0 (all zero last (omega arith))
  one_worst one direction (first ∷ second ∷ later) proper all =
      one_worse direction (interval Near root b first) (worst_ends direction root b (second ∷ later)) (one_interval one first proper.0 (all zero first (omega arith)))
      (one_worst one direction (second ∷ later) proper.1 (behind_first point first (second ∷ later) all))

  pub one_goal : IsPoint b → (weights : List ℤ) (goal : GoalTerms) → AllByRecursion IsProper goal.terms → AreThere goal.terms → IsOne (goal_ends_of root b weights goal)
  one_goal one weights goal proper all = by_worst goal.worst
    where
      by_worst : (w : Bool) → IsOne (if w then worst_ends goal.direction root b goal.terms else expected_ends root b weights goal.terms)
      by_worst true = one_worst one goal.direction goal.terms proper all
      by_worst false = one_expected one weights goal.terms proper all
