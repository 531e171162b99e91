-- The bound of an objective of which the worst scenario counts, scenario by scenario.
use Rattle.std.proofs.Common.{◌≡◌, ◌∙◌, ◌⊎◌, inl, inr, ℕ, zero, suc, ◌+◌, ◌<◌, ◌≤◌, ℤ, pos, ◌≤ℤ◌, ◌<ℤ◌, int_le, Bool, true, false, List, [], ◌∷◌, ◌++◌, Option, Some, None, IfSome, if◌then◌else◌, slice_get, length, arith, refl, ap, subst, sym}
use Rattle.std.specs.List.{AllByRecursion}
use Rattle.std.specs.Option.{option_and_then, option_map_or}
use Rattle.std.proofs.lemmas.Int.{ints, clamps}
use Rattle.std.proofs.lemmas.List.{length-append, map-append}
use Rattle.std.proofs.lemmas.Option.{same_Some, slice_get_within}
use Rattle.sopl_base.proofs.Lists.{all_append}
use Rattle.sopl_base.proofs.Tests.{le_test, le_tested, le_untest}
use Rattle.sopl_base.specs.declared.direction.Direction.{Direction}
use Rattle.sopl_base.specs.declared.direction.Direction.TheVariants.{Minimize, Maximize, Nothing}
use Rattle.sopl_base.specs.declared.reason.Reason.TheVariants.{Bound}
use Rattle.box_problem.specs.Box.{Box, Inside}
use Rattle.term_language.specs.Ends.{Ends, scaled}
use Rattle.term_language.specs.Mentions.{mentions}
use Rattle.term_language.specs.Rules.{Near, interval}
use Rattle.term_language.specs.Terms.{Term}
use Rattle.term_language.proofs.Agreement.{intervals_agree}
use Rattle.term_language.proofs.FormValues.{by_bool}
use Rattle.term_language.proofs.Products.{one-*ℤ}
use Rattle.term_goals.specs.declared.sums.Atom.{Atom}
use Rattle.term_nodes.specs.Things.{term_at}
use Rattle.term_problem.specs.Objective.{better_end, expected_ends, goal_ends, goal_ends_of, worse_ends, worst_ends}
use Rattle.term_problem.specs.Points.{worse}
use Rattle.term_problem.specs.Problems.{GoalTerms, direction_in}
use Rattle.term_problem.specs.Refuted.{refutes}
use Rattle.term_program.specs.declared.program.Program.{Program}
use Rattle.term_program.specs.Mentions.{atom_ids}
use Rattle.term_program.specs.Programs.{IsListedTerm, IsMade, no_better, problem_in, root_in, things_in, with_interval}
use Rattle.term_program.proofs.Ending.{closes_by}
use Rattle.term_program.proofs.Ranges.{ordered_over}
use Rattle.prop_shave.proofs.Leaving.{some_there}
use Rattle.prop_shave.proofs.Mentioned.{untouched, with_agrees}
use Rattle.prop_shave.specs.GoalSums.{is_touched, part_at, part_over, touches_at}
use Rattle.prop_goal.specs.Cells.{term_in}
use Rattle.prop_goal.specs.KeptParts.{AreAlike}
use Rattle.prop_goal.specs.KeptWorst.{AreScenarioTerms, AreWorst, FitsWorst}
use Rattle.prop_goal.specs.declared.kept_worst.KeptWorst.{KeptWorst}
use Rattle.prop_goal.proofs.KeptParts.{one_each_on}

-- the worse of two ends is no better than a value where one of them is
worse_first : (direction : Direction) (p q v : ℤ) → no_better direction p v ≡ true → no_better direction (worse direction p q) v ≡ true
worse_first Minimize p q v is = let order = le_tested v p is in le_test v (worse Minimize p q) (omega (arith, ints, clamps, order))
worse_first Maximize p q v is = let order = le_tested p v is in le_test (worse Maximize p q) v (omega (arith, ints, clamps, order))
worse_first Nothing p q v is = refl

worse_second : (direction : Direction) (p q v : ℤ) → no_better direction q v ≡ true → no_better direction (worse direction p q) v ≡ true
worse_second Minimize p q v is = let order = le_tested v q is in le_test v (worse Minimize p q) (omega (arith, ints, clamps, order))
worse_second Maximize p q v is = let order = le_tested q v is in le_test (worse Maximize p q) v (omega (arith, ints, clamps, order))
worse_second Nothing p q v is = refl

-- and better where both are
untested : (a b : ℤ) → int_le a b ≡ false → b <ℤ a
untested a b is = grind (arith, ints, is)

worse_better : (direction : Direction) (p q v : ℤ) → no_better direction p v ≡ false → no_better direction q v ≡ false → no_better direction (worse direction p q) v ≡ false
worse_better Minimize p q v first second =
    let one = untested v p first in
    let two = untested v q second in
    le_untest v (worse Minimize p q) (omega (arith, ints, clamps, one, two))
worse_better Maximize p q v first second =
    let one = untested p v first in
    let two = untested q v second in
    le_untest (worse Maximize p q) v (omega (arith, ints, clamps, one, two))
worse_better Nothing p q v first second = absurd (cc)

worse_end_is : (direction : Direction) (x y : Ends) → better_end direction (worse_ends direction x y) ≡ worse direction (better_end direction x) (better_end direction y)
worse_end_is Minimize x y = refl
worse_end_is Maximize x y = refl
worse_end_is Nothing x y = refl

-- so it is with the worst of several terms
all_better : (direction : Direction) (root b : Box) (v : ℤ) (ts : List Term) → 1 ≤ length ts
    → ((i : ℕ) (t : Term) → slice_get ts i ≡ Some t → no_better direction (better_end direction (interval Near root b t)) v ≡ false)
    → no_better direction (better_end direction (worst_ends direction root b ts)) v ≡ false
all_better direction root b v [] some each = absurd (omega (arith, some))
all_better direction root b v (t ∷ []) some each = each 0 t refl
all_better direction root b v (t ∷ u ∷ later) some each =
    let rest = all_better direction root b v (u ∷ later) (omega arith) (λ i x at. each (suc i) x at) in
    ap (λ (z : ℤ). no_better direction z v) (worse_end_is direction (interval Near root b t) (worst_ends direction root b (u ∷ later)))
    ∙ worse_better direction (better_end direction (interval Near root b t)) (better_end direction (worst_ends direction root b (u ∷ later))) v (each 0 t refl) rest

one_beaten : (direction : Direction) (root b : Box) (v : ℤ) (ts : List Term) (i : ℕ) (t : Term) → slice_get ts i ≡ Some t
    → no_better direction (better_end direction (interval Near root b t)) v ≡ true → no_better direction (better_end direction (worst_ends direction root b ts)) v ≡ true
one_beaten direction root b v [] i t at is = absurd (cc)
one_beaten direction root b v (x ∷ []) zero t at is = ap (λ (u : Term). no_better direction (better_end direction (interval Near root b u)) v) (same_Some x t at) ∙ is
one_beaten direction root b v (x ∷ []) (suc i) t at is = absurd (cc)
one_beaten direction root b v (x ∷ y ∷ later) zero t at is =
    ap (λ (z : ℤ). no_better direction z v) (worse_end_is direction (interval Near root b x) (worst_ends direction root b (y ∷ later)))
    ∙ worse_first direction (better_end direction (interval Near root b x)) (better_end direction (worst_ends direction root b (y ∷ later))) v
    (ap (λ (u : Term). no_better direction (better_end direction (interval Near root b u)) v) (same_Some x t at) ∙ is)
one_beaten direction root b v (x ∷ y ∷ later) (suc i) t at is =
    ap (λ (z : ℤ). no_better direction z v) (worse_end_is direction (interval Near root b x) (worst_ends direction root b (y ∷ later)))
    ∙ worse_second direction (better_end direction (interval Near root b x)) (better_end direction (worst_ends direction root b (y ∷ later))) v
    (one_beaten direction root b v (y ∷ later) i t at is)

-- and with the objective
abbrev direction_of : Option GoalTerms → Direction
direction_of goal = option_map_or (λ (g : GoalTerms). g.direction) goal Nothing

abbrev terms_of : Option GoalTerms → ℕ → Option Term
terms_of goal i = option_and_then (λ (g : GoalTerms). slice_get g.terms i) goal

abbrev counts_worst : Option GoalTerms → Bool
counts_worst goal = option_map_or (λ (g : GoalTerms). g.worst) goal false

abbrev ends_over : Box → Box → List ℤ → Option GoalTerms → Ends
ends_over root b weights goal = option_map_or (goal_ends_of root b weights) goal (record { low = pos 0; high = pos 0 })

abbrev HasTerms : Option GoalTerms → ℕ → Type 0
HasTerms goal n = IfSome goal (λ (g : GoalTerms). (length g.terms ≡ n) × (¬ g.direction ≡ Nothing))

goal_better : (root b : Box) (weights : List ℤ) (v : ℤ) (goal : Option GoalTerms) (n : ℕ) → 1 ≤ n → HasTerms goal n → counts_worst goal ≡ true
    → ((i : ℕ) (t : Term) → terms_of goal i ≡ Some t → no_better (direction_of goal) (better_end (direction_of goal) (interval Near root b t)) v ≡ false)
    → no_better (direction_of goal) (better_end (direction_of goal) (ends_over root b weights goal)) v ≡ false
goal_better root b weights v None n some few is each = absurd (cc)
goal_better root b weights v (Some g) n some few is each =
    ap (λ (w : Bool). no_better g.direction (better_end g.direction (if w then worst_ends g.direction root b g.terms else expected_ends root b weights g.terms)) v) is
    ∙ all_better g.direction root b v g.terms (omega (arith, some, few.0)) each

goal_beaten : (root b : Box) (weights : List ℤ) (v : ℤ) (goal : Option GoalTerms) (i : ℕ) (t : Term) → counts_worst goal ≡ true → terms_of goal i ≡ Some t
    → no_better (direction_of goal) (better_end (direction_of goal) (interval Near root b t)) v ≡ true
    → no_better (direction_of goal) (better_end (direction_of goal) (ends_over root b weights goal)) v ≡ true
goal_beaten root b weights v None i t is at beaten = absurd (cc)
goal_beaten root b weights v (Some g) i t is at beaten =
    ap (λ (w : Bool). no_better g.direction (better_end g.direction (if w then worst_ends g.direction root b g.terms else expected_ends root b weights g.terms)) v) is
    ∙ one_beaten g.direction root b v g.terms i t at beaten

term_below : (goal : Option GoalTerms) (n i : ℕ) (t : Term) → HasTerms goal n → terms_of goal i ≡ Some t → i < n
term_below None n i t few at = absurd (cc)
term_below (Some g) n i t few at = let below = slice_get_within g.terms i t at in omega (arith, below, few.0)

-- there is a term in each scenario
pub no_term_lacks : {A : Type 0} (goal : Option GoalTerms) (n i : ℕ) → HasTerms goal n → counts_worst goal ≡ true → i < n → None ≡ terms_of goal i → A
no_term_lacks None n i few is below at = absurd (cc)
no_term_lacks (Some g) n i few is below at = let there = some_there g.terms i (omega (arith, below, few.0)) in absurd (let found = there.1 in cc)

-- a term once has the ends of the term
once_end : (direction : Direction) (e : Ends) → e.low ≤ℤ e.high → better_end direction (scaled (pos 1) e) ≡ better_end direction e
once_end Minimize e ordered = let first = one-*ℤ e.low in let last = one-*ℤ e.high in omega (arith, ints, clamps, first, last, ordered)
once_end Maximize e ordered = let first = one-*ℤ e.low in let last = one-*ℤ e.high in omega (arith, ints, clamps, first, last, ordered)
once_end Nothing e ordered = refl

pub part_once : (program : Program) (b : Box) (a : Atom) → IsMade program → Inside b (root_in program) → a.k ≡ pos 1
    → part_over (direction_in (problem_in program)) (root_in program) (things_in program) b a
    ≡ better_end (direction_in (problem_in program)) (interval Near (root_in program) b (term_at (things_in program) a.term))
part_once program b a made inside once =
    let e = interval Near (root_in program) b (term_at (things_in program) a.term) in
    ap (λ (k : ℤ). better_end (direction_in (problem_in program)) (scaled k e)) once
    ∙ once_end (direction_in (problem_in program)) e (ordered_over program a.term b (record { low = e.low; high = e.high }) made inside refl)

-- the scenarios of the parts that are kept
module _ (program : Program) (atoms : List Atom) (b : Box) (v : ℤ) (made : IsMade program) (are : AreWorst program atoms) (inside : Inside b (root_in program)) where
  -- the better end in a scenario
  scenario_end : (i : ℕ) (t : Term) → i < length atoms → term_in (problem_in program) i ≡ Some t
      → part_at program atoms b i ≡ better_end (direction_in (problem_in program)) (interval Near (root_in program) b t)
  scenario_end i t below at =
      let there = some_there atoms i below in
      let is = are.terms.each i there.0 there.1 in
      ap (λ (o : Option Atom). option_map_or (part_over (direction_in (problem_in program)) (root_in program) (things_in program) b) o (pos 0)) there.1
      ∙ part_once program b there.0 made inside is.once
      ∙ ap (λ (u : Term). better_end (direction_in (problem_in program)) (interval Near (root_in program) b u)) (same_Some (term_at (things_in program) there.0.term) t (sym is.term ∙ at))

  -- the bound does not close the box where each of them is better than a value
  pub open_by_scenarios : ((i : ℕ) → i < length atoms → no_better (direction_in (problem_in program)) (part_at program atoms b i) v ≡ false)
      → refutes (root_in program) (problem_in program) Bound b (Some v) ≡ false
  open_by_scenarios each =
      let root = root_in program in
      let terms = problem_in program in
      sym (closes_by root b terms (better_end (direction_in terms) (goal_ends root b terms)) v (no_better (direction_in terms) (better_end (direction_in terms) (goal_ends root b terms)) v) refl refl)
      ∙ goal_better root b terms.weights v terms.goal (length terms.weights) made.problem.first made.problem.goal are.worst
      (λ i t at.
      let below = term_below terms.goal (length terms.weights) i t made.problem.goal at in
      let here : i < length atoms = omega (arith, below, are.terms.as_many) in
      ap (λ (z : ℤ). no_better (direction_in terms) z v) (sym (scenario_end i t here at)) ∙ each i here)

  -- and closes it where one of them is not
  pub closed_by_scenario : (i : ℕ) → i < length atoms → no_better (direction_in (problem_in program)) (part_at program atoms b i) v ≡ true
      → refutes (root_in program) (problem_in program) Bound b (Some v) ≡ true
  closed_by_scenario i below beaten =
      let root = root_in program in
      let terms = problem_in program in
      let there = some_there atoms i below in
      let at = (are.terms.each i there.0 there.1).term in
      sym (closes_by root b terms (better_end (direction_in terms) (goal_ends root b terms)) v (no_better (direction_in terms) (better_end (direction_in terms) (goal_ends root b terms)) v) refl refl)
      ∙ goal_beaten root b terms.weights v terms.goal i (term_at (things_in program) there.0.term) are.worst at
      (ap (λ (z : ℤ). no_better (direction_in terms) z v) (sym (scenario_end i (term_at (things_in program) there.0.term) below at)) ∙ beaten)

  pub each_better : refutes (root_in program) (problem_in program) Bound b (Some v) ≡ false → (i : ℕ) → i < length atoms
      → no_better (direction_in (problem_in program)) (part_at program atoms b i) v ≡ false
  each_better whole i below =
      by_bool (λ t. no_better (direction_in (problem_in program)) (part_at program atoms b i) v ≡ t → t ≡ false) (no_better (direction_in (problem_in program)) (part_at program atoms b i) v)
      (λ met is. sym (closed_by_scenario i below is) ∙ whole) (λ unmet is. refl) refl

-- a scenario that does not mention a cell
pub apart_same : (program : Program) (atoms : List Atom) (b : Box) (cell : ℕ) (lo hi : ℤ) (i : ℕ) → touches_at (root_in program) (things_in program) atoms cell i ≡ false
    → part_at program atoms (with_interval b cell lo hi) i ≡ part_at program atoms b i
apart_same program atoms b cell lo hi i apart = by_atom (slice_get atoms i) apart
  where
    by_atom : (o : Option Atom) → option_map_or (is_touched (root_in program) (things_in program) cell) o false ≡ false
        → option_map_or (part_over (direction_in (problem_in program)) (root_in program) (things_in program) (with_interval b cell lo hi)) o (pos 0)
        ≡ option_map_or (part_over (direction_in (problem_in program)) (root_in program) (things_in program) b) o (pos 0)
    by_atom None apart = refl
    by_atom (Some a) apart =
        let t = term_at (things_in program) a.term in
        ap (λ (e : Ends). better_end (direction_in (problem_in program)) (scaled a.k e))
        (intervals_agree Near (root_in program) (with_interval b cell lo hi) b t (with_agrees (mentions (root_in program) t) b cell lo hi (untouched cell (mentions (root_in program) t) apart)))

-- one scenario's term more, and of all
pub no_terms : (program : Program) → AreScenarioTerms program 0 []
no_terms program = record { each = λ scenario a at. absurd (cc); as_many = refl; exist = tt; listed = tt }

at_append : (atoms : List Atom) (a x : Atom) (i : ℕ) → slice_get (atoms ++ a ∷ []) i ≡ Some x → ((i < length atoms) × (slice_get atoms i ≡ Some x)) ⊎ ((i ≡ length atoms) × (x ≡ a))
at_append [] a x zero at = inr (refl, sym (same_Some a x at))
at_append [] a x (suc i) at = absurd (cc)
at_append (y ∷ atoms) a x zero at = inl (omega arith, at)
at_append (y ∷ atoms) a x (suc i) at =
    elim (at_append atoms a x i at) [
      | inl before ↦ inl (let below = before.0 in omega (arith, below), before.1)
      | inr last ↦ inr (ap suc last.0, last.1)
    ]

pub term_more : (program : Program) (n : ℕ) (old new : List Atom) (a : Atom) → new ≡ old ++ a ∷ [] → a.k ≡ pos 1
    → Some (term_at (things_in program) a.term) ≡ term_in (problem_in program) n → a.term < length (things_in program) → IsListedTerm program a.term → AreScenarioTerms program n old
    → AreScenarioTerms program (n + 1) new
term_more program n old new a put once term exists listed are =
    subst (AreScenarioTerms program (n + 1)) (sym put)
    (record {
      each = λ i x at. elim (at_append old a x i at) [
        | inl before ↦ are.each i x before.1
        | inr last ↦ record {
          once = ap (λ (y : Atom). y.k) last.1 ∙ once;
          term = ap (term_in (problem_in program)) (last.0 ∙ are.as_many) ∙ sym (ap (λ (y : Atom). Some (term_at (things_in program) y.term)) last.1 ∙ term);
        }
      ];
      as_many = let long = length-append old (a ∷ []) in omega (arith, long, are.as_many);
      exist = all_append (λ (y : Atom). y.term < length (things_in program)) old (a ∷ []) are.exist (exists, tt);
      listed = subst (AllByRecursion (IsListedTerm program)) (sym (map-append (λ (y : Atom). y.term) old (a ∷ [])))
          (all_append (IsListedTerm program) (atom_ids old) (a.term ∷ []) are.listed (listed, tt));
    })

pub terms_to : (program : Program) (n i : ℕ) (atoms : List Atom) → n ≤ i → i ≤ n → AreScenarioTerms program i atoms → AreScenarioTerms program n atoms
terms_to program n i atoms past within are = subst (λ (k : ℕ). AreScenarioTerms program k atoms) (let same : i ≡ n = omega (arith, past, within) in same) are

-- what fits still does where other ends are kept
pub worst_fits : (old new : KeptWorst) → AreAlike old.parts new.parts → (program : Program) → FitsWorst old program → FitsWorst new program
worst_fits old new alike program fits = record {
  are = subst (λ list. AreWorst program list.items) (sym alike.atoms) fits.are;
  one_each = one_each_on old.parts new.parts alike fits.one_each;
}
