-- Whether a point is rightly told.
use Rattle.std.proofs.Common.{◌≡◌, ◌∙◌, ◌↔◌, inl, inr, ◌<◌, ◌≤◌, ◌+◌, ℕ, zero, suc, ℤ, Bool, true, false, List, [], ◌∷◌, ◌++◌, length, map, Option, None, Some, IsTrue, Contains, not, refl, sym, subst, arith}
use Rattle.std.specs.Bool.{Decides}
use Rattle.std.specs.List.{flat_map, range_with_len}
use Rattle.std.proofs.lemmas.List.Elements.{Contains-append_cases}
use Rattle.sopl_base.specs.declared.direction.Direction.{Direction}
use Rattle.sopl_base.specs.declared.reason.Reason.{Reason}
use Rattle.sopl_base.specs.declared.reason.Reason.TheVariants.{Hard, Chance, Undefined, Bound}
use Rattle.sopl_base.specs.Better.{IsBetter}
use Rattle.sopl_base.proofs.Naturals.{one_more as more}
use Rattle.box_problem.specs.Box.{Box, Inside, IsPoint, low, high}
use Rattle.box_problem.specs.BoxProblem.{BoxProblem}
use Rattle.box_problem.proofs.Boxes.{point_in_box}
use Rattle.term_problem.specs.Problems.{ProblemTerms, direction_in}
use Rattle.term_problem.specs.Refuted.{refutes}
use Rattle.term_problem.specs.Search.{reasons_of}
use Rattle.term_program.specs.declared.program.Program.{Program}
use Rattle.term_program.specs.Programs.{IsMade, problem_in, root_in}
use Rattle.term_program.specs.Stated.{box_problem_of}
use Rattle.term_program.proofs.Lawful.{lawful_of}
use Rattle.log_rows.specs.declared.rows.Footer.{Footer}
use Rattle.log_rows.specs.declared.rows.Footer.TheVariants.{Optimal, Infeasible, Bounded}
use Rattle.log_rows.specs.Accepted.{IsClaimed, claimed}
use Rattle.log_rows.proofs.Lists.{first_or_later, none_has}
use Rattle.log_check.specs.Judged.{IsWithinClaim}
use Rattle.log_check.specs.Closing.{ChancesOpen, DefinedOpen, HardOpen, HardsOpen, IsClosing, IsPointOf, IsWrongPoint, NoneCloses}

-- cells
pub record AreOne (b : Box) (n : ℕ) : Type 0 where
  pub each : (cell : ℕ) → cell < n → low b cell ≡ high b cell

pub one_none : (b : Box) → AreOne b 0
one_none b = record { each = λ cell below. absurd (omega (arith, below)) }

pub one_more : (b : Box) (i : ℕ) (lo hi : ℤ) → AreOne b i → lo ≡ low b i → hi ≡ high b i → lo ≡ hi → AreOne b (i + 1)
one_more b i lo hi before low_is high_is same = record { each = more (λ cell. low b cell ≡ high b cell) i before.each (sym low_is ∙ same ∙ high_is) }

pub all_one : (b : Box) (i n : ℕ) → n ≡ length b.lows → n ≤ i → AreOne b i → Decides true (IsPoint b)
all_one b i n count past are = (λ holds cell exists. are.each cell (omega (arith, count, past, exists)), λ point. refl)

pub not_one : (b : Box) (i n : ℕ) (lo hi : ℤ) → n ≡ length b.lows → i < n → lo ≡ low b i → hi ≡ high b i → ¬ (lo ≡ hi) → Decides false (IsPoint b)
not_one b i n lo hi count exists low_is high_is differ = (λ holds. absurd (cc), λ point. absurd (differ (low_is ∙ point i (omega (arith, count, exists)) ∙ sym high_is)))

module _ (problem : BoxProblem) (b : Box) where
  pub is_closing : (reason : Reason) (result : Bool) → result ≡ problem.refutes reason b None → result ≡ true → IsClosing problem b reason
  is_closing reason result is holds = record { closed = sym is ∙ holds }

  -- hard constraints
  pub hards_none : (i : ℕ) → HardOpen problem b i 0
  hards_none i = record { each = λ s below. absurd (omega (arith, below)) }

  pub hards_more : (i s : ℕ) (result : Bool) → HardOpen problem b i s → result ≡ problem.refutes (Hard i s) b None → result ≡ false → HardOpen problem b i (s + 1)
  hards_more i s result before is fails = record { each = more (λ k. problem.refutes (Hard i k) b None ≡ false) s before.each (sym is ∙ fails) }

  pub hards_all : (i s n : ℕ) → n ≤ s → HardOpen problem b i s → HardOpen problem b i n
  hards_all i s n past before = record { each = λ k below. before.each k (omega (arith, past, below)) }

  pub instances_none : (n : ℕ) → HardsOpen problem b 0 n
  instances_none n = record { each = λ i below. absurd (omega (arith, below)) }

  pub instances_more : (i n : ℕ) → HardsOpen problem b i n → HardOpen problem b i n → HardsOpen problem b (i + 1) n
  instances_more i n before here = record { each = more (λ k. HardOpen problem b k n) i before.each here }

  pub instances_all : (i m n : ℕ) → m ≤ i → HardsOpen problem b i n → HardsOpen problem b m n
  instances_all i m n past before = record { each = λ k below. before.each k (omega (arith, past, below)) }

  -- chance constraints
  pub chances_none : ChancesOpen problem b 0
  chances_none = record { each = λ i below. absurd (omega (arith, below)) }

  pub chances_more : (i : ℕ) (result : Bool) → ChancesOpen problem b i → result ≡ problem.refutes (Chance i) b None → result ≡ false → ChancesOpen problem b (i + 1)
  chances_more i result before is fails = record { each = more (λ k. problem.refutes (Chance k) b None ≡ false) i before.each (sym is ∙ fails) }

  pub chances_all : (i n : ℕ) → n ≤ i → ChancesOpen problem b i → ChancesOpen problem b n
  chances_all i n past before = record { each = λ k below. before.each k (omega (arith, past, below)) }

  -- the objective
  pub defined_none : DefinedOpen problem b 0
  defined_none = record { each = λ s below. absurd (omega (arith, below)) }

  pub defined_more : (s : ℕ) (result : Bool) → DefinedOpen problem b s → result ≡ problem.refutes (Undefined s) b None → result ≡ false → DefinedOpen problem b (s + 1)
  defined_more s result before is fails = record { each = more (λ k. problem.refutes (Undefined k) b None ≡ false) s before.each (sym is ∙ fails) }

  pub defined_all : (s n : ℕ) → n ≤ s → DefinedOpen problem b s → DefinedOpen problem b n
  defined_all s n past before = record { each = λ k below. before.each k (omega (arith, past, below)) }

-- all reasons
in_range : (a n k : ℕ) → Contains (range_with_len a n) k → k < a + n
in_range a zero k has = absurd (none_has k has)
in_range a (suc n) k has =
    elim (first_or_later a (range_with_len (a + 1) n) k has) [
      | inl same ↦ omega (arith, same)
      | inr later ↦ omega (arith, in_range (a + 1) n k later)
    ]

is_number : (n k : ℕ) → Contains (range_with_len 0 n) k → k < n
is_number n k has = omega (arith, in_range 0 n k has)

in_map : (P : Reason → Type 0) (f : ℕ → Reason) (ns : List ℕ) → ((k : ℕ) → Contains ns k → P (f k)) → (r : Reason) → Contains (map f ns) r → P r
in_map P f [] each r has = absurd (none_has r has)
in_map P f (n ∷ ns) each r has =
    elim (first_or_later (f n) (map f ns) r has) [
      | inl same ↦ subst P same (each n (zero, omega arith, refl))
      | inr later ↦ in_map P f ns (λ k is. each k (suc is.0, omega (arith, is.1), is.2)) r later
    ]

in_flat : (P : Reason → Type 0) (f : ℕ → List Reason) (ns : List ℕ) → ((k : ℕ) → Contains ns k → (r : Reason) → Contains (f k) r → P r) → (r : Reason) → Contains (flat_map f ns) r → P r
in_flat P f [] each r has = absurd (none_has r has)
in_flat P f (n ∷ ns) each r has =
    elim (Contains-append_cases (f n) (flat_map f ns) r has) [
      | inl here ↦ each n (zero, omega arith, refl) r here
      | inr later ↦ in_flat P f ns (λ k is. each k (suc is.0, omega (arith, is.1), is.2)) r later
    ]

each_kind : (P : Reason → Type 0) (terms : ProblemTerms) → ((i : ℕ) → i < length terms.hards → (s : ℕ) → s < length terms.weights → P (Hard i s)) → ((i : ℕ) → i < length terms.chances → P (Chance i))
    → ((s : ℕ) → s < length terms.weights → P (Undefined s)) → P Bound → (r : Reason) → Contains (reasons_of terms) r → P r
each_kind P terms hards chances defined bound r has =
    elim (Contains-append_cases ((hard_ones ++ chance_ones) ++ undefined_ones) (Bound ∷ []) r has) [
      | inr last ↦ elim (first_or_later Bound [] r last) [
        | inl same ↦ subst P same bound
        | inr none ↦ absurd (none_has r none)
      ]
      | inl others ↦ elim (Contains-append_cases (hard_ones ++ chance_ones) undefined_ones r others) [
        | inr undefined ↦ in_map P Undefined (range_with_len 0 (length terms.weights)) (λ s is. defined s (is_number (length terms.weights) s is)) r undefined
        | inl rest ↦ elim (Contains-append_cases hard_ones chance_ones r rest) [
          | inr chance ↦ in_map P Chance (range_with_len 0 (length terms.chances)) (λ i is. chances i (is_number (length terms.chances) i is)) r chance
          | inl hard ↦ in_flat P (λ i. map (Hard i) (range_with_len 0 (length terms.weights))) (range_with_len 0 (length terms.hards))
              (λ i is q there. in_map P (Hard i) (range_with_len 0 (length terms.weights)) (λ s is_s. hards i (is_number (length terms.hards) i is) s (is_number (length terms.weights) s is_s)) q there) r hard
        ]
      ]
    ]
  where
    hard_ones : List Reason
    hard_ones = flat_map (λ i. map (Hard i) (range_with_len 0 (length terms.weights))) (range_with_len 0 (length terms.hards))

    chance_ones : List Reason
    chance_ones = map Chance (range_with_len 0 (length terms.chances))

    undefined_ones : List Reason
    undefined_ones = map Undefined (range_with_len 0 (length terms.weights))

pub none_closes : (program : Program) (b : Box) → HardsOpen (box_problem_of program) b (length (problem_in program).hards) (length (problem_in program).weights)
    → ChancesOpen (box_problem_of program) b (length (problem_in program).chances) → DefinedOpen (box_problem_of program) b (length (problem_in program).weights) → NoneCloses (box_problem_of program) b
unfolding box_problem_of
none_closes program b hards chances defined = record {
  each = each_kind (λ r. refutes (root_in program) (problem_in program) r b None ≡ false) (problem_in program) (λ i below s within. (hards.each i below).each s within) chances.each defined.each refl;
}

-- the claim
pub claim_none : (direction : Direction) (claim : Option ℤ) (value : ℤ) → claim ≡ None → Decides false (IsWithinClaim direction value claim)
claim_none direction claim value none = subst (λ (o : Option ℤ). Decides false (IsWithinClaim direction value o)) (sym none) (λ holds. absurd (cc), λ within. absurd within)

pub claim_some : (direction : Direction) (claim : Option ℤ) (v value : ℤ) (result more : Bool) → claim ≡ Some v → IsTrue more ↔ IsBetter direction value v → result ≡ not more → Decides result (IsWithinClaim direction value claim)
claim_some direction claim v value result more some is told =
    subst (λ (o : Option ℤ). Decides result (IsWithinClaim direction value o)) (sym some) (subst (λ r. Decides r (¬ IsBetter direction value v)) (sym told) (decided more is))
  where
    decided : (m : Bool) → IsTrue m ↔ IsBetter direction value v → Decides (not m) (¬ IsBetter direction value v)
    decided true is = (λ holds. absurd (cc), λ within. absurd (within (is.0 refl)))
    decided false is = (λ holds better. let clash : false ≡ true = is.1 better in absurd (cc), λ within. refl)

within_is : (problem : BoxProblem) (footer : Footer) (value : ℤ) → IsWithinClaim problem.direction value (claimed footer) → IsClaimed problem footer value
within_is problem (Optimal v) value within = within
within_is problem Infeasible value within = within
within_is problem (Bounded None bound) value within = within
within_is problem (Bounded (Some v) bound) value within = within

is_within : (problem : BoxProblem) (footer : Footer) (value : ℤ) → IsClaimed problem footer value → IsWithinClaim problem.direction value (claimed footer)
is_within problem (Optimal v) value within = within
is_within problem Infeasible value within = within
is_within problem (Bounded None bound) value within = within
is_within problem (Bounded (Some v) bound) value within = within

direction_is : (program : Program) → direction_in (problem_in program) ≡ (box_problem_of program).direction
unfolding box_problem_of
direction_is program = refl

-- the point
pub no_point : (problem : BoxProblem) (footer : Footer) (b : Box) (result : Bool) → Decides result (IsPoint b) → result ≡ false → IsWrongPoint problem footer b
no_point problem footer b result decides fails = record { wrong = λ right. let clash : true ≡ false = sym (decides.1 right.one) ∙ fails in absurd (cc) }

pub not_satisfying : (program : Program) (footer : Footer) (b : Box) (reason : Reason) → IsMade program → Inside b (box_problem_of program).root → IsClosing (box_problem_of program) b reason
    → IsWrongPoint (box_problem_of program) footer b
not_satisfying program footer b reason made inside closing = record {
  wrong = λ right. (lawful_of program made).sound reason b None b.lows inside closing.closed (point_in_box b inside.is_box right.one) (record { satisfies = right.satisfies; better = tt });
}

satisfying : (program : Program) (b : Box) → IsMade program → Inside b (box_problem_of program).root → IsPoint b → NoneCloses (box_problem_of program) b → (box_problem_of program).satisfies b.lows ≡ true
satisfying program b made inside one quiet = ((lawful_of program made).exact b None inside one quiet.each).satisfies

value_is : (program : Program) (b : Box) (value : ℤ) → IsMade program → Inside b (box_problem_of program).root → IsPoint b → NoneCloses (box_problem_of program) b → value ≡ (box_problem_of program).end b
    → value ≡ (box_problem_of program).value b.lows
value_is program b value made inside one quiet is = is ∙ (lawful_of program made).end_exact b inside one (satisfying program b made inside one quiet)

module _ (program : Program) (footer : Footer) (b : Box) (point : Bool) (direction : Direction) (claim : Option ℤ) (value : ℤ) (result : Bool) (made : IsMade program) (inside : Inside b (box_problem_of program).root)
    (decides : Decides point (IsPoint b)) (holds : point ≡ true) (quiet : NoneCloses (box_problem_of program) b) (end : value ≡ (box_problem_of program).end b)
    (toward : direction ≡ direction_in (problem_in program)) (claims : claim ≡ claimed footer) (within : Decides result (IsWithinClaim direction value claim)) where
  moved : Decides result (IsWithinClaim (box_problem_of program).direction value (claimed footer))
  moved = subst (λ d. Decides result (IsWithinClaim d value (claimed footer))) (toward ∙ direction_is program) (subst (λ o. Decides result (IsWithinClaim direction value o)) claims within)

  worth : value ≡ (box_problem_of program).value b.lows
  worth = value_is program b value made inside (decides.0 holds) quiet end

  pub not_claimed : result ≡ false → IsWrongPoint (box_problem_of program) footer b
  not_claimed fails = record {
    wrong = λ right.
        let there : IsWithinClaim (box_problem_of program).direction value (claimed footer) =
        is_within (box_problem_of program) footer value (subst (IsClaimed (box_problem_of program) footer) (sym worth) right.value) in
        let clash : true ≡ false = sym (moved.1 there) ∙ fails in absurd (cc);
  }

  pub right_point : result ≡ true → IsPointOf (box_problem_of program) footer b value
  right_point is = record {
    right = record {
      one = decides.0 holds;
      satisfies = satisfying program b made inside (decides.0 holds) quiet;
      value = subst (IsClaimed (box_problem_of program) footer) worth (within_is (box_problem_of program) footer value (moved.0 is));
    };
    is = worth;
  }
