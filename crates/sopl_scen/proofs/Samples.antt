-- The decisions and the stochastic variables of the tests are as a text states them.
use Rattle.std.proofs.Common.{◌≡◌, ◌≤◌, ◌^◌, ℕ, zero, suc, ℤ, pos, negsuc, ◌≤ℤ◌, List, [], ◌∷◌, arith, refl, sym, subst}
use Rattle.std.proofs.Math.ListN.{replicate}
use Rattle.std.proofs.lemmas.Int.{ints}
use Rattle.std.proofs.lemmas.List.{length-replicate}
use Rattle.std.specs.List.{AllByRecursion}
use Rattle.sopl_ast.specs.Instances.{Stochastic}
use Rattle.unfold_laws.specs.Bounds.{IsBoundedDecision, IsBoundedStochastic, IsStage}
use Rattle.scen_laws.specs.Laws.{HasOutcome, IsByStage}
use Rattle.sopl_scen.specs.Layout.{AreStated}
use Rattle.sopl_scen.specs.Samples.{decided, drawn}

decided_bounded : (hi : ℤ) (stage : ℕ) → pos 0 ≤ℤ hi → hi ≤ℤ pos 65535 → IsStage stage → IsBoundedDecision (decided hi stage)
decided_bounded (pos n) stage least most is =
    record { least = omega arith; greatest = omega (arith, ints, most); ordered = least; few = omega (arith, ints, most); stage = is }
decided_bounded (negsuc n) stage least most is = absurd (below n least)
  where
    below : (k : ℕ) → pos 0 ≤ℤ negsuc k → ⊥
    below k order = omega (arith, ints, order)

-- a weight that constants have
pub record IsWeight (w : ℤ) : Type 0 where
  pub least : pos 1 ≤ℤ w
  pub most : w ≤ℤ pos (2 ^ 40)

drawn_bounded : (one three : ℤ) (stage : ℕ) → IsWeight one → IsWeight three → IsStage stage → IsBoundedStochastic (drawn one three stage)
drawn_bounded one three stage first second is =
    record {
      outcomes = (
        record { value = omega arith; weight = omega (arith, ints, first.least, first.most); least = first.least },
        (record { value = omega arith; weight = omega (arith, ints, second.least, second.most); least = second.least }, tt),
      );
      distinct = refl;
      stage = is;
    }

drawn_outcome : (one three : ℤ) (stage : ℕ) → HasOutcome (drawn one three stage)
drawn_outcome one three stage = omega arith

all_same : (P : Stochastic → Type 0) (n : ℕ) (s : Stochastic) → P s → AllByRecursion P (replicate n s)
all_same P zero s is = tt
all_same P (suc n) s is = (is, all_same P n s is)

same_by_stage : (n : ℕ) (s : Stochastic) → IsByStage (replicate n s)
same_by_stage zero s = tt
same_by_stage (suc n) s = (all_same (λ (t : Stochastic). s.stage ≤ t.stage) n s (omega arith), same_by_stage n s)

pub many_stated : (many : ℕ) (one three hi : ℤ) (constraints : ℕ) (ss : List Stochastic) → many ≤ 20 → IsWeight one → IsWeight three
    → pos 0 ≤ℤ hi → hi ≤ℤ pos 65535 → constraints ≤ 1000 → ss ≡ replicate many (drawn one three 1) → AreStated (decided hi 2 ∷ []) ss constraints
many_stated many one three hi constraints ss few first second least most beside is =
    subst (λ list. AreStated (decided hi 2 ∷ []) list constraints) (sym is)
    (record {
      decisions = (decided_bounded hi 2 least most (omega arith, omega arith), tt);
      outcomes = all_same HasOutcome many (drawn one three 1) (drawn_outcome one three 1);
      stochastics = all_same IsBoundedStochastic many (drawn one three 1) (drawn_bounded one three 1 first second (omega arith, omega arith));
      ordered = same_by_stage many (drawn one three 1);
      few = omega (arith, length-replicate many (drawn one three 1), few, beside);
    })
