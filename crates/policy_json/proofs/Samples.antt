-- The decisions and the stochastic variables of the tests are as a text states them.
use Rattle.std.proofs.Common.{◌≡◌, ℕ, List, true, arith, refl, sym, subst}
use Rattle.std.proofs.lemmas.Int.{ints}
use Rattle.std.specs.List.{list_all}
use Rattle.sopl_ast.specs.Instances.{Decision, Stochastic, names_in}
use Rattle.sopl_ast.specs.Pieces.{is_word}
use Rattle.unfold_laws.specs.Bounds.{IsBoundedDecision, IsBoundedStochastic, IsStage}
use Rattle.sopl_scen.specs.Layout.{AreStated}
use Rattle.policy_json.specs.Samples.{decided, drawn, sample_decisions, sample_stochastics}

decided_bounded : (name stage : ℕ) → IsStage stage → IsBoundedDecision (decided name stage)
decided_bounded name stage is =
    record { least = omega arith; greatest = omega (arith, ints); ordered = omega (arith, ints); few = omega (arith, ints); stage = is }

drawn_bounded : (name stage : ℕ) → IsStage stage → IsBoundedStochastic (drawn name stage)
drawn_bounded name stage is =
    record {
      outcomes = (
        record { value = omega arith; weight = omega arith; least = omega (arith, ints) },
        (record { value = omega arith; weight = omega arith; least = omega (arith, ints) }, tt),
      );
      distinct = refl;
      stage = is;
    }

stated : AreStated sample_decisions sample_stochastics 0
stated =
    record {
      decisions = (decided_bounded 120 1 (omega arith, omega arith), (decided_bounded 121 2 (omega arith, omega arith), tt));
      outcomes = (omega arith, (omega arith, tt));
      stochastics = (drawn_bounded 100 1 (omega arith, omega arith), (drawn_bounded 101 2 (omega arith, omega arith), tt));
      ordered = ((omega arith, tt), (tt, tt));
      few = omega arith;
    }

pub sample_stated : (ds : List Decision) (ss : List Stochastic) → ds ≡ sample_decisions → ss ≡ sample_stochastics → AreStated ds ss 0
sample_stated ds ss one two =
    subst (λ list. AreStated list ss 0) (sym one) (subst (λ list. AreStated sample_decisions list 0) (sym two) stated)

pub sample_words : (ds : List Decision) (ss : List Stochastic) → ds ≡ sample_decisions → ss ≡ sample_stochastics → list_all is_word (names_in ds ss) ≡ true
sample_words ds ss one two = λ i. list_all is_word (names_in (one i) (two i))
