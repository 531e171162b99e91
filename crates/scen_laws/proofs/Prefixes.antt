-- The variables of a stage stand behind those of the earlier stages.
use Rattle.std.proofs.Common.{◌≡◌, ◌+◌, ◌≤◌, ◌<◌, ◌++◌, ◌⊎◌, inl, inr, ℕ, suc, nat_lt, nat_eq, Bool, true, false, cond, List, [], ◌∷◌, length, get_or, take, drop, arith, refl, sym}
use Rattle.std.proofs.Common.{ap, ◌∙◌, length-append}
use Rattle.std.proofs.lemmas.Bool.{cases_order}
use Rattle.std.proofs.lemmas.Bool.Decides.{nat_tests}
use Rattle.std.proofs.lemmas.List.{append_assoc, append_cancel_left, get_or-append-add, get_or-take, length-take-le, take-append-drop}
use Rattle.sopl_base.proofs.Tests.{nat_test, nat_untest}
use Rattle.sopl_ast.specs.Instances.{Stochastic}
use Rattle.scen_laws.specs.Laws.{IsByStage, seen_before}
use Rattle.scen_laws.proofs.Stages.{AllFrom, from_later}
use Rattle.scen_laws.specs.BlockLaws.{of_stage}

pub same : (a b : ℕ) → a ≡ b → nat_eq a b ≡ true
same a b h = grind (arith, nat_tests)

pub differ : (a b : ℕ) → (a < b) ⊎ (b < a) → nat_eq a b ≡ false
differ a b (inl h) = grind (arith, nat_tests)
differ a b (inr h) = grind (arith, nat_tests)

-- of these none is seen before the stage
none_before : (stage : ℕ) (ss : List Stochastic) → AllFrom stage ss → seen_before stage ss ≡ 0
none_before stage [] all = refl
none_before stage (s ∷ ss) all = λ i. cond (nat_untest s.stage stage all.0 i) (suc (seen_before stage ss)) 0

-- of these none is of an earlier stage
none_at : (stage later : ℕ) (ss : List Stochastic) → stage < later → AllFrom later ss → of_stage stage ss ≡ []
none_at stage later [] order all = refl
none_at stage later (s ∷ ss) order all =
    let from : later ≤ s.stage = all.0 in
    (λ i. cond (differ s.stage stage (inr (omega (arith, order, from))) i) (s ∷ of_stage stage ss) (of_stage stage ss))
    ∙ none_at stage later ss order all.1

-- the variables of the earlier stages
abbrev pub prefix_of : ℕ → List Stochastic → List Stochastic
prefix_of stage ss = take (seen_before stage ss) ss

-- the others
abbrev pub back_of : ℕ → List Stochastic → List Stochastic
back_of stage ss = drop (seen_before stage ss) ss

pub prefix_next : (stage : ℕ) (ss : List Stochastic) → IsByStage ss → prefix_of (stage + 1) ss ≡ prefix_of stage ss ++ of_stage stage ss
prefix_next stage [] ascend = refl
prefix_next stage (s ∷ ss) ascend =
    elim (cases_order s.stage stage) [
      | inl here ↦ is_at here (prefix_next stage ss ascend.1)
      | inr (inl earlier) ↦ is_before earlier (prefix_next stage ss ascend.1)
      | inr (inr later) ↦ is_behind later
    ]
  where
    turned : (a b c : Bool) → nat_lt s.stage (stage + 1) ≡ a → nat_lt s.stage stage ≡ b → nat_eq s.stage stage ≡ c
        → take (cond a (suc (seen_before (stage + 1) ss)) 0) (s ∷ ss)
        ≡ take (cond b (suc (seen_before stage ss)) 0) (s ∷ ss) ++ cond c (s ∷ of_stage stage ss) (of_stage stage ss)
        → prefix_of (stage + 1) (s ∷ ss) ≡ prefix_of stage (s ∷ ss) ++ of_stage stage (s ∷ ss)
    turned a b c next now at is =
        (λ i. take (cond (next i) (suc (seen_before (stage + 1) ss)) 0) (s ∷ ss))
        ∙ (is ∙ sym (λ i. take (cond (now i) (suc (seen_before stage ss)) 0) (s ∷ ss) ++ cond (at i) (s ∷ of_stage stage ss) (of_stage stage ss)))

    is_before : s.stage < stage → prefix_of (stage + 1) ss ≡ prefix_of stage ss ++ of_stage stage ss
        → prefix_of (stage + 1) (s ∷ ss) ≡ prefix_of stage (s ∷ ss) ++ of_stage stage (s ∷ ss)
    is_before earlier so =
        turned true true false (nat_test s.stage (stage + 1) (omega (arith, earlier))) (nat_test s.stage stage earlier) (differ s.stage stage (inl earlier))
        (ap (λ more. s ∷ more) so)

    is_at : s.stage ≡ stage → prefix_of (stage + 1) ss ≡ prefix_of stage ss ++ of_stage stage ss
        → prefix_of (stage + 1) (s ∷ ss) ≡ prefix_of stage (s ∷ ss) ++ of_stage stage (s ∷ ss)
    is_at here so =
        turned true false true (nat_test s.stage (stage + 1) (omega (arith, here))) (nat_untest s.stage stage (omega (arith, here))) (same s.stage stage here)
        (ap (λ more. s ∷ more)
        (so
        ∙ ap (λ n. take n ss ++ of_stage stage ss) (none_before stage ss (from_later stage s.stage (omega (arith, here)) ss ascend.0))))

    is_behind : stage < s.stage → prefix_of (stage + 1) (s ∷ ss) ≡ prefix_of stage (s ∷ ss) ++ of_stage stage (s ∷ ss)
    is_behind later =
        turned false false false (nat_untest s.stage (stage + 1) (omega (arith, later))) (nat_untest s.stage stage (omega (arith, later))) (differ s.stage stage (inr later))
        (sym (none_at stage s.stage ss later ascend.0))

-- no more variables are seen than there are
pub seen_within : (stage : ℕ) (ss : List Stochastic) → seen_before stage ss ≤ length ss
seen_within stage [] = omega arith
seen_within stage (s ∷ ss) = on (nat_lt s.stage stage) (seen_within stage ss)
  where
    on : (b : Bool) → seen_before stage ss ≤ length ss → cond b (suc (seen_before stage ss)) 0 ≤ suc (length ss)
    on true few = omega (arith, few)
    on false few = omega arith

pub prefix_long : (stage : ℕ) (ss : List Stochastic) → length (prefix_of stage ss) ≡ seen_before stage ss
prefix_long stage ss = length-take-le (seen_before stage ss) ss (seen_within stage ss)

-- the next prefix has the variables of the stage more
pub seen_next : (stage : ℕ) (ss : List Stochastic) → IsByStage ss → seen_before (stage + 1) ss ≡ seen_before stage ss + length (of_stage stage ss)
seen_next stage ss ascend =
    let whole : length (prefix_of (stage + 1) ss) ≡ length (prefix_of stage ss ++ of_stage stage ss) = ap length (prefix_next stage ss ascend) in
    omega (arith, whole, length-append (prefix_of stage ss) (of_stage stage ss), prefix_long stage ss, prefix_long (stage + 1) ss)

-- a variable of the stage, by its place
pub of_stage_at : (stage j : ℕ) (ss : List Stochastic) (d : Stochastic) → IsByStage ss → j < length (of_stage stage ss)
    → get_or ss (seen_before stage ss + j) d ≡ get_or (of_stage stage ss) j d
of_stage_at stage j ss d ascend within =
    let n : ℕ = seen_before stage ss in
    sym (get_or-take (seen_before (stage + 1) ss) ss (n + j) d (omega (arith, seen_next stage ss ascend, within)))
    ∙ (ap (λ list. get_or list (n + j) d) (prefix_next stage ss ascend)
    ∙ (ap (λ k. get_or (prefix_of stage ss ++ of_stage stage ss) (k + j) d) (sym (prefix_long stage ss))
    ∙ get_or-append-add (prefix_of stage ss) (of_stage stage ss) j d))

-- the variables behind a prefix begin with those of the stage
pub back_next : (stage : ℕ) (ss : List Stochastic) → IsByStage ss → back_of stage ss ≡ of_stage stage ss ++ back_of (stage + 1) ss
back_next stage ss ascend =
    append_cancel_left (prefix_of stage ss) (back_of stage ss) (of_stage stage ss ++ back_of (stage + 1) ss)
    (take-append-drop (seen_before stage ss) ss
    ∙ (sym (take-append-drop (seen_before (stage + 1) ss) ss)
    ∙ (ap (λ prefix. prefix ++ back_of (stage + 1) ss) (prefix_next stage ss ascend)
    ∙ append_assoc (prefix_of stage ss) (of_stage stage ss) (back_of (stage + 1) ss))))
