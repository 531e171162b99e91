-- Numbers of term nodes that are capped.
use Rattle.std.proofs.Common.{◌≡◌, refl, sym, ap, subst, ◌∙◌, ℕ, zero, suc, ◌+◌, ◌-◌, ◌*◌, ◌^◌, ◌<◌, ◌≤◌, ℤ, pos, ◌+ℤ◌, ◌*ℤ◌, ◌≤ℤ◌, ◌<ℤ◌, min, true, false, ◌⊎◌, inl, inr, [], ◌∷◌, Some, None, arith}
use Rattle.std.proofs.lemmas.Bool.{cases_lt}
use Rattle.std.proofs.lemmas.Int.{ints, clamps}
use Rattle.std.specs.Prelude.{int_le}
use Rattle.std.specs.Int.{w128, saturate_signed, int_min}
use Rattle.sopl_base.specs.declared.codes.TheConstants as codes
use Rattle.sopl_ast.specs.Limits.{first_above, usual_limits}
use Rattle.sopl_ast.specs.UnfoldEvents.{excess}
use Rattle.sopl_scen.proofs.Runs.{one_within, one_above}
use Rattle.compile_counts.specs.Counted.{capped}

pub capped_none : pos 0 ≡ capped 0
unfolding capped
capped_none = refl

pub capped_one : pos 1 ≡ capped 1
unfolding capped
capped_one = refl

pub capped_plus : (a b : ℕ) → saturate_signed w128 (capped a +ℤ capped b) ≡ capped (a + b)
unfolding capped
capped_plus a b = ap pos (omega arith)

times_min : (m : ℕ) (a s : ℕ) → min (min a m * s) m ≡ min (s * a) m
times_min m a zero =
    let left : min a m * 0 ≡ 0 = omega arith in
    let right : 0 * a ≡ 0 = omega arith in
    omega (arith, left, right)
times_min m a (suc k) = by_order (cases_lt m a)
  where
    right : suc k * a ≡ a + k * a
    right = omega arith

    by_order : (m < a) ⊎ (a ≤ m) → min (min a m * suc k) m ≡ min (suc k * a) m
    by_order (inl above) =
        let is : min a m ≡ m = omega (arith, above) in
        let left : m * suc k ≡ m + m * k = omega arith in
        ap (λ n. min (n * suc k) m) is ∙ omega (arith, above, left, right)
    by_order (inr within) =
        let is : min a m ≡ a = omega (arith, within) in
        ap (λ n. min (n * suc k) m) is ∙ ap (λ n. min n m) (omega arith)

pub capped_times : (a s : ℕ) → saturate_signed w128 (capped a *ℤ pos s) ≡ capped (s * a)
unfolding capped
capped_times a s = ap pos (times_min (2 ^ 127 - 1) a s)

capped_least : (a : ℕ) → capped a ≡ int_min (pos a) (pos (2 ^ 127 - 1))
unfolding capped
capped_least a = omega (arith, ints, clamps)

pub few : (a : ℕ) (y z : ℤ) → y ≡ z → z ≡ capped a → int_le y (pos usual_limits.nodes) ≡ true → None ≡ first_above codes.TERM_NODES usual_limits.nodes (pos a ∷ [])
unfolding capped
few a y z same is test =
    let least : int_le (pos (min a (2 ^ 127 - 1))) (pos usual_limits.nodes) ≡ true = subst (λ x. int_le x (pos usual_limits.nodes) ≡ true) (same ∙ is) test in
    let small : pos (min a (2 ^ 127 - 1)) ≤ℤ pos usual_limits.nodes = omega (arith, ints, least) in
    sym (one_within codes.TERM_NODES usual_limits.nodes (pos a) (omega (arith, ints, small)))

pub many : (a : ℕ) (y z : ℤ) → y ≡ z → z ≡ capped a → int_le y (pos usual_limits.nodes) ≡ false → Some (excess codes.TERM_NODES y (pos usual_limits.nodes)) ≡ first_above codes.TERM_NODES usual_limits.nodes (pos a ∷ [])
unfolding capped
many a y z same is test =
    let least : int_le (pos (min a (2 ^ 127 - 1))) (pos usual_limits.nodes) ≡ false = subst (λ x. int_le x (pos usual_limits.nodes) ≡ false) (same ∙ is) test in
    let large : pos usual_limits.nodes <ℤ pos (min a (2 ^ 127 - 1)) = omega (arith, ints, least) in
    sym (one_above codes.TERM_NODES usual_limits.nodes (pos a) (excess codes.TERM_NODES y (pos usual_limits.nodes)) (omega (arith, ints, large))
    (ap (λ x. excess codes.TERM_NODES x (pos usual_limits.nodes)) (same ∙ is ∙ capped_least a)))
