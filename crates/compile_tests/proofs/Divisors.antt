-- What has a number other than 0 passes as a divisor.
use Rattle.std.proofs.Common.{◌≡◌, refl, sym, ap, subst, ◌∙◌, ℕ, ℤ, pos, true, false, not, Some, Ok, IsOk}
use Rattle.std.specs.Ordering.{int_eq}
use Rattle.sopl_ast.specs.Tree.{Tree, place_of}
use Rattle.sopl_ast.specs.Known.{Known}
use Rattle.sopl_ast.specs.Constants.{value}
use Rattle.sopl_ast.specs.UnfoldEvents.{first_failure, is_zero, refused_unless, constant_place, divisor_events}
use Rattle.unfold_laws.specs.Passing.{NothingFails}
use Rattle.unfold_laws.proofs.Passing.{behind, met_append}

pub divisor_passes : (known : Known) (e : Tree) (before after : ℕ) (x : ℤ) → before ≡ 0 → first_failure before (constant_place known e) ≡ Ok after
    → value known e ≡ Some x → int_eq x (pos 0) ≡ false → NothingFails (divisor_events known e)
divisor_passes known e before after x none walked there nonzero =
    let start : first_failure 0 (constant_place known e) ≡ Ok after = subst (λ n. first_failure n (constant_place known e) ≡ Ok after) none walked in
    let test : not (is_zero (value known e)) ≡ true = ap (λ v. not (is_zero v)) there ∙ ap not nonzero in
    subst IsOk (sym (met_append 0 (constant_place known e) (refused_unless (not (is_zero (value known e))) 110 (place_of e))))
    (subst (λ m. IsOk (behind m (refused_unless (not (is_zero (value known e))) 110 (place_of e)))) (sym start)
    (subst (λ b. IsOk (first_failure after (refused_unless b 110 (place_of e)))) (sym test) refl))
