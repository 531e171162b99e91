-- Lists of one reason.
use Rattle.std.proofs.Common.{◌≡◌, List, [], ◌∷◌, get_or, arith, refl, sym, ap, subst, ◌∙◌}
use Rattle.std.specs.List.{Contains}
use Rattle.sopl_base.specs.declared.reason.Reason.{Reason}

-- such a list has that one
only_one : (own reason : Reason) → Contains (own ∷ []) reason → reason ≡ own
only_one own reason here =
    let first : here.0 ≡ 0 = omega (arith, here.1) in
    sym here.2 ∙ ap (λ n. get_or (own ∷ []) n reason) first

pub itself : (own : Reason) → Contains (own ∷ []) own
itself own = (0, omega arith, refl)

-- what holds for the one reason holds for each of the list
pub for_each : (own : Reason) (P : Reason → Type 0) → P own → (reason : Reason) → Contains (own ∷ []) reason → P reason
for_each own P holds reason here = subst P (sym (only_one own reason here)) holds
