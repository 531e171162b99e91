-- The earlier of two mistakes, over several.
use Rattle.std.proofs.Common.{◌≡◌, refl, sym, ap, ◌∙◌, List, [], ◌∷◌, ◌++◌, Option, None, Some, arith}
use Rattle.std.proofs.lemmas.Grind.{common_steps}
use Rattle.sopl_base.specs.declared.fault.Refusal.{Refusal}
use Rattle.sopl_types.specs.Earliest.{sooner, earlier_of, earliest}

-- no mistake comes after one
pub earlier_none : (a : Option Refusal) → earlier_of a None ≡ a
earlier_none None = refl
earlier_none (Some a) = refl

sooner_three : (a b c : Refusal) → sooner (sooner a b) c ≡ sooner a (sooner b c)
sooner_three a b c = grind (arith, common_steps)

-- the earlier of three
pub earlier_three : (a b c : Option Refusal) → earlier_of (earlier_of a b) c ≡ earlier_of a (earlier_of b c)
earlier_three None b c = refl
earlier_three (Some a) None c = refl
earlier_three (Some a) (Some b) None = refl
earlier_three (Some a) (Some b) (Some c) = ap Some (sooner_three a b c)

-- the first of some mistakes and of some more
pub earliest_both : (ms ns : List Refusal) → earliest (ms ++ ns) ≡ earlier_of (earliest ms) (earliest ns)
earliest_both [] ns = refl
earliest_both (m ∷ ms) ns = ap (earlier_of (Some m)) (earliest_both ms ns) ∙ sym (earlier_three (Some m) (earliest ms) (earliest ns))
