-- The two sides of a split among open nodes, in either order.
use Rattle.std.proofs.Common.{◌≡◌, inl, inr, ℕ, ℤ, Bool, true, false, List, ◌∷◌, ◌++◌, Option, Contains, sym, subst, ◌∙◌}
use Rattle.sopl_base.specs.declared.reason.Side.TheVariants.{Le, Ge}
use Rattle.box_problem.specs.Box.{Box}
use Rattle.box_problem.specs.BoxProblem.{BoxProblem}
use Rattle.log_rows.specs.declared.rows.Cut.{Cut}
use Rattle.log_rows.specs.declared.rows.Row.{Row}
use Rattle.log_rows.specs.LogLaws.{half}
use Rattle.log_rows.specs.Made.{AreShallow, Logs, Pending}
use Rattle.log_rows.proofs.Lists.{AreApart, middle_apart, middle_is, middle_or_others, others_apart, others_have, put_apart}
use Rattle.log_rows.proofs.Logging.{depths_in_any_order, logs_in_any_order}

-- two neighbours change places
turned_has : {X : Type 0} (left right : List X) (x y z : X) → Contains (left ++ x ∷ y ∷ right) z → Contains (left ++ y ∷ x ∷ right) z
turned_has left right x y z has =
    elim (middle_or_others left (y ∷ right) x z has) [
      | inl first ↦ subst (Contains (left ++ y ∷ x ∷ right)) first (others_have left (x ∷ right) y x (middle_is left right x))
      | inr others ↦ elim (middle_or_others left right y z others) [
        | inl second ↦ subst (Contains (left ++ y ∷ x ∷ right)) second (middle_is left (x ∷ right) y)
        | inr other ↦ others_have left (x ∷ right) y z (others_have left right x z other)
      ]
    ]

turned_apart : {X : Type 0} (left right : List X) (x y : X) → AreApart (left ++ x ∷ y ∷ right) → AreApart (left ++ y ∷ x ∷ right)
turned_apart left right x y apart =
    let without = others_apart left (y ∷ right) x apart in
    put_apart left (x ∷ right) y
    (put_apart left right x (others_apart left right y without) (λ z has. middle_apart left (y ∷ right) x z apart (others_have left right y z has)))
    (λ z has same. elim (middle_or_others left right x z has) [
      | inl first ↦ middle_apart left (y ∷ right) x y apart (middle_is left right y) (first ∙ sym same)
      | inr other ↦ middle_apart left right y z without other same
    ])

pub logs_turned : (problem : BoxProblem) (rows : List Row) (best : Option ℤ) (left right : List Pending) (x y : Pending) → Logs problem rows (left ++ x ∷ y ∷ right) best
    → Logs problem rows (left ++ y ∷ x ∷ right) best
logs_turned problem rows best left right x y logs =
    logs_in_any_order problem rows (left ++ x ∷ y ∷ right) (left ++ y ∷ x ∷ right) best logs (λ z. (turned_has left right x y z, turned_has left right y x z))
    (turned_apart left right x y logs.distinct)

pub depths_turned : (measure : Box → ℕ) (most : ℕ) (rows : List Row) (left right : List Pending) (x y : Pending) → AreShallow measure most rows (left ++ x ∷ y ∷ right)
    → AreShallow measure most rows (left ++ y ∷ x ∷ right)
depths_turned measure most rows left right x y shallow =
    depths_in_any_order measure most rows (left ++ x ∷ y ∷ right) (left ++ y ∷ x ∷ right) shallow (λ z. turned_has left right y x z)

-- the older one and the newer one: the side that is searched first is the newer one
abbrev pub AreSides : Bool → ℕ → Box → Cut → Pending → Pending → Type 0
AreSides true n b cut older newer = (older ≡ half n b cut Ge) × (newer ≡ half n b cut Le)
AreSides false n b cut older newer = (older ≡ half n b cut Le) × (newer ≡ half n b cut Ge)

-- what holds of a list where the high side stands before the low one, and where any two neighbours may change places, holds of these two
pub of_sides : (P : List Pending → Type 0) (left right : List Pending) (n : ℕ) (b : Box) (cut : Cut) (older newer : Pending) (low_first : Bool) → AreSides low_first n b cut older newer
    → ((x y : Pending) → P (left ++ x ∷ y ∷ right) → P (left ++ y ∷ x ∷ right)) → P (left ++ half n b cut Ge ∷ half n b cut Le ∷ right) → P (left ++ older ∷ newer ∷ right)
of_sides P left right n b cut older newer true sides turns holds =
    subst (λ (x : Pending). P (left ++ x ∷ newer ∷ right)) (sym sides.0)
    (subst (λ (y : Pending). P (left ++ half n b cut Ge ∷ y ∷ right)) (sym sides.1) holds)
of_sides P left right n b cut older newer false sides turns holds =
    subst (λ (x : Pending). P (left ++ x ∷ newer ∷ right)) (sym sides.0)
    (subst (λ (y : Pending). P (left ++ half n b cut Le ∷ y ∷ right)) (sym sides.1) (turns (half n b cut Ge) (half n b cut Le) holds))
