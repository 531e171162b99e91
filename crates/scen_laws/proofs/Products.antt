-- Running products.
use Rattle.std.proofs.Common.{◌≡◌, ◌++◌, ◌-◌, ◌^◌, ℕ, ℤ, pos, ◌*ℤ◌, List, [], ◌∷◌, map, Option, Some, refl, sym, ap, ◌∙◌}
use Rattle.std.specs.Prelude.{int_le, if◌then◌else◌}
use Rattle.std.specs.Int.{int_min}
use Rattle.sopl_base.specs.declared.fault.Excess.{Excess}
use Rattle.sopl_base.proofs.Integers.{*ℤ_assoc}
use Rattle.sopl_base.proofs.Lists.{map-map}
use Rattle.sopl_ast.specs.UnfoldEvents.{excess}
use Rattle.sopl_ast.specs.Instances.{Stochastic}
use Rattle.sopl_ast.specs.Limits.{first_above, prefixes}
use Rattle.lang_laws.proofs.Integers.{one-*ℤ}
use Rattle.scen_laws.specs.Laws.{product_of, first_passed, ProductsRun}
use Rattle.scen_laws.proofs.Splits.{times_one}

-- the product of two parts
pub product_of-append : (f : Stochastic → ℤ) (xs ys : List Stochastic) → product_of f (xs ++ ys) ≡ product_of f xs *ℤ product_of f ys
product_of-append f [] ys = sym (one-*ℤ (product_of f ys))
product_of-append f (x ∷ xs) ys =
    ap (λ z. f x *ℤ z) (product_of-append f xs ys) ∙ sym (*ℤ_assoc (f x) (product_of f xs) (product_of f ys))

-- a limit tested for a product and those behind it
abbrev tested : ℕ → ℕ → ℤ → Option Excess → Option Excess
tested code limit n later = if int_le n (pos limit) then later else Some (excess code (int_min n (pos (2 ^ 127 - 1))) (pos limit))

run : (code limit : ℕ) (f : Stochastic → ℤ) (so_far : ℤ) (ss : List Stochastic)
    → first_above code limit (map (λ prefix. so_far *ℤ product_of f prefix) (prefixes ss)) ≡ first_passed code limit f so_far ss
run code limit f so_far [] = refl
run code limit f so_far (s ∷ ss) =
    (λ i. tested code limit (so_far *ℤ times_one (f s) i) (first_above code limit (map (λ prefix. so_far *ℤ product_of f prefix) (map (λ prefix. s ∷ prefix) (prefixes ss)))))
    ∙ ap (tested code limit (so_far *ℤ f s))
    (ap (first_above code limit)
    (map-map (λ prefix. so_far *ℤ product_of f prefix) (λ prefix. s ∷ prefix) (prefixes ss)
    ∙ (λ i. map (λ (prefix : List Stochastic). sym (*ℤ_assoc so_far (f s) (product_of f prefix)) i) (prefixes ss)))
    ∙ run code limit f (so_far *ℤ f s) ss)

pub products_run : ProductsRun
products_run code limit f ss =
    (λ i. first_above code limit (map (λ (prefix : List Stochastic). sym (one-*ℤ (product_of f prefix)) i) (prefixes ss))) ∙ run code limit f (pos 1) ss
