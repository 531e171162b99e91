-- What is made of one number alone, and what folds to a number.
use Rattle.std.proofs.Common.{◌≡◌, ◌+◌, ℤ, unsigned_abs, int_div, int_rem, Bool, true, false, List, [], ◌∷◌, map, if◌then◌else◌, arith, refl}
use Rattle.std.specs.List.{fold}
use Rattle.std.specs.Ordering.{int_eq}
use Rattle.std.proofs.lemmas.Int.{ints, clamps}
use Rattle.sopl_base.specs.Extremes.{chosen_by}
use Rattle.sopl_base.specs.declared.extreme.Extreme.{Extreme}
use Rattle.box_problem.specs.Box.{Box}
use Rattle.term_language.specs.declared.made.Operation.{Operation}
use Rattle.term_language.specs.declared.made.Operation.TheVariants.{Quotient, Remainder, Size}
use Rattle.term_language.specs.Ends.{Ends, ends, exactly, size_of, made_of, made, picked}
use Rattle.term_language.specs.Rules.{folded, unless_folded}
use Rattle.term_language.specs.Sizes.{alone_weight, cells_weight, weight_of}
use Rattle.term_language.proofs.Exactness.{image_exactly}
use Rattle.term_language.proofs.FormValues.{by_if}
use Rattle.term_language.proofs.Operations.{equal_tests}

-- of one number alone they are what is made of it
pub made_exactly : (op : Operation) (z : ℤ) → (made op (exactly z)).high ≡ made_of op z
made_exactly (Quotient divisor) z = omega (arith, ints, clamps)
made_exactly (Remainder divisor) z =
    by_if (λ (a : Ends). a.high ≡ int_rem z divisor.number) (int_eq (int_div z divisor.number) (int_div z divisor.number)) (ends (int_rem z divisor.number) (int_rem z divisor.number)) _
    (λ same. refl)
    (λ differ. let same = equal_tests (int_div z divisor.number) (int_div z divisor.number) refl in absurd (cc))
made_exactly Size z = (image_exactly size_of (exactly z) refl).1

pub fold_exactly : (which : Extreme) (z : ℤ) (zs : List ℤ) → fold (picked which) (exactly z) (map exactly zs) ≡ exactly (fold (chosen_by which) z zs)
fold_exactly which z [] = refl
fold_exactly which z (y ∷ ys) = fold_exactly which (chosen_by which z y) ys

-- the weight of what folds to a number, or is an atom
pub folded_size : (root : Box) (fold : Bool) (z : ℤ) (a : Ends) → unsigned_abs (folded fold z).constant + cells_weight root (folded fold z).cells + alone_weight (folded fold z) (unless_folded fold a)
    ≡ if fold then unsigned_abs z else weight_of a
folded_size root true z a = omega arith
folded_size root false z a = omega arith
