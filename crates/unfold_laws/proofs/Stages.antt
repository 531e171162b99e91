-- Stochastic variables by stage.
use Rattle.std.proofs.Common.{nat_eq, List, [], ◌∷◌}
use Rattle.std.specs.List.{flat_map, filter, range_with_len, AllByRecursion}
use Rattle.sopl_base.proofs.Lists.{all_append, all_filter}
use Rattle.sopl_ast.specs.Instances.{Stochastic}
use Rattle.sopl_ast.specs.Unfolding.{by_stage}

pub all_flat_map : {A B : Type 0} (P : B → Type 0) (f : A → List B) → ((x : A) → AllByRecursion P (f x)) → (xs : List A) → AllByRecursion P (flat_map f xs)
all_flat_map P f each [] = tt
all_flat_map P f each (x ∷ xs) = all_append P (f x) (flat_map f xs) (each x) (all_flat_map P f each xs)

pub all_by_stage : (P : Stochastic → Type 0) (ss : List Stochastic) → AllByRecursion P ss → AllByRecursion P (by_stage ss)
unfolding by_stage
all_by_stage P ss all =
    all_flat_map P (λ stage. filter (λ (s : Stochastic). nat_eq s.stage stage) ss) (λ stage. all_filter P (λ (s : Stochastic). nat_eq s.stage stage) ss all) (range_with_len 1 24)
