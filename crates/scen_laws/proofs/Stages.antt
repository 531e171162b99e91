-- The stochastic variables of a text are by stage.
use Rattle.std.proofs.Common.{◌≡◌, ◌++◌, ◌+◌, ◌≤◌, ℕ, zero, suc, Bool, true, false, cond, nat_eq, List, [], ◌∷◌, arith, refl}
use Rattle.std.proofs.lemmas.Bool.{eqb-true}
use Rattle.std.specs.List.{AllByRecursion, flat_map, filter, range_with_len}
use Rattle.sopl_base.proofs.Lists.{all_append}
use Rattle.sopl_ast.specs.Instances.{Stochastic}
use Rattle.sopl_ast.specs.Declarations.{nothing_declared, behind_all}
use Rattle.sopl_ast.specs.Unfolding.{by_stage, problem_of}
use Rattle.scen_laws.specs.Laws.{IsByStage, StochasticsAscend}

-- all of one stage
abbrev AllAt : ℕ → List Stochastic → Type 0
AllAt stage ss = AllByRecursion (λ (s : Stochastic). s.stage ≡ stage) ss

filtered : (stage : ℕ) (ss : List Stochastic) → AllAt stage (filter (λ (s : Stochastic). nat_eq s.stage stage) ss)
filtered stage [] = tt
filtered stage (s ∷ ss) = on (nat_eq s.stage stage) refl (filtered stage ss)
  where
    on : (b : Bool) → nat_eq s.stage stage ≡ b → AllAt stage (filter (λ (t : Stochastic). nat_eq t.stage stage) ss)
        → AllAt stage (cond b (s ∷ filter (λ (t : Stochastic). nat_eq t.stage stage) ss) (filter (λ (t : Stochastic). nat_eq t.stage stage) ss))
    on true is later = (eqb-true s.stage stage is, later)
    on false is later = later

-- all of this stage or of later ones
abbrev pub AllFrom : ℕ → List Stochastic → Type 0
AllFrom stage ss = AllByRecursion (λ (s : Stochastic). stage ≤ s.stage) ss

from_one : (first stage : ℕ) → first ≤ stage → (ss : List Stochastic) → AllAt stage ss → AllFrom first ss
from_one first stage order [] all = tt
from_one first stage order (s ∷ ss) all =
    let here : s.stage ≡ stage = all.0 in
    (omega arith, from_one first stage order ss all.1)

pub from_later : (first stage : ℕ) → first ≤ stage → (ss : List Stochastic) → AllFrom stage ss → AllFrom first ss
from_later first stage order [] all = tt
from_later first stage order (s ∷ ss) all =
    let here : stage ≤ s.stage = all.0 in
    (omega arith, from_later first stage order ss all.1)

-- the variables of a stage and those of the later ones
before_later : (stage : ℕ) (xs ys : List Stochastic) → AllAt stage xs → AllFrom stage ys → IsByStage ys → IsByStage (xs ++ ys)
before_later stage [] ys here later ascend = ascend
before_later stage (x ∷ xs) ys here later ascend =
    let at : x.stage ≡ stage = here.0 in
    let order : x.stage ≤ stage = omega arith in (
      all_append (λ (t : Stochastic). x.stage ≤ t.stage) xs ys (from_one x.stage stage order xs here.1) (from_later x.stage stage order ys later),
      before_later stage xs ys here.1 later ascend,
    )

-- the variables of some stages
of_stages : List Stochastic → ℕ → ℕ → List Stochastic
of_stages ss first n = flat_map (λ stage. filter (λ (s : Stochastic). nat_eq s.stage stage) ss) (range_with_len first n)

all_from : (ss : List Stochastic) (first n : ℕ) → AllFrom first (of_stages ss first n)
unfolding of_stages
all_from ss first zero = tt
all_from ss first (suc n) =
    all_append (λ (s : Stochastic). first ≤ s.stage) (filter (λ (s : Stochastic). nat_eq s.stage first) ss) (of_stages ss (first + 1) n)
    (from_one first first (omega arith) (filter (λ (s : Stochastic). nat_eq s.stage first) ss) (filtered first ss))
    (from_later first (first + 1) (omega arith) (of_stages ss (first + 1) n) (all_from ss (first + 1) n))

ascending : (ss : List Stochastic) (first n : ℕ) → IsByStage (of_stages ss first n)
unfolding of_stages
ascending ss first zero = tt
ascending ss first (suc n) =
    before_later first (filter (λ (s : Stochastic). nat_eq s.stage first) ss) (of_stages ss (first + 1) n) (filtered first ss)
    (from_later first (first + 1) (omega arith) (of_stages ss (first + 1) n) (all_from ss (first + 1) n)) (ascending ss (first + 1) n)

pub stochastics_ascend : StochasticsAscend
unfolding problem_of by_stage of_stages
stochastics_ascend model = ascending (behind_all model.decls nothing_declared).stochastics 1 24
