-- Decisions with their numbers.
use Rattle.std.proofs.Common.{◌≡◌, ◌+◌, ◌≤◌, ◌<◌, subst, zero-add, ℕ, zero, suc, nat_eq, List, [], ◌∷◌, length, get_or, take, slice_get, Some, true, arith, inl, inr, refl, sym, ap, ◌∙◌}
use Rattle.std.proofs.lemmas.List.{take_all}
use Rattle.std.proofs.lemmas.List.FromFn.{get_or-enumerate_from, length-enumerate_from}
use Rattle.std.proofs.lemmas.Option.{slice_get_within}
use Rattle.std.specs.List.{enumerate_from}
use Rattle.sopl_ast.specs.Instances.{Decision}
use Rattle.policy_tree.proofs.Members.{In, from_enumerate, from_filter, from_map}
use Rattle.policy_json.specs.Nodes.{numbered_in_stage}
use Rattle.policy_json.specs.Stages.{number_in, numbers_of}

-- an element with its number
abbrev pub numbered : {X : Type 0} → ℕ → X → ℕ × X
numbered i x = (i, x)

-- an element of the numbered elements
pub numbered_at : {X : Type 0} (xs : List X) (i : ℕ) (x : X) → i < length xs → x ≡ get_or xs i x → numbered i x ≡ get_or (enumerate_from 0 xs) i (numbered i x)
numbered_at xs i x within is =
    sym (get_or-enumerate_from 0 xs i (numbered i x) within ∙ (ap (λ n. numbered n (get_or xs i x)) (zero-add i) ∙ ap (numbered i) (sym is)))

-- all numbered elements
pub numbered_all : {X : Type 0} (xs : List X) (i : ℕ) → length xs ≤ i → take i (enumerate_from 0 xs) ≡ enumerate_from 0 xs
numbered_all xs i all = take_all i (enumerate_from 0 xs) (subst (λ n. n ≤ i) (sym (length-enumerate_from 0 xs)) all)

-- a number within the elements is one within the numbered elements
pub numbered_within : {X : Type 0} (xs : List X) (i : ℕ) → i < length xs → i < length (enumerate_from 0 xs)
numbered_within xs i within = subst (λ n. i < n) (sym (length-enumerate_from 0 xs)) within

-- an element stands in its list
In-at : {X : Type 0} (xs : List X) (k : ℕ) (d : X) → k < length xs → In (get_or xs k d) xs
In-at [] k d within = absurd (omega arith)
In-at (x ∷ xs) zero d within = inl refl
In-at (x ∷ xs) (suc k) d within = inr (In-at xs k d (omega arith))

-- a numbered decision of a stage is the decision with its number, and of the stage
pub record IsNumbered (stage : ℕ) (ds : List Decision) (nd : ℕ × Decision) : Type 0 where
  pub decided : slice_get ds nd.0 ≡ Some nd.1
  pub staged : nat_eq nd.1.stage stage ≡ true

pub from_numbered : (stage : ℕ) (ds : List Decision) (nd : ℕ × Decision) → In nd (numbered_in_stage stage (enumerate_from 0 ds)) → IsNumbered stage ds nd
from_numbered stage ds (number, d) within =
    let kept = from_filter (λ (nd : ℕ × Decision). nat_eq nd.1.stage stage) (enumerate_from 0 ds) (number, d) within in
    let placed : (i : ℕ) × (number ≡ 0 + i) × (slice_get ds i ≡ Some d) = from_enumerate 0 ds number d kept.0 in
    let At : ℕ → Type 0 = λ n. slice_get ds n ≡ Some d in
    record { decided = subst At (sym (placed.1 ∙ zero-add placed.0)) placed.2; staged = kept.1 }

-- the numbers of the decisions of a stage are those of decisions
pub numbers_below : (stage : ℕ) (ds : List Decision) (k d : ℕ) → k < length (numbers_of stage ds) → get_or (numbers_of stage ds) k d < length ds
unfolding numbers_of
numbers_below stage ds k d within =
    let from : (nd : ℕ × Decision) × In nd (numbered_in_stage stage (enumerate_from 0 ds)) × (number_in nd ≡ get_or (numbers_of stage ds) k d) =
    from_map number_in (numbered_in_stage stage (enumerate_from 0 ds)) (get_or (numbers_of stage ds) k d) (In-at (numbers_of stage ds) k d within) in
    subst (λ n. n < length ds) from.2 (slice_get_within ds from.0.0 from.0.1 (from_numbered stage ds from.0 from.1).decided)
