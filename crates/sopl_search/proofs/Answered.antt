-- What is answered of the boxes that are open.
use Rattle.std.proofs.Common.{◌≡◌, inl, inr, ℕ, ℤ, List, [], ◌∷◌, length, Option, Some, None, IfSome, Any, Contains, IsPermutation, arith, refl, sym, ap, subst}
use Rattle.std.proofs.lemmas.List.Sorted.{All-permutation, Contains-permutation, length_permutation}
use Rattle.sopl_base.specs.Better.{IsBetter}
use Rattle.box_problem.specs.Box.{Box}
use Rattle.box_problem.specs.BoxProblem.{BoxProblem}
use Rattle.box_problem.specs.Opens.{IsBound, IsUnsettled}
use Rattle.box_problem.proofs.Bounds.{bound_holds, bound_is_hopeful}
use Rattle.box_problem.proofs.Nodes.{none_at_last}
use Rattle.box_problem.proofs.Opens.{covers_bound, not_better_than_itself}
use Rattle.sopl_search.specs.declared.outcome.Found.{Found}
use Rattle.sopl_search.specs.declared.outcome.Outcome.{Outcome}
use Rattle.sopl_search.specs.declared.outcome.Outcome.TheVariants.{Optimal, Infeasible, Bounded}
use Rattle.sopl_search.specs.Ends.{IsPosed}
use Rattle.sopl_search.specs.Frontiers.{IsSound}
use Rattle.sopl_search.specs.Outcomes.{EndsBy, HasCause, IsGood, IsTrueOf, found_of, value_of}

hopeful : (problem : BoxProblem) (best : Option Found) (bs : List Box) (bound : ℤ) → IsBound problem (value_of best) bs bound
    → IfSome best (λ (found : Found). IsBetter problem.direction bound found.value) → IfSome best (λ (found : Found). Any (λ b. IsBetter problem.direction (problem.end b) found.value) bs)
hopeful problem None bs bound is better = tt
hopeful problem (Some found) bs bound is better = bound_is_hopeful problem found.value bs bound is better

-- the order of the boxes is free
any_shuffled : (P : Box → Type 0) (bs cs : List Box) → IsPermutation bs cs → Any P bs → Any P cs
any_shuffled P bs cs moved some =
    let has : Contains cs some.1 = Contains-permutation bs cs some.1 moved (some.0, some.2, some.3) in
    (has.0, some.1, has.1, has.2, some.4)

bound_shuffled : (problem : BoxProblem) (v : Option ℤ) (bs cs : List Box) (bound : ℤ) → IsPermutation bs cs → IsBound problem v bs bound → IsBound problem v cs bound
bound_shuffled problem v bs cs bound moved is = record {
  reached = is.reached;
  ends = All-permutation (λ b. ¬ IsBetter problem.direction (problem.end b) bound) bs cs moved is.ends;
  one_of_them = elim is.one_of_them [
    | inl same ↦ inl same
    | inr some ↦ inr (any_shuffled (λ b. bound ≡ problem.end b) bs cs moved some)
  ];
}

none_shuffled : (bs cs : List Box) → IsPermutation bs cs → bs ≡ [] → cs ≡ []
none_shuffled bs [] moved none = refl
none_shuffled bs (c ∷ cs) moved none = absurd (omega (arith, length_permutation bs (c ∷ cs) moved, ap length none))

hopeful_shuffled : (problem : BoxProblem) (best : Option Found) (bs cs : List Box) → IsPermutation bs cs
    → IfSome best (λ (found : Found). Any (λ b. IsBetter problem.direction (problem.end b) found.value) bs)
    → IfSome best (λ (found : Found). Any (λ b. IsBetter problem.direction (problem.end b) found.value) cs)
hopeful_shuffled problem None bs cs moved some = tt
hopeful_shuffled problem (Some found) bs cs moved some = any_shuffled (λ b. IsBetter problem.direction (problem.end b) found.value) bs cs moved some

pub ends_shuffled : (problem : BoxProblem) (best : Option Found) (bs cs : List Box) (outcome : Outcome) → IsPermutation bs cs → EndsBy problem best bs outcome → EndsBy problem best cs outcome
ends_shuffled problem best bs cs (Optimal value cells) moved ends =
    (ends.0, All-permutation (λ b. ¬ IsBetter problem.direction (problem.end b) value) bs cs moved ends.1)
ends_shuffled problem best bs cs Infeasible moved ends = (ends.0, none_shuffled bs cs moved ends.1)
ends_shuffled problem best bs cs (Bounded found bound) moved ends = (
  ends.0,
  bound_shuffled problem (value_of best) bs cs bound moved ends.1,
  omega (arith, length_permutation bs cs moved, ends.2),
  hopeful_shuffled problem best bs cs moved ends.3,
)

-- it is true of all points
pub ends_true : (problem : BoxProblem) (best : Option Found) (finished : ℕ) (bs : List Box) (outcome : Outcome) → IsPosed problem → IsSound problem best finished bs → EndsBy problem best bs outcome
    → IsTrueOf problem outcome
ends_true problem best finished bs (Optimal value cells) posed sound ends =
    let there : IsSound problem (Some (found_of value cells)) finished bs = subst (λ (found : Option Found). IsSound problem found finished bs) ends.0 sound in (
      there.good,
      λ point inside satisfies. covers_bound problem (Some value) bs value point posed.lawful there.are_open.covers (not_better_than_itself problem.direction value) ends.1 inside satisfies,
    )
ends_true problem best finished bs Infeasible posed sound ends =
    let there : IsSound problem None finished [] = subst (λ (found : Option Found). IsSound problem found finished []) ends.0 (subst (IsSound problem best finished) ends.1 sound) in
    none_at_last problem finished there.are_open
ends_true problem best finished bs (Bounded found bound) posed sound ends = (
  subst (λ (some : Option Found). IfSome some (IsGood problem)) (sym ends.0) sound.good,
  bound_holds problem (value_of best) finished bs bound posed.lawful sound.are_open ends.1,
)

-- and it gives up only where nothing is settled
hopeful_value : (problem : BoxProblem) (best : Option Found) (bs : List Box) → IfSome best (λ (found : Found). Any (λ b. IsBetter problem.direction (problem.end b) found.value) bs)
    → IfSome (value_of best) (λ w. Any (λ b. IsBetter problem.direction (problem.end b) w) bs)
hopeful_value problem None bs some = tt
hopeful_value problem (Some found) bs some = some

pub ends_caused : (problem : BoxProblem) (best : Option Found) (finished : ℕ) (bs : List Box) (outcome : Outcome) → IsSound problem best finished bs → EndsBy problem best bs outcome
    → HasCause problem finished outcome
ends_caused problem best finished bs (Optimal value cells) sound ends = tt
ends_caused problem best finished bs Infeasible sound ends = tt
ends_caused problem best finished bs (Bounded found bound) sound ends =
    subst (λ (v : Option Found). IsUnsettled problem (value_of v) finished bound) (sym ends.0)
    (record {
      opens = bs;
      some = ends.2;
      are_open = sound.are_open;
      is_bound = ends.1;
      hopeful = hopeful_value problem best bs ends.3;
    })
