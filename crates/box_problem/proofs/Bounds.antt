-- The best of what was found and of the better ends over open boxes.
use Rattle.std.proofs.Common.{◌≡◌, inl, inr, ℕ, ◌<◌, ℤ, List, [], ◌∷◌, length, Option, Some, None, Any, arith, refl, subst}
use Rattle.std.proofs.lemmas.List.Elements.{All-nil, All-cons}
use Rattle.sopl_base.specs.Better.{IsBetter}
use Rattle.sopl_base.proofs.Lists.{any_here, any_later}
use Rattle.sopl_base.proofs.Options.{some_turned}
use Rattle.box_problem.specs.Box.{Box, points}
use Rattle.box_problem.specs.BoxProblem.{BoxProblem, Lawful}
use Rattle.box_problem.specs.Covers.{nodes_for}
use Rattle.box_problem.specs.Reached.{NoneBetter}
use Rattle.box_problem.proofs.Opens.{counts_leave, covers_bound, not_better_than_itself, still_not_better}
use Rattle.box_problem.specs.Opens.{AreOpen, IsBetterOf, IsBound, IsUnsettled}
use Rattle.box_problem.proofs.Values.{better_twice}

pub bound_holds : (problem : BoxProblem) (v : Option ℤ) (finished : ℕ) (opens : List Box) (bound : ℤ) → Lawful problem → AreOpen problem v finished opens → IsBound problem v opens bound
    → NoneBetter problem bound
bound_holds problem v finished opens bound lawful all is point q satisfies =
    covers_bound problem v opens bound point lawful all.covers is.reached is.ends q satisfies

pub bound_at_last : (problem : BoxProblem) (v : ℤ) → IsBound problem (Some v) [] v
bound_at_last problem v = record {
  reached = not_better_than_itself problem.direction v;
  ends = All-nil (λ b. ¬ IsBetter problem.direction (problem.end b) v);
  one_of_them = inl refl;
}

-- the first box where nothing was found
first_bound : (problem : BoxProblem) (b : Box) (opens : List Box) (bound : ℤ) → IsBound problem (Some (problem.end b)) opens bound → IsBound problem None (b ∷ opens) bound
first_bound problem b opens bound is = record {
  reached = tt;
  ends = All-cons (λ p. ¬ IsBetter problem.direction (problem.end p) bound) b opens is.reached is.ends;
  one_of_them = elim is.one_of_them [
    | inl same ↦ inr (any_here (λ p. bound ≡ problem.end p) b opens (some_turned (problem.end b) bound same))
    | inr later ↦ inr (any_later (λ p. bound ≡ problem.end p) b opens later)
  ];
}

-- a box whose better end is not better than what was found
kept_bound : (problem : BoxProblem) (w : ℤ) (b : Box) (opens : List Box) (bound : ℤ) → ¬ IsBetter problem.direction (problem.end b) w → IsBound problem (Some w) opens bound
    → IsBound problem (Some w) (b ∷ opens) bound
kept_bound problem w b opens bound worse is = record {
  reached = is.reached;
  ends = All-cons (λ p. ¬ IsBetter problem.direction (problem.end p) bound) b opens (still_not_better problem.direction (problem.end b) w bound worse is.reached) is.ends;
  one_of_them = elim is.one_of_them [
    | inl same ↦ inl same
    | inr later ↦ inr (any_later (λ p. bound ≡ problem.end p) b opens later)
  ];
}

-- a box whose better end is better
new_bound : (problem : BoxProblem) (w : ℤ) (b : Box) (opens : List Box) (bound : ℤ) → IsBetter problem.direction (problem.end b) w → IsBound problem (Some (problem.end b)) opens bound
    → IsBound problem (Some w) (b ∷ opens) bound
new_bound problem w b opens bound better is = record {
  reached = λ above. is.reached (better_twice problem.direction (problem.end b) w bound better above);
  ends = All-cons (λ p. ¬ IsBetter problem.direction (problem.end p) bound) b opens is.reached is.ends;
  one_of_them = elim is.one_of_them [
    | inl same ↦ inr (any_here (λ p. bound ≡ problem.end p) b opens (some_turned (problem.end b) bound same))
    | inr later ↦ inr (any_later (λ p. bound ≡ problem.end p) b opens later)
  ];
}

pub bound_grows : (problem : BoxProblem) (v : Option ℤ) (b : Box) (opens : List Box) (best bound : ℤ) → IsBetterOf problem.direction v (problem.end b) best → IsBound problem (Some best) opens bound
    → IsBound problem v (b ∷ opens) bound
bound_grows problem None b opens best bound same is =
    first_bound problem b opens bound (subst (λ (x : ℤ). IsBound problem (Some x) opens bound) same is)
bound_grows problem (Some w) b opens best bound choice is = elim choice [
  | inl kept ↦ kept_bound problem w b opens bound kept.1 (subst (λ (x : ℤ). IsBound problem (Some x) opens bound) kept.0 is)
  | inr new ↦ new_bound problem w b opens bound new.1 (subst (λ (x : ℤ). IsBound problem (Some x) opens bound) new.0 is)
]

pub best_within_bound : (problem : BoxProblem) (v : ℤ) (finished : ℕ) (opens : List Box) (bound : ℤ) → Lawful problem → AreOpen problem (Some v) finished opens → IsBound problem (Some v) opens bound
    → ¬ IsBetter problem.direction bound v → NoneBetter problem v
best_within_bound problem v finished opens bound lawful all is within point q satisfies =
    still_not_better problem.direction (problem.value point) bound v (bound_holds problem (Some v) finished opens bound lawful all is point q satisfies) within

pub bound_is_hopeful : (problem : BoxProblem) (v : ℤ) (opens : List Box) (bound : ℤ) → IsBound problem (Some v) opens bound → IsBetter problem.direction bound v
    → Any (λ b. IsBetter problem.direction (problem.end b) v) opens
bound_is_hopeful problem v opens bound is better = elim is.one_of_them [
  | inl same ↦ absurd (not_better_than_itself problem.direction v (subst (λ (x : ℤ). IsBetter problem.direction x v) (some_turned v bound same) better))
  | inr some ↦ (some.0, some.1, some.2, some.3, subst (λ (x : ℤ). IsBetter problem.direction x v) some.4 better)
]

-- while some box is open, the points of the root allow more nodes
open_within : (problem : BoxProblem) (v : Option ℤ) (finished : ℕ) (opens : List Box) → 0 < length opens → AreOpen problem v finished opens → finished < nodes_for (points problem.root)
open_within problem v finished [] some all = absurd (omega arith)
open_within problem v finished (b ∷ opens) some all = counts_leave problem finished b opens all.counts

pub unsettled_within : (problem : BoxProblem) (v : Option ℤ) (finished : ℕ) (bound : ℤ) → IsUnsettled problem v finished bound → finished < nodes_for (points problem.root)
unsettled_within problem v finished bound is = open_within problem v finished is.opens is.some is.are_open
