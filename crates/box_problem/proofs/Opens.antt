-- Lists of open boxes.
use Rattle.std.proofs.Common.{◌≡◌, ◌⊎◌, ◌↔◌, inl, inr, ℕ, zero, suc, ◌+◌, ◌<◌, ◌≤◌, ℤ, true, List, [], ◌∷◌, ◌++◌, length, get_or, Option, Some, None, IfSome, All, Any, sum_by, arith, sym, subst}
use Rattle.std.proofs.lemmas.List.Sums.{sum_by-append, sum_by_from}
use Rattle.std.proofs.lemmas.List.Elements.{All-nil, All-cons, All-head, All-tail}
use Rattle.sopl_base.specs.declared.reason.Side.{Side}
use Rattle.sopl_base.specs.declared.reason.Reason.{Reason}
use Rattle.sopl_base.specs.declared.reason.Step.{Step}
use Rattle.sopl_base.specs.Better.{IsBetter}
use Rattle.sopl_base.specs.declared.direction.Direction.{Direction}
use Rattle.sopl_base.specs.declared.direction.Direction.TheVariants.{Minimize, Maximize, Nothing}
use Rattle.std.proofs.lemmas.Int.{ints, by_lt_z}
use Rattle.sopl_base.proofs.Lists.{any_here, any_later}
use Rattle.box_problem.specs.Box.{Box, IsBox, Inside, InBox, IsPoint, points}
use Rattle.box_problem.specs.Steps.{IsCut, narrowed, cut_away, after_steps, after_step}
use Rattle.box_problem.specs.BoxProblem.{BoxProblem, Beats, Follows, Lawful}
use Rattle.box_problem.specs.Rightness.{AllRight}
use Rattle.box_problem.specs.Covers.{Covers, Counts, nodes_for}
use Rattle.box_problem.proofs.Boxes.{part_of_itself, parts_of_parts, only_point}
use Rattle.box_problem.proofs.Cuts.{cuts_make_parts, cuts_cover}
use Rattle.box_problem.proofs.Counts.{cuts_count, points_alive}
use Rattle.box_problem.proofs.Steps.{steps_narrow, steps_keep, steps_lead_inside, beats_earlier}

any_cases_at : {X : Type 0} (P : X → Type 0) (x : X) (xs : List X) (k : ℕ) (y : X) → k < length (x ∷ xs) → get_or (x ∷ xs) k y ≡ y → P y → P x ⊎ Any P xs
any_cases_at P x xs zero y exists is holds = inl (subst P (sym is) holds)
any_cases_at P x xs (suc k) y exists is holds = inr (k, y, omega arith, is, holds)

any_cases : {X : Type 0} (P : X → Type 0) (x : X) (xs : List X) → Any P (x ∷ xs) → P x ⊎ Any P xs
any_cases P x xs some = any_cases_at P x xs some.0 some.1 some.2 some.3 some.4

-- an element in the middle, put at the head
any_to_head : {X : Type 0} (P : X → Type 0) (x : X) (prefix back : List X) → Any P (prefix ++ x ∷ back) → Any P (x ∷ (prefix ++ back))
any_to_head P x [] back some = some
any_to_head P x (y ∷ prefix) back some =
    elim (any_cases P y (prefix ++ x ∷ back) some) [
      | inl here ↦ any_later P x (y ∷ (prefix ++ back)) (any_here P y (prefix ++ back) here)
      | inr later ↦ elim (any_cases P x (prefix ++ back) (any_to_head P x prefix back later)) [
        | inl head ↦ any_here P x (y ∷ (prefix ++ back)) head
        | inr rest ↦ any_later P x (y ∷ (prefix ++ back)) (any_later P y (prefix ++ back) rest)
      ]
    ]

any_from_head : {X : Type 0} (P : X → Type 0) (x : X) (prefix back : List X) → Any P (x ∷ (prefix ++ back)) → Any P (prefix ++ x ∷ back)
any_from_head P x [] back some = some
any_from_head P x (y ∷ prefix) back some =
    elim (any_cases P x (y ∷ (prefix ++ back)) some) [
      | inl head ↦ any_later P y (prefix ++ x ∷ back) (any_from_head P x prefix back (any_here P x (prefix ++ back) head))
      | inr rest ↦ elim (any_cases P y (prefix ++ back) rest) [
        | inl here ↦ any_here P y (prefix ++ x ∷ back) here
        | inr later ↦ any_later P y (prefix ++ x ∷ back) (any_from_head P x prefix back (any_later P x (prefix ++ back) later))
      ]
    ]

all_to_head : {X : Type 0} (P : X → Type 0) (x : X) (prefix back : List X) → All P (prefix ++ x ∷ back) → All P (x ∷ (prefix ++ back))
all_to_head P x [] back each = each
all_to_head P x (y ∷ prefix) back each =
    let rest = all_to_head P x prefix back (All-tail P y (prefix ++ x ∷ back) each) in
    All-cons P x (y ∷ (prefix ++ back)) (All-head P x (prefix ++ back) rest) (All-cons P y (prefix ++ back) (All-head P y (prefix ++ x ∷ back) each) (All-tail P x (prefix ++ back) rest))

all_from_head : {X : Type 0} (P : X → Type 0) (x : X) (prefix back : List X) → All P (x ∷ (prefix ++ back)) → All P (prefix ++ x ∷ back)
all_from_head P x [] back each = each
all_from_head P x (y ∷ prefix) back each =
    let rest = All-tail P x (y ∷ (prefix ++ back)) each in
    All-cons P y (prefix ++ x ∷ back) (All-head P y (prefix ++ back) rest)
    (all_from_head P x prefix back (All-cons P x (prefix ++ back) (All-head P x (y ∷ (prefix ++ back)) each) (All-tail P y (prefix ++ back) rest)))

sum_cons : {X : Type 0} (f : X → ℕ) (x : X) (xs : List X) → sum_by f (x ∷ xs) ≡ f x + sum_by f xs
sum_cons f x xs = omega (arith, sum_by_from f (0 + f x) xs)

sum_to_head : {X : Type 0} (f : X → ℕ) (x : X) (prefix back : List X) → sum_by f (prefix ++ x ∷ back) ≡ sum_by f (x ∷ (prefix ++ back))
sum_to_head f x prefix back =
    omega (arith, sum_by-append f prefix (x ∷ back), sum_cons f x back, sum_cons f x (prefix ++ back), sum_by-append f prefix back)

-- what the open boxes cover
pub covers_at_first : (problem : BoxProblem) (v : Option ℤ) → Lawful problem → Covers problem v (problem.root ∷ [])
covers_at_first problem v lawful = record {
  inside = All-cons (λ b. Inside b problem.root) problem.root [] (part_of_itself problem.root lawful.root) (All-nil (λ b. Inside b problem.root));
  cover = λ point q beats. any_here (λ b. InBox b point) problem.root [] q;
}

pub covers_in_any_order : (problem : BoxProblem) (v : Option ℤ) (b : Box) (prefix back : List Box) → Covers problem v (prefix ++ b ∷ back) ↔ Covers problem v (b ∷ (prefix ++ back))
covers_in_any_order problem v b prefix back = (
  λ covers. record {
    inside = all_to_head (λ part. Inside part problem.root) b prefix back covers.inside;
    cover = λ point q beats. any_to_head (λ part. InBox part point) b prefix back (covers.cover point q beats);
  },
  λ covers. record {
    inside = all_from_head (λ part. Inside part problem.root) b prefix back covers.inside;
    cover = λ point q beats. any_from_head (λ part. InBox part point) b prefix back (covers.cover point q beats);
  },
)

-- another box in the place of the first one, which has all its points that still count
replaced : (problem : BoxProblem) (v : Option ℤ) (b part : Box) (opens : List Box) → Inside part problem.root → ((point : List ℤ) → InBox b point → Beats problem v point → InBox part point)
    → Covers problem v (b ∷ opens) → Covers problem v (part ∷ opens)
replaced problem v b part opens inside keeps covers = record {
  inside = All-cons (λ p. Inside p problem.root) part opens inside (All-tail (λ p. Inside p problem.root) b opens covers.inside);
  cover = λ point q beats. elim (any_cases (λ p. InBox p point) b opens (covers.cover point q beats)) [
    | inl here ↦ any_here (λ p. InBox p point) part opens (keeps point here beats)
    | inr later ↦ any_later (λ p. InBox p point) part opens later
  ];
}

head_inside : (problem : BoxProblem) (v : Option ℤ) (b : Box) (opens : List Box) → Covers problem v (b ∷ opens) → Inside b problem.root
head_inside problem v b opens covers = All-head (λ p. Inside p problem.root) b opens covers.inside

pub covers_after_steps : (problem : BoxProblem) (v : Option ℤ) (b : Box) (steps : List Step) (opens : List Box) → Lawful problem → AllRight problem v b steps → Covers problem v (b ∷ opens)
    → Covers problem v (after_steps b steps ∷ opens)
covers_after_steps problem v b steps opens lawful right covers =
    let inside = head_inside problem v b opens covers in
    replaced problem v b (after_steps b steps) opens
    (parts_of_parts (after_steps b steps) b problem.root (steps_lead_inside problem v b steps inside.is_box right) inside)
    (λ point q beats. steps_keep problem v b steps point lawful inside right q beats)
    covers

-- the first box may be left out where none of its points counts
left_out : (problem : BoxProblem) (v w : Option ℤ) (b : Box) (opens : List Box) → ((point : List ℤ) → Beats problem w point → Beats problem v point)
    → ((point : List ℤ) → InBox b point → ¬ Beats problem w point) → Covers problem v (b ∷ opens) → Covers problem w opens
left_out problem v w b opens earlier none covers = record {
  inside = All-tail (λ p. Inside p problem.root) b opens covers.inside;
  cover = λ point q beats. elim (any_cases (λ p. InBox p point) b opens (covers.cover point q (earlier point beats))) [
    | inl here ↦ absurd (none point here beats)
    | inr later ↦ later
  ];
}

pub covers_after_refuted : (problem : BoxProblem) (reason : Reason) (v : Option ℤ) (b : Box) (opens : List Box) → Lawful problem → problem.refutes reason b v ≡ true → Covers problem v (b ∷ opens)
    → Covers problem v opens
covers_after_refuted problem reason v b opens lawful refuted covers =
    left_out problem v v b opens (λ point beats. beats)
    (λ point q beats. lawful.sound reason b v point (head_inside problem v b opens covers) refuted q beats)
    covers

-- no value is better than itself
pub not_better_than_itself : (direction : Direction) (x : ℤ) → ¬ IsBetter direction x x
not_better_than_itself Minimize x better = omega (arith, ints)
not_better_than_itself Maximize x better = omega (arith, ints)
not_better_than_itself Nothing x better = better

-- of two values not each is better than the other
pub not_both_better : (direction : Direction) (x w : ℤ) → IsBetter direction x w → ¬ IsBetter direction w x
not_both_better Minimize x w better worse = omega (arith, ints)
not_both_better Maximize x w better worse = omega (arith, ints)
not_both_better Nothing x w better worse = better

pub follows_better : (direction : Direction) (x : ℤ) (v : Option ℤ) → IfSome v (λ w. IsBetter direction x w) → Follows direction (Some x) v
follows_better direction x None better = tt
follows_better direction x (Some w) better = not_both_better direction x w better

-- a value that beats v is as good as v
pub beats_follows : (problem : BoxProblem) (v : Option ℤ) (point : List ℤ) → Beats problem v point → Follows problem.direction (Some (problem.value point)) v
beats_follows problem v point beats =
    follows_better problem.direction (problem.value point) v beats.better

pub covers_after_point : (problem : BoxProblem) (v : Option ℤ) (b : Box) (opens : List Box) → IsPoint b → Beats problem v b.lows → Covers problem v (b ∷ opens)
    → Covers problem (Some (problem.value b.lows)) opens
covers_after_point problem v b opens one found covers =
    left_out problem v (Some (problem.value b.lows)) b opens
    (λ point beats. beats_earlier problem (Some (problem.value b.lows)) v point (beats_follows problem v b.lows found) beats)
    (λ point q beats. not_better_than_itself problem.direction (problem.value b.lows)
    (subst (λ (p : List ℤ). IsBetter problem.direction (problem.value p) (problem.value b.lows)) (only_point b point one q) beats.better))
    covers

pub covers_after_split : (problem : BoxProblem) (v : Option ℤ) (b : Box) (cell : ℕ) (side : Side) (k : ℤ) (opens : List Box) → IsCut b cell side k → Covers problem v (b ∷ opens)
    → Covers problem v (narrowed b cell side k ∷ cut_away b cell side k ∷ opens)
covers_after_split problem v b cell side k opens cut covers =
    let inside = head_inside problem v b opens covers in
    let parts = cuts_make_parts b cell side k inside.is_box cut in
    let kept = narrowed b cell side k in
    let lost = cut_away b cell side k in
    record {
      inside = All-cons (λ p. Inside p problem.root) kept (lost ∷ opens) (parts_of_parts kept b problem.root parts.0 inside)
          (All-cons (λ p. Inside p problem.root) lost opens (parts_of_parts lost b problem.root parts.1 inside) (All-tail (λ p. Inside p problem.root) b opens covers.inside));
      cover = λ point q beats. elim (any_cases (λ p. InBox p point) b opens (covers.cover point q beats)) [
        | inl here ↦ elim ((cuts_cover b cell side k point inside.is_box cut).0 here) [
          | inl low ↦ any_here (λ p. InBox p point) kept (lost ∷ opens) low
          | inr high ↦ any_later (λ p. InBox p point) kept (lost ∷ opens) (any_here (λ p. InBox p point) lost opens high)
        ]
        | inr later ↦ any_later (λ p. InBox p point) kept (lost ∷ opens) (any_later (λ p. InBox p point) lost opens later)
      ];
    }

pub covers_at_last : (problem : BoxProblem) (v : Option ℤ) (point : List ℤ) → Covers problem v [] → InBox problem.root point → ¬ Beats problem v point
covers_at_last problem v point covers q beats = omega (arith, (covers.cover point q beats).2)

-- what is not better than a value that is not better than another is not better than that one
pub still_not_better : (direction : Direction) (x y z : ℤ) → ¬ IsBetter direction x y → ¬ IsBetter direction y z → ¬ IsBetter direction x z
still_not_better Minimize x y z first second better =
    by_lt_z x y first (λ up. second (omega (arith, ints)))
still_not_better Maximize x y z first second better =
    by_lt_z y x first (λ up. second (omega (arith, ints)))
still_not_better Nothing x y z first second better = better

-- where a better value would be known in an open box, and another is not better than v, it is no better than the bound
unless_beaten : (direction : Direction) (x bound : ℤ) (v : Option ℤ) → IfSome v (λ y. ¬ IsBetter direction y bound) → (IfSome v (λ y. IsBetter direction x y) → ¬ IsBetter direction x bound)
    → ¬ IsBetter direction x bound
unless_beaten direction x bound None reached beaten better = beaten tt better
unless_beaten direction x bound (Some y) reached beaten better =
    still_not_better direction x y bound (λ beats. beaten beats better) reached better

pub covers_bound : (problem : BoxProblem) (v : Option ℤ) (opens : List Box) (bound : ℤ) (point : List ℤ) → Lawful problem → Covers problem v opens
    → IfSome v (λ x. ¬ IsBetter problem.direction x bound) → All (λ b. ¬ IsBetter problem.direction (problem.end b) bound) opens → InBox problem.root point → problem.satisfies point
    ≡ true → ¬ IsBetter problem.direction (problem.value point) bound
covers_bound problem v opens bound point lawful covers reached ends q satisfies =
    unless_beaten problem.direction (problem.value point) bound v reached
    (λ better.
    let some = covers.cover point q (record { satisfies = satisfies; better = better }) in
    let inside : Inside some.1 problem.root = subst (λ b. Inside b problem.root) some.3 (covers.inside some.0 some.1 some.2) in
    let end : ¬ IsBetter problem.direction (problem.end some.1) bound = subst (λ b. ¬ IsBetter problem.direction (problem.end b) bound) some.3 (ends some.0 some.1 some.2) in
    still_not_better problem.direction (problem.value point) (problem.end some.1) bound (lawful.end_bounds some.1 point inside some.4 satisfies) end)

-- how many nodes there may be
abbrev nodes : Box → ℕ
nodes b = nodes_for (points b)

pub counts_at_first : (problem : BoxProblem) → Counts problem 0 (problem.root ∷ [])
counts_at_first problem = record { count = omega (arith, sum_cons nodes problem.root []) }

pub counts_in_any_order : (problem : BoxProblem) (finished : ℕ) (b : Box) (prefix back : List Box) → Counts problem finished (prefix ++ b ∷ back) ↔ Counts problem finished (b ∷ (prefix ++ back))
counts_in_any_order problem finished b prefix back =
    let same = sum_to_head nodes b prefix back in
    (λ counts. record { count = omega (arith, same, counts.count) }, λ counts. record { count = omega (arith, same, counts.count) })

-- steps leave no more points
pub points_after : (problem : BoxProblem) (v : Option ℤ) (b : Box) (steps : List Step) → IsBox b → AllRight problem v b steps → points (after_steps b steps) ≤ points b
points_after problem v b [] is_box right = omega arith
points_after problem v b (s ∷ steps) is_box right =
    let first = (steps_narrow problem v b s is_box right.0).0 in
    omega (arith, points_after problem v (after_step b s) steps first.is_box right.1, cuts_count b s.cell s.side s.k is_box right.0.cut)

pub counts_after_steps : (problem : BoxProblem) (v : Option ℤ) (finished : ℕ) (b : Box) (steps : List Step) (opens : List Box) → IsBox b → AllRight problem v b steps
    → Counts problem finished (b ∷ opens) → Counts problem finished (after_steps b steps ∷ opens)
counts_after_steps problem v finished b steps opens is_box right counts = record {
  count = omega (arith, counts.count, sum_cons nodes b opens, sum_cons nodes (after_steps b steps) opens, points_after problem v b steps is_box right);
}

pub counts_after_end : (problem : BoxProblem) (finished : ℕ) (b : Box) (opens : List Box) → Counts problem finished (b ∷ opens) → Counts problem (finished + 1) opens
counts_after_end problem finished b opens counts = record {
  count = omega (arith, counts.count, sum_cons nodes b opens, points_alive b.lows b.highs);
}

pub counts_after_split : (problem : BoxProblem) (finished : ℕ) (b : Box) (cell : ℕ) (side : Side) (k : ℤ) (opens : List Box) → IsBox b → IsCut b cell side k → Counts problem finished (b ∷ opens)
    → Counts problem (finished + 1) (narrowed b cell side k ∷ cut_away b cell side k ∷ opens)
counts_after_split problem finished b cell side k opens is_box cut counts =
    let kept = narrowed b cell side k in
    let lost = cut_away b cell side k in
    record {
      count = omega (
        arith,
        counts.count,
        sum_cons nodes b opens,
        sum_cons nodes kept (lost ∷ opens),
        sum_cons nodes lost opens,
        cuts_count b cell side k is_box cut,
        points_alive kept.lows kept.highs,
        points_alive lost.lows lost.highs,
      );
    }

pub counts_leave : (problem : BoxProblem) (finished : ℕ) (b : Box) (opens : List Box) → Counts problem finished (b ∷ opens) → finished < nodes_for (points problem.root)
counts_leave problem finished b opens counts =
    omega (arith, counts.count, sum_cons nodes b opens, points_alive b.lows b.highs)
