-- Right steps.
use Rattle.std.proofs.Common.{◌≡◌, inl, inr, ◌<◌, ℤ, List, [], ◌∷◌, ◌++◌, Option, Some, None, IfSome, arith, refl, sym, ap, subst, ◌∙◌}
use Rattle.std.proofs.lemmas.List.{append_assoc}
use Rattle.std.proofs.lemmas.Int.{ints, by_lt_z}
use Rattle.sopl_base.specs.declared.direction.Direction.{Direction}
use Rattle.sopl_base.specs.declared.direction.Direction.TheVariants.{Minimize, Maximize, Nothing}
use Rattle.sopl_base.specs.declared.reason.Step.{Step}
use Rattle.sopl_base.specs.Better.{IsBetter}
use Rattle.box_problem.specs.Box.{Box, IsBox, Inside, InBox, IsPoint, width}
use Rattle.box_problem.specs.Steps.{after_step, removed, after_steps}
use Rattle.box_problem.specs.BoxProblem.{BoxProblem, Beats, Follows, Lawful}
use Rattle.box_problem.specs.Rightness.{IsRight, AllRight, Appended, IsConsistent}
use Rattle.box_problem.proofs.Boxes.{part_of_itself, parts_of_parts}
use Rattle.box_problem.proofs.Cuts.{cuts_make_parts, cuts_cover}
use Rattle.box_problem.proofs.Counts.{cuts_narrow}

pub steps_narrow : (problem : BoxProblem) (v : Option ℤ) (b : Box) (s : Step) → IsBox b → IsRight problem v b s → Inside (after_step b s) b × (width (after_step b s) < width b)
steps_narrow problem v b s is_box right =
    ((cuts_make_parts b s.cell s.side s.k is_box right.cut).0, (cuts_narrow b s.cell s.side s.k is_box right.cut).0)

pub steps_lead_inside : (problem : BoxProblem) (v : Option ℤ) (b : Box) (steps : List Step) → IsBox b → AllRight problem v b steps → Inside (after_steps b steps) b
steps_lead_inside problem v b [] is_box right = part_of_itself b is_box
steps_lead_inside problem v b (s ∷ steps) is_box right =
    let first = (steps_narrow problem v b s is_box right.0).0 in
    parts_of_parts (after_steps (after_step b s) steps) (after_step b s) b (steps_lead_inside problem v (after_step b s) steps first.is_box right.1) first

-- one right step loses no point that beats v
step_keeps : (problem : BoxProblem) (v : Option ℤ) (b : Box) (s : Step) (point : List ℤ) → Lawful problem → Inside b problem.root → IsRight problem v b s → InBox b point → Beats problem v point
    → InBox (after_step b s) point
step_keeps problem v b s point lawful inside right q beats =
    let parts = cuts_make_parts b s.cell s.side s.k inside.is_box right.cut in
    elim ((cuts_cover b s.cell s.side s.k point inside.is_box right.cut).0 q) [
      | inl kept ↦ kept
      | inr lost ↦ absurd (lawful.sound s.reason (removed b s) v point (parts_of_parts (removed b s) b problem.root parts.1 inside) right.refuted lost beats)
    ]

pub steps_keep : (problem : BoxProblem) (v : Option ℤ) (b : Box) (steps : List Step) (point : List ℤ) → Lawful problem → Inside b problem.root → AllRight problem v b steps → InBox b point
    → Beats problem v point → InBox (after_steps b steps) point
steps_keep problem v b [] point lawful inside right q beats = q
steps_keep problem v b (s ∷ steps) point lawful inside right q beats =
    let first = (steps_narrow problem v b s inside.is_box right.0).0 in
    steps_keep problem v (after_step b s) steps point lawful (parts_of_parts (after_step b s) b problem.root first inside) right.1 (step_keeps problem v b s point lawful inside right.0 q beats) beats

-- steps behind steps
pub after_append : (b : Box) (steps more : List Step) → after_steps b (steps ++ more) ≡ after_steps (after_steps b steps) more
after_append b [] more = refl
after_append b (s ∷ steps) more = after_append (after_step b s) steps more

pub right_append : (problem : BoxProblem) (v : Option ℤ) (b : Box) (steps more : List Step) → AllRight problem v b steps → AllRight problem v (after_steps b steps) more
    → AllRight problem v b (steps ++ more)
right_append problem v b [] more right later = later
right_append problem v b (s ∷ steps) more right later =
    (right.0, right_append problem v (after_step b s) steps more right.1 later)

pub appended_step : (problem : BoxProblem) (v : Option ℤ) (b : Box) (steps : List Step) (s : Step) → IsRight problem v b s → Appended problem v b steps (steps ++ s ∷ []) (after_step b s)
appended_step problem v b steps s right = record { more = s ∷ []; added = refl; right = (right, tt); leads = refl }

pub appended_more : (problem : BoxProblem) (v : Option ℤ) (a b c : Box) (xs ys zs : List Step) → Appended problem v a xs ys b → Appended problem v b ys zs c → Appended problem v a xs zs c
appended_more problem v a b c xs ys zs p q = record {
  more = p.more ++ q.more;
  added = q.added ∙ (ap (λ (steps : List Step). steps ++ q.more) p.added ∙ append_assoc xs p.more q.more);
  right = right_append problem v a p.more q.more p.right (subst (λ (box : Box). AllRight problem v box q.more) p.leads q.right);
  leads = q.leads ∙ (ap (λ (box : Box). after_steps box q.more) p.leads ∙ sym (after_append a p.more q.more));
}

-- what is better than a value is better than one that this value is as good as
better_than_worse : (direction : Direction) (x v w : ℤ) → ¬ IsBetter direction w v → IsBetter direction x v → IsBetter direction x w
better_than_worse Minimize x v w as_good better =
    by_lt_z w v (λ worse. absurd (as_good worse)) (λ good. omega (arith, ints))
better_than_worse Maximize x v w as_good better =
    by_lt_z v w (λ worse. absurd (as_good worse)) (λ good. omega (arith, ints))
better_than_worse Nothing x v w as_good better = better

better_earlier : (direction : Direction) (x : ℤ) (v w : Option ℤ) → Follows direction v w → IfSome v (λ y. IsBetter direction x y) → IfSome w (λ y. IsBetter direction x y)
better_earlier direction x v None follows better = tt
better_earlier direction x None (Some w) follows better = absurd follows
better_earlier direction x (Some v) (Some w) follows better = better_than_worse direction x v w follows better

pub beats_earlier : (problem : BoxProblem) (v w : Option ℤ) (point : List ℤ) → Follows problem.direction v w → Beats problem v point → Beats problem w point
beats_earlier problem v w point follows beats = record {
  satisfies = beats.satisfies;
  better = better_earlier problem.direction (problem.value point) v w follows beats.better;
}

pub consistent_point : (problem : BoxProblem) (v : Option ℤ) (b : Box) → Lawful problem → Inside b problem.root → IsPoint b → IsConsistent problem v b → Beats problem v b.lows
consistent_point problem v b lawful inside one consistent = lawful.exact b v inside one consistent.whole
