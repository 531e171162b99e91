-- The open boxes behind one node.
use Rattle.std.proofs.Common.{◌≡◌, ◌↔◌, ℕ, ◌+◌, ℤ, true, List, [], ◌∷◌, ◌++◌, Option, Some, None, sym, subst}
use Rattle.std.proofs.lemmas.List.Elements.{All-head}
use Rattle.sopl_base.specs.declared.reason.Side.{Side}
use Rattle.sopl_base.specs.declared.reason.Reason.{Reason}
use Rattle.sopl_base.specs.declared.reason.Step.{Step}
use Rattle.box_problem.specs.Box.{Box, Inside, IsPoint}
use Rattle.box_problem.specs.Steps.{IsCut, narrowed, cut_away, after_steps}
use Rattle.box_problem.specs.BoxProblem.{BoxProblem, Beats, Lawful}
use Rattle.box_problem.specs.Rightness.{AllRight}
use Rattle.box_problem.specs.Covers.{Covers}
use Rattle.box_problem.specs.Reached.{IsReached, NoneBetter, NoneSatisfies}
use Rattle.box_problem.proofs.Boxes.{point_in_box, points_of_parts}
use Rattle.box_problem.proofs.Opens as opened
use Rattle.box_problem.specs.Opens.{AreOpen}

pub open_at_first : (problem : BoxProblem) → Lawful problem → AreOpen problem None 0 (problem.root ∷ [])
open_at_first problem lawful = record {
  covers = opened.covers_at_first problem None lawful;
  counts = opened.counts_at_first problem;
}

pub open_in_any_order : (problem : BoxProblem) (v : Option ℤ) (finished : ℕ) (b : Box) (prefix back : List Box)
    → AreOpen problem v finished (prefix ++ b ∷ back) ↔ AreOpen problem v finished (b ∷ (prefix ++ back))
open_in_any_order problem v finished b prefix back = (
  λ all. record {
    covers = (opened.covers_in_any_order problem v b prefix back).0 all.covers;
    counts = (opened.counts_in_any_order problem finished b prefix back).0 all.counts;
  },
  λ all. record {
    covers = (opened.covers_in_any_order problem v b prefix back).1 all.covers;
    counts = (opened.counts_in_any_order problem finished b prefix back).1 all.counts;
  },
)

-- an open box is a part of the root
pub first_inside : (problem : BoxProblem) (v : Option ℤ) (finished : ℕ) (b : Box) (opens : List Box) → AreOpen problem v finished (b ∷ opens) → Inside b problem.root
first_inside problem v finished b opens all = All-head (λ part. Inside part problem.root) b opens all.covers.inside

pub open_after_steps : (problem : BoxProblem) (v : Option ℤ) (finished : ℕ) (b : Box) (steps : List Step) (opens : List Box) → Lawful problem → AllRight problem v b steps
    → AreOpen problem v finished (b ∷ opens) → AreOpen problem v finished (after_steps b steps ∷ opens)
open_after_steps problem v finished b steps opens lawful right all = record {
  covers = opened.covers_after_steps problem v b steps opens lawful right all.covers;
  counts = opened.counts_after_steps problem v finished b steps opens (first_inside problem v finished b opens all).is_box right all.counts;
}

pub open_after_refuted : (problem : BoxProblem) (v : Option ℤ) (finished : ℕ) (b : Box) (reason : Reason) (opens : List Box) → Lawful problem → problem.refutes reason b v ≡ true
    → AreOpen problem v finished (b ∷ opens) → AreOpen problem v (finished + 1) opens
open_after_refuted problem v finished b reason opens lawful refuted all = record {
  covers = opened.covers_after_refuted problem reason v b opens lawful refuted all.covers;
  counts = opened.counts_after_end problem finished b opens all.counts;
}

pub open_after_point : (problem : BoxProblem) (v : Option ℤ) (finished : ℕ) (b : Box) (opens : List Box) → Lawful problem → IsPoint b → Beats problem v b.lows → AreOpen problem v finished (b ∷ opens)
    → AreOpen problem (Some (problem.end b)) (finished + 1) opens
open_after_point problem v finished b opens lawful one beats all = record {
  covers = subst (λ (w : ℤ). Covers problem (Some w) opens) (sym (lawful.end_exact b (first_inside problem v finished b opens all) one beats.satisfies))
      (opened.covers_after_point problem v b opens one beats all.covers);
  counts = opened.counts_after_end problem finished b opens all.counts;
}

pub open_after_split : (problem : BoxProblem) (v : Option ℤ) (finished : ℕ) (b : Box) (cell : ℕ) (side : Side) (k : ℤ) (opens : List Box) → IsCut b cell side k → AreOpen problem v finished (b ∷ opens)
    → AreOpen problem v (finished + 1) (narrowed b cell side k ∷ cut_away b cell side k ∷ opens)
open_after_split problem v finished b cell side k opens cut all = record {
  covers = opened.covers_after_split problem v b cell side k opens cut all.covers;
  counts = opened.counts_after_split problem finished b cell side k opens (first_inside problem v finished b opens all).is_box cut all.counts;
}

pub point_is_reached : (problem : BoxProblem) (v : Option ℤ) (b : Box) → Lawful problem → Inside b problem.root → IsPoint b → Beats problem v b.lows → IsReached problem (problem.end b) b.lows
point_is_reached problem v b lawful inside one beats = record {
  inside = points_of_parts b problem.root b.lows inside (point_in_box b inside.is_box one);
  satisfies = beats.satisfies;
  valued = lawful.end_exact b inside one beats.satisfies;
}

pub none_at_last : (problem : BoxProblem) (finished : ℕ) → AreOpen problem None finished [] → NoneSatisfies problem
none_at_last problem finished all point q satisfies =
    opened.covers_at_last problem None point all.covers q (record { satisfies = satisfies; better = tt })

pub best_at_last : (problem : BoxProblem) (v : ℤ) (finished : ℕ) → AreOpen problem (Some v) finished [] → NoneBetter problem v
best_at_last problem v finished all point q satisfies better =
    opened.covers_at_last problem (Some v) point all.covers q (record { satisfies = satisfies; better = better })
