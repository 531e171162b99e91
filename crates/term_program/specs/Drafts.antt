-- Which problem in terms is being made, before its objective is known.
use Rattle.std.specs.Prelude.{◌≡◌, ◌<◌, ◌^◌, ℕ, pos, ◌≤ℤ◌, List, length, map, None, false}
use Rattle.std.specs.List.{AllByRecursion}
use Rattle.sopl_base.specs.declared.limits.TheConstants as largest
use Rattle.box_problem.specs.Box.{Box, Inside}
use Rattle.box_problem.specs.Near.{IsNearBox}
use Rattle.term_language.specs.Ends.{exactly, plus}
use Rattle.term_language.specs.Terms.{Cond}
use Rattle.term_problem.specs.Objective.{goal_ends_of}
use Rattle.term_problem.specs.Problems.{ChanceTerms, ProblemTerms, IsProblem}
use Rattle.term_nodes.specs.Things.{Thing, cond_at}
use Rattle.term_nodes.specs.Built.{AllBelow}
use Rattle.term_goals.specs.Goals.{AreCells, AtomsExist, IsSoundGoal, IsWeighted, constant_of, goal_of, listed_ends}
use Rattle.term_goals.specs.declared.sums.Atom.{Atom}
use Rattle.term_goals.specs.declared.goal.Goal.{Goal}
use Rattle.term_store.specs.Stores.{IsSoundStore, root_of, all}
use Rattle.term_program.specs.declared.draft.Conditions.{Conditions}
use Rattle.term_program.specs.declared.draft.ChanceConditions.{ChanceConditions}
use Rattle.term_program.specs.declared.draft.Draft.{Draft}

-- the box of all points
abbrev pub draft_root : Draft → Box
draft_root d = root_of d.store

-- what stands at each number
abbrev pub draft_things : Draft → List Thing
draft_things d = all d.store

-- the conditions of a constraint
abbrev pub conditions_of : List Thing → Conditions → List Cond
conditions_of things c = map (cond_at things) c.ids.items

abbrev pub chance_of : List Thing → ChanceConditions → ChanceTerms
chance_of things c = record { conditions = conditions_of things c.conditions; p = c.p; q = c.q }

-- the constraints, with no objective
abbrev pub draft_problem : Draft → ProblemTerms
draft_problem d = record {
  weights = d.weights.items;
  whole = d.whole;
  hards = map (conditions_of (draft_things d)) d.hards.items;
  chances = map (chance_of (draft_things d)) d.chances.items;
  goal = None;
}

-- p and q of a chance constraint
pub record IsThreshold (c : ChanceConditions) : Type 0 where
  pub from_zero : pos 0 ≤ℤ c.p
  pub to_whole : c.p ≤ℤ c.q
  pub positive : pos 1 ≤ℤ c.q
  pub small : c.q ≤ℤ pos (2 ^ 20)

-- the conditions of a constraint exist
abbrev pub HasConditions : ℕ → Conditions → Type 0
HasConditions count c = AllBelow count c.ids.items

-- a draft as it is made
pub record IsDraft (d : Draft) : Type 0 where
  pub store : IsSoundStore d.store
  pub cells : d.cells ≡ length (draft_root d).lows
  pub near : IsNearBox (draft_root d)
  pub nodes : AreCells (draft_root d) (draft_things d) d.nodes.items
  pub problem : IsProblem (draft_problem d)
  pub light : d.whole ≤ℤ largest.WEIGHT
  pub few_scenarios : length d.weights.items < 2 ^ 32
  pub few_hards : length d.hards.items < 2 ^ 32
  pub few_chances : length d.chances.items < 2 ^ 32
  pub hards : AllByRecursion (HasConditions (length (draft_things d))) d.hards.items
  pub chances : AllByRecursion (λ (c : ChanceConditions). HasConditions (length (draft_things d)) c.conditions) d.chances.items
  pub thresholds : AllByRecursion IsThreshold d.chances.items

-- an objective that is kept with its draft
pub record IsGoalOf (d : Draft) (g : Goal) : Type 0 where
  pub sound : IsSoundGoal (draft_root d) (draft_things d) g
  pub weighted : IsWeighted (draft_root d) (draft_things d) d.weights.items g

-- what an objective's sum has besides its constant, as multiples of several terms, which exist: the interval of the objective is theirs and the
-- constant's over each box inside the root
pub record AreAtomsOf (d : Draft) (g : Goal) (atoms : List Atom) : Type 0 where
  pub sum :
      (goal_of (draft_things d) g).worst ≡ false → (b : Box) → Inside b (draft_root d)
      → plus (exactly (constant_of g)) (listed_ends (draft_root d) b (draft_things d) atoms) ≡ goal_ends_of (draft_root d) b d.weights.items (goal_of (draft_things d) g)
  pub exist : AtomsExist (length (draft_things d)) atoms
