-- The cells that are kept of terms and of conditions.
use Rattle.std.specs.Prelude.{◌≡◌, ◌↔◌, ℕ, Bool, List, [], Option, Contains, map, IfSome, IsTrue, is_some, Vec}
use Rattle.std.specs.Global.{Global}
use Rattle.std.specs.BTreeMap.{get}
use Rattle.std.specs.Option.{option_map_or}
use Rattle.std.specs.List.{AllByRecursion, flat_map}
use Rattle.std.specs.List.Sorted.{IsStrictlyIncreasing}
use Rattle.std.specs.Ordering.{nat_cmp}
use Rattle.box_problem.specs.Box.{Box}
use Rattle.term_language.specs.Mentions.{cond_mentions, mentions}
use Rattle.term_nodes.specs.Things.{Thing, cond_at, term_at}
use Rattle.term_program.specs.declared.draft.ChanceConditions.{ChanceConditions}
use Rattle.term_program.specs.declared.draft.Conditions.{Conditions}
use Rattle.term_program.specs.declared.draft.Draft.{Draft}
use Rattle.term_program.specs.declared.mentions.Mentioned.{Mentioned}
use Rattle.term_program.specs.declared.mentions.Mentions.{Mentions}
use Rattle.term_program.specs.Drafts.{draft_root, draft_things}
use Rattle.term_goals.specs.declared.goal.Goal.{Goal}
use Rattle.term_goals.specs.declared.sums.Atom.{Atom}

-- a list of just the cells that are mentioned, ascending, each once
pub record IsListOf (mentioned cells : List ℕ) : Type 0 where
  pub mentions : (cell : ℕ) → Contains cells cell ↔ Contains mentioned cell
  pub ascending : IsStrictlyIncreasing cells

-- what is kept of a number
abbrev pub list_at : Mentions → ℕ → Option (Vec ℕ Global)
list_at m id = get nat_cmp m.lists id

abbrev pub HasList : Mentions → ℕ → Bool
HasList m id = is_some (list_at m id)

-- the lists of these numbers are there
abbrev pub HaveLists : Mentions → List ℕ → Type 0
HaveLists m ids = AllByRecursion (λ id. IsTrue (HasList m id)) ids

-- each list that is kept is the right one
abbrev pub AreLists : (ℕ → List ℕ) → Mentions → Type 0
AreLists mentioned m = (id : ℕ) → IfSome (list_at m id) (λ cells. IsListOf (mentioned id) cells.items)

-- what the term and what the condition of a number mention
abbrev pub term_lists : Box → List Thing → ℕ → List ℕ
term_lists root all id = mentions root (term_at all id)

abbrev pub cond_lists : Box → List Thing → ℕ → List ℕ
cond_lists root all id = cond_mentions root (cond_at all id)

-- more is kept: what was there stays, each list is the right one, and those of these numbers are there
pub record Gained (mentioned : ℕ → List ℕ) (before after : Mentions) (ids : List ℕ) : Type 0 where
  pub lists : AreLists mentioned after
  pub stays : (id : ℕ) → IsTrue (HasList before id) → IsTrue (HasList after id)
  pub there : HaveLists after ids

-- the conditions of constraints, by their numbers
abbrev pub hard_ids : List Conditions → List ℕ
hard_ids hards = flat_map (λ (c : Conditions). c.ids.items) hards

abbrev pub chance_ids : List ChanceConditions → List ℕ
chance_ids chances = flat_map (λ (c : ChanceConditions). c.conditions.ids.items) chances

-- the terms of an objective, and of atoms, by their numbers
abbrev pub goal_ids : Option Goal → List ℕ
goal_ids goal = option_map_or (λ (g : Goal). g.terms.items) goal []

abbrev pub atom_ids : List Atom → List ℕ
atom_ids atoms = map (λ (a : Atom). a.term) atoms

-- what a problem mentions: what is kept is right, and there is a list for each condition of a constraint, each term of the objective and each of its sum
pub record AreMentioned (d : Draft) (asked : Option Goal) (parts : List Atom) (m : Mentioned) : Type 0 where
  pub conditions : AreLists (cond_lists (draft_root d) (draft_things d)) m.conditions
  pub terms : AreLists (term_lists (draft_root d) (draft_things d)) m.terms
  pub hards : HaveLists m.conditions (hard_ids d.hards.items)
  pub chances : HaveLists m.conditions (chance_ids d.chances.items)
  pub goal : HaveLists m.terms (goal_ids asked)
  pub atoms : HaveLists m.terms (atom_ids parts)
