-- What holds of the terms of a text's expressions.
use Rattle.std.specs.Prelude.{◌≡◌, ℕ, ℤ, List, length, Some, option_map, slice_get}
use Rattle.sopl_ast.specs.Tree.{Tree}
use Rattle.sopl_ast.specs.Known.{Binding}
use Rattle.sopl_ast.specs.Instances.{Decision, Problem}
use Rattle.sopl_ast.specs.Scenarios.{Scenario}
use Rattle.sopl_ast.specs.Histories.{history}
use Rattle.sopl_ast.specs.Cells.{cells, IsPoint, policy_at}
use Rattle.sopl_ast.specs.Optimal.{place_in}
use Rattle.sopl_ast.specs.Meanings as meant
use Rattle.sopl_ast.specs.Meanings.{Meaning, meaning, decided_value}
use Rattle.term_language.specs.Arrays.{Entry, item_at, item_in}
use Rattle.term_language.specs.Values.{value, holds, item_value}
use Rattle.compile_laws.specs.Instances.{Place, Instance, elements, decided_elements, instance, table_of}

-- the array of these elements has them and no others
abbrev pub IsArray : List Entry → Type 0
IsArray entries = (index : List ℤ) → item_at (table_of entries) index ≡ item_in entries index

-- the elements of each declared name are those of an array
abbrev pub AreArrays : Place → Type 0
AreArrays place = (name : List ℕ) → IsArray (elements place name)

-- a place of evaluation has what this place has, and its policy decides what the point gives the cells
pub record Agrees (place : Place) (other : meant.Place) (point : List ℤ) : Type 0 where
  pub known : other.known ≡ place.known
  pub stochastics : other.stochastics ≡ place.stochastics
  pub scenario : other.scenario ≡ place.scenario
  pub decided :
      (name : List ℕ) (index : List ℤ)
      → decided_value name index other ≡ option_map (item_value point) (item_in (decided_elements name place.decisions place.cells) index)

-- what a term is worth at a point is what the policy makes of the expression
pub record Means (point : List ℤ) (instance : Instance) (meaning : Meaning) : Type 0 where
  pub value : value point instance.term ≡ meaning.value
  pub truth : holds point instance.cond ≡ meaning.truth

abbrev pub InstancesMean : Type 0
InstancesMean =
    (place : Place) (other : meant.Place) (point : List ℤ) → Agrees place other point → AreArrays place → (e : Tree) → Means point (instance place e) (meaning other e)

-- Places of a problem.

-- the numbers of the cells of the decisions in a scenario: each decision has one, and it is that of the decision at the scenario's history
pub record AreCellsIn (problem : Problem) (s : Scenario) (numbers : List ℕ) : Type 0 where
  pub all : length numbers ≡ length problem.decisions
  pub each :
      (j : ℕ) (d : Decision) (n : ℕ) → slice_get problem.decisions j ≡ Some d → slice_get numbers j ≡ Some n
      → slice_get (cells problem) n ≡ Some (record { key = (j, history d.stage problem.stochastics s.values); lo = d.lo; hi = d.hi })

-- where the problem's expressions are instantiated in a scenario
abbrev pub place_for : Problem → List Binding → Scenario → List ℕ → Place
place_for problem bound s numbers =
    record {
      known = record problem.known { bound = bound };
      stochastics = problem.stochastics;
      scenario = s.values;
      decisions = problem.decisions;
      cells = numbers;
    }

-- the policy of a point decides what the point gives the cells
abbrev pub PlacesAgree : Type 0
PlacesAgree =
    (problem : Problem) (bound : List Binding) (s : Scenario) (numbers : List ℕ) (point : List ℤ) → AreCellsIn problem s numbers → IsPoint (cells problem) point
    → Agrees (place_for problem bound s numbers) (place_in problem (policy_at (cells problem) point) bound s) point
