-- The arrays of elements, and that all arrays in instances are as rules on boxes ask for.
use Rattle.std.specs.Prelude.{◌≡◌, ◌↔◌, ℤ, List, ◌∷◌, map}
use Rattle.std.specs.List.{AllByRecursion, Contains}
use Rattle.sopl_ast.specs.Tree.{Tree}
use Rattle.sopl_ast.specs.Instances.{Problem}
use Rattle.lang_laws.specs.Laws.{Ascends}
use Rattle.term_language.specs.Arrays.{Entry, indices}
use Rattle.term_language.specs.Laws.{IsTable, IsProper, IsProperCond}
use Rattle.compile_laws.specs.Instances.{Place, Instance, table_of, table_over, instance}
use Rattle.term_problem.specs.Problems.{AreProperTerms}
use Rattle.compile_laws.specs.Whole.{problem_terms}

-- the array of whatever elements has index sets of which the numbers ascend, an item for each index, and no index twice
abbrev pub TablesAreSound : Type 0
TablesAreSound = (entries : List Entry) → AllByRecursion Ascends (table_of entries).sets × IsTable (table_of entries)

-- the indices of elements are all that some sets have
abbrev pub HaveIndices : List Entry → List (List ℤ) → Type 0
HaveIndices entries sets = (index : List ℤ) → Contains (indices sets) index ↔ Contains (map (λ (e : Entry). e.index) entries) index

-- the array of elements that have all indices of some sets, and one at least, has these sets
abbrev pub TablesHaveSets : Type 0
TablesHaveSets =
    (sets : List (List ℤ)) (first : Entry) (later : List Entry) → AllByRecursion Ascends sets → HaveIndices (first ∷ later) sets
    → table_of (first ∷ later) ≡ table_over (first ∷ later) sets

-- all arrays in an instance are so
pub record IsProperInstance (x : Instance) : Type 0 where
  pub term : IsProper x.term
  pub cond : IsProperCond x.cond

abbrev pub InstancesAreProper : Type 0
InstancesAreProper = (place : Place) (e : Tree) → IsProperInstance (instance place e)

-- all arrays in the problem in terms of a problem are so
abbrev pub ProblemsAreProper : Type 0
ProblemsAreProper = (problem : Problem) → AreProperTerms (problem_terms problem)
