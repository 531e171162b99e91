-- What holds of the rules on boxes, at each point of a box.
use Rattle.std.specs.Prelude.{◌≡◌, ◌↔◌, map, ℕ, ℤ, pos, neg_ℤ, ◌≤ℤ◌, Bool, true, false, List, length, AllPairs, Option, Some, None, IfSome}
use Rattle.box_problem.specs.Box.{Box, IsBox, Inside, InBox, IsPoint}
use Rattle.term_language.specs.declared.answers.Defined.{Defined}
use Rattle.term_language.specs.declared.answers.Defined.TheVariants.{Never, Maybe, Always}
use Rattle.term_language.specs.declared.answers.Truth.{Truth}
use Rattle.term_language.specs.declared.answers.Truth.TheVariants.{False, Unknown, True}
use Rattle.term_language.specs.Terms.{Table, Term, Constant, Cell, Sum, Product, Made, Selected, Element, Number, Terms, no_term, term, Parts, no_part}
use Rattle.term_language.specs.Terms.{part, Cond, Compare, Not, All, Any, Implies, AllDifferent, Cumulative, Conds, no_cond, condition, Tasks, no_task, task}
use Rattle.term_language.specs.Arrays.{indices}
use Rattle.term_language.specs.Ends.{Ends, Lies}
use Rattle.term_language.specs.Rules.{Reading, Near, Wide, interval, mark, truth}
use Rattle.term_language.specs.Sizes.{size}
use Rattle.std.specs.List as list
use Rattle.term_language.specs.Globals.{total}
use Rattle.term_language.specs.Values.{value, holds, TaskValues, asked, do_fit}

-- Never: there is no value; Always: there is one
abbrev pub Marks : {A : Type 0} → Defined → Option A → Type 0
Marks Never None = Unit {0}
Marks Never (Some x) = ⊥
Marks Maybe v = Unit {0}
Marks Always None = ⊥
Marks Always (Some x) = Unit {0}

-- False: the condition does not hold; True: it holds
abbrev pub Tells : Truth → Bool → Type 0
Tells False true = ⊥
Tells False false = Unit {0}
Tells Unknown holds = Unit {0}
Tells True true = Unit {0}
Tells True false = ⊥

-- an array has one item for each of its indices, and no index twice
pub record IsTable (table : Table) : Type 0 where
  pub complete : length table.items ≡ length (indices table.sets)
  pub distinct : AllPairs (λ p q. ¬ p ≡ q) (indices table.sets)

-- all arrays in a term or a condition are so
abbrev mutual
  pub IsProper : Term → Type 0
  IsProper (Constant z) = Unit {0}
  IsProper (Cell cell) = Unit {0}
  IsProper (Sum parts) = AreProperParts parts
  IsProper (Product a b) = IsProper a × IsProper b
  IsProper (Made op a) = IsProper a
  IsProper (Selected which a later) = IsProper a × AreProper later
  IsProper (Element table at) = IsTable table × AreProper at
  IsProper (Number c) = IsProperCond c

  pub AreProper : Terms → Type 0
  AreProper no_term = Unit {0}
  AreProper (term t later) = IsProper t × AreProper later

  pub AreProperParts : Parts → Type 0
  AreProperParts no_part = Unit {0}
  AreProperParts (part subtracted t later) = IsProper t × AreProperParts later

  pub IsProperCond : Cond → Type 0
  IsProperCond (Compare op a b) = IsProper a × IsProper b
  IsProperCond (Not c) = IsProperCond c
  IsProperCond (All conds) = AreProperConds conds
  IsProperCond (Any conds) = AreProperConds conds
  IsProperCond (Implies a c) = IsProperCond a × IsProperCond c
  IsProperCond (AllDifferent terms) = AreProper terms
  IsProperCond (Cumulative tasks capacity) = AreProperTasks tasks × IsProper capacity

  pub AreProperTasks : Tasks → Type 0
  AreProperTasks no_task = Unit {0}
  AreProperTasks (task start duration demand later) = IsProper start × IsProper duration × IsProper demand × AreProperTasks later

  pub AreProperConds : Conds → Type 0
  AreProperConds no_cond = Unit {0}
  AreProperConds (condition c later) = IsProperCond c × AreProperConds later

-- at each point of a box a value lies in the interval
abbrev pub ValuesLie : Type 0
ValuesLie =
    (reading : Reading) (root b : Box) (point : List ℤ) (t : Term) → IsBox b → InBox b point → IsProper t
    → IfSome (value point t) (λ z. Lies z (interval reading root b t))

-- there Never means undefined, and Always defined
abbrev pub MarksTell : Type 0
MarksTell =
    (reading : Reading) (root b : Box) (point : List ℤ) (t : Term) → IsBox b → InBox b point → IsProper t
    → Marks (mark reading root b t) (value point t)

-- there False and True are the truth
abbrev pub TruthsTell : Type 0
TruthsTell =
    (reading : Reading) (root b : Box) (point : List ℤ) (c : Cond) → IsBox b → InBox b point → IsProperCond c
    → Tells (truth reading root b c) (holds point c)

-- an interval is not empty, and lies within another
pub record Within (a c : Ends) : Type 0 where
  pub ordered : a.low ≤ℤ a.high
  pub from_low : c.low ≤ℤ a.low
  pub to_high : a.high ≤ℤ c.high

-- what is Never or Always over a box is so over each part; what is False or True, too
abbrev pub Sharper : Defined → Defined → Type 0
Sharper mark Maybe = Unit {0}
Sharper Never Never = Unit {0}
Sharper Maybe Never = ⊥
Sharper Always Never = ⊥
Sharper Never Always = ⊥
Sharper Maybe Always = ⊥
Sharper Always Always = Unit {0}

abbrev pub Surer : Truth → Truth → Type 0
Surer truth Unknown = Unit {0}
Surer False False = Unit {0}
Surer Unknown False = ⊥
Surer True False = ⊥
Surer False True = ⊥
Surer Unknown True = ⊥
Surer True True = Unit {0}

-- over a part of a box, whatever the reading, an interval lies within the wide one over the box
abbrev pub IntervalsNarrow : Type 0
IntervalsNarrow =
    (reading : Reading) (root part whole : Box) (t : Term) → IsBox whole → Inside part whole → IsProper t
    → Within (interval reading root part t) (interval Wide root whole t)

-- and marks and truths are as sure, or surer
abbrev pub MarksSharpen : Type 0
MarksSharpen =
    (reading : Reading) (root part whole : Box) (t : Term) → IsBox whole → Inside part whole → IsProper t
    → Sharper (mark reading root part t) (mark Wide root whole t)

abbrev pub TruthsSharpen : Type 0
TruthsSharpen =
    (reading : Reading) (root part whole : Box) (c : Cond) → IsBox whole → Inside part whole → IsProperCond c
    → Surer (truth reading root part c) (truth Wide root whole c)

-- an interval has no number of a greater size
pub record IsAtMost (a : Ends) (n : ℕ) : Type 0 where
  pub above : neg_ℤ (pos n) ≤ℤ a.low
  pub below : a.high ≤ℤ pos n

-- over each box inside the root, whatever the reading, no number of an interval is greater than the size
abbrev pub SizesBound : Type 0
SizesBound =
    (reading : Reading) (root part : Box) (t : Term) → IsBox root → Inside part root → IsProper t
    → IsAtMost (interval reading root part t) (size root t)

-- never Maybe, and where it is Always a fact holds
abbrev pub Exact : Defined → Type 0 → Type 0
Exact Never fact = Unit {0}
Exact Maybe fact = ⊥
Exact Always fact = fact

abbrev pub IsKnown : Truth → Type 0
IsKnown False = Unit {0}
IsKnown Unknown = ⊥
IsKnown True = Unit {0}

-- on a box of one point no mark is Maybe, and what is Always defined has an interval of one number
abbrev pub PointsExact : Type 0
PointsExact =
    (root b : Box) (t : Term) → IsBox b → IsPoint b → IsProper t
    → Exact (mark Near root b t) ((interval Near root b t).low ≡ (interval Near root b t).high)

-- and no truth is Unknown
abbrev pub PointsKnown : Type 0
PointsKnown =
    (root b : Box) (c : Cond) → IsBox b → IsPoint b → IsProperCond c → IsKnown (truth Near root b c)

-- a length and a demand that are not negative
abbrev pub IsSound : TaskValues → Type 0
IsSound t = (pos 0 ≤ℤ t.duration) × (pos 0 ≤ℤ t.demand)

-- tasks fit under a capacity exactly where no length and no demand is negative, and at no time they ask for more
abbrev pub TasksFitAtAllTimes : Type 0
TasksFitAtAllTimes =
    (tasks : List TaskValues) (capacity : ℤ)
    → do_fit tasks capacity ≡ true ↔ (list.All IsSound tasks × ((time : ℤ) → total (map (asked time) tasks) ≤ℤ capacity))
