-- What changes when, and what comes of it at each time.
use Rattle.std.specs.Prelude.{◌≡◌, ℤ, pos, ◌+ℤ◌, ◌<ℤ◌, int_le, List, [], ◌∷◌, map, IfSome, if◌then◌else◌}
use Rattle.std.specs.BTreeMap.{BTreeMap, get}
use Rattle.std.specs.Ordering.{int_cmp}
use Rattle.sopl_ast.specs.Numbers.{Task, demanded}
use Rattle.sopl_base.specs.declared.wide.Wide.{Wide}
use Rattle.unfold_tables.specs.declared.changes.Change.{Change}

-- an entry as a change
abbrev pub change_in : ℤ × Wide → Change
change_in e = record { time = e.0; by = e.1 }

abbrev pub changes_in : List (ℤ × Wide) → List Change
changes_in es = map change_in es

-- what a change comes to at a time: nothing before it comes
abbrev pub part : ℤ → Change → ℤ
part time c = if int_le c.time time then c.by.value else pos 0

-- what changes come to together at a time
abbrev pub level : ℤ → List Change → ℤ
level time [] = pos 0
level time (c ∷ later) = part time c +ℤ level time later

-- no change comes before its time, nor at it; each comes before those behind it
abbrev pub After : ℤ → List Change → Type 0
After time [] = Unit {0}
After time (c ∷ later) = (time <ℤ c.time) × After time later

abbrev pub Rise : List Change → Type 0
Rise [] = Unit {0}
Rise (c ∷ later) = After c.time later × Rise later

-- what is kept for a time is what tasks ask for together then
abbrev pub AreLevels : List Task → BTreeMap ℤ Wide → Type 0
AreLevels tasks levels = (time : ℤ) → IfSome (get int_cmp levels time) (λ (w : Wide). w.value ≡ demanded time tasks)
