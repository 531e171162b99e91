-- The names of variables, and the elements of an array by where they come from.
use Rattle.std.specs.Prelude.{◌<◌, ℕ, pos, List, [], get_or}
use Rattle.std.specs.List.{AllByRecursion}
use Rattle.sopl_ast.specs.Instances.{Decision, Stochastic}
use Rattle.sopl_scen.specs.Layout.{Layout, cell_in, value_in}
use Rattle.sopl_scen.specs.Levels.{no_variable}
use Rattle.term_language.specs.Terms as c
use Rattle.term_language.specs.Arrays.{Entry}
use Rattle.compile_names.specs.declared.origins.Origin.{Origin}
use Rattle.compile_names.specs.declared.origins.Origin.TheVariants.{Fixed, Drawn, Decided}
use Rattle.compile_names.specs.declared.origins.Source.{Source}

-- the name of a stochastic variable, and of a decision
abbrev pub drawn_name : Stochastic → List ℕ
drawn_name s = s.name

abbrev pub decided_name : Decision → List ℕ
decided_name d = d.name

-- a value is a constant, or that of one of so many stochastic variables or of so many decisions
abbrev pub OriginExists : ℕ → ℕ → Origin → Type 0
OriginExists drawn decided (Fixed z) = Unit {0}
OriginExists drawn decided (Drawn j) = j < drawn
OriginExists drawn decided (Decided j) = j < decided

-- so are the values of all these elements
abbrev pub AreThere : ℕ → ℕ → List Source → Type 0
AreThere drawn decided sources = AllByRecursion (λ (source : Source). OriginExists drawn decided source.origin) sources

-- the item that an element is in a scenario
abbrev pub item_from : Layout → ℕ → Origin → c.Item
item_from tree scenario (Fixed z) = c.Fixed z
item_from tree scenario (Drawn j) = c.Fixed (value_in tree j scenario)
item_from tree scenario (Decided j) = c.Free (cell_in tree j scenario)

-- the element itself
abbrev pub entry_from : Layout → ℕ → Source → Entry
entry_from tree scenario source = record { index = source.index.now; item = item_from tree scenario source.origin }

-- no decision, in place of one that is not there
abbrev pub no_decision : Decision
no_decision = record { name = []; index = []; lo = pos 0; hi = pos 0; stage = 0 }

-- the elements of the stochastic variable and of the decision with a number
abbrev pub drawn_entry : List Stochastic → Layout → ℕ → ℕ → Entry
drawn_entry ss tree scenario j = record { index = (get_or ss j no_variable).index; item = c.Fixed (value_in tree j scenario) }

abbrev pub decided_entry : List Decision → Layout → ℕ → ℕ → Entry
decided_entry ds tree scenario j = record { index = (get_or ds j no_decision).index; item = c.Free (cell_in tree j scenario) }
