use Rattle.std.proofs.Common.{◌≡◌, ◌++◌, ℕ, map, drop}
use Rattle.sopl_scen.specs.Layout.{Layout}
use Rattle.unfold_tables.specs.Listed.{element_shown}
use Rattle.compile_names.specs.Listing.{constant_entry}
use Rattle.compile_names.specs.Variables.{AreThere, entry_from}
use Rattle.compile_names.proofs.origins.list_fixed.Given as goal

abbrev pub invariant-elements : goal.invariant-elements
invariant-elements l =
    ((tree : Layout) (i : ℕ)
    → map (entry_from tree i) l.found.items ++ map constant_entry (map element_shown (drop l.element-index l.elements))
    ≡ map (entry_from tree i) l.fn.found.items ++ map constant_entry (map element_shown l.elements))
    × ((drawn decided : ℕ) → AreThere drawn decided l.fn.found.items → AreThere drawn decided l.found.items)
