use Rattle.std.proofs.Common.{◌≡◌, ◌++◌, ℕ, map, drop}
use Rattle.std.specs.List.{AllByRecursion}
use Rattle.sopl_scen.specs.Layout.{Layout}
use Rattle.compile_names.specs.Plans.{picked}
use Rattle.compile_names.specs.Tables.{items_in}
use Rattle.compile_names.specs.Variables.{AreThere, OriginExists, item_from}
use Rattle.compile_names.proofs.arrays.origins_at.Given as goal

abbrev pub invariant-order : goal.invariant-order
invariant-order l =
    ((tree : Layout) (i : ℕ)
    → map (item_from tree i) l.origins.items ++ map (picked (items_in tree i l.sources)) (drop l.place-index l.order) ≡ map (picked (items_in tree i l.sources)) l.order)
    × ((drawn decided : ℕ) → AreThere drawn decided l.sources → AllByRecursion (OriginExists drawn decided) l.origins.items)
