-- How a tree of the program is seen as a layout, and what each tree keeps.
use Rattle.sopl_scen.specs.Layout.{Layout, IsFilled}
use Rattle.sopl_scen.specs.declared.tree.Tree.TheInside.{Inside}

-- the tables of a tree
abbrev pub layout_of : Inside → Layout
layout_of t =
    record {
      total = t.total.value;
      variables = t.variables;
      weights = t.scenes.weights.items;
      values = t.scenes.table.values.items;
      nodes = t.scenes.table.nodes.items;
      stages = t.scenes.stages.items;
      places = t.cells.places.items;
      cells = t.cells.total;
    }

abbrev pub IsKept : Inside → Type 0
IsKept t = IsFilled (layout_of t)
