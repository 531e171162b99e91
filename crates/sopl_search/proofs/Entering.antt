-- A box goes to an open node.
use Rattle.std.proofs.Common.{◌≡◌, ℕ, List, ◌∷◌, length, reverse, Some, option_map, sym, ap, subst, ◌∙◌, Result, Ok, Err, OnOk}
use Rattle.std.specs.declared.alloc.Global.{Global}
use Rattle.std.specs.declared.rc.Rc.{Rc}
use Rattle.box_problem.specs.Box.{Box}
use Rattle.box_problem.specs.BoxProblem.{BoxProblem}
use Rattle.log_rows.specs.declared.rows.Row.{Row}
use Rattle.log_rows.specs.Rows.{final_of}
use Rattle.open_nodes.specs.declared.seats.OpenNode.{OpenNode}
use Rattle.open_nodes.specs.declared.split.SplitNode.{SplitNode}
use Rattle.open_nodes.specs.declared.walk.BoxWalk.{BoxWalk}
use Rattle.open_nodes.specs.Remade.{AreBelow, split_numbers}
use Rattle.open_nodes.specs.Walks.{IsEntered, IsKnownWay}
use Rattle.open_nodes.specs.Ways.{given_box, ups}
use Rattle.open_nodes.proofs.GoingOn.{way_below}
use Rattle.open_nodes.proofs.Places.{cuts_as_rows, named_as_rows}
use Rattle.sopl_search.specs.Frontiers.{IsAtNode, IsEnterable, IsSplitRow}
use Rattle.sopl_search.specs.Lines.{split_above}

split_is : (node : OpenNode) (split : Rc SplitNode Global) → node.below ≡ Some split → split_above node ≡ Some split.value
split_is node split is = ap (option_map (λ (s : Rc SplitNode Global). s.value)) is

way_of : (problem : BoxProblem) (rows : List Row) (walk : BoxWalk) (node : OpenNode) (split : Rc SplitNode Global) → node.below ≡ Some split → IsEnterable problem rows walk node
    → IsSplitRow rows (Some split.value)
way_of problem rows walk node split is able = subst (IsSplitRow rows) (split_is node split is) able.way

-- its way is known
pub known_way : (problem : BoxProblem) (rows : List Row) (walk : BoxWalk) (node : OpenNode) (split : Rc SplitNode Global) (there : SplitNode) → node.below ≡ Some split → there ≡ split.value
    → IsEnterable problem rows walk node → IsKnownWay problem.root (final_of problem.root rows) walk there
known_way problem rows walk node split there is same able =
    let way = way_of problem rows walk node split is able in
    subst (λ (s : SplitNode). IsKnownWay problem.root (final_of problem.root rows) walk s) (sym same)
    (record {
      at = able.at.at;
      cuts = cuts_as_rows problem rows able.nodes able.best split.value able.logs way.0;
      named = named_as_rows problem.root rows split.value able.logs.hangs way.0;
    })

pub some_known : (walk : BoxWalk) (node : OpenNode) (split : Rc SplitNode Global) (there : SplitNode) → node.below ≡ Some split → there ≡ split.value
    → ((problem : BoxProblem) × (rows : List Row) × IsEnterable problem rows walk node) → (root : Box) × (f : ℕ → Box) × IsKnownWay root f walk there
some_known walk node split there is same able =
    (able.0.root, final_of able.0.root able.1, known_way able.0 able.1 walk node split there is same able.2)

-- and there it stands
pub enters : {T E : Type 0} (problem : BoxProblem) (rows : List Row) (old new : BoxWalk) (node : OpenNode) (split : Rc SplitNode Global) (there : SplitNode) (result : Result T E)
    → node.below ≡ Some split → there ≡ split.value → IsEnterable problem rows old node
    → ((root : Box) (f : ℕ → Box) → IsKnownWay root f old there → OnOk result (IsEntered root f new there node.side))
    → ((most : ℕ) → AreBelow most (reverse old.here.items) → AreBelow most (split_numbers (there ∷ ups there)) → OnOk result (AreBelow most (reverse new.here.items)))
    → OnOk result (IsAtNode problem rows new node)
enters problem rows old new node split there (Ok value) is same able entered below =
    let way = way_of problem rows old node split is able in
    let e = entered problem.root (final_of problem.root rows) (known_way problem rows old node split there is same able) in
    record {
      at = record {
        at = e.at;
        below = below (length rows) able.at.below (subst (λ (s : SplitNode). AreBelow (length rows) (split_numbers (s ∷ ups s))) (sym same) (way_below rows split.value way.0));
      };
      box = e.box ∙ sym (ap (given_box problem.root node.side) (split_is node split is ∙ ap (λ (s : SplitNode). Some s) (sym same)));
    }
enters problem rows old new node split there (Err error) is same able entered below = tt
