-- A node that a seat took, among all open nodes.
use Rattle.std.proofs.Common.{◌≡◌, ℕ, ◌+◌, ◌<◌, ◌≤◌, ◌^◌, ℤ, List, [], ◌∷◌, ◌++◌, length, map, reverse, Option, Contains, arith, sym, ap, subst, ◌∙◌}
use Rattle.std.specs.List.{AllByRecursion}
use Rattle.std.proofs.lemmas.List.{map-append}
use Rattle.std.proofs.lemmas.List.Elements.{All-contains}
use Rattle.open_nodes.specs.Remade.{AreBelow}
use Rattle.sopl_base.specs.declared.reason.Step.{Step}
use Rattle.brancher.specs.Rules.{Rule}
use Rattle.box_problem.specs.Box.{Box, Inside}
use Rattle.box_problem.specs.BoxProblem.{BoxProblem}
use Rattle.box_problem.specs.Rightness.{Appended}
use Rattle.log_rows.specs.declared.rows.Row.{Row}
use Rattle.log_rows.specs.Made.{Pending}
use Rattle.log_rows.specs.Rows.{depth_at, final_of}
use Rattle.log_rows.proofs.Lists.{middle_is}
use Rattle.open_nodes.specs.declared.seats.OpenNode.{OpenNode}
use Rattle.open_nodes.specs.declared.walk.BoxWalk.{BoxWalk}
use Rattle.open_nodes.specs.SeatLaws.{IsOut}
use Rattle.open_nodes.specs.Takes.{Takes, lists_of}
use Rattle.open_nodes.specs.Walks.{marked}
use Rattle.open_nodes.proofs.Joining.{takes_even}
use Rattle.sopl_search.specs.declared.frontier.Frontier.{Frontier}
use Rattle.sopl_search.specs.declared.frontier.WorkedNode.{WorkedNode}
use Rattle.sopl_search.specs.Ends.{Ends}
use Rattle.sopl_search.specs.Frontiers.{AreRowNodes, IsAtNode, IsEnterable, IsOnRows, IsSplitRow, Keeps, Stands, boxes, nodes_of, opens, pendings}
use Rattle.sopl_search.specs.Lines.{parent_above, pending_of, split_above}
use Rattle.sopl_search.specs.Moves.{HasTaken, IsWorked}
use Rattle.sopl_search.specs.Outcomes.{value_of}

-- it is one of the open nodes
pub taken_out : (old new : Frontier) (seat : ℕ) (node : OpenNode) → HasTaken old new seat node → IsOut (nodes_of old) (nodes_of new) node
taken_out old new seat node taken = takes_even (lists_of old.seats) (lists_of new.seats) seat node taken.takes

at_middle : {A : Type 0} (P : A → Type 0) (xs : List A) (x : A) (ys : List A) → AllByRecursion P (xs ++ x ∷ ys) → P x
at_middle P [] x ys all = all.0
at_middle P (z ∷ xs) x ys all = at_middle P xs x ys all.1

pub way_known : (rows : List Row) (nodes others : List OpenNode) (node : OpenNode) → IsOut nodes others node → AreRowNodes rows nodes → IsSplitRow rows (split_above node)
way_known rows nodes others node out ways =
    at_middle (λ (x : OpenNode). IsSplitRow rows (split_above x)) out.front node out.back
    (subst (AreRowNodes rows) out.before ways)

pub is_open : (root : Box) (nodes others : List OpenNode) (node : OpenNode) → IsOut nodes others node → Contains (pendings root nodes) (pending_of root node)
is_open root nodes others node out =
    subst (λ (xs : List Pending). Contains xs (pending_of root node)) (sym (ap (pendings root) out.before ∙ map-append (pending_of root) out.front (node ∷ out.back)))
    (middle_is (pendings root out.front) (pendings root out.back) (pending_of root node))

box_open : (root : Box) (nodes others : List OpenNode) (node : OpenNode) → IsOut nodes others node → Contains (boxes (pendings root nodes)) (pending_of root node).at
box_open root nodes others node out =
    subst (λ (bs : List Box). Contains bs (pending_of root node).at)
    (sym (ap (λ (xs : List OpenNode). boxes (pendings root xs)) out.before
    ∙ (ap boxes (map-append (pending_of root) out.front (node ∷ out.back)) ∙ map-append (λ (x : Pending). x.at) (pendings root out.front) (pendings root (node ∷ out.back)))))
    (middle_is (boxes (pendings root out.front)) (boxes (pendings root out.back)) (pending_of root node).at)

-- a box may go to it
pub may_enter : (problem : BoxProblem) (asked : Option Rule) (rows : List Row) (seat : ℕ) (old new : Frontier) (node : OpenNode) → Keeps problem asked rows old → HasTaken old new seat node
    → IsEnterable problem rows new.walk node
may_enter problem asked rows seat old new node keeps taken = record {
  nodes = opens problem.root old;
  best = value_of old.best;
  logs = keeps.kept.logs;
  way = way_known rows (nodes_of old) (nodes_of new) node (taken_out old new seat node taken) keeps.ways;
  at = subst (IsOnRows problem.root rows) (sym taken.walk) keeps.walk;
}

pub some_entered : (problem : BoxProblem) (asked : Option Rule) (seat : ℕ) (old new : Frontier) (node : OpenNode) → ((rows : List Row) × Keeps problem asked rows old) → HasTaken old new seat node
    → (p : BoxProblem) × (rows : List Row) × IsEnterable p rows new.walk node
some_entered problem asked seat old new node keeps taken = (problem, keeps.0, may_enter problem asked keeps.0 seat old new node keeps.1 taken)

-- it does not lie deep
pub not_deep : (problem : BoxProblem) (asked : Option Rule) (rows : List Row) (seat : ℕ) (old new : Frontier) (node : OpenNode) → Keeps problem asked rows old → HasTaken old new seat node
    → depth_at rows (parent_above node) ≤ 1536
not_deep problem asked rows seat old new node keeps taken =
    omega (arith, keeps.kept.shallow.opens_are (pending_of problem.root node) (is_open problem.root (nodes_of old) (nodes_of new) node (taken_out old new seat node taken)))

pub some_shallow : (problem : BoxProblem) (asked : Option Rule) (seat : ℕ) (old new : Frontier) (node : OpenNode) → ((rows : List Row) × Keeps problem asked rows old) → HasTaken old new seat node
    → (rows : List Row) × IsSplitRow rows (split_above node) × (depth_at rows (parent_above node) ≤ 1536)
some_shallow problem asked seat old new node keeps taken = (
  keeps.0,
  way_known keeps.0 (nodes_of old) (nodes_of new) node (taken_out old new seat node taken) keeps.1.ways,
  not_deep problem asked keeps.0 seat old new node keeps.1 taken,
)

pub depth_small : (problem : BoxProblem) (asked : Option Rule) (seat : ℕ) (old new : Frontier) (node : OpenNode) (depth : ℕ) → ((rows : List Row) × Keeps problem asked rows old)
    → HasTaken old new seat node → ((rows : List Row) → IsSplitRow rows (split_above node) → depth ≡ depth_at rows (parent_above node)) → depth < 2 ^ 32
depth_small problem asked seat old new node depth keeps taken is =
    let shallow = some_shallow problem asked seat old new node keeps taken in
    omega (arith, is shallow.0 shallow.1, shallow.2)

-- its box lies in the root
pub node_inside : (problem : BoxProblem) (seat : ℕ) (old new : Frontier) (node : OpenNode) → Stands problem old → HasTaken old new seat node → Inside (pending_of problem.root node).at problem.root
node_inside problem seat old new node stands taken =
    All-contains (λ (b : Box). Inside b problem.root) (boxes (opens problem.root old)) (pending_of problem.root node).at stands.are_open.covers.inside
    (box_open problem.root (nodes_of old) (nodes_of new) node (taken_out old new seat node taken))

pub entered_inside : (problem : BoxProblem) (asked : Option Rule) (seat : ℕ) (old new : Frontier) (node : OpenNode) (entered : BoxWalk) → ((rows : List Row) × Keeps problem asked rows old)
    → Stands problem old → HasTaken old new seat node
    → ((p : BoxProblem) (rows : List Row) → IsEnterable p rows new.walk node → IsAtNode p rows entered node) → Inside entered.store.box problem.root
entered_inside problem asked seat old new node entered keeps stands taken at =
    subst (λ (b : Box). Inside b problem.root) (sym (at problem keeps.0 (may_enter problem asked keeps.0 seat old new node keeps.1 taken)).box)
    (node_inside problem seat old new node stands taken)

-- it was worked on
pub is_worked : (problem : BoxProblem) (asked : Option Rule) (rows : List Row) (seat : ℕ) (old took new : Frontier) (entered : BoxWalk) (worked : WorkedNode) (v : Option ℤ) (cast : ℕ)
    (none : List Step)
    → Keeps problem asked rows old → HasTaken old took seat worked.node
    → ((p : BoxProblem) (given : List Row) → IsEnterable p given took.walk worked.node → IsAtNode p given entered worked.node)
    → ((given : List Row) → IsSplitRow given (split_above worked.node) → worked.depth ≡ depth_at given (parent_above worked.node))
    → v ≡ value_of took.best → none ≡ [] → Appended problem v entered.store.box none worked.steps new.walk.store.box → new.walk.store.marks ≡ entered.store.marks → cast ≡ worked.depth
    → Ends problem v asked cast new.walk.store.box worked.end
    → new.walk.here ≡ entered.here → new.seats ≡ took.seats → new.open_count ≡ took.open_count → new.finished ≡ took.finished → new.best ≡ took.best → new.gather ≡ took.gather
    → IsWorked problem asked rows seat old new worked
is_worked problem asked rows seat old took new entered worked v cast none keeps taken enters deep value empty appended marks same_depth ends here seats count finished best gather =
    let at = enters problem rows (may_enter problem asked rows seat old took worked.node keeps taken) in
    let was = value ∙ ap value_of taken.best in
    record {
      takes = subst (λ lists. Takes (lists_of old.seats) (lists_of lists) seat worked.node) (sym seats) taken.takes;
      counted = ap (λ (n : ℕ). n + 1) count ∙ taken.counted;
      finished = finished ∙ taken.finished;
      best = best ∙ taken.best;
      gather = gather ∙ taken.gather;
      walk = record {
        at = ap marked marks ∙ (at.at.at ∙ sym (ap (λ held. map (final_of problem.root rows) (reverse held.items) ++ problem.root ∷ []) here));
        below = subst (λ held. AreBelow (length rows) (reverse held.items)) (sym here) at.at.below;
      };
      depth = deep rows (way_known rows (nodes_of old) (nodes_of took) worked.node (taken_out old took seat worked.node taken) keeps.ways);
      steps = subst (λ (w : Option ℤ). Appended problem w (pending_of problem.root worked.node).at [] worked.steps new.walk.store.box) was
          (subst (λ (b : Box). Appended problem v b [] worked.steps new.walk.store.box) at.box
          (subst (λ (steps : List Step). Appended problem v entered.store.box steps worked.steps new.walk.store.box) empty appended));
      ends = subst (λ (w : Option ℤ). Ends problem w asked worked.depth new.walk.store.box worked.end) was
          (subst (λ (n : ℕ). Ends problem v asked n new.walk.store.box worked.end) same_depth ends);
    }
