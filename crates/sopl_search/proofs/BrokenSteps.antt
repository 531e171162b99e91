-- A step of a seat as a whole, and one that is refused.
use Rattle.std.proofs.Common.{◌≡◌, inl, inr, ℕ, ◌+◌, ◌<◌, ◌^◌, List, ◌++◌, length, map, option_map, Option, Some, None, arith, refl, sym, ap, subst, ◌∙◌}
use Rattle.std.proofs.lemmas.List.Elements.{All-nil}
use Rattle.std.proofs.KnownBytes.{Appends-nil, Keeps-refl}
use Rattle.sopl_base.specs.declared.reason.Side.{Side}
use Rattle.sopl_io.specs.Gathered.{GathersAll}
use Rattle.sopl_io.specs.Transfer.{AppendsPrefix}
use Rattle.sopl_io.proofs.Gathering.{prefix_of_second}
use Rattle.brancher.specs.declared.choice.Event.{Event}
use Rattle.brancher.specs.declared.choice.Event.TheVariants as events
use Rattle.brancher.specs.Heard.{with_event_told}
use Rattle.brancher.specs.Rules.{Rule}
use Rattle.box_problem.specs.Box.{Inside}
use Rattle.box_problem.specs.BoxProblem.{BoxProblem}
use Rattle.log_rows.specs.declared.rows.Row.{Row}
use Rattle.log_rows.specs.Lines.{row_lines, text_of}
use Rattle.log_rows.specs.Ranges.{ParentFits, RowFits, StepFits}
use Rattle.open_nodes.specs.declared.seats.OpenNode.{OpenNode}
use Rattle.open_nodes.specs.declared.split.SplitNode.{SplitNode, SplitNode'}
use Rattle.open_nodes.specs.Takes.{Takes, all_nodes, lists_of}
use Rattle.open_nodes.specs.Ways.{given_parent, split_cut}
use Rattle.open_nodes.proofs.GoingOn.{way_below}
use Rattle.open_nodes.proofs.Joining.{takes_even}
use Rattle.sopl_search.specs.declared.frontier.Frontier.{Frontier}
use Rattle.sopl_search.specs.declared.frontier.WorkedNode.{WorkedNode}
use Rattle.sopl_search.specs.declared.ending.NodeEnd.{NodeEnd}
use Rattle.sopl_search.specs.declared.ending.NodeEnd.TheVariants.{Refuted, Split, Point}
use Rattle.sopl_search.specs.Ends.{IsPosed}
use Rattle.sopl_search.specs.Events.{IsEventOf, cell_cut, cut_above}
use Rattle.sopl_search.specs.Frontiers.{IsSplitRow, Keeps, Stands, nodes_of, pendings}
use Rattle.sopl_search.specs.Lines.{line_of, open_line, parent_above, pending_of, split_above}
use Rattle.sopl_search.specs.Moves.{IsBrokenStep, IsEnded, IsPut, IsStepped, IsWorked, event_told, worked_row}
use Rattle.sopl_search.proofs.AllTaken.{takes_long}
use Rattle.sopl_search.proofs.MovedNodes.{takes_seen}
use Rattle.sopl_search.proofs.NextRow.{HasWorked}
use Rattle.sopl_search.proofs.Stepping.{box_inside, crew_step, has_worked, keeps_after, next_row, seats_long, stands_after, worked_there}
use Rattle.sopl_search.proofs.Taken.{way_known}

-- what a sink took of a text that came behind what was kept for it is a prefix of both
took_of : (a b : Option (List ℕ)) (k l bytes : List ℕ) → GathersAll a k b l bytes → AppendsPrefix a b (k ++ bytes)
took_of a b k l bytes is = subst (AppendsPrefix a b) is.rest (prefix_of_second a b b is.written l is.took (0, Appends-nil b))

-- the number of the split above an open node is that of a row
parent_fits : (rows : List Row) (side : Side) (above : Option SplitNode) → IsSplitRow rows above → length rows < 2 ^ 64 → ParentFits (given_parent side above)
parent_fits rows side None way small = tt
parent_fits rows side (Some split) way small = omega (arith, (way_below rows split way.0).0, small)

-- memory is wanting before any line is written
pub broken_at_once : (problem : BoxProblem) (asked : Option Rule) (rows : List Row) (seat : ℕ) (old : Frontier) (before : Option (List ℕ)) → old.finished < 2 ^ 62 → Keeps problem asked rows old
    → ((node : OpenNode) × (others : List (List OpenNode)) × Takes (lists_of old.seats) others seat node) → IsBrokenStep problem rows seat old before before
broken_at_once problem asked rows seat old before small keeps (node, others, takes) =
    let out = takes_even (lists_of old.seats) others seat node takes in
    record {
      node = pending_of problem.root node;
      others = map (pendings problem.root) others;
      takes = takes_seen (pending_of problem.root) (lists_of old.seats) others seat node takes;
      row = open_line (parent_above node);
      parent = refl;
      fits = record {
        parent_fits = parent_fits rows node.side (split_above node) (way_known rows (nodes_of old) (all_nodes others) node out keeps.ways) (omega (arith, keeps.kept.counted, small));
        steps_fit = All-nil StepFits;
        end_fits = tt;
      };
      took = (0, Appends-nil before);
      right = inl (Keeps-refl before);
    }

-- a write fails
pub broken_at_put : (problem : BoxProblem) (asked : Option Rule) (rows : List Row) (seat : ℕ) (old mid : Frontier) (worked : WorkedNode) (before now : Option (List ℕ)) → IsPosed problem
    → seat < length old.seats.seats.items → Keeps problem asked rows old → IsWorked problem asked rows seat old mid worked → RowFits (worked_row worked) → AppendsPrefix before now (mid.gather.kept ++ text_of (row_lines mid.finished (worked_row worked)))
    → IsBrokenStep problem rows seat old before now
broken_at_put problem asked rows seat old mid worked before now posed exists keeps is fits took = record {
  node = pending_of problem.root worked.node;
  others = map (pendings problem.root) (lists_of mid.seats);
  takes = takes_seen (pending_of problem.root) (lists_of old.seats) (lists_of mid.seats) seat worked.node is.takes;
  row = worked_row worked;
  parent = refl;
  fits = fits;
  took = subst (λ (n : ℕ). AppendsPrefix before now (old.gather.kept ++ text_of (row_lines n (worked_row worked)))) (is.finished ∙ sym keeps.kept.counted)
      (subst (λ gather. AppendsPrefix before now (gather.kept ++ text_of (row_lines mid.finished (worked_row worked)))) is.gather took);
  right = inr (next_row problem asked rows seat old mid old worked posed keeps worked.end (worked_there problem asked rows seat old mid worked exists is));
}

-- memory is wanting behind the lines
pub broken_at_end : (problem : BoxProblem) (asked : Option Rule) (rows : List Row) (seat : ℕ) (old mid put : Frontier) (worked : WorkedNode) (before now : Option (List ℕ))
    → IsPosed problem → seat < length old.seats.seats.items → Keeps problem asked rows old → IsWorked problem asked rows seat old mid worked → RowFits (worked_row worked)
    → IsPut mid put (worked_row worked) before now → IsBrokenStep problem rows seat old before now
broken_at_end problem asked rows seat old mid put worked before now posed exists keeps is fits written =
    broken_at_put problem asked rows seat old mid worked before now posed exists keeps is fits
    (took_of before now mid.gather.kept put.gather.kept (text_of (row_lines mid.finished (worked_row worked))) written.lines)

-- the event of a node is that of its row
cell_there : (rows : List Row) (side : Side) (above : Option SplitNode) → IsSplitRow rows above
    → option_map (λ (split : SplitNode). (split_cut split).cell) above ≡ cut_above rows (given_parent side above)
cell_there rows side None way = refl
cell_there rows side (Some (SplitNode' above up node depth steps cut)) way = ap (λ (r : Row). cell_cut r.end) (sym way.0.1)

event_there : (rows : List Row) (node : OpenNode) (end : NodeEnd) → IsSplitRow rows (split_above node) → IsEventOf rows (parent_above node) (line_of end) (event_told node end)
event_there rows node (Refuted reason) way = ap events.Closed (cell_there rows node.side (split_above node) way)
event_there rows node (Split cut low_first) way = refl
event_there rows node Point way = refl

-- nothing is refused
module _ (problem : BoxProblem) (asked : Option Rule) (rows : List Row) (seat : ℕ) (old mid put : Frontier) (worked written : WorkedNode) (before now : Option (List ℕ)) (posed : IsPosed problem)
    (keeps : Keeps problem asked rows old) (exists : seat < length old.seats.seats.items) (is : IsWorked problem asked rows seat old mid worked)
    (wrote : IsPut mid put (worked_row worked) before now) where
  has : HasWorked problem asked rows seat old put worked worked.end
  has = has_worked problem asked rows seat old mid put worked (worked_row worked) before now exists is wrote

  pub inside_there : Inside put.walk.store.box problem.root
  inside_there = box_inside problem asked rows seat old put old worked posed keeps worked.end has

  pub seat_there : seat < length put.seats.seats.items
  seat_there = subst (λ (n : ℕ). seat < n) (sym (takes_long old.seats put.seats seat worked.node has.takes)) exists

  module _ (new : Frontier) (same : written ≡ worked) (ended : IsEnded problem put new seat written written.end) where
    end_is : IsEnded problem put new seat worked worked.end
    end_is = subst (λ (w : WorkedNode). IsEnded problem put new seat w w.end) same ended

    pub stands_there : Stands problem old → Stands problem new
    stands_there stands = stands_after problem asked rows seat old put new worked posed keeps worked.end has end_is stands

    pub seats_there : length new.seats.seats.items ≡ length old.seats.seats.items
    seats_there = seats_long problem asked rows seat old put new worked posed keeps worked.end has end_is

    pub stepped : (heard_before heard_mid heard_now : Option (Option (List Event))) (event : Event) → RowFits (worked_row worked) → new.gather ≡ put.gather → new.walk ≡ put.walk
        → event ≡ event_told written.node written.end → heard_mid ≡ heard_before → heard_now ≡ with_event_told heard_mid event
        → IsStepped problem asked rows seat old new before now heard_before heard_now
    stepped heard_before heard_mid heard_now event fits gather walk event_is same_heard told = record {
      event = event;
      event_is = subst (IsEventOf rows (parent_above worked.node) (line_of worked.end)) (sym (event_is ∙ ap (λ (w : WorkedNode). event_told w.node w.end) same))
          (event_there rows worked.node worked.end
          (way_known rows (nodes_of old) (nodes_of mid) worked.node (takes_even (lists_of old.seats) (lists_of mid.seats) seat worked.node is.takes) keeps.ways));
      told = told ∙ ap (λ (asked_heard : Option (Option (List Event))). with_event_told asked_heard event) same_heard;
      row = worked_row worked;
      keeps = keeps_after problem asked rows seat old put new worked posed keeps worked.end has end_is fits walk;
      step = crew_step problem asked rows seat old put new worked posed keeps worked.end has end_is;
      lines = subst (λ g. GathersAll before old.gather.kept now g.kept (text_of (row_lines (length rows) (worked_row worked)))) (sym gather)
          (subst (λ (n : ℕ). GathersAll before old.gather.kept now put.gather.kept (text_of (row_lines n (worked_row worked)))) (is.finished ∙ sym keeps.kept.counted)
          (subst (λ g. GathersAll before g.kept now put.gather.kept (text_of (row_lines mid.finished (worked_row worked)))) is.gather wrote.lines));
    }
