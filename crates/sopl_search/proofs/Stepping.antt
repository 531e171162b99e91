-- A seat takes a step.
use Rattle.std.proofs.Common.{◌≡◌, inl, inr, ℕ, ◌+◌, ◌<◌, ◌≤◌, Bool, true, false, List, [], ◌∷◌, ◌++◌, length, map, Option, Some, arith, refl, sym, ap, subst, ◌∙◌}
use Rattle.std.proofs.lemmas.List.{length-map, length-set}
use Rattle.sopl_base.specs.declared.reason.Side.TheVariants.{Le, Ge}
use Rattle.brancher.specs.Rules.{Rule}
use Rattle.box_problem.specs.Box.{Box, Inside}
use Rattle.box_problem.specs.BoxProblem.{BoxProblem}
use Rattle.box_problem.specs.Rightness.{Appended}
use Rattle.box_problem.specs.Steps.{after_steps, cut_away, narrowed}
use Rattle.box_problem.proofs.Boxes.{parts_of_parts}
use Rattle.log_rows.specs.declared.rows.Cut.{Cut}
use Rattle.log_rows.specs.declared.rows.EndLine.TheVariants as lines
use Rattle.log_rows.specs.declared.rows.Row.{Row}
use Rattle.log_rows.specs.LogLaws.{half}
use Rattle.log_rows.specs.Made.{IsFinished, MadeEnd, Pending, best_after}
use Rattle.log_rows.specs.Ranges.{RowFits}
use Rattle.open_nodes.specs.declared.halving.Halving.{Halving}
use Rattle.open_nodes.specs.declared.seats.Seat.{Seat}
use Rattle.open_nodes.specs.declared.seats.Seats.{Seats}
use Rattle.open_nodes.specs.declared.walk.BoxWalk.{BoxWalk}
use Rattle.open_nodes.specs.Takes.{Gives, Takes, all_nodes, lists_of}
use Rattle.open_nodes.specs.Ways.{row_cut}
use Rattle.sopl_search.specs.declared.ending.NodeEnd.{NodeEnd}
use Rattle.sopl_search.specs.declared.ending.NodeEnd.TheVariants.{Refuted, Split, Point}
use Rattle.sopl_search.specs.declared.frontier.Frontier.{Frontier}
use Rattle.sopl_search.specs.declared.frontier.WorkedNode.{WorkedNode}
use Rattle.sopl_search.specs.declared.outcome.Found.{Found}
use Rattle.sopl_search.specs.Crews.{GivesSides, IsCrewStep, IsNextRow}
use Rattle.sopl_search.specs.Ends.{Ends, IsNewPoint, IsPosed, IsSplit}
use Rattle.sopl_search.specs.Frontiers.{AreKept, AreRowNodes, IsOnRows, IsSound, Keeps, Stands, boxes, nodes_of, opens, pendings, state_of}
use Rattle.sopl_search.specs.Lines.{line_of, new_row, parent_above, pending_of}
use Rattle.sopl_search.specs.Moves.{IsEnded, IsPut, IsWorked}
use Rattle.sopl_search.specs.Outcomes.{found_at, value_of}
use Rattle.sopl_search.proofs.AllTaken.{takes_long}
use Rattle.sopl_search.proofs.MoreRows.{on_rows_more}
use Rattle.sopl_search.proofs.MovedNodes.{gives_seen, takes_seen}
use Rattle.sopl_search.proofs.NextRow as next
use Rattle.sopl_search.proofs.NextRow.{HasWorked}
use Rattle.sopl_search.proofs.Points.{best_stays, new_point}
use Rattle.sopl_search.proofs.Sound.{AreHalves, picked_cuts, sound_after_point, sound_after_refuted, sound_after_split, sound_after_steps, sound_given, sound_taken}
use Rattle.sopl_search.proofs.Swapping.{AreSides}

-- what holds of best value, number of nodes and open nodes holds of another search that has the same
same_sound : (problem : BoxProblem) (best now : Option Found) (finished count : ℕ) (nodes others : List Pending) → now ≡ best → count ≡ finished → others ≡ nodes
    → IsSound problem best finished (boxes nodes) → IsSound problem now count (boxes others)
same_sound problem best now finished count nodes others found counted same sound =
    subst (λ (f : Option Found). IsSound problem f count (boxes others)) (sym found)
    (subst (λ (n : ℕ). IsSound problem best n (boxes others)) (sym counted)
    (subst (λ (xs : List Pending). IsSound problem best finished (boxes xs)) (sym same) sound))

same_kept : (problem : BoxProblem) (asked : Option Rule) (rows : List Row) (seats long finished count : ℕ) (nodes others : List Pending) (best now : Option Found) → long ≡ seats → count ≡ finished
    → others ≡ nodes → now ≡ best → AreKept problem asked seats rows finished nodes best → AreKept problem asked long rows count others now
same_kept problem asked rows seats long finished count nodes others best now same_seats counted same found kept =
    subst (λ (n : ℕ). AreKept problem asked n rows count others now) (sym same_seats)
    (subst (λ (n : ℕ). AreKept problem asked seats rows n others now) (sym counted)
    (subst (λ (xs : List Pending). AreKept problem asked seats rows finished xs now) (sym same)
    (subst (λ (f : Option Found). AreKept problem asked seats rows finished nodes f) (sym found) kept)))

-- the boxes of the two sides, and the sides in either order
halves_of : (n : ℕ) (b : Box) (cut : Halving) (p q : Pending) (first : Bool) → AreSides first n b (row_cut cut) p q
    → AreHalves first (narrowed b cut.cell Le cut.k) (cut_away b cut.cell Le cut.k) p.at q.at
halves_of n b cut p q true sides = (ap (λ (y : Pending). y.at) sides.0, ap (λ (y : Pending). y.at) sides.1)
halves_of n b cut p q false sides = (ap (λ (y : Pending). y.at) sides.0, ap (λ (y : Pending). y.at) sides.1)

sides_given : (n : ℕ) (b : Box) (cut : Cut) (p q : Pending) (first : Bool) (old new : List (List Pending)) (seat : ℕ) → AreSides first n b cut p q → Gives old new seat p q
    → GivesSides n b (lines.Split cut) old new seat
sides_given n b cut p q true old new seat sides gives =
    inl (subst (λ (y : Pending). Gives old new seat y (half n b cut Le)) sides.0 (subst (λ (z : Pending). Gives old new seat p z) sides.1 gives))
sides_given n b cut p q false old new seat sides gives =
    inr (subst (λ (y : Pending). Gives old new seat y (half n b cut Ge)) sides.0 (subst (λ (z : Pending). Gives old new seat p z) sides.1 gives))

-- what is kept for a sink is no part of this
pub has_worked : (problem : BoxProblem) (asked : Option Rule) (rows : List Row) (seat : ℕ) (old mid put : Frontier) (worked : WorkedNode) (row : Row) (before now : Option (List ℕ))
    → seat < length old.seats.seats.items → IsWorked problem asked rows seat old mid worked → IsPut mid put row before now → HasWorked problem asked rows seat old put worked worked.end
has_worked problem asked rows seat old mid put worked row before now exists is written = record {
  exists = exists;
  takes = subst (λ (s : Seats). Takes (lists_of old.seats) (lists_of s) seat worked.node) (sym written.seats) is.takes;
  counted = ap (λ (n : ℕ). n + 1) written.open_count ∙ is.counted;
  finished = written.finished ∙ is.finished;
  best = written.best ∙ is.best;
  walk = subst (IsOnRows problem.root rows) (sym written.walk) is.walk;
  depth = is.depth;
  steps = subst (λ (w : BoxWalk). Appended problem (value_of old.best) (pending_of problem.root worked.node).at [] worked.steps w.store.box) (sym written.walk)
      is.steps;
  ends = subst (λ (w : BoxWalk). Ends problem (value_of old.best) asked worked.depth w.store.box worked.end) (sym written.walk) is.ends;
}

-- before its lines are written
pub worked_there : (problem : BoxProblem) (asked : Option Rule) (rows : List Row) (seat : ℕ) (old mid : Frontier) (worked : WorkedNode)
    → seat < length old.seats.seats.items → IsWorked problem asked rows seat old mid worked → HasWorked problem asked rows seat old mid worked worked.end
worked_there problem asked rows seat old mid worked exists is = record {
  exists = exists;
  takes = is.takes;
  counted = is.counted;
  finished = is.finished;
  best = is.best;
  walk = is.walk;
  depth = is.depth;
  steps = is.steps;
  ends = is.ends;
}

-- the row of a node that was worked on and ends so
abbrev pub row_by : WorkedNode → NodeEnd → Row
row_by worked end = new_row (parent_above worked.node) worked.steps (line_of end)

module _ (problem : BoxProblem) (asked : Option Rule) (rows : List Row) (seat : ℕ) (old put new : Frontier) (worked : WorkedNode) (posed : IsPosed problem)
    (keeps : Keeps problem asked rows old) where
  -- right steps in the box of the node that was taken
  sound_there : (end : NodeEnd) (is : HasWorked problem asked rows seat old put worked end) → Stands problem old
      → IsSound problem old.best old.finished (put.walk.store.box
      ∷ boxes (pendings problem.root (next.out problem asked rows seat old put worked end posed keeps is).front
      ++ pendings problem.root (next.out problem asked rows seat old put worked end posed keeps is).back))
  sound_there end is stands =
      let out = next.out problem asked rows seat old put worked end posed keeps is in
      let front = pendings problem.root out.front in
      let back = pendings problem.root out.back in
      sound_after_steps problem old.best old.finished (pending_of problem.root worked.node).at put.walk.store.box [] worked.steps (boxes (front ++ back)) posed is.steps
      (sound_taken problem old.best old.finished (opens problem.root old) front back (pending_of problem.root worked.node)
      (next.opens_before problem asked rows seat old put worked end posed keeps is) stands)

  -- where nothing is given
  same_opens : (end : NodeEnd) (is : HasWorked problem asked rows seat old put worked end) → new.seats ≡ put.seats
      → opens problem.root new ≡ pendings problem.root (next.out problem asked rows seat old put worked end posed keeps is).front
      ++ pendings problem.root (next.out problem asked rows seat old put worked end posed keeps is).back
  same_opens end is same =
      ap (λ (s : Seats). pendings problem.root (all_nodes (lists_of s))) same ∙ next.opens_after problem asked rows seat old put worked end posed keeps is

  finished_is : (end : NodeEnd) → HasWorked problem asked rows seat old put worked end → IsEnded problem put new seat worked end → new.finished ≡ old.finished + 1
  finished_is end is ended = ended.finished ∙ ap (λ (n : ℕ). n + 1) is.finished

  pub stands_after : (end : NodeEnd) → HasWorked problem asked rows seat old put worked end → IsEnded problem put new seat worked end → Stands problem old → Stands problem new
  stands_after (Refuted reason) is ended stands =
      let out = next.out problem asked rows seat old put worked (Refuted reason) posed keeps is in
      let others = pendings problem.root out.front ++ pendings problem.root out.back in
      same_sound problem old.best new.best (old.finished + 1) new.finished others (opens problem.root new) (ended.ends.2 ∙ is.best) (finished_is (Refuted reason) is ended)
      (same_opens (Refuted reason) is ended.ends.0)
      (sound_after_refuted problem old.best old.finished put.walk.store.box reason (boxes others) posed is.ends (sound_there (Refuted reason) is stands))
  stands_after (Split cut low_first) is ended stands =
      let end = Split cut low_first in
      let out = next.out problem asked rows seat old put worked end posed keeps is in
      let others = pendings problem.root out.front ++ pendings problem.root out.back in
      let after = after_steps (pending_of problem.root worked.node).at worked.steps in
      let gives = ended.ends.0 in
      let into = next.into problem asked rows seat old put worked end posed keeps is new cut low_first refl gives in
      let left = pendings problem.root into.left in
      let right = pendings problem.root into.right in
      let picked = (next.picked_there problem asked rows seat old put worked end posed keeps is new cut low_first refl gives).picked in
      same_sound problem old.best new.best (old.finished + 1) new.finished (opens problem.root new) (opens problem.root new) (ended.ends.1 ∙ is.best) (finished_is end is ended) refl
      (sound_given problem old.best (old.finished + 1) (narrowed after cut.cell Le cut.k) (cut_away after cut.cell Le cut.k) (boxes others) left right (opens problem.root new)
      (pending_of problem.root gives.gives.older) (pending_of problem.root gives.gives.newer) low_first
      (ap boxes (sym (next.same_others problem asked rows seat old put worked end posed keeps is new cut low_first refl gives)))
      (next.opens_now problem asked rows seat old put worked end posed keeps is new cut low_first refl gives)
      (halves_of (length rows) after cut (pending_of problem.root gives.gives.older) (pending_of problem.root gives.gives.newer) low_first
      (next.sides_are problem asked rows seat old put worked end posed keeps is new cut low_first refl gives))
      (sound_after_split problem old.best old.finished after cut.cell cut.k (boxes others) (picked_cuts asked worked.depth after cut.cell cut.k low_first picked)
      (subst (λ (b : Box). IsSound problem old.best old.finished (b ∷ boxes others)) (next.leads problem asked rows seat old put worked end posed keeps is) (sound_there end is stands))))
  stands_after Point is ended stands =
      let out = next.out problem asked rows seat old put worked Point posed keeps is in
      let others = pendings problem.root out.front ++ pendings problem.root out.back in
      same_sound problem new.best new.best (old.finished + 1) new.finished others (opens problem.root new) refl (finished_is Point is ended) (same_opens Point is ended.ends.0)
      (sound_after_point problem old.best new.best old.finished put.walk.store.box (boxes others) posed is.ends ended.ends.2 (sound_there Point is stands))

  -- the end of the new row is right
  made_end : (end : NodeEnd) → HasWorked problem asked rows seat old put worked end
      → MadeEnd problem (value_of old.best) (after_steps (pending_of problem.root worked.node).at worked.steps) (line_of end)
  made_end (Refuted reason) is =
      subst (λ (b : Box). problem.refutes reason b (value_of old.best) ≡ true) (next.leads problem asked rows seat old put worked (Refuted reason) posed keeps is) is.ends
  made_end (Split cut low_first) is =
      let there = subst (λ (b : Box). IsSplit problem (value_of old.best) asked worked.depth b cut low_first)
      (next.leads problem asked rows seat old put worked (Split cut low_first) posed keeps is) is.ends in
      record {
        cut = picked_cuts asked worked.depth (after_steps (pending_of problem.root worked.node).at worked.steps) cut.cell cut.k low_first there.picked;
        consistent = there.consistent;
      }
  made_end Point is =
      let there = subst (λ (b : Box). IsNewPoint problem (value_of old.best) b) (next.leads problem asked rows seat old put worked Point posed keeps is) is.ends in
      record { one = there.one; beats = there.beats }

  ends_finished : (end : NodeEnd) → IsFinished (line_of end)
  ends_finished (Refuted reason) = tt
  ends_finished (Split cut low_first) = tt
  ends_finished Point = tt

  -- the value of a point
  pub box_inside : (end : NodeEnd) → HasWorked problem asked rows seat old put worked end → Inside put.walk.store.box problem.root
  box_inside end is =
      subst (λ (b : Box). Inside b problem.root) (sym (next.leads problem asked rows seat old put worked end posed keeps is))
      (parts_of_parts (after_steps (pending_of problem.root worked.node).at worked.steps) (pending_of problem.root worked.node).at problem.root
      (next.part problem asked rows seat old put worked end posed keeps is) (next.start_inside problem asked rows seat old put worked end posed keeps is))

  point_worth : HasWorked problem asked rows seat old put worked Point → problem.end put.walk.store.box ≡ problem.value put.walk.store.box.lows
  point_worth is = posed.lawful.end_exact put.walk.store.box (box_inside Point is) is.ends.one is.ends.beats.satisfies

  best_is : (end : NodeEnd) → HasWorked problem asked rows seat old put worked end → IsEnded problem put new seat worked end
      → value_of new.best ≡ best_after problem (value_of old.best) (line_of end) (after_steps (pending_of problem.root worked.node).at worked.steps)
  best_is (Refuted reason) is ended = ap value_of (ended.ends.2 ∙ is.best)
  best_is (Split cut low_first) is ended = ap value_of (ended.ends.1 ∙ is.best)
  best_is Point is ended =
      ap value_of ended.ends.2
      ∙ (ap Some (point_worth is) ∙ ap (λ (b : Box). Some (problem.value b.lows)) (next.leads problem asked rows seat old put worked Point posed keeps is))

  gives_sides : (end : NodeEnd) → HasWorked problem asked rows seat old put worked end → IsEnded problem put new seat worked end
      → GivesSides (length rows) (after_steps (pending_of problem.root worked.node).at worked.steps) (line_of end) (map (pendings problem.root) (lists_of put.seats))
      (map (pendings problem.root) (lists_of new.seats)) seat
  gives_sides (Refuted reason) is ended = ap (λ (s : Seats). map (pendings problem.root) (lists_of s)) ended.ends.0
  gives_sides (Split cut low_first) is ended =
      let gives = ended.ends.0 in
      sides_given (length rows) (after_steps (pending_of problem.root worked.node).at worked.steps) (row_cut cut) (pending_of problem.root gives.gives.older)
      (pending_of problem.root gives.gives.newer) low_first (map (pendings problem.root) (lists_of put.seats)) (map (pendings problem.root) (lists_of new.seats)) seat
      (next.sides_are problem asked rows seat old put worked (Split cut low_first) posed keeps is new cut low_first refl gives)
      (gives_seen (pending_of problem.root) (lists_of put.seats) (lists_of new.seats) seat gives.gives.older gives.gives.newer gives.gives.gives)
  gives_sides Point is ended = ap (λ (s : Seats). map (pendings problem.root) (lists_of s)) ended.ends.0

  -- the seat is one of the crew
  seat_exists : (end : NodeEnd) → HasWorked problem asked rows seat old put worked end → seat < length (map (pendings problem.root) (lists_of old.seats))
  seat_exists end is =
      omega (arith, is.exists, length-map (lists_of old.seats) (pendings problem.root), length-map old.seats.seats.items (λ (s : Seat). s.nodes.items))

  pub next_row : (end : NodeEnd) → HasWorked problem asked rows seat old put worked end → IsNextRow problem seat (state_of problem.root rows old) (row_by worked end)
  next_row end is = record {
    node = pending_of problem.root worked.node;
    others = map (pendings problem.root) (lists_of put.seats);
    exists = seat_exists end is;
    takes = takes_seen (pending_of problem.root) (lists_of old.seats) (lists_of put.seats) seat worked.node is.takes;
    parent = refl;
    made = record { steps = next.right problem asked rows seat old put worked end posed keeps is; end = made_end end is };
    finished = ends_finished end;
  }

  pub crew_step : (end : NodeEnd) → HasWorked problem asked rows seat old put worked end → IsEnded problem put new seat worked end
      → IsCrewStep problem seat (state_of problem.root rows old) (state_of problem.root (rows ++ row_by worked end ∷ []) new)
  crew_step end is ended = record {
    node = pending_of problem.root worked.node;
    others = map (pendings problem.root) (lists_of put.seats);
    steps = worked.steps;
    end = line_of end;
    exists = seat_exists end is;
    takes = takes_seen (pending_of problem.root) (lists_of old.seats) (lists_of put.seats) seat worked.node is.takes;
    made = record { steps = next.right problem asked rows seat old put worked end posed keeps is; end = made_end end is };
    finished = ends_finished end;
    gives = gives_sides end is ended;
    rows = refl;
    best = best_is end is ended;
  }

  -- as many seats
  pub seats_long : (end : NodeEnd) → HasWorked problem asked rows seat old put worked end → IsEnded problem put new seat worked end
      → length new.seats.seats.items ≡ length old.seats.seats.items
  seats_long (Refuted reason) is ended = ap (λ (s : Seats). length s.seats.items) ended.ends.0 ∙ takes_long old.seats put.seats seat worked.node is.takes
  seats_long (Split cut low_first) is ended =
      next.long_as put new (ap length ended.ends.0.gives.gives.after ∙ length-set (lists_of put.seats) seat _) ∙ takes_long old.seats put.seats seat worked.node is.takes
  seats_long Point is ended = ap (λ (s : Seats). length s.seats.items) ended.ends.0 ∙ takes_long old.seats put.seats seat worked.node is.takes

  -- what is kept of the search
  kept_after : (end : NodeEnd) → HasWorked problem asked rows seat old put worked end → IsEnded problem put new seat worked end → RowFits (row_by worked end)
      → AreKept problem asked (length old.seats.seats.items) (rows ++ row_by worked end ∷ []) (old.finished + 1) (opens problem.root new) new.best
  kept_after (Refuted reason) is ended fits =
      let end = Refuted reason in
      same_kept problem asked (rows ++ row_by worked end ∷ []) (length old.seats.seats.items) (length old.seats.seats.items) (old.finished + 1) (old.finished + 1) (opens problem.root put)
      (opens problem.root new) old.best new.best refl refl (ap (λ (s : Seats). pendings problem.root (all_nodes (lists_of s))) ended.ends.0) (ended.ends.2 ∙ is.best)
      (next.kept_after_end problem asked rows seat old put worked end posed keeps is (lines.Refuted reason) old.best (made_end end is) (λ split. split) tt tt fits refl
      (best_stays problem rows (row_by worked end ∷ []) old.best keeps.kept.found))
  kept_after (Split cut low_first) is ended fits =
      let end = Split cut low_first in
      same_kept problem asked (rows ++ row_by worked end ∷ []) (length old.seats.seats.items) (length old.seats.seats.items) (old.finished + 1) (old.finished + 1) (opens problem.root new)
      (opens problem.root new) old.best new.best refl refl refl (ended.ends.1 ∙ is.best)
      (next.kept_after_split problem asked rows seat old put worked end posed keeps is new cut low_first refl ended.ends.0 fits)
  kept_after Point is ended fits =
      let found = found_at problem put.walk.store.box in
      same_kept problem asked (rows ++ row_by worked Point ∷ []) (length old.seats.seats.items) (length old.seats.seats.items) (old.finished + 1) (old.finished + 1) (opens problem.root put)
      (opens problem.root new) (Some found) new.best refl refl (ap (λ (s : Seats). pendings problem.root (all_nodes (lists_of s))) ended.ends.0) ended.ends.2
      (next.kept_after_end problem asked rows seat old put worked Point posed keeps is lines.Point (Some found) (made_end Point is) (λ split. split) tt tt fits
      (sym (sym (ap value_of ended.ends.2) ∙ best_is Point is ended))
      (new_point problem rows (row_by worked Point) put.walk.store.box refl
      (next.leads problem asked rows seat old put worked Point posed keeps is
      ∙ ap (λ (b : Box). after_steps b worked.steps) (next.placed problem asked rows seat old put worked Point posed keeps is)) (point_worth is)))

  ways_now : (end : NodeEnd) → HasWorked problem asked rows seat old put worked end → IsEnded problem put new seat worked end → AreRowNodes (rows ++ row_by worked end ∷ []) (nodes_of new)
  ways_now (Refuted reason) is ended =
      subst (λ (s : Seats). AreRowNodes (rows ++ row_by worked (Refuted reason) ∷ []) (all_nodes (lists_of s))) (sym ended.ends.0)
      (next.ways_after problem asked rows seat old put worked (Refuted reason) posed keeps is (lines.Refuted reason))
  ways_now (Split cut low_first) is ended =
      next.ways_after_split problem asked rows seat old put worked (Split cut low_first) posed keeps is new cut low_first refl ended.ends.0
  ways_now Point is ended =
      subst (λ (s : Seats). AreRowNodes (rows ++ row_by worked Point ∷ []) (all_nodes (lists_of s))) (sym ended.ends.0)
      (next.ways_after problem asked rows seat old put worked Point posed keeps is lines.Point)

  -- how many nodes are open
  record AreCounted : Type 0 where
    counted : length (nodes_of new) ≡ new.open_count
    few : new.open_count ≤ new.finished + 1

  counted_now : (end : NodeEnd) → HasWorked problem asked rows seat old put worked end → IsEnded problem put new seat worked end → AreCounted
  counted_now (Refuted reason) is ended = record {
    counted = ap (λ (s : Seats). length (all_nodes (lists_of s))) ended.ends.0
        ∙ (next.counted_out problem asked rows seat old put worked (Refuted reason) posed keeps is ∙ sym ended.ends.1);
    few = omega (arith, ended.ends.1, is.counted, keeps.few, finished_is (Refuted reason) is ended);
  }
  counted_now (Split cut low_first) is ended = record {
    counted = next.counted_split problem asked rows seat old put worked (Split cut low_first) posed keeps is new cut low_first refl ended.ends.0;
    few = omega (arith, ended.ends.0.counted, is.counted, keeps.few, finished_is (Split cut low_first) is ended);
  }
  counted_now Point is ended = record {
    counted = ap (λ (s : Seats). length (all_nodes (lists_of s))) ended.ends.0
        ∙ (next.counted_out problem asked rows seat old put worked Point posed keeps is ∙ sym ended.ends.1);
    few = omega (arith, ended.ends.1, is.counted, keeps.few, finished_is Point is ended);
  }

  pub keeps_after : (end : NodeEnd) → HasWorked problem asked rows seat old put worked end → IsEnded problem put new seat worked end → RowFits (row_by worked end) → new.walk ≡ put.walk
      → Keeps problem asked (rows ++ row_by worked end ∷ []) new
  keeps_after end is ended fits walk =
      let all = rows ++ row_by worked end ∷ [] in
      let counts = counted_now end is ended in
      record {
        kept = same_kept problem asked all (length old.seats.seats.items) (length new.seats.seats.items) (old.finished + 1) new.finished (opens problem.root new) (opens problem.root new)
            new.best new.best (seats_long end is ended) (finished_is end is ended) refl refl (kept_after end is ended fits);
        ways = ways_now end is ended;
        walk = subst (IsOnRows problem.root all) (sym walk) (on_rows_more problem.root rows (row_by worked end ∷ []) put.walk is.walk);
        counted = counts.counted;
        few = counts.few;
      }
