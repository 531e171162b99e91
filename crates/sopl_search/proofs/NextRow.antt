-- A node is finished: one row more.
use Rattle.std.proofs.Common.{◌≡◌, ℕ, ◌+◌, ◌<◌, ◌≤◌, ℤ, Bool, true, false, List, [], ◌∷◌, ◌++◌, length, Option, Some, None, IfSome, Contains, arith, refl, sym, ap, subst, ◌∙◌}
use Rattle.std.specs.Prelude.{if◌then◌else◌}
use Rattle.std.specs.List.{AllByRecursion}
use Rattle.std.proofs.lemmas.List.{length-append, length-map, map-append}
use Rattle.std.proofs.lemmas.List.Elements.{All-push}
use Rattle.sopl_base.specs.declared.reason.Side.{Side}
use Rattle.sopl_base.specs.declared.reason.Side.TheVariants.{Le, Ge}
use Rattle.brancher.specs.Rules.{Rule}
use Rattle.box_problem.specs.Bits.{bits_in}
use Rattle.box_problem.specs.Box.{Box, Inside}
use Rattle.box_problem.specs.BoxProblem.{BoxProblem}
use Rattle.box_problem.specs.Rightness.{AllRight, Appended}
use Rattle.box_problem.specs.Steps.{after_steps}
use Rattle.box_problem.proofs.Steps.{steps_lead_inside}
use Rattle.log_rows.specs.declared.rows.EndLine.{EndLine}
use Rattle.log_rows.specs.declared.rows.EndLine.TheVariants as lines
use Rattle.log_rows.specs.declared.rows.Row.{Row}
use Rattle.log_rows.specs.LogLaws.{half, row_of}
use Rattle.log_rows.specs.Made.{AreShallow, IsFinished, Logs, MadeEnd, Pending, best_after}
use Rattle.log_rows.specs.Ranges.{RowFits}
use Rattle.log_rows.specs.Rows.{IsSplit, box_at, depth_at, depth_of, final_of, row_at}
use Rattle.log_rows.proofs.Closing.{opens_inside}
use Rattle.log_rows.proofs.Logging.{depths_after_end, depths_after_split, each_row, logs_after_end, logs_after_split}
use Rattle.log_rows.proofs.Places.{depth_last, depth_stays, final_last, final_stays}
use Rattle.open_nodes.specs.declared.halving.Halving.{Halving}
use Rattle.open_nodes.specs.declared.seats.OpenNode.{OpenNode}
use Rattle.open_nodes.specs.declared.seats.Seat.{Seat}
use Rattle.open_nodes.specs.declared.split.SplitNode.{SplitNode}
use Rattle.open_nodes.specs.SeatLaws.{AreIn, IsOut}
use Rattle.open_nodes.specs.Takes.{Takes, lists_of}
use Rattle.open_nodes.specs.Ways.{IsRow, final_box, given_box, given_parent, row_cut, split_cut}
use Rattle.open_nodes.proofs.Joining.{gives_even, takes_even}
use Rattle.sopl_search.specs.declared.ending.NodeEnd.{NodeEnd}
use Rattle.sopl_search.specs.declared.ending.NodeEnd.TheVariants as ends
use Rattle.sopl_search.specs.declared.frontier.Frontier.{Frontier}
use Rattle.sopl_search.specs.declared.frontier.WorkedNode.{WorkedNode}
use Rattle.sopl_search.specs.declared.outcome.Found.{Found}
use Rattle.sopl_search.specs.Ends.{Ends, IsPosed, IsSplit as IsCutInTwo, choice_of}
use Rattle.sopl_search.specs.Frontiers.{AreKept, AreRowNodes, IsOnRows, IsSplitRow, Keeps, LowsAreNewer, nodes_of, opens, pendings}
use Rattle.sopl_search.specs.Lines.{parent_above, pending_of, split_above}
use Rattle.sopl_search.specs.Logged.{AllSplitPicked, IsLowFirst, IsPointRow, LowStandsFirst, SplitsPicked}
use Rattle.sopl_search.specs.Moves.{GivesSplit, IsMade, IsSide}
use Rattle.sopl_search.specs.Outcomes.{value_of}
use Rattle.sopl_search.proofs.AllTaken.{takes_long}
use Rattle.sopl_search.proofs.HalvedBits.{HasRoom, room_below, room_without}
use Rattle.sopl_search.proofs.MoreRows.{row_nodes_more}
use Rattle.sopl_search.proofs.NewerLows.{last_given, last_taken, low_stands_first, lows_after_row, lows_with_sides, picked_low_first}
use Rattle.sopl_search.proofs.Points.{best_stays}
use Rattle.sopl_search.proofs.Sound.{picked_cuts}
use Rattle.sopl_search.proofs.Swapping.{AreSides, depths_turned, logs_turned, of_sides}
use Rattle.sopl_search.proofs.Taken.{is_open, way_known}

-- a node was worked on that ends so; since then what is kept for a sink may have changed
pub record HasWorked (problem : BoxProblem) (asked : Option Rule) (rows : List Row) (seat : ℕ) (old put : Frontier) (worked : WorkedNode) (end : NodeEnd) : Type 0 where
  pub exists : seat < length old.seats.seats.items
  pub takes : Takes (lists_of old.seats) (lists_of put.seats) seat worked.node
  pub counted : put.open_count + 1 ≡ old.open_count
  pub finished : put.finished ≡ old.finished
  pub best : put.best ≡ old.best
  pub walk : IsOnRows problem.root rows put.walk
  pub depth : worked.depth ≡ depth_at rows (parent_above worked.node)
  pub steps : Appended problem (value_of old.best) (pending_of problem.root worked.node).at [] worked.steps put.walk.store.box
  pub ends : Ends problem (value_of old.best) asked worked.depth put.walk.store.box end

-- a side of the split that was made is the open node that a log knows as that half
abbrev sided : Box → Side → Option SplitNode → Pending
sided root side above = record { parent = given_parent side above; at = given_box root side above }

pub side_is : (root : Box) (node : OpenNode) (split : SplitNode) (side above_side : Side) (above : Option SplitNode) (n depth : ℕ) (worked : WorkedNode) (cut : Halving) → IsSide split side node
    → IsMade split above above_side n depth worked.steps cut → pending_of root node ≡ half n (after_steps (given_box root above_side above) worked.steps) (row_cut cut) side
side_is root node split side above_side above n depth worked cut is made =
    ap (λ (s : Side). sided root s (split_above node)) is.0
    ∙ (ap (sided root side) is.1
    ∙ (ap (λ (k : ℕ). half k (final_box root split) (row_cut (split_cut split)) side) made.number
    ∙ (ap (λ (b : Box). half n b (row_cut (split_cut split)) side) (made.box_is root)
    ∙ ap (λ (c : Halving). half n (after_steps (given_box root above_side above) worked.steps) (row_cut c) side) made.cut_is)))

-- a way is known of each node but for the one that is taken, and of its sides
abbrev pub Way : List Row → OpenNode → Type 0
Way rows node = IsSplitRow rows (split_above node)

all_without : {A : Type 0} (P : A → Type 0) (front back : List A) (x : A) → AllByRecursion P (front ++ x ∷ back) → AllByRecursion P (front ++ back)
all_without P [] back x all = all.1
all_without P (y ∷ front) back x all = (all.0, all_without P front back x all.1)

all_with : {A : Type 0} (P : A → Type 0) (left right : List A) (x y : A) → P x → P y → AllByRecursion P (left ++ right) → AllByRecursion P (left ++ x ∷ y ∷ right)
all_with P [] right x y first second all = (first, (second, all))
all_with P (z ∷ left) right x y first second all = (all.0, all_with P left right x y first second all.1)

row_above : (rows : List Row) (above : Option SplitNode) → IsSplitRow rows above → IfSome above (λ (split : SplitNode). IsRow rows split)
row_above rows None is = tt
row_above rows (Some split) is = is.0

-- as many seats
pub long_as : (old new : Frontier) → length (lists_of new.seats) ≡ length (lists_of old.seats) → length new.seats.seats.items ≡ length old.seats.seats.items
long_as old new same =
    sym (length-map new.seats.seats.items (λ (s : Seat). s.nodes.items)) ∙ (same ∙ length-map old.seats.seats.items (λ (s : Seat). s.nodes.items))

module _ (problem : BoxProblem) (asked : Option Rule) (rows : List Row) (seat : ℕ) (old put : Frontier) (worked : WorkedNode) (end : NodeEnd) (posed : IsPosed problem)
    (keeps : Keeps problem asked rows old) (is : HasWorked problem asked rows seat old put worked end) where
  abbrev pub v : Option ℤ
  v = value_of old.best

  abbrev pub x : Pending
  x = pending_of problem.root worked.node

  abbrev pub after : Box
  after = after_steps x.at worked.steps

  abbrev pub row_for : EndLine → Row
  row_for line = row_of x worked.steps line

  abbrev pub all_for : EndLine → List Row
  all_for line = rows ++ row_for line ∷ []

  pub out : IsOut (nodes_of old) (nodes_of put) worked.node
  out = takes_even (lists_of old.seats) (lists_of put.seats) seat worked.node is.takes

  pub opens_before : opens problem.root old ≡ pendings problem.root out.front ++ x ∷ pendings problem.root out.back
  opens_before = ap (pendings problem.root) out.before ∙ map-append (pending_of problem.root) out.front (worked.node ∷ out.back)

  pub opens_after : opens problem.root put ≡ pendings problem.root out.front ++ pendings problem.root out.back
  opens_after = ap (pendings problem.root) out.after ∙ map-append (pending_of problem.root) out.front out.back

  pub right : AllRight problem v x.at worked.steps
  right = subst (AllRight problem v x.at) (sym is.steps.added) is.steps.right

  pub leads : put.walk.store.box ≡ after
  leads = is.steps.leads ∙ ap (after_steps x.at) (sym is.steps.added)

  x_open : Contains (opens problem.root old) x
  x_open = is_open problem.root (nodes_of old) (nodes_of put) worked.node out

  pub start_inside : Inside x.at problem.root
  start_inside = opens_inside problem rows (opens problem.root old) v x posed.lawful keeps.kept.logs x_open

  pub part : Inside after x.at
  part = steps_lead_inside problem v x.at worked.steps start_inside.is_box right

  pub placed : x.at ≡ box_at problem.root rows x.parent
  placed = ap (λ (y : Pending). y.at) (keeps.kept.logs.placed x x_open).1

  logs_here : Logs problem rows (pendings problem.root out.front ++ x ∷ pendings problem.root out.back) v
  logs_here = subst (λ (nodes : List Pending). Logs problem rows nodes v) opens_before keeps.kept.logs

  shallow_here : (most : ℕ) → AreShallow bits_in most rows (opens problem.root old) → AreShallow bits_in most rows (pendings problem.root out.front ++ x ∷ pendings problem.root out.back)
  shallow_here most shallow = subst (λ (nodes : List Pending). AreShallow bits_in most rows nodes) opens_before shallow

  room_here : (most : ℕ) → AreShallow bits_in most rows (opens problem.root old) → worked.depth + bits_in x.at ≤ most
  room_here most shallow = omega (arith, is.depth, shallow.opens_are x x_open)

  splits_after : (line : EndLine) → SplitsPicked asked worked.depth put.walk.store.box line → AllSplitPicked asked problem.root (all_for line)
  splits_after line picked =
      let row = row_for line in
      let all = all_for line in
      each_row (λ i r. SplitsPicked asked (depth_of all i) (final_of problem.root all i) r.end) rows row
      (λ i exists.
      subst (λ (n : ℕ). SplitsPicked asked n (final_of problem.root all i) (row_at rows i).end) (sym (depth_stays rows (row ∷ []) i exists))
      (subst (λ (b : Box). SplitsPicked asked (depth_of rows i) b (row_at rows i).end) (sym (final_stays problem.root rows (row ∷ []) i exists)) (keeps.kept.splits i exists)))
      (subst (λ (n : ℕ). SplitsPicked asked n (final_of problem.root all (length rows)) line) (is.depth ∙ sym (depth_last rows row))
      (subst (λ (b : Box). SplitsPicked asked worked.depth b line)
      (leads ∙ (ap (λ (b : Box). after_steps b worked.steps) placed ∙ sym (final_last problem.root rows row))) picked))

  counted_after : (line : EndLine) → length (all_for line) ≡ old.finished + 1
  counted_after line = omega (arith, keeps.kept.counted, length-append rows (row_for line ∷ []))

  -- under one seat
  one_list : length old.seats.seats.items ≡ 1 → length (lists_of old.seats) ≡ 1
  one_list one = length-map old.seats.seats.items (λ (s : Seat). s.nodes.items) ∙ one

  newest_is : length old.seats.seats.items ≡ 1 → opens problem.root old ≡ opens problem.root put ++ x ∷ []
  newest_is one =
      ap (pendings problem.root)
      (last_taken (lists_of old.seats) (lists_of put.seats) seat worked.node (one_list one)
      (omega (arith, is.exists, length-map old.seats.seats.items (λ (s : Seat). s.nodes.items))) is.takes)
      ∙ map-append (pending_of problem.root) (nodes_of put) (worked.node ∷ [])

  first_after : (line : EndLine) → length old.seats.seats.items ≡ 1 → IsLowFirst asked → LowStandsFirst (all_for line) × LowsAreNewer (all_for line) (opens problem.root put)
  first_after line one low =
      let was = keeps.kept.low_first one low in
      let newer : LowsAreNewer rows (opens problem.root put ++ x ∷ []) = subst (LowsAreNewer rows) (newest_is one) was.1 in (
        low_stands_first rows (row_for line) (opens problem.root put) x refl newer was.0,
        lows_after_row rows (row_for line) (opens problem.root put) x refl newer,
      )

  -- a node that ends by a reason, or at a point
  pub kept_after_end : (line : EndLine) (found : Option Found) → MadeEnd problem v after line → ¬ IsSplit line → IsFinished line → SplitsPicked asked worked.depth put.walk.store.box line
      → RowFits (row_for line) → best_after problem v line after ≡ value_of found → IfSome found (IsPointRow problem (all_for line))
      → AreKept problem asked (length old.seats.seats.items) (all_for line) (old.finished + 1) (opens problem.root put) found
  kept_after_end line found made isnt ended picked fits worth point = record {
    logs = subst (λ (w : Option ℤ). Logs problem (all_for line) (opens problem.root put) w) worth
        (subst (λ (nodes : List Pending). Logs problem (all_for line) nodes (best_after problem v line after)) (sym opens_after)
        (logs_after_end problem rows x (pendings problem.root out.front) (pendings problem.root out.back) v worked.steps line logs_here right made isnt));
    counted = counted_after line;
    are_finished = each_row (λ i r. IsFinished r.end) rows (row_for line) keeps.kept.are_finished ended;
    splits = splits_after line picked;
    fit = All-push RowFits rows (row_for line) keeps.kept.fit fits;
    by_bits = λ none. depths_after line (bits_in problem.root) (keeps.kept.by_bits none);
    shallow = depths_after line 1536 keeps.kept.shallow;
    low_first = first_after line;
    found = point;
  }
    where
      depths_after : (line : EndLine) (most : ℕ) → AreShallow bits_in most rows (opens problem.root old) → AreShallow bits_in most (all_for line) (opens problem.root put)
      depths_after line most shallow =
          subst (λ (nodes : List Pending). AreShallow bits_in most (all_for line) nodes) (sym opens_after)
          (depths_after_end problem bits_in most rows x (pendings problem.root out.front) (pendings problem.root out.back) v worked.steps line logs_here (shallow_here most shallow))

  -- its way
  pub ways_after : (line : EndLine) → AreRowNodes (all_for line) (nodes_of put)
  ways_after line =
      row_nodes_more rows (row_for line ∷ []) (nodes_of put)
      (subst (AreRowNodes rows) (sym out.after) (all_without (Way rows) out.front out.back worked.node (subst (AreRowNodes rows) out.before keeps.ways)))

  pub counted_out : length (nodes_of put) ≡ put.open_count
  counted_out =
      omega (arith, keeps.counted, is.counted, ap length out.before, ap length out.after, length-append out.front (worked.node ∷ out.back), length-append out.front out.back)

  -- a node that is split
  module _ (new : Frontier) (cut : Halving) (low_first : Bool) (ended : end ≡ ends.Split cut low_first)
      (gives : GivesSplit put new seat worked cut low_first) where
    abbrev pub line : EndLine
    line = lines.Split (row_cut cut)

    abbrev pub older : Pending
    older = pending_of problem.root gives.gives.older

    abbrev pub newer : Pending
    newer = pending_of problem.root gives.gives.newer

    pub two_halves : IsCutInTwo problem v asked worked.depth put.walk.store.box cut low_first
    two_halves = subst (Ends problem v asked worked.depth put.walk.store.box) ended is.ends

    number_is : put.finished ≡ length rows
    number_is = is.finished ∙ sym keeps.kept.counted

    pub into : AreIn (nodes_of put) (nodes_of new) gives.gives.older gives.gives.newer
    into = gives_even (lists_of put.seats) (lists_of new.seats) seat gives.gives.older gives.gives.newer gives.gives.gives

    side_here : (side : Side) (node : OpenNode) → IsSide gives.split side node → pending_of problem.root node ≡ half (length rows) after (row_cut cut) side
    side_here side node sided_so =
        side_is problem.root node gives.split side worked.node.side (split_above worked.node) put.finished worked.depth worked cut sided_so gives.made
        ∙ ap (λ (n : ℕ). half n after (row_cut cut) side) number_is

    pub sides_are : AreSides low_first (length rows) after (row_cut cut) older newer
    sides_are = sides_by low_first gives.gives.older gives.gives.newer gives.gives.older_is gives.gives.newer_is
      where
        sides_by : (first : Bool) (p q : OpenNode) → IsSide gives.split (if first then Ge else Le) p → IsSide gives.split (if first then Le else Ge) q
            → AreSides first (length rows) after (row_cut cut) (pending_of problem.root p) (pending_of problem.root q)
        sides_by true p q p_is q_is = (side_here Ge p p_is, side_here Le q q_is)
        sides_by false p q p_is q_is = (side_here Le p p_is, side_here Ge q q_is)

    pub opens_now : opens problem.root new ≡ pendings problem.root into.left ++ older ∷ newer ∷ pendings problem.root into.right
    opens_now = ap (pendings problem.root) into.after ∙ map-append (pending_of problem.root) into.left (gives.gives.older ∷ gives.gives.newer ∷ into.right)

    pub same_others : pendings problem.root into.left ++ pendings problem.root into.right ≡ pendings problem.root out.front ++ pendings problem.root out.back
    same_others = sym (map-append (pending_of problem.root) into.left into.right) ∙ (ap (pendings problem.root) (sym into.before) ∙ opens_after)

    logs_now : Logs problem (all_for line) (opens problem.root new) v
    logs_now =
        subst (λ (nodes : List Pending). Logs problem (all_for line) nodes v) (sym opens_now)
        (of_sides (λ (nodes : List Pending). Logs problem (all_for line) nodes v) (pendings problem.root into.left) (pendings problem.root into.right) (length rows) after (row_cut cut) older newer
        low_first sides_are
        (logs_turned problem (all_for line) v (pendings problem.root into.left) (pendings problem.root into.right))
        (logs_after_split problem rows x (pendings problem.root out.front) (pendings problem.root out.back) (pendings problem.root into.left) (pendings problem.root into.right) v worked.steps
        (row_cut cut) logs_here right
        (record {
          cut = picked_cuts asked worked.depth after cut.cell cut.k low_first (subst (λ (b : Box). IsCutInTwo problem v asked worked.depth b cut low_first) leads two_halves).picked;
          consistent = (subst (λ (b : Box). IsCutInTwo problem v asked worked.depth b cut low_first) leads two_halves).consistent;
        }) same_others))

    depths_now : (most : ℕ) → AreShallow bits_in most rows (opens problem.root old) → HasRoom most worked.depth after cut.cell cut.k
        → AreShallow bits_in most (all_for line) (opens problem.root new)
    depths_now most shallow room =
        subst (λ (nodes : List Pending). AreShallow bits_in most (all_for line) nodes) (sym opens_now)
        (of_sides (λ (nodes : List Pending). AreShallow bits_in most (all_for line) nodes) (pendings problem.root into.left) (pendings problem.root into.right) (length rows) after (row_cut cut)
        older newer low_first sides_are
        (depths_turned bits_in most (all_for line) (pendings problem.root into.left) (pendings problem.root into.right))
        (depths_after_split problem bits_in most rows x (pendings problem.root out.front) (pendings problem.root out.back) (pendings problem.root into.left) (pendings problem.root into.right) v
        worked.steps (row_cut cut) logs_here (shallow_here most shallow) (omega (arith, is.depth, room.0)) (omega (arith, is.depth, room.1)) same_others))

    pub picked_there : IsCutInTwo problem v asked worked.depth after cut low_first
    picked_there = subst (λ (b : Box). IsCutInTwo problem v asked worked.depth b cut low_first) leads two_halves

    -- under one seat
    mid_one : length old.seats.seats.items ≡ 1 → length (lists_of put.seats) ≡ 1
    mid_one one = length-map put.seats.seats.items (λ (s : Seat). s.nodes.items) ∙ (takes_long old.seats put.seats seat worked.node is.takes ∙ one)

    first_now : length old.seats.seats.items ≡ 1 → IsLowFirst asked → LowStandsFirst (all_for line) × LowsAreNewer (all_for line) (opens problem.root new)
    first_now one low =
        let first : low_first ≡ true = picked_low_first asked worked.depth after.lows after.highs (choice_of cut.cell cut.k low_first) low picked_there.picked in
        let sides = subst (λ (f : Bool). AreSides f (length rows) after (row_cut cut) older newer) first sides_are in
        let before = first_after line one low in (
          before.0,
          subst (LowsAreNewer (all_for line))
              (sym (ap (pendings problem.root) (last_given (lists_of put.seats) (lists_of new.seats) seat gives.gives.older gives.gives.newer (mid_one one) gives.gives.gives)
              ∙ map-append (pending_of problem.root) (nodes_of put) (gives.gives.older ∷ gives.gives.newer ∷ [])))
              (lows_with_sides (all_for line) (opens problem.root put) (length rows) older newer (ap (λ (y : Pending). y.parent) sides.0) (ap (λ (y : Pending). y.parent) sides.1) before.1),
        )

    pub kept_after_split : RowFits (row_for line) → AreKept problem asked (length old.seats.seats.items) (all_for line) (old.finished + 1) (opens problem.root new) old.best
    kept_after_split fits = record {
      logs = logs_now;
      counted = counted_after line;
      are_finished = each_row (λ i r. IsFinished r.end) rows (row_for line) keeps.kept.are_finished tt;
      splits = splits_after line (low_first, two_halves.picked);
      fit = All-push RowFits rows (row_for line) keeps.kept.fit fits;
      by_bits = λ none. depths_now (bits_in problem.root) (keeps.kept.by_bits none)
          (room_without problem x.at after cut.cell cut.k asked (bits_in problem.root) worked.depth low_first posed start_inside part none picked_there.picked
          (room_here (bits_in problem.root) (keeps.kept.by_bits none)));
      shallow = depths_now 1536 keeps.kept.shallow
          (room_below problem x.at after cut.cell cut.k asked worked.depth low_first posed start_inside part picked_there.picked (room_here 1536 keeps.kept.shallow));
      low_first = first_now;
      found = best_stays problem rows (row_for line ∷ []) old.best keeps.kept.found;
    }

    way_now : (side : Side) (node : OpenNode) → IsSide gives.split side node → Way (all_for line) node
    way_now side node sided_so =
        subst (IsSplitRow (all_for line)) (sym sided_so.1) (
          gives.made.row rows number_is (row_above rows (split_above worked.node) (way_known rows (nodes_of old) (nodes_of put) worked.node out keeps.ways)),
          gives.made.depth_is
              ∙ (is.depth
              ∙ (sym (depth_last rows (row_for line)) ∙ ap (depth_of (all_for line)) (sym (gives.made.number ∙ number_is)))),
        )

    pub ways_after_split : AreRowNodes (all_for line) (nodes_of new)
    ways_after_split =
        subst (AreRowNodes (all_for line)) (sym into.after)
        (all_with (Way (all_for line)) into.left into.right gives.gives.older gives.gives.newer (way_now _ gives.gives.older gives.gives.older_is)
        (way_now _ gives.gives.newer gives.gives.newer_is) (subst (AreRowNodes (all_for line)) into.before (ways_after line)))

    pub counted_split : length (nodes_of new) ≡ new.open_count
    counted_split =
        omega (
          arith,
          counted_out,
          gives.counted,
          ap length into.before,
          ap length into.after,
          length-append into.left into.right,
          length-append into.left (gives.gives.older ∷ gives.gives.newer ∷ into.right),
        )
