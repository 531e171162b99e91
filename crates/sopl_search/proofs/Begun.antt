-- A search at first.
use Rattle.std.proofs.Common.{◌≡◌, ℕ, zero, suc, ◌+◌, ◌≤◌, List, [], ◌∷◌, ◌++◌, length, map, replicate, reverse, set, Option, None, arith, refl, sym, ap, subst, ◌∙◌}
use Rattle.std.proofs.lemmas.List.{length-map, length-replicate, length-set}
use Rattle.std.proofs.lemmas.List.Elements.{All-cons, All-nil}
use Rattle.brancher.specs.Rules.{Rule}
use Rattle.box_problem.specs.Bits.{bits_in}
use Rattle.box_problem.specs.Box.{Box}
use Rattle.box_problem.specs.BoxProblem.{BoxProblem}
use Rattle.box_problem.proofs.Nodes.{open_at_first}
use Rattle.log_rows.specs.declared.rows.Footer.TheVariants as claims
use Rattle.log_rows.specs.Lines.{ended, footer_line, head_line, rows_lines, text_of}
use Rattle.log_rows.specs.LogLaws.{root_alone}
use Rattle.log_rows.specs.Made.{Logs, Pending, open_row}
use Rattle.log_rows.specs.Ranges.{RowFits, StepFits}
use Rattle.log_rows.specs.Rows.{final_of}
use Rattle.log_rows.proofs.Logging.{depths_at_first, logs_at_first, logs_with_open}
use Rattle.log_rows.proofs.LogTexts.{texts_are_logs}
use Rattle.log_rows.proofs.Texts.{log_text, text_one}
use Rattle.open_nodes.specs.declared.seats.OpenNode.{OpenNode}
use Rattle.open_nodes.specs.declared.seats.Seat.{Seat}
use Rattle.open_nodes.specs.Remade.{AreBelow}
use Rattle.open_nodes.specs.Takes.{all_nodes, lists_of}
use Rattle.open_nodes.specs.Walks.{marked}
use Rattle.std.proofs.KnownBytes.{Appends-nil}
use Rattle.sopl_io.specs.Gathered.{GathersAll}
use Rattle.sopl_io.specs.Transfer.{AppendsPrefix}
use Rattle.sopl_io.proofs.Gathering.{prefix_of_first}
use Rattle.sopl_search.specs.declared.frontier.Frontier.{Frontier}
use Rattle.sopl_search.specs.declared.outcome.Found.{Found}
use Rattle.sopl_search.specs.Crews.{CrewState, IsCrewRun, begun, first_state, root_node}
use Rattle.sopl_search.specs.Ends.{IsPosed}
use Rattle.sopl_search.specs.Frontiers.{AreKept, AreRowNodes, IsBegun, IsOnRows, IsRunning, IsSearchOf, IsSound, Keeps, Stands, StandsAtRoot, boxes, first_lists, nodes_of, opens, pendings, root_open, state_of}
use Rattle.sopl_search.specs.Lines.{pending_of}
use Rattle.sopl_search.specs.Logged.{IsPlannedRun, IsPrefixLogged, SearchPlan, in_rows}
use Rattle.sopl_search.specs.Outcomes.{value_of}
use Rattle.sopl_search.specs.Schedules.{AreSeats}
use Rattle.sopl_search.proofs.MovedNodes.{seen_set}

-- one node, that the first seat has
none_joined : {A : Type 0} (n : ℕ) → all_nodes {A = A} (replicate n []) ≡ []
none_joined zero = refl
none_joined (suc n) = none_joined n

one_joined : {A : Type 0} (n : ℕ) (x : A) → 1 ≤ n → all_nodes (set (replicate n []) 0 (x ∷ [])) ≡ x ∷ []
one_joined zero x some = absurd (omega (arith, some))
one_joined {A} (suc n) x some = ap (λ (xs : List A). x ∷ xs) (none_joined n)

none_seen : {A B : Type 0} (f : A → B) (n : ℕ) → map (map f) (replicate n []) ≡ replicate n []
none_seen f zero = refl
none_seen {A} {B} f (suc n) = ap (λ (lists : List (List B)). [] ∷ lists) (none_seen f n)

one_seen : {A B : Type 0} (f : A → B) (n : ℕ) (x : A) → map (map f) (set (replicate n []) 0 (x ∷ [])) ≡ set (replicate n []) 0 (f x ∷ [])
one_seen f n x = seen_set f (replicate n []) 0 (x ∷ []) ∙ ap (λ lists. set lists 0 (f x ∷ [])) (none_seen f n)

-- what is so of a search at first, whatever is kept of its log
pub record IsAtFirst (root : Box) (seats : ℕ) (frontier : Frontier) : Type 0 where
  pub lists : lists_of frontier.seats ≡ first_lists seats
  pub one_open : frontier.open_count ≡ 1
  pub none_finished : frontier.finished ≡ 0
  pub none_found : frontier.best ≡ None
  pub walk : StandsAtRoot root frontier.walk

pub at_first : (root : Box) (seats : ℕ) (old new : Frontier) → IsBegun root seats old → new.walk ≡ old.walk → new.seats ≡ old.seats → new.open_count ≡ old.open_count → new.finished ≡ old.finished
    → new.best ≡ old.best → IsAtFirst root seats new
at_first root seats old new is walk lists count finished best = record {
  lists = ap lists_of lists ∙ is.lists;
  one_open = count ∙ is.one_open;
  none_finished = finished ∙ is.none_finished;
  none_found = best ∙ is.none_found;
  walk = subst (StandsAtRoot root) (sym walk) is.walk;
}

pub at_once : (root : Box) (seats : ℕ) (frontier : Frontier) → IsBegun root seats frontier → IsAtFirst root seats frontier
at_once root seats frontier is = at_first root seats frontier frontier is refl refl refl refl refl

module _ (problem : BoxProblem) (asked : Option Rule) (seats : ℕ) (frontier : Frontier) (posed : IsPosed problem) (few : AreSeats seats) (is : IsAtFirst problem.root seats frontier) where
  root_alone_open : nodes_of frontier ≡ root_open ∷ []
  root_alone_open = ap all_nodes is.lists ∙ one_joined seats root_open few.0

  opens_are : opens problem.root frontier ≡ root_alone problem.root
  opens_are = ap (pendings problem.root) root_alone_open

  pub seats_are : length frontier.seats.seats.items ≡ seats
  seats_are = omega (arith, length-map frontier.seats.seats.items (λ (seat : Seat). seat.nodes.items), ap length is.lists, length-set (replicate seats []) 0 (root_open ∷ []), length-replicate {A = List OpenNode} seats [])

  first_sound : IsSound problem None 0 (boxes (root_alone problem.root))
  first_sound = record { are_open = open_at_first problem posed.lawful; good = tt }

  pub first_stands : Stands problem frontier
  first_stands =
      subst (λ (nodes : List Pending). IsSound problem frontier.best frontier.finished (boxes nodes)) (sym opens_are)
      (subst (λ (n : ℕ). IsSound problem frontier.best n (boxes (root_alone problem.root))) (sym is.none_finished)
      (subst (λ (best : Option Found). IsSound problem best 0 (boxes (root_alone problem.root))) (sym is.none_found) first_sound))

  first_kept : (n : ℕ) → AreKept problem asked n [] 0 (root_alone problem.root) None
  first_kept n = record {
    logs = logs_at_first problem;
    counted = refl;
    are_finished = λ i exists. absurd (omega (arith, exists));
    splits = λ i exists. absurd (omega (arith, exists));
    fit = All-nil RowFits;
    by_bits = λ none. depths_at_first bits_in (bits_in problem.root) problem.root (omega arith);
    shallow = depths_at_first bits_in 1536 problem.root (omega (arith, posed.few_bits));
    low_first = λ one low. (λ i n exists. absurd (omega (arith, exists)), ((λ n side. absurd (cc)), tt));
    found = tt;
  }

  first_walk : IsOnRows problem.root [] frontier.walk
  first_walk = record {
    at = subst (λ (ns : List ℕ). marked frontier.walk.store.marks ≡ map (final_of problem.root []) (reverse ns) ++ problem.root ∷ []) (sym is.walk.0) is.walk.1;
    below = subst (λ (ns : List ℕ). AreBelow 0 (reverse ns)) (sym is.walk.0) tt;
  }

  pub first_keeps : Keeps problem asked [] frontier
  first_keeps = record {
    kept = subst (λ (nodes : List Pending). AreKept problem asked (length frontier.seats.seats.items) [] frontier.finished nodes frontier.best) (sym opens_are)
        (subst (λ (n : ℕ). AreKept problem asked (length frontier.seats.seats.items) [] n (root_alone problem.root) frontier.best) (sym is.none_finished)
        (subst (λ (best : Option Found). AreKept problem asked (length frontier.seats.seats.items) [] 0 (root_alone problem.root) best) (sym is.none_found)
        (first_kept (length frontier.seats.seats.items))));
    ways = subst (AreRowNodes []) (sym root_alone_open) (tt, tt);
    walk = first_walk;
    counted = ap length root_alone_open ∙ sym is.one_open;
    few = omega (arith, is.one_open);
  }

  pub first_search : IsSearchOf problem asked frontier
  first_search = record { stands = first_stands; rows = []; keeps = first_keeps }

  state_is : state_of problem.root [] frontier ≡ first_state problem seats
  state_is =
      ap (λ (lists : List (List Pending)). record { seats = lists; rows = []; best = value_of frontier.best }) (ap (map (pendings problem.root)) is.lists ∙ one_seen (pending_of problem.root) seats root_open)
      ∙ ap (λ (best : Option Found). record { seats = set (replicate seats []) 0 (root_node problem ∷ []); rows = []; best = value_of best }) is.none_found

  pub first_run : IsCrewRun problem seats [] (state_of problem.root [] frontier)
  first_run = subst (λ (state : CrewState). IsCrewRun problem seats [] state) (sym state_is) begun

-- behind the first line of its log
pub first_running : (problem : BoxProblem) (plan : SearchPlan) (old new : Frontier) (before now : Option (List ℕ)) → IsPosed problem → AreSeats plan.seats → IsBegun problem.root plan.seats old
    → new.walk ≡ old.walk → new.seats ≡ old.seats → new.open_count ≡ old.open_count → new.finished ≡ old.finished → new.best ≡ old.best
    → GathersAll before old.gather.kept now new.gather.kept (ended head_line) → IsRunning problem plan new before now
first_running problem plan old new before now posed few is walk lists count finished best head =
    let first = at_first problem.root plan.seats old new is walk lists count finished best in
    record {
      stands = first_stands problem plan.asked plan.seats new posed few first;
      rows = [];
      keeps = first_keeps problem plan.asked plan.seats new posed few first;
      run = first_run problem plan.asked plan.seats new posed few first;
      exist = seats_are problem plan.asked plan.seats new posed few first;
      within = omega arith;
      lines = subst (λ (kept : List ℕ). GathersAll before kept now new.gather.kept (text_of (head_line ∷ []))) is.none_kept
          (subst (GathersAll before old.gather.kept now new.gather.kept) (sym (text_one head_line)) head);
    }

-- the box of all points
pub begun_root : (b root : Box) (seats : ℕ) (frontier : Frontier) → b ≡ root → IsBegun b seats frontier → IsBegun root seats frontier
begun_root b root seats frontier same is = subst (λ (x : Box). IsBegun x seats frontier) same is

-- no step is done yet
pub joined_once : (problem : BoxProblem) (seats : ℕ) → 1 ≤ seats → all_nodes (first_state problem seats).seats ≡ root_alone problem.root
joined_once problem seats some = one_joined seats (root_node problem) some

first_planned : (problem : BoxProblem) (plan : SearchPlan) → IsPosed problem → AreSeats plan.seats → IsPlannedRun problem plan (first_state problem plan.seats)
first_planned problem plan posed few = record {
  run = begun;
  logs = subst (λ (nodes : List Pending). Logs problem [] nodes None) (sym (joined_once problem plan.seats few.0)) (logs_at_first problem);
  are_finished = λ i exists. absurd (omega (arith, exists));
  within = omega arith;
  splits = λ i exists. absurd (omega (arith, exists));
  low_first = λ one low i n exists. absurd (omega (arith, exists));
}

-- where the sink took a prefix of the first line
pub first_breaks_off : (problem : BoxProblem) (plan : SearchPlan) (before now : Option (List ℕ)) → IsPosed problem → AreSeats plan.seats → AppendsPrefix before now (ended head_line)
    → IsPrefixLogged problem plan before now
first_breaks_off problem plan before now posed few took =
    let rows = map open_row (root_alone problem.root) in
    record {
      state = first_state problem plan.seats;
      more = rows;
      footer = claims.Infeasible;
      planned = first_planned problem plan posed few;
      is_text = texts_are_logs rows claims.Infeasible (logs_with_open problem [] (root_alone problem.root) None (logs_at_first problem)).hangs (omega arith)
          (All-cons RowFits (open_row (root_node problem)) [] (record { parent_fits = tt; steps_fit = All-nil StepFits; end_fits = tt }) (All-nil RowFits)) tt;
      took = subst (AppendsPrefix before now) (sym (log_text rows claims.Infeasible))
          (prefix_of_first before now (ended head_line) (text_of (rows_lines 0 rows) ++ ended (footer_line claims.Infeasible)) took);
      cut_short = in_rows (subst (AppendsPrefix before now) (sym (text_one head_line)) took);
    }

pub nothing_logged : (problem : BoxProblem) (plan : SearchPlan) (before : Option (List ℕ)) → IsPosed problem → AreSeats plan.seats → IsPrefixLogged problem plan before before
nothing_logged problem plan before posed few = first_breaks_off problem plan before before posed few (0, Appends-nil before)
