-- A search that goes on by a plan.
use Rattle.std.proofs.Common.{◌≡◌, inl, inr, ℕ, zero, suc, ℤ, None, Some, Contains, ◌+◌, ◌<◌, ◌≤◌, List, [], ◌∷◌, ◌++◌, length, map, Option, All, arith, sym, ap, subst, ◌∙◌, append_assoc}
use Rattle.std.proofs.lemmas.List.{append-nil, length-append, length-map, map-append}
use Rattle.std.proofs.lemmas.List.Elements.{All-append, All-cons, All-nil, Contains-append_left, Contains-append_right}
use Rattle.std.specs.List.{range_with_len}
use Rattle.sopl_base.proofs.Lists.{range_more}
use Rattle.std.specs.Io.KnownBytes.{Appends, Keeps as KeepsBytes}
use Rattle.sopl_io.specs.Gathered.{GathersAll}
use Rattle.sopl_io.specs.Transfer.{AppendsPrefix}
use Rattle.sopl_io.proofs.Gathering.{flushed_prefix, gathered_behind, gathered_both, prefix_of_first}
use Rattle.brancher.specs.declared.choice.Event.{Event}
use Rattle.brancher.specs.Rules.{Rule}
use Rattle.box_problem.specs.BoxProblem.{BoxProblem}
use Rattle.log_rows.specs.declared.rows.Footer.{Footer}
use Rattle.log_rows.specs.declared.rows.Footer.TheVariants as claims
use Rattle.log_rows.specs.declared.rows.Row.{Row}
use Rattle.log_rows.specs.Lines.{ended, footer_line, head_line, log_lines, row_lines, rows_lines, text_of}
use Rattle.log_rows.specs.Made.{Logs, Pending}
use Rattle.log_rows.specs.Ranges.{FooterFits, RowFits}
use Rattle.log_rows.specs.Rows.{AreOrdered, Hangs, row_at}
use Rattle.log_rows.proofs.Lists.{middle_is}
use Rattle.log_rows.proofs.Logging.{each_row}
use Rattle.log_rows.proofs.LogTexts.{texts_are_logs}
use Rattle.log_rows.proofs.Places.{hangs_stays}
use Rattle.log_rows.proofs.Texts.{rows_append, text_append, text_one}
use Rattle.open_nodes.specs.Takes.{Takes, all_nodes, lists_of, seat_nodes}
use Rattle.sopl_search.specs.declared.frontier.Frontier.{Frontier}
use Rattle.sopl_search.specs.Crews.{IsCrewRun, IsNextRow, one_more}
use Rattle.sopl_search.specs.Frontiers.{IsRunning, IsSearchOf, Keeps, Stands, opens, state_of}
use Rattle.sopl_search.specs.Lines.{pending_of}
use Rattle.sopl_search.specs.Logged.{IsCutShort, IsPlannedRun, IsPrefixLogged, SearchPlan, begun_text, in_next_row, in_rows}
use Rattle.sopl_search.specs.Moves.{IsBrokenStep, IsStepped}
use Rattle.sopl_search.specs.Outcomes.{value_of}
use Rattle.sopl_search.specs.Schedules.{AreSeats, named_seat, named_seats}
use Rattle.sopl_search.proofs.MovedNodes.{all_seen}

-- the seats of one more step
pub one_more_named : (seats : ℕ) (order : Option ℕ) (n seat : ℕ) → seat ≡ named_seat seats order n → named_seats seats order (n + 1) ≡ named_seats seats order n ++ seat ∷ []
one_more_named seats order n seat is =
    ap (map (named_seat seats order)) (range_more n)
    ∙ (map-append (named_seat seats order) (range_with_len 0 n) (n ∷ [])
    ∙ ap (λ (k : ℕ). named_seats seats order n ++ k ∷ []) (sym is))

begun_append : (rows more : List Row) → begun_text (rows ++ more) ≡ begun_text rows ++ text_of (rows_lines (length rows) more)
begun_append rows more =
    ap (λ (l : List ℕ). ended head_line ++ l)
    (rows_append 0 rows more ∙ ap (λ (n : ℕ). text_of (rows_lines 0 rows) ++ text_of (rows_lines n more)) (omega arith))
    ∙ sym (append_assoc (ended head_line) (text_of (rows_lines 0 rows)) (text_of (rows_lines (length rows) more)))

begun_more : (rows : List Row) (row : Row) → begun_text (rows ++ row ∷ []) ≡ begun_text rows ++ text_of (row_lines (length rows) row)
begun_more rows row = begun_append rows (row ∷ []) ∙ ap (λ (lines : List (List ℕ)). begun_text rows ++ text_of lines) (append-nil (row_lines (length rows) row))

pub whole_text : (rows more : List Row) (footer : Footer)
    → text_of (log_lines (rows ++ more) footer) ≡ begun_text rows ++ text_of (rows_lines (length rows) more ++ footer_line footer ∷ [])
whole_text rows more footer =
    let last = text_of (footer_line footer ∷ []) in
    text_append (head_line ∷ rows_lines 0 (rows ++ more)) (footer_line footer ∷ [])
    ∙ (ap (λ (l : List ℕ). l ++ last) (begun_append rows more)
    ∙ (append_assoc (begun_text rows) (text_of (rows_lines (length rows) more)) last
    ∙ ap (λ (l : List ℕ). begun_text rows ++ l) (sym (text_append (rows_lines (length rows) more) (footer_line footer ∷ [])))))

-- what a seat has is among all
joined_has : {A : Type 0} (lists : List (List A)) (seat : ℕ) (x : A) → seat < length lists → Contains (seat_nodes lists seat) x → Contains (all_nodes lists) x
joined_has [] seat x exists has = absurd (omega (arith, exists))
joined_has (xs ∷ lists) zero x exists has = Contains-append_left xs (all_nodes lists) x has
joined_has (xs ∷ lists) (suc seat) x exists has = Contains-append_right xs (all_nodes lists) x (joined_has lists seat x (omega (arith, exists)) has)

-- a node that is taken is one of all
taken_there : {A : Type 0} (old new : List (List A)) (seat : ℕ) (x : A) → Takes old new seat x → Contains (all_nodes old) x
taken_there {A} old new seat x takes = elim takes [
  | inl own ↦ joined_has old seat x own.exists (subst (λ (xs : List A). Contains xs x) (sym own.before) (middle_is own.others [] x))
  | inr stolen ↦ joined_has old stolen.1.from x stolen.1.exists (subst (λ (xs : List A). Contains xs x) (sym stolen.1.before) (middle_is [] stolen.1.others x))
]

-- one more step by the plan
pub runs_on : {heard told : Option (Option (List Event))} (problem : BoxProblem) (plan : SearchPlan) (old new : Frontier) (before mid now : Option (List ℕ)) (seat turn : ℕ) (is : IsRunning problem plan old before mid)
    → seat ≡ named_seat plan.seats plan.order turn → turn ≡ old.finished → old.finished < plan.budget → Stands problem new
    → length new.seats.seats.items ≡ length old.seats.seats.items → IsStepped problem plan.asked is.rows seat old new mid now heard told → IsRunning problem plan new before now
runs_on problem plan old new before mid now seat turn is named counted within stands seats stepped =
    let rows = is.rows in
    let all = rows ++ stepped.row ∷ [] in
    let longer : length all ≡ length rows + 1 = length-append rows (stepped.row ∷ []) in
    let there : turn ≡ length rows = counted ∙ sym is.keeps.kept.counted in
    let named_all : named_seats plan.seats plan.order (length rows) ++ seat ∷ [] ≡ named_seats plan.seats plan.order (length all) =
    sym (one_more_named plan.seats plan.order (length rows) seat (named ∙ ap (named_seat plan.seats plan.order) there)) ∙ ap (named_seats plan.seats plan.order) (sym longer) in
    record {
      stands = stands;
      rows = all;
      keeps = stepped.keeps;
      run = subst (λ (seats_named : List ℕ). IsCrewRun problem plan.seats seats_named (state_of problem.root all new)) named_all
          (one_more (named_seats plan.seats plan.order (length rows)) seat (state_of problem.root rows old) (state_of problem.root all new) is.run stepped.step);
      exist = seats ∙ is.exist;
      within = omega (arith, longer, is.keeps.kept.counted, within);
      lines = subst (GathersAll before [] now new.gather.kept) (sym (begun_more rows stepped.row))
          (gathered_both before mid now [] old.gather.kept new.gather.kept (begun_text rows) (text_of (row_lines (length rows) stepped.row)) is.lines stepped.lines);
    }

-- the state in which a search is
pub all_open : (problem : BoxProblem) (rows : List Row) (frontier : Frontier) → all_nodes (state_of problem.root rows frontier).seats ≡ opens problem.root frontier
all_open problem rows frontier = all_seen (pending_of problem.root) (lists_of frontier.seats)

pub is_planned : (problem : BoxProblem) (plan : SearchPlan) (frontier : Frontier) (before now : Option (List ℕ)) (is : IsRunning problem plan frontier before now)
    → IsPlannedRun problem plan (state_of problem.root is.rows frontier)
is_planned problem plan frontier before now is = record {
  run = is.run;
  logs = subst (λ (nodes : List Pending). Logs problem is.rows nodes (value_of frontier.best)) (sym (all_open problem is.rows frontier)) is.keeps.kept.logs;
  are_finished = is.keeps.kept.are_finished;
  within = is.within;
  splits = is.keeps.kept.splits;
  low_first = λ one low. (is.keeps.kept.low_first (is.exist ∙ one) low).0;
}

-- what a sink took where it took nothing more, or a prefix of what is kept and of what comes behind it
pub kept_appends : (mid now : Option (List ℕ)) → KeepsBytes mid now → Appends mid now []
kept_appends None now keeps = tt
kept_appends (Some xs) None keeps = absurd keeps
kept_appends (Some xs) (Some ys) keeps = keeps ∙ sym (append-nil xs)

pub took_rows : (problem : BoxProblem) (plan : SearchPlan) (frontier : Frontier) (before mid now : Option (List ℕ)) (is : IsRunning problem plan frontier before mid)
    → KeepsBytes mid now → AppendsPrefix before now (begun_text is.rows)
took_rows problem plan frontier before mid now is keeps =
    flushed_prefix before mid now [] frontier.gather.kept (begun_text is.rows) is.lines (0, kept_appends mid now keeps)

took_next : (problem : BoxProblem) (plan : SearchPlan) (frontier : Frontier) (before mid now : Option (List ℕ)) (row : Row) (is : IsRunning problem plan frontier before mid)
    → AppendsPrefix mid now (frontier.gather.kept ++ text_of (row_lines (length is.rows) row)) → AppendsPrefix before now (begun_text (is.rows ++ row ∷ []))
took_next problem plan frontier before mid now row is took =
    subst (AppendsPrefix before now) (sym (begun_more is.rows row))
    (gathered_behind before mid now [] frontier.gather.kept (begun_text is.rows) (text_of (row_lines (length is.rows) row)) is.lines took)

pub took_whole : (problem : BoxProblem) (plan : SearchPlan) (frontier : Frontier) (before mid now : Option (List ℕ)) (more : List Row) (footer : Footer)
    (is : IsRunning problem plan frontier before mid)
    → AppendsPrefix mid now (frontier.gather.kept ++ text_of (rows_lines (length is.rows) more ++ footer_line footer ∷ []))
    → AppendsPrefix before now (text_of (log_lines (is.rows ++ more) footer))
took_whole problem plan frontier before mid now more footer is took =
    subst (AppendsPrefix before now) (sym (whole_text is.rows more footer))
    (gathered_behind before mid now [] frontier.gather.kept (begun_text is.rows) (text_of (rows_lines (length is.rows) more ++ footer_line footer ∷ [])) is.lines took)

-- where the sink took a prefix of what is kept and of some rows and a last line behind it
pub breaks_off : (problem : BoxProblem) (plan : SearchPlan) (frontier : Frontier) (before mid now : Option (List ℕ)) (more : List Row) (footer : Footer) (is : IsRunning problem plan frontier before mid)
    → AreOrdered (is.rows ++ more) → 0 < length (is.rows ++ more) → All RowFits more → FooterFits footer
    → AppendsPrefix mid now (frontier.gather.kept ++ text_of (rows_lines (length is.rows) more ++ footer_line footer ∷ []))
    → IsCutShort problem plan (state_of problem.root is.rows frontier) before now → IsPrefixLogged problem plan before now
breaks_off problem plan frontier before mid now more footer is ordered some fit footer_fit took cut_short = record {
  state = state_of problem.root is.rows frontier;
  more = more;
  footer = footer;
  planned = is_planned problem plan frontier before mid is;
  is_text = texts_are_logs (is.rows ++ more) footer ordered some (All-append RowFits is.rows more is.keeps.kept.fit fit) footer_fit;
  took = took_whole problem plan frontier before mid now more footer is took;
  cut_short = cut_short;
}

-- where a step breaks
row_then : (rows : List Row) (row : Row) (footer : Footer)
    → text_of (rows_lines (length rows) (row ∷ []) ++ footer_line footer ∷ []) ≡ text_of (row_lines (length rows) row) ++ ended (footer_line footer)
row_then rows row footer =
    ap (λ (lines : List (List ℕ)). text_of (lines ++ footer_line footer ∷ [])) (append-nil (row_lines (length rows) row))
    ∙ (text_append (row_lines (length rows) row) (footer_line footer ∷ []) ∙ ap (λ (l : List ℕ). text_of (row_lines (length rows) row) ++ l) (text_one (footer_line footer)))

next_ordered : (problem : BoxProblem) (rows : List Row) (nodes : List Pending) (best : Option ℤ) (row : Row) → Logs problem rows nodes best → Hangs rows (length rows) row.parent
    → AreOrdered (rows ++ row ∷ [])
next_ordered problem rows nodes best row logs hangs =
    each_row (λ i r. Hangs (rows ++ row ∷ []) i r.parent) rows row
    (λ i exists. hangs_stays rows (row ∷ []) i (row_at rows i).parent (omega (arith, exists)) (logs.hangs i exists))
    (hangs_stays rows (row ∷ []) (length rows) row.parent (omega arith) hangs)

step_cut_short : (problem : BoxProblem) (plan : SearchPlan) (old : Frontier) (before mid now : Option (List ℕ)) (seat turn : ℕ) (is : IsRunning problem plan old before mid)
    → seat ≡ named_seat plan.seats plan.order turn → turn ≡ old.finished → old.finished < plan.budget → IsBrokenStep problem is.rows seat old mid now
    → IsCutShort problem plan (state_of problem.root is.rows old) before now
step_cut_short problem plan old before mid now seat turn is named counted within broken =
    let next_seat : seat ≡ named_seat plan.seats plan.order (length is.rows) = named ∙ ap (named_seat plan.seats plan.order) (counted ∙ sym is.keeps.kept.counted) in
    elim broken.right [
      | inl keeps ↦ in_rows (took_rows problem plan old before mid now is keeps)
      | inr next ↦ in_next_row broken.row (subst (λ (n : ℕ). IsNextRow problem n (state_of problem.root is.rows old) broken.row) next_seat next)
          (omega (arith, is.keeps.kept.counted, within)) (took_next problem plan old before mid now broken.row is broken.took)
    ]

pub step_breaks_off : (problem : BoxProblem) (plan : SearchPlan) (old : Frontier) (before mid now : Option (List ℕ)) (seat turn : ℕ) (is : IsRunning problem plan old before mid)
    → seat ≡ named_seat plan.seats plan.order turn → turn ≡ old.finished → old.finished < plan.budget
    → IsBrokenStep problem is.rows seat old mid now → IsPrefixLogged problem plan before now
step_breaks_off problem plan old before mid now seat turn is named counted within broken =
    let rows = is.rows in
    let planned = is_planned problem plan old before mid is in
    let there = planned.logs.placed broken.node (taken_there (state_of problem.root rows old).seats broken.others seat broken.node broken.takes) in
    let hangs : Hangs rows (length rows) broken.row.parent = subst (Hangs rows (length rows)) (sym broken.parent) there.0 in
    breaks_off problem plan old before mid now (broken.row ∷ []) claims.Infeasible is
    (next_ordered problem rows (opens problem.root old) (value_of old.best) broken.row is.keeps.kept.logs hangs)
    (omega (arith, length-append rows (broken.row ∷ [])))
    (All-cons RowFits broken.row [] broken.fits (All-nil RowFits))
    tt
    (subst (λ (text : List ℕ). AppendsPrefix mid now (old.gather.kept ++ text)) (sym (row_then rows broken.row claims.Infeasible))
    (subst (AppendsPrefix mid now) (append_assoc old.gather.kept (text_of (row_lines (length rows) broken.row)) (ended (footer_line claims.Infeasible)))
    (prefix_of_first mid now (old.gather.kept ++ text_of (row_lines (length rows) broken.row)) (ended (footer_line claims.Infeasible)) broken.took)))
    (step_cut_short problem plan old before mid now seat turn is named counted within broken)

-- a search stays one where the rule of its brancher is kept in another place
pub still_search : (problem : BoxProblem) (plan : SearchPlan) (asked : Option Rule) (frontier : Frontier) (before now : Option (List ℕ)) → asked ≡ plan.asked
    → IsRunning problem plan frontier before now → IsSearchOf problem asked frontier
still_search problem plan asked frontier before now same is = record {
  stands = is.stands;
  rows = is.rows;
  keeps = subst (λ (rule : Option Rule). Keeps problem rule is.rows frontier) (sym same) is.keeps;
}

pub runs_on_asked : {heard told : Option (Option (List Event))} (problem : BoxProblem) (plan : SearchPlan) (asked : Option Rule) (old new : Frontier) (before mid now : Option (List ℕ)) (seat turn : ℕ) → asked ≡ plan.asked
    → IsRunning problem plan old before mid → seat ≡ named_seat plan.seats plan.order turn → turn ≡ old.finished → old.finished < plan.budget → IsSearchOf problem asked new
    → length new.seats.seats.items ≡ length old.seats.seats.items
    → ((rows : List Row) → Keeps problem asked rows old → IsStepped problem asked rows seat old new mid now heard told) → IsRunning problem plan new before now
runs_on_asked {heard} {told} problem plan asked old new before mid now seat turn same is named counted within search seats stepped =
    runs_on problem plan old new before mid now seat turn is named counted within search.stands seats
    (subst (λ (rule : Option Rule). IsStepped problem rule is.rows seat old new mid now heard told) same
    (stepped is.rows (subst (λ (rule : Option Rule). Keeps problem rule is.rows old) (sym same) is.keeps)))

pub breaks_off_asked : (problem : BoxProblem) (plan : SearchPlan) (asked : Option Rule) (old : Frontier) (before mid now : Option (List ℕ)) (seat turn : ℕ) → asked ≡ plan.asked
    → IsRunning problem plan old before mid → seat ≡ named_seat plan.seats plan.order turn → turn ≡ old.finished → old.finished < plan.budget → ((rows : List Row) → Keeps problem asked rows old → IsBrokenStep problem rows seat old mid now) → IsPrefixLogged problem plan before now
breaks_off_asked problem plan asked old before mid now seat turn same is named counted within broken =
    step_breaks_off problem plan old before mid now seat turn is named counted within
    (broken is.rows (subst (λ (rule : Option Rule). Keeps problem rule is.rows old) (sym same) is.keeps))

pub seat_there : (problem : BoxProblem) (plan : SearchPlan) (frontier : Frontier) (before now : Option (List ℕ)) (seat seats : ℕ) → IsRunning problem plan frontier before now → seat < seats
    → seats ≡ plan.seats → seat < length frontier.seats.seats.items
seat_there problem plan frontier before now seat seats is below same = omega (arith, is.exist, below, same)

pub finished_within : (problem : BoxProblem) (plan : SearchPlan) (frontier : Frontier) (before now : Option (List ℕ)) → IsRunning problem plan frontier before now → frontier.finished ≤ plan.budget
finished_within problem plan frontier before now is = omega (arith, is.within, is.keeps.kept.counted)

-- a seat that a schedule names
pub named_by_turn : (plan : SearchPlan) (seats turn : ℕ) (order : Option ℕ) (seat : ℕ) → seat ≡ named_seat seats order turn → seats ≡ plan.seats → order ≡ plan.order
    → seat ≡ named_seat plan.seats plan.order turn
named_by_turn plan seats turn order seat is same_seats same_order =
    is ∙ (ap (λ (n : ℕ). named_seat n order turn) same_seats ∙ ap (λ (o : Option ℕ). named_seat plan.seats o turn) same_order)

-- lists of members with the same reasons, place by place, are of one length
pub same_long : {A B : Type 0} (f : A → B) (xs ys : List A) → map f xs ≡ map f ys → length xs ≡ length ys
same_long f xs ys same = sym (length-map xs f) ∙ (ap length same ∙ length-map ys f)

-- a search that has rows has some
pub some_kept : (problem : BoxProblem) (asked : Option Rule) (frontier : Frontier) → IsSearchOf problem asked frontier → (rows : List Row) × Keeps problem asked rows frontier
some_kept problem asked frontier search = (search.rows, search.keeps)

pub some_asked : (problem : BoxProblem) (asked : Option Rule) (frontier : Frontier) → IsSearchOf problem asked frontier
    → (rule : Option Rule) × (rows : List Row) × Keeps problem rule rows frontier
some_asked problem asked frontier search = (asked, search.rows, search.keeps)

pub searches_on : {heard told : Option (Option (List Event))} (problem : BoxProblem) (asked : Option Rule) (old new : Frontier) (seat : ℕ) (mid now : Option (List ℕ)) → IsSearchOf problem asked old → Stands problem new
    → ((rows : List Row) → Keeps problem asked rows old → IsStepped problem asked rows seat old new mid now heard told) → IsSearchOf problem asked new
searches_on problem asked old new seat mid now search stands stepped =
    let on = stepped search.rows search.keeps in
    record { stands = stands; rows = search.rows ++ on.row ∷ []; keeps = on.keeps }

pub some_seats : (problem : BoxProblem) (plan : SearchPlan) (frontier : Frontier) (before now : Option (List ℕ)) → IsRunning problem plan frontier before now → AreSeats plan.seats
    → 0 < length frontier.seats.seats.items
some_seats problem plan frontier before now is few = omega (arith, is.exist, few.0)
