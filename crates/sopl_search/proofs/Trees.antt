-- The tree of a search in the end, and its log.
use Rattle.std.proofs.Common.{◌≡◌, ◌⊎◌, inl, inr, ℕ, ◌+◌, ◌^◌, ◌<◌, ◌≤◌, List, [], ◌∷◌, ◌++◌, length, map, Option, Some, None, Result, Ok, Err, IfOk, OnErr, All, Contains, IsPermutation, arith, refl, sym, ap, subst, ◌∙◌, append_assoc}
use Rattle.std.proofs.lemmas.List.{append-nil, length-append, length-map}
use Rattle.std.proofs.lemmas.List.Elements.{All-append, All-cons, All-nil}
use Rattle.std.proofs.lemmas.List.Sorted.{Contains-permutation, IsPermutation-map, IsPermutation-sym, length_permutation}
use Rattle.std.specs.Io.KnownBytes.{Appends, Keeps as KeepsBytes}
use Rattle.sopl_io.specs.Transfer.{AppendsPrefix}
use Rattle.sopl_io.specs.Gathered.{GathersAll}
use Rattle.std.proofs.KnownBytes.{Appends-trans}
use Rattle.box_problem.specs.Bits.{bits_in}
use Rattle.box_problem.specs.BoxProblem.{BoxProblem}
use Rattle.log_rows.specs.declared.rows.Footer.{Footer}
use Rattle.log_rows.specs.declared.rows.Footer.TheVariants as claims
use Rattle.log_rows.specs.declared.rows.Parent.{Parent}
use Rattle.log_rows.specs.Accepted.{Accepted, greatest_depth}
use Rattle.log_rows.specs.Lines.{footer_line, head_line, log_lines, rows_lines, text_of}
use Rattle.log_rows.specs.Made.{AreShallow, Logs, Pending, open_row, with_open}
use Rattle.log_rows.specs.Ranges.{ParentFits, RowFits, StepFits}
use Rattle.log_rows.specs.Rows.{AreOrdered, depth_of}
use Rattle.log_rows.proofs.Closing.{logs_are_accepted}
use Rattle.log_rows.proofs.Lists.{middle_is, others_have}
use Rattle.log_rows.proofs.Logging.{depths_in_any_order, depths_with_open, logs_in_any_order, logs_with_open}
use Rattle.log_rows.proofs.LogTexts.{texts_are_logs}
use Rattle.log_rows.proofs.Places.{IsWithin, hangs_within}
use Rattle.sopl_base.specs.declared.stop.SearchStop.{SearchStop}
use Rattle.sopl_base.specs.declared.stop.SearchStop.TheVariants.{NoMemory, Write}
use Rattle.sopl_search.specs.declared.frontier.Frontier.{Frontier}
use Rattle.sopl_search.specs.declared.outcome.Outcome.{Outcome}
use Rattle.sopl_search.specs.declared.outcome.Outcome.TheVariants.{Optimal, Infeasible, Bounded}
use Rattle.sopl_search.specs.Closes.{AreListed, IsBrokenClose, IsClosed, rest_text}
use Rattle.sopl_search.specs.Ends.{IsPosed}
use Rattle.sopl_search.specs.Frontiers.{IsRunning, boxes, nodes_of, opens, state_of}
use Rattle.sopl_search.specs.Lines.{pending_of}
use Rattle.sopl_search.specs.Logged.{IsLogged, IsPlannedEnd, IsPointRow, IsPrefixLogged, IsTree, SearchPlan, SpendsAll, at_end, footer_of, in_rows}
use Rattle.sopl_search.specs.Outcomes.{EndsBy, HasCause, value_of}
use Rattle.sopl_search.proofs.Answered.{ends_shuffled}
use Rattle.sopl_search.proofs.Footers.{claims_so}
use Rattle.sopl_search.proofs.InOrder.{apart_shuffled}
use Rattle.sopl_search.proofs.Points.{best_stays, ends_tell}
use Rattle.sopl_search.proofs.Running.{all_open, breaks_off, is_planned, kept_appends, took_rows, took_whole, whole_text}

-- the rows of open nodes fit
parent_fits : (n : ℕ) (parent : Option Parent) → n < 2 ^ 64 → IsWithin n parent → ParentFits parent
parent_fits n None small within = tt
parent_fits n (Some parent) small within = omega (arith, small, within)

open_fit : (n : ℕ) (nodes : List Pending) → n < 2 ^ 64 → ((y : Pending) → Contains nodes y → IsWithin n y.parent) → All RowFits (map open_row nodes)
open_fit n [] small within = All-nil RowFits
open_fit n (x ∷ nodes) small within =
    All-cons RowFits (open_row x) (map open_row nodes)
    (record { parent_fits = parent_fits n x.parent small (within x (middle_is [] nodes x)); steps_fit = All-nil StepFits; end_fits = tt })
    (open_fit n nodes small (λ y has. within y (others_have [] nodes x y has)))

-- a search that gives up has spent its budget
pub spends : (problem : BoxProblem) (plan : SearchPlan) (frontier : Frontier) (before now : Option (List ℕ)) (outcome : Outcome) (is : IsRunning problem plan frontier before now)
    → (0 < frontier.open_count → frontier.finished ≡ plan.budget) → EndsBy problem frontier.best (boxes (opens problem.root frontier)) outcome → SpendsAll outcome (length is.rows) plan.budget
spends problem plan frontier before now (Optimal value cells) is done ends = tt
spends problem plan frontier before now Infeasible is done ends = tt
spends problem plan frontier before now (Bounded found bound) is done ends =
    is.keeps.kept.counted
    ∙ done (omega (arith, ends.2, length-map (opens problem.root frontier) (λ (x : Pending). x.at), length-map (nodes_of frontier) (pending_of problem.root), is.keeps.counted))

-- no node is open, or the budget is spent
none_or_all : (nodes : List Pending) (count finished n budget : ℕ) → length nodes ≡ count → n ≡ finished → (0 < count → finished ≡ budget) → (nodes ≡ []) ⊎ (n ≡ budget)
none_or_all [] count finished n budget long counted done = inl refl
none_or_all (x ∷ nodes) count finished n budget long counted done = inr (counted ∙ done (omega (arith, long)))

-- a search with its open nodes by their parents
module _ (problem : BoxProblem) (plan : SearchPlan) (frontier : Frontier) (before now : Option (List ℕ)) (nodes : List Pending)
    (is : IsRunning problem plan frontier before now) (listed : AreListed problem.root frontier nodes) (small : frontier.finished < 2 ^ 64) where
  listed_back : IsPermutation nodes (opens problem.root frontier)
  listed_back = IsPermutation-sym (opens problem.root frontier) nodes listed.same

  pub listed_logs : Logs problem is.rows nodes (value_of frontier.best)
  listed_logs =
      logs_in_any_order problem is.rows (opens problem.root frontier) nodes (value_of frontier.best) is.keeps.kept.logs
      (λ x. (
        λ has. Contains-permutation (opens problem.root frontier) nodes x listed.same has,
        λ has. Contains-permutation nodes (opens problem.root frontier) x listed_back has,
      ))
      (apart_shuffled (opens problem.root frontier) nodes listed.same is.keeps.kept.logs.distinct)

  listed_shallow : (most : ℕ) → AreShallow bits_in most is.rows (opens problem.root frontier) → AreShallow bits_in most is.rows nodes
  listed_shallow most shallow =
      depths_in_any_order bits_in most is.rows (opens problem.root frontier) nodes shallow (λ x has. Contains-permutation nodes (opens problem.root frontier) x listed_back has)

  rows_shallow : (most : ℕ) → AreShallow bits_in most is.rows (opens problem.root frontier) → (i : ℕ) → i < length (with_open is.rows nodes) → depth_of (with_open is.rows nodes) i ≤ most
  rows_shallow most shallow = (depths_with_open problem bits_in most is.rows nodes (value_of frontier.best) listed_logs (listed_shallow most shallow)).rows_are

  pub listed_fit : All RowFits (map open_row nodes)
  listed_fit =
      open_fit (length is.rows) nodes (omega (arith, is.keeps.kept.counted, small)) (λ y has. hangs_within is.rows (length is.rows) y.parent (listed_logs.placed y has).0)

  pub listed_ordered : AreOrdered (is.rows ++ map open_row nodes)
  listed_ordered = (logs_with_open problem is.rows nodes (value_of frontier.best) listed_logs).hangs

  -- the box that is answered of
  ends_listed : (outcome : Outcome) → EndsBy problem frontier.best (boxes (opens problem.root frontier)) outcome → EndsBy problem frontier.best (boxes nodes) outcome
  ends_listed outcome ends =
      ends_shuffled problem frontier.best (boxes (opens problem.root frontier)) (boxes nodes) outcome
      (IsPermutation-map (λ (x : Pending). x.at) (opens problem.root frontier) nodes listed.same) ends

  not_too_deep : AreShallow bits_in greatest_depth is.rows nodes
  not_too_deep =
      let shallow = listed_shallow 1536 is.keeps.kept.shallow in
      record { rows_are = λ i exists. omega (arith, shallow.rows_are i exists); opens_are = λ x has. omega (arith, shallow.opens_are x has) }

  listed_accepted : (outcome : Outcome) → IsPosed problem → 0 < frontier.finished → EndsBy problem frontier.best (boxes (opens problem.root frontier)) outcome
      → Accepted problem (with_open is.rows nodes) (footer_of outcome)
  listed_accepted outcome posed some ends =
      logs_are_accepted problem bits_in is.rows nodes (value_of frontier.best) (footer_of outcome) posed.lawful listed_logs is.keeps.kept.are_finished (omega (arith, some, is.keeps.kept.counted))
      not_too_deep (claims_so problem frontier.best nodes outcome (ends_listed outcome ends))

  listed_long : length nodes ≡ frontier.open_count
  listed_long =
      length_permutation (opens problem.root frontier) nodes listed.same ∙ (length-map (nodes_of frontier) (pending_of problem.root) ∙ is.keeps.counted)

  pub planned_end : (outcome : Outcome) → (0 < frontier.open_count → frontier.finished ≡ plan.budget) → EndsBy problem frontier.best (boxes (opens problem.root frontier)) outcome
      → IsPlannedEnd problem plan (state_of problem.root is.rows frontier) outcome nodes
  planned_end outcome done ends = record {
    are_open = subst (λ (xs : List Pending). IsPermutation xs nodes) (sym (all_open problem is.rows frontier)) listed.same;
    in_order = listed.in_order;
    done = none_or_all nodes frontier.open_count frontier.finished (length is.rows) plan.budget listed_long is.keeps.kept.counted done;
    spent = spends problem plan frontier before now outcome is done ends;
    best = frontier.best;
    best_is = refl;
    ends = ends_listed outcome ends;
  }

  pub is_tree : (outcome : Outcome) → IsPosed problem → 0 < frontier.finished → (0 < frontier.open_count → frontier.finished ≡ plan.budget)
      → EndsBy problem frontier.best (boxes (opens problem.root frontier)) outcome → IsTree problem plan outcome (with_open is.rows nodes)
  is_tree outcome posed some done ends = record {
    state = state_of problem.root is.rows frontier;
    opens = nodes;
    planned = is_planned problem plan frontier before now is;
    end = planned_end outcome done ends;
    logs = listed_logs;
    rows_are = refl;
    fit = All-append RowFits is.rows (map open_row nodes) is.keeps.kept.fit listed_fit;
    accepted = listed_accepted outcome posed some ends;
    by_bits = λ none. rows_shallow (bits_in problem.root) (is.keeps.kept.by_bits none);
    shallow = rows_shallow 1536 is.keeps.kept.shallow;
    found = ends_tell (IsPointRow problem (with_open is.rows nodes)) problem frontier.best (boxes (opens problem.root frontier)) outcome ends
        (best_stays problem is.rows (map open_row nodes) frontier.best is.keeps.kept.found);
  }

pub caused : (problem : BoxProblem) (finished budget nodes : ℕ) (outcome : Outcome) → nodes ≡ finished → SpendsAll outcome nodes budget → HasCause problem finished outcome → HasCause problem budget outcome
caused problem finished budget nodes (Optimal value cells) counted spent cause = tt
caused problem finished budget nodes Infeasible counted spent cause = tt
caused problem finished budget nodes (Bounded found bound) counted spent cause = subst (λ (n : ℕ). HasCause problem n (Bounded found bound)) (sym counted ∙ spent) cause

-- its log
rest_from : (problem : BoxProblem) (plan : SearchPlan) (frontier : Frontier) (before now : Option (List ℕ)) (nodes : List Pending) (footer : Footer) (is : IsRunning problem plan frontier before now)
    → rest_text frontier.finished nodes footer ≡ text_of (rows_lines (length is.rows) (map open_row nodes) ++ footer_line footer ∷ [])
rest_from problem plan frontier before now nodes footer is = ap (λ (n : ℕ). rest_text n nodes footer) (sym is.keeps.kept.counted)

log_took : (before mid now : Option (List ℕ)) (kept text rest whole : List ℕ) → GathersAll before [] mid kept text → Appends mid now (kept ++ rest) → whole ≡ text ++ rest → Appends before now whole
log_took before mid now kept text rest whole so_far took is =
    subst (Appends before now)
    (sym (append_assoc so_far.written kept rest) ∙ (ap (λ (l : List ℕ). l ++ rest) so_far.rest ∙ sym is))
    (Appends-trans before mid now so_far.written (kept ++ rest) so_far.took took)

pub is_logged : (problem : BoxProblem) (plan : SearchPlan) (frontier : Frontier) (before mid now : Option (List ℕ)) (outcome : Outcome) (is : IsRunning problem plan frontier before mid)
    → IsPosed problem → 0 < frontier.finished → frontier.finished < 2 ^ 64 → (0 < frontier.open_count → frontier.finished ≡ plan.budget)
    → IsClosed problem frontier mid now outcome → IsLogged problem plan outcome before now
is_logged problem plan frontier before mid now outcome is posed some small done closed =
    let rows = with_open is.rows closed.nodes in
    let tree = is_tree problem plan frontier before mid closed.nodes is closed.listed small outcome posed some done closed.ends in
    record {
      bytes = text_of (log_lines rows (footer_of outcome));
      is_log = record {
        rows = rows;
        tree = tree;
        text = refl;
        is_text = texts_are_logs rows (footer_of outcome) tree.accepted.ordered tree.accepted.some tree.fit closed.fits;
      };
      took = log_took before mid now frontier.gather.kept (text_of (head_line ∷ rows_lines 0 is.rows)) (rest_text frontier.finished closed.nodes (footer_of outcome))
          (text_of (log_lines rows (footer_of outcome))) is.lines closed.took
          (whole_text is.rows (map open_row closed.nodes) (footer_of outcome)
          ∙ ap (λ (l : List ℕ). text_of (head_line ∷ rows_lines 0 is.rows) ++ l) (sym (rest_from problem plan frontier before mid closed.nodes (footer_of outcome) is)));
    }

-- or where it breaks off at the end
pub close_breaks_off : (problem : BoxProblem) (plan : SearchPlan) (frontier : Frontier) (before mid now : Option (List ℕ)) → IsRunning problem plan frontier before mid
    → 0 < frontier.finished → frontier.finished < 2 ^ 64 → (0 < frontier.open_count → frontier.finished ≡ plan.budget) → IsBrokenClose problem frontier mid now
    → IsPrefixLogged problem plan before now
close_breaks_off problem plan frontier before mid now is some small done broken =
    let footer = footer_of broken.outcome in
    let took : AppendsPrefix mid now (frontier.gather.kept ++ text_of (rows_lines (length is.rows) (map open_row broken.nodes) ++ footer_line footer ∷ [])) =
    subst (λ (l : List ℕ). AppendsPrefix mid now (frontier.gather.kept ++ l)) (rest_from problem plan frontier before mid broken.nodes footer is) broken.took in
    breaks_off problem plan frontier before mid now (map open_row broken.nodes) footer is
    (listed_ordered problem plan frontier before mid broken.nodes is broken.listed small)
    (omega (arith, some, is.keeps.kept.counted, length-append is.rows (map open_row broken.nodes)))
    (listed_fit problem plan frontier before mid broken.nodes is broken.listed small)
    broken.fits took
    (at_end broken.outcome broken.nodes (planned_end problem plan frontier before mid broken.nodes is broken.listed small broken.outcome done broken.ends)
    (took_whole problem plan frontier before mid now (map open_row broken.nodes) footer is took))

pub close_logs_nothing : (problem : BoxProblem) (plan : SearchPlan) (frontier : Frontier) (before mid now : Option (List ℕ)) → IsRunning problem plan frontier before mid → 0 < frontier.finished
    → KeepsBytes mid now → IsPrefixLogged problem plan before now
close_logs_nothing problem plan frontier before mid now is some keeps =
    breaks_off problem plan frontier before mid now [] claims.Infeasible is
    (subst AreOrdered (sym (append-nil is.rows)) is.keeps.kept.logs.hangs)
    (omega (arith, some, is.keeps.kept.counted, length-append is.rows []))
    (All-nil RowFits) tt (0, kept_appends mid now keeps) (in_rows (took_rows problem plan frontier before mid now is keeps))

-- what is logged, by what the last call of a search gives
pub all_logged : (problem : BoxProblem) (plan : SearchPlan) (frontier : Frontier) (before mid now : Option (List ℕ)) (result : Result Outcome SearchStop) → IsRunning problem plan frontier before mid
    → IsPosed problem → 0 < frontier.finished → frontier.finished < 2 ^ 64 → (0 < frontier.open_count → frontier.finished ≡ plan.budget)
    → IfOk result (IsClosed problem frontier mid now) → IfOk result (λ outcome. IsLogged problem plan outcome before now)
all_logged problem plan frontier before mid now (Ok outcome) is posed some small done closed = is_logged problem plan frontier before mid now outcome is posed some small done closed
all_logged problem plan frontier before mid now (Err stop) is posed some small done closed = tt

pub all_caused : (problem : BoxProblem) (plan : SearchPlan) (frontier : Frontier) (before mid now : Option (List ℕ)) (result : Result Outcome SearchStop) → IsRunning problem plan frontier before mid
    → (0 < frontier.open_count → frontier.finished ≡ plan.budget) → IfOk result (IsClosed problem frontier mid now) → IfOk result (HasCause problem frontier.finished)
    → IfOk result (HasCause problem plan.budget)
all_caused problem plan frontier before mid now (Ok outcome) is done closed cause =
    caused problem frontier.finished plan.budget (length is.rows) outcome is.keeps.kept.counted (spends problem plan frontier before mid outcome is done closed.ends) cause
all_caused problem plan frontier before mid now (Err stop) is done closed cause = tt

pub prefix_logged : (problem : BoxProblem) (plan : SearchPlan) (frontier : Frontier) (before mid now : Option (List ℕ)) (result : Result Outcome SearchStop) → IsRunning problem plan frontier before mid
    → 0 < frontier.finished → frontier.finished < 2 ^ 64 → (0 < frontier.open_count → frontier.finished ≡ plan.budget) → (result ≡ Err Write → IsBrokenClose problem frontier mid now) → (result ≡ Err NoMemory → KeepsBytes mid now)
    → OnErr result (IsPrefixLogged problem plan before now)
prefix_logged problem plan frontier before mid now (Ok outcome) is some small done refused nothing = tt
prefix_logged problem plan frontier before mid now (Err NoMemory) is some small done refused nothing = close_logs_nothing problem plan frontier before mid now is some (nothing refl)
prefix_logged problem plan frontier before mid now (Err Write) is some small done refused nothing = close_breaks_off problem plan frontier before mid now is some small done (refused refl)
