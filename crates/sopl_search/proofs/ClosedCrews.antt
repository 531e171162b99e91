-- A search whose open nodes were taken in order is closed.
use Rattle.std.proofs.Common.{◌≡◌, ℕ, ℤ, List, [], ◌∷◌, ◌++◌, get_or, map, Option, Contains, IsPermutation, arith, sym, ap, subst, ◌∙◌}
use Rattle.std.specs.Io.KnownBytes.{Appends}
use Rattle.sopl_io.specs.Transfer.{AppendsPrefix}
use Rattle.std.specs.List.{AllByRecursion}
use Rattle.std.specs.List.Sorted.{IsNonDecreasingBy}
use Rattle.std.proofs.lemmas.List.{get_or-map, length-map}
use Rattle.std.proofs.lemmas.List.Elements.{All-from_recursion, Contains-get_or, recursion_from_All}
use Rattle.std.proofs.lemmas.List.Sorted.{All-permutation, Contains-permutation, IsPermutation-map, IsPermutation-sym}
use Rattle.brancher.specs.Rules.{Rule}
use Rattle.box_problem.specs.Box.{Box, Inside}
use Rattle.box_problem.specs.BoxProblem.{BoxProblem}
use Rattle.log_rows.specs.declared.rows.Footer.{Footer}
use Rattle.log_rows.specs.declared.rows.Row.{Row}
use Rattle.log_rows.specs.Lines.{footer_line, rows_lines, text_of}
use Rattle.log_rows.specs.Ranges.{FooterFits}
use Rattle.log_rows.specs.Made.{Logs, Pending}
use Rattle.log_rows.proofs.Closing.{opens_inside}
use Rattle.log_rows.proofs.Logging.{logs_in_any_order}
use Rattle.open_nodes.specs.declared.seats.OpenNode.{OpenNode}
use Rattle.sopl_search.specs.declared.frontier.Frontier.{Frontier}
use Rattle.sopl_search.specs.declared.outcome.Outcome.{Outcome}
use Rattle.sopl_search.specs.Closes.{AreListed, IsBrokenClose, IsClosed, rest_text}
use Rattle.sopl_search.specs.Logged.{footer_of}
use Rattle.sopl_search.specs.Ends.{IsPosed}
use Rattle.sopl_search.specs.Frontiers.{AreEnterable, AreRowNodes, IsSplitRow, Keeps, boxes, nodes_of, opens, pendings}
use Rattle.sopl_search.specs.Lines.{open_line, order_key, parent_above, pending_of, split_above}
use Rattle.sopl_search.specs.Outcomes.{EndsBy, value_of}
use Rattle.sopl_search.proofs.Answered.{ends_shuffled}
use Rattle.sopl_search.proofs.InOrder.{apart_shuffled, in_order}
use Rattle.sopl_search.proofs.RestTexts.{rest_same}

-- the open nodes in another order
shuffled : (root : Box) (old nodes : List OpenNode) → IsPermutation old nodes → IsPermutation (pendings root old) (pendings root nodes)
shuffled root old nodes moved = IsPermutation-map (pending_of root) old nodes moved

logs_shuffled : (problem : BoxProblem) (rows : List Row) (best : Option ℤ) (old nodes : List OpenNode) → IsPermutation old nodes → Logs problem rows (pendings problem.root old) best
    → Logs problem rows (pendings problem.root nodes) best
logs_shuffled problem rows best old nodes moved logs =
    let before = pendings problem.root old in
    let after = pendings problem.root nodes in
    let all_moved = shuffled problem.root old nodes moved in
    logs_in_any_order problem rows before after best logs
    (λ x. (λ has. Contains-permutation before after x all_moved has, λ has. Contains-permutation after before x (IsPermutation-sym before after all_moved) has))
    (apart_shuffled before after all_moved logs.distinct)

abbrev has_way : List Row → OpenNode → Type 0
has_way rows node = IsSplitRow rows (split_above node)

ways_shuffled : (rows : List Row) (old nodes : List OpenNode) → IsPermutation old nodes → AreRowNodes rows old → AreRowNodes rows nodes
ways_shuffled rows old nodes moved ways =
    recursion_from_All (has_way rows) nodes (All-permutation (has_way rows) old nodes moved (All-from_recursion (has_way rows) old ways))

abbrev lies_inside : Box → OpenNode → Type 0
lies_inside root node = Inside (pending_of root node).at root

all_inside : (problem : BoxProblem) (rows : List Row) (best : Option ℤ) (nodes : List OpenNode) → IsPosed problem → Logs problem rows (pendings problem.root nodes) best
    → AllByRecursion (lies_inside problem.root) nodes
all_inside problem rows best nodes posed logs =
    let see = pending_of problem.root in
    recursion_from_All (lies_inside problem.root) nodes
    (λ i d exists. opens_inside problem rows (pendings problem.root nodes) best (see (get_or nodes i d)) posed.lawful logs
    (subst (λ (x : Pending). Contains (pendings problem.root nodes) x) (get_or-map see nodes i d (see d) exists)
    (Contains-get_or (pendings problem.root nodes) i (see d) (omega (arith, exists, length-map nodes see)))))

pub are_enterable : (problem : BoxProblem) (asked : Option Rule) (rows : List Row) (old : Frontier) (nodes : List OpenNode) → IsPosed problem → Keeps problem asked rows old
    → IsPermutation (nodes_of old) nodes → AreEnterable problem rows old.walk nodes
are_enterable problem asked rows old nodes posed keeps moved =
    let logs = logs_shuffled problem rows (value_of old.best) (nodes_of old) nodes moved keeps.kept.logs in
    record {
      best = value_of old.best;
      logs = logs;
      ways = ways_shuffled rows (nodes_of old) nodes moved keeps.ways;
      inside = all_inside problem rows (value_of old.best) nodes posed logs;
      at = keeps.walk;
    }

pub some_enterable : (problem : BoxProblem) (old : Frontier) (nodes seen : List OpenNode) → IsPosed problem → ((asked : Option Rule) × (rows : List Row) × Keeps problem asked rows old)
    → IsPermutation (nodes_of old) nodes → seen ≡ nodes → (rows : List Row) × AreEnterable problem rows old.walk seen
some_enterable problem old nodes seen posed keeps moved same =
    (keeps.1, subst (AreEnterable problem keeps.1 old.walk) (sym same) (are_enterable problem keeps.0 keeps.1 old nodes posed keeps.2 moved))

-- they are listed by their parents
pub are_listed : (problem : BoxProblem) (old : Frontier) (nodes : List OpenNode) → ((asked : Option Rule) × (rows : List Row) × Keeps problem asked rows old)
    → IsPermutation (nodes_of old) nodes → IsNonDecreasingBy order_key nodes → AreListed problem.root old (pendings problem.root nodes)
are_listed problem old nodes keeps moved sorted = record {
  same = shuffled problem.root (nodes_of old) nodes moved;
  in_order = in_order problem keeps.1 (value_of old.best) nodes (logs_shuffled problem keeps.1 (value_of old.best) (nodes_of old) nodes moved keeps.2.kept.logs) sorted;
}

-- and what is answered of them is so of all open nodes
pub ends_of_all : (problem : BoxProblem) (old : Frontier) (nodes seen : List OpenNode) (outcome : Outcome) → IsPermutation (nodes_of old) nodes → seen ≡ nodes
    → EndsBy problem old.best (boxes (pendings problem.root seen)) outcome → EndsBy problem old.best (boxes (opens problem.root old)) outcome
ends_of_all problem old nodes seen outcome moved same ends_seen =
    let ends : EndsBy problem old.best (boxes (pendings problem.root nodes)) outcome =
    subst (λ (xs : List OpenNode). EndsBy problem old.best (boxes (pendings problem.root xs)) outcome) same ends_seen in
    let before = opens problem.root old in
    let after = pendings problem.root nodes in
    let moved_boxes : IsPermutation (boxes after) (boxes before) =
    IsPermutation-map (λ (x : Pending). x.at) after before (IsPermutation-sym before after (shuffled problem.root (nodes_of old) nodes moved)) in
    ends_shuffled problem old.best (boxes after) (boxes before) outcome moved_boxes ends

-- the rest of its log
text_seen : (root : Box) (old now : Frontier) (nodes seen : List OpenNode) (footer told : Footer) → now.finished ≡ old.finished → now.gather.kept ≡ old.gather.kept → seen ≡ nodes → footer ≡ told
    → now.gather.kept ++ text_of (rows_lines now.finished (map (λ (x : OpenNode). open_line (parent_above x)) seen) ++ footer_line footer ∷ [])
    ≡ old.gather.kept ++ rest_text old.finished (pendings root nodes) told
text_seen root old now nodes seen footer told counted kept same claimed =
    ap (λ (l : List ℕ). l ++ text_of (rows_lines now.finished (map (λ (x : OpenNode). open_line (parent_above x)) seen) ++ footer_line footer ∷ [])) kept
    ∙ ap (λ (l : List ℕ). old.gather.kept ++ l)
    (rest_same root now.finished seen footer
    ∙ (ap (λ (n : ℕ). rest_text n (pendings root seen) footer) counted
    ∙ (ap (λ (xs : List OpenNode). rest_text old.finished (pendings root xs) footer) same ∙ ap (rest_text old.finished (pendings root nodes)) claimed)))

pub is_closed : (problem : BoxProblem) (old now : Frontier) (nodes seen again : List OpenNode) (outcome : Outcome) (footer : Footer) (before after : Option (List ℕ))
    → ((asked : Option Rule) × (rows : List Row) × Keeps problem asked rows old) → IsPermutation (nodes_of old) nodes → IsNonDecreasingBy order_key nodes
    → now.finished ≡ old.finished → now.gather.kept ≡ old.gather.kept → seen ≡ nodes → again ≡ nodes → footer ≡ footer_of outcome → FooterFits (footer_of outcome)
    → EndsBy problem old.best (boxes (pendings problem.root seen)) outcome
    → Appends before after (now.gather.kept ++ text_of (rows_lines now.finished (map (λ (x : OpenNode). open_line (parent_above x)) again) ++ footer_line footer ∷ []))
    → IsClosed problem old before after outcome
is_closed problem old now nodes seen again outcome footer before after keeps moved sorted counted kept same too claimed fits ends took = record {
  nodes = pendings problem.root nodes;
  listed = are_listed problem old nodes keeps moved sorted;
  ends = ends_of_all problem old nodes seen outcome moved same ends;
  fits = fits;
  took = subst (Appends before after) (text_seen problem.root old now nodes again footer (footer_of outcome) counted kept too claimed) took;
}

pub is_broken : (problem : BoxProblem) (old now : Frontier) (nodes seen again : List OpenNode) (outcome : Outcome) (footer : Footer) (before after : Option (List ℕ))
    → ((asked : Option Rule) × (rows : List Row) × Keeps problem asked rows old) → IsPermutation (nodes_of old) nodes → IsNonDecreasingBy order_key nodes
    → now.finished ≡ old.finished → now.gather.kept ≡ old.gather.kept → seen ≡ nodes → again ≡ nodes → footer ≡ footer_of outcome → FooterFits (footer_of outcome)
    → EndsBy problem old.best (boxes (pendings problem.root seen)) outcome
    → AppendsPrefix before after (now.gather.kept ++ text_of (rows_lines now.finished (map (λ (x : OpenNode). open_line (parent_above x)) again) ++ footer_line footer ∷ []))
    → IsBrokenClose problem old before after
is_broken problem old now nodes seen again outcome footer before after keeps moved sorted counted kept same too claimed fits ends took = record {
  nodes = pendings problem.root nodes;
  outcome = outcome;
  listed = are_listed problem old nodes keeps moved sorted;
  ends = ends_of_all problem old nodes seen outcome moved same ends;
  fits = fits;
  took = subst (AppendsPrefix before after) (text_seen problem.root old now nodes again footer (footer_of outcome) counted kept too claimed) took;
}
