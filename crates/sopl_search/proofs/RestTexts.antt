-- The text of the rest of a log, piece by piece.
use Rattle.std.proofs.Common.{◌≡◌, ℕ, List, [], ◌∷◌, ◌++◌, map, Option, Result, Ok, Err, OnOk, OnErr, refl, sym, ap, subst, ◌∙◌}
use Rattle.std.specs.Io.KnownBytes.{Appends}
use Rattle.sopl_io.specs.Gathered.{GathersAll}
use Rattle.sopl_io.specs.Transfer.{AppendsPrefix}
use Rattle.sopl_io.proofs.Gathering.{flushed_all, flushed_prefix, gathered_before, gathered_behind, gathered_both}
use Rattle.box_problem.specs.Box.{Box}
use Rattle.log_rows.specs.declared.rows.Footer.{Footer}
use Rattle.log_rows.specs.declared.rows.Row.{Row}
use Rattle.log_rows.specs.Lines.{ended, footer_line, rows_lines, text_of}
use Rattle.log_rows.specs.Made.{open_row}
use Rattle.log_rows.proofs.Texts.{text_append, text_one}
use Rattle.open_nodes.specs.declared.seats.OpenNode.{OpenNode}
use Rattle.sopl_search.specs.Closes.{rest_text}
use Rattle.sopl_search.specs.Frontiers.{pendings}
use Rattle.sopl_search.specs.Lines.{open_line, parent_above, pending_of}

abbrev behind_rows : ℕ → List Row → Footer → List ℕ
behind_rows first rows footer = text_of (rows_lines first rows ++ footer_line footer ∷ [])

rest_is : (first : ℕ) (rows : List Row) (footer : Footer) → behind_rows first rows footer ≡ text_of (rows_lines first rows) ++ ended (footer_line footer)
rest_is first rows footer =
    text_append (rows_lines first rows) (footer_line footer ∷ []) ∙ ap (λ (l : List ℕ). text_of (rows_lines first rows) ++ l) (text_one (footer_line footer))

-- where a piece fails
pub rows_fail : (a b : Option (List ℕ)) (k : List ℕ) (first : ℕ) (rows : List Row) (footer : Footer) → AppendsPrefix a b (k ++ text_of (rows_lines first rows))
    → AppendsPrefix a b (k ++ text_of (rows_lines first rows ++ footer_line footer ∷ []))
rows_fail a b k first rows footer prefix =
    subst (λ (l : List ℕ). AppendsPrefix a b (k ++ l)) (sym (rest_is first rows footer)) (gathered_before a b k (text_of (rows_lines first rows)) (ended (footer_line footer)) prefix)

pub footer_fails : (a b c : Option (List ℕ)) (k j : List ℕ) (first : ℕ) (rows : List Row) (footer : Footer) → GathersAll a k b j (text_of (rows_lines first rows))
    → AppendsPrefix b c (j ++ ended (footer_line footer)) → AppendsPrefix a c (k ++ text_of (rows_lines first rows ++ footer_line footer ∷ []))
footer_fails a b c k j first rows footer done prefix =
    subst (λ (l : List ℕ). AppendsPrefix a c (k ++ l)) (sym (rest_is first rows footer))
    (gathered_behind a b c k j (text_of (rows_lines first rows)) (ended (footer_line footer)) done prefix)

both : (a b c : Option (List ℕ)) (k j l : List ℕ) (first : ℕ) (rows : List Row) (footer : Footer) → GathersAll a k b j (text_of (rows_lines first rows))
    → GathersAll b j c l (ended (footer_line footer)) → GathersAll a k c l (behind_rows first rows footer)
both a b c k j l first rows footer done more =
    subst (GathersAll a k c l) (sym (rest_is first rows footer)) (gathered_both a b c k j l (text_of (rows_lines first rows)) (ended (footer_line footer)) done more)

pub rest_flushed : {T E : Type 0} (a b c d : Option (List ℕ)) (k j l : List ℕ) (first : ℕ) (rows : List Row) (footer : Footer) (result : Result T E)
    → GathersAll a k b j (text_of (rows_lines first rows)) → GathersAll b j c l (ended (footer_line footer)) → OnOk result (Appends c d l)
    → OnOk result (Appends a d (k ++ text_of (rows_lines first rows ++ footer_line footer ∷ [])))
rest_flushed a b c d k j l first rows footer (Ok value) done more written =
    flushed_all a c d k l (behind_rows first rows footer) (both a b c k j l first rows footer done more) written
rest_flushed a b c d k j l first rows footer (Err error) done more written = tt

pub flush_fails : {T E : Type 0} (a b c d : Option (List ℕ)) (k j l : List ℕ) (first : ℕ) (rows : List Row) (footer : Footer) (result : Result T E)
    → GathersAll a k b j (text_of (rows_lines first rows)) → GathersAll b j c l (ended (footer_line footer)) → OnErr result (AppendsPrefix c d l)
    → OnErr result (AppendsPrefix a d (k ++ text_of (rows_lines first rows ++ footer_line footer ∷ [])))
flush_fails a b c d k j l first rows footer (Ok value) done more some = tt
flush_fails a b c d k j l first rows footer (Err error) done more some =
    flushed_prefix a c d k l (behind_rows first rows footer) (both a b c k j l first rows footer done more) some

-- the rows of open nodes by what they keep
rows_same : (root : Box) (nodes : List OpenNode) → map (λ (x : OpenNode). open_line (parent_above x)) nodes ≡ map open_row (pendings root nodes)
rows_same root [] = refl
rows_same root (x ∷ nodes) = ap (λ (rows : List Row). open_row (pending_of root x) ∷ rows) (rows_same root nodes)

pub rest_same : (root : Box) (first : ℕ) (nodes : List OpenNode) (footer : Footer)
    → text_of (rows_lines first (map (λ (x : OpenNode). open_line (parent_above x)) nodes) ++ footer_line footer ∷ []) ≡ rest_text first (pendings root nodes) footer
rest_same root first nodes footer = ap (λ (rows : List Row). behind_rows first rows footer) (rows_same root nodes)
