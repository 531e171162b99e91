-- The text of open nodes, one by one.
use Rattle.std.proofs.Common.{◌≡◌, ℕ, ◌+◌, ◌<◌, ◌≤◌, List, [], ◌∷◌, ◌++◌, length, get_or, map, take, drop, Option, sym, ap, subst, ◌∙◌, arith}
use Rattle.std.proofs.lemmas.List.{drop_more, length-map, length-take-le, map-append, take-append-drop, take_all, take_more}
use Rattle.sopl_io.specs.Gathered.{GathersAll}
use Rattle.sopl_io.specs.Transfer.{AppendsPrefix}
use Rattle.sopl_io.proofs.Gathering.{gathered_before, gathered_behind, gathered_both}
use Rattle.log_rows.specs.declared.rows.Row.{Row}
use Rattle.log_rows.specs.Lines.{rows_lines, text_of}
use Rattle.log_rows.proofs.Texts.{rows_append}
use Rattle.open_nodes.specs.declared.seats.OpenNode.{OpenNode}
use Rattle.sopl_search.specs.Lines.{open_line, parent_above}

abbrev rows_of : List OpenNode → List Row
rows_of nodes = map (λ (x : OpenNode). open_line (parent_above x)) nodes

abbrev opens_text : ℕ → List OpenNode → List ℕ
opens_text first nodes = text_of (rows_lines first (rows_of nodes))

-- nodes behind nodes
opens_append : (first : ℕ) (xs ys : List OpenNode) → opens_text first (xs ++ ys) ≡ opens_text first xs ++ opens_text (first + length xs) ys
opens_append first xs ys =
    ap (λ (rows : List Row). text_of (rows_lines first rows)) (map-append (λ (x : OpenNode). open_line (parent_above x)) xs ys)
    ∙ (rows_append first (rows_of xs) (rows_of ys)
    ∙ ap (λ (n : ℕ). opens_text first xs ++ opens_text n ys) (omega (arith, length-map xs (λ (x : OpenNode). open_line (parent_above x)))))

opens_front : (first : ℕ) (nodes more : List OpenNode) (i : ℕ) → i ≤ length nodes → opens_text first (take i nodes ++ more) ≡ opens_text first (take i nodes) ++ opens_text (first + i) more
opens_front first nodes more i fits =
    opens_append first (take i nodes) more ∙ ap (λ (n : ℕ). opens_text first (take i nodes) ++ opens_text (first + n) more) (length-take-le i nodes fits)

pub opens_more : (a b c : Option (List ℕ)) (k j l : List ℕ) (first : ℕ) (nodes : List OpenNode) (i : ℕ) (x : OpenNode) → i < length nodes → x ≡ get_or nodes i x
    → GathersAll a k b j (opens_text first (take i nodes)) → GathersAll b j c l (opens_text (first + i) (x ∷ [])) → GathersAll a k c l (opens_text first (take (i + 1) nodes))
opens_more a b c k j l first nodes i x exists is before more =
    subst (λ (ns : List OpenNode). GathersAll a k c l (opens_text first ns)) (sym (take_more nodes i x exists ∙ ap (λ (y : OpenNode). take i nodes ++ y ∷ []) (sym is)))
    (subst (GathersAll a k c l) (sym (opens_front first nodes (x ∷ []) i (omega (arith, exists))))
    (gathered_both a b c k j l (opens_text first (take i nodes)) (opens_text (first + i) (x ∷ [])) before more))

pub opens_prefix : (a b c : Option (List ℕ)) (k j : List ℕ) (first : ℕ) (nodes : List OpenNode) (i : ℕ) (x : OpenNode) → i < length nodes → x ≡ get_or nodes i x
    → GathersAll a k b j (opens_text first (take i nodes)) → AppendsPrefix b c (j ++ opens_text (first + i) (x ∷ [])) → AppendsPrefix a c (k ++ opens_text first nodes)
opens_prefix a b c k j first nodes i x exists is before more =
    subst (λ (text : List ℕ). AppendsPrefix a c (k ++ text))
    (sym (ap (opens_text first) (sym (take-append-drop i nodes))
    ∙ (opens_front first nodes (drop i nodes) i (omega (arith, exists))
    ∙ ap (λ (text : List ℕ). opens_text first (take i nodes) ++ text)
    (ap (opens_text (first + i)) (drop_more nodes i x exists ∙ ap (λ (y : OpenNode). y ∷ drop (i + 1) nodes) (sym is))
    ∙ opens_append (first + i) (x ∷ []) (drop (i + 1) nodes)))))
    (gathered_behind a b c k j (opens_text first (take i nodes)) (opens_text (first + i) (x ∷ []) ++ opens_text (first + i + length (x ∷ [])) (drop (i + 1) nodes)) before
    (gathered_before b c j (opens_text (first + i) (x ∷ [])) (opens_text (first + i + length (x ∷ [])) (drop (i + 1) nodes)) more))

pub opens_all : (a b : Option (List ℕ)) (k j : List ℕ) (first : ℕ) (nodes : List OpenNode) (i : ℕ) → length nodes ≤ i → GathersAll a k b j (opens_text first (take i nodes))
    → GathersAll a k b j (opens_text first nodes)
opens_all a b k j first nodes i all before = subst (λ (ns : List OpenNode). GathersAll a k b j (opens_text first ns)) (take_all i nodes all) before
