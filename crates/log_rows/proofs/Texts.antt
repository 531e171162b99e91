-- The texts of rows, piece by piece.
use Rattle.std.proofs.Common.{◌≡◌, ℕ, suc, ◌+◌, ◌<◌, ◌≤◌, List, [], ◌∷◌, ◌++◌, length, get_or, map, take, drop, Option, arith, sym, ap, subst, ◌∙◌, append_assoc}
use Rattle.std.proofs.lemmas.List.{append-nil, take_all, take_more, take-append-drop, drop_more, map-append, length-take-le}
use Rattle.std.proofs.lemmas.Grind.{flat_map-append}
use Rattle.std.specs.Prelude.{Result, Ok, Err, OnOk, OnErr}
use Rattle.std.specs.Io.KnownBytes.{Appends}
use Rattle.sopl_base.specs.declared.reason.Step.{Step}
use Rattle.log_rows.specs.declared.rows.Row.{Row}
use Rattle.log_rows.specs.declared.rows.Footer.{Footer}
use Rattle.sopl_io.specs.Transfer.{AppendsPrefix}
use Rattle.sopl_io.specs.Gathered.{GathersAll}
use Rattle.sopl_io.proofs.Gathering.{flushed_all, flushed_prefix, gathered_before, gathered_behind, gathered_both}
use Rattle.log_rows.specs.Lines.{head_line, node_line, step_line, end_line, footer_line, row_lines, rows_lines, log_lines, ended, text_of}

-- lines behind lines
pub text_append : (xs ys : List (List ℕ)) → text_of (xs ++ ys) ≡ text_of xs ++ text_of ys
text_append xs ys = flat_map-append ended xs ys

pub text_one : (line : List ℕ) → text_of (line ∷ []) ≡ ended line
text_one line = append-nil (ended line)

-- a row's text
pub row_text : (number : ℕ) (row : Row) → text_of (row_lines number row) ≡ ended (node_line number row.parent) ++ (text_of (map step_line row.steps) ++ ended (end_line row.end))
row_text number row =
    ap (λ (l : List ℕ). ended (node_line number row.parent) ++ l)
    (text_append (map step_line row.steps) (end_line row.end ∷ []) ∙ ap (λ (l : List ℕ). text_of (map step_line row.steps) ++ l) (text_one (end_line row.end)))

-- a log's text
pub log_text : (rows : List Row) (footer : Footer) → text_of (log_lines rows footer) ≡ ended head_line ++ (text_of (rows_lines 0 rows) ++ ended (footer_line footer))
log_text rows footer =
    ap (λ (l : List ℕ). ended head_line ++ l)
    (text_append (rows_lines 0 rows) (footer_line footer ∷ []) ∙ ap (λ (l : List ℕ). text_of (rows_lines 0 rows) ++ l) (text_one (footer_line footer)))

-- steps, one by one
abbrev steps_text : List Step → List ℕ
steps_text steps = text_of (map step_line steps)

steps_append : (xs ys : List Step) → steps_text (xs ++ ys) ≡ steps_text xs ++ steps_text ys
steps_append xs ys = ap text_of (map-append step_line xs ys) ∙ text_append (map step_line xs) (map step_line ys)

steps_cut : (steps : List Step) (i : ℕ) (d : Step) → i < length steps → steps_text steps ≡ steps_text (take i steps) ++ (ended (step_line (get_or steps i d)) ++ steps_text (drop (i + 1) steps))
steps_cut steps i d exists =
    ap steps_text (sym (take-append-drop i steps))
    ∙ (steps_append (take i steps) (drop i steps)
    ∙ ap (λ (xs : List Step). steps_text (take i steps) ++ steps_text xs) (drop_more steps i d exists))

pub steps_more : (first now next : Option (List ℕ)) (k j l : List ℕ) (steps : List Step) (i : ℕ) (d : Step) → i < length steps
    → GathersAll first k now j (text_of (map step_line (take i steps))) → GathersAll now j next l (ended (step_line (get_or steps i d)))
    → GathersAll first k next l (text_of (map step_line (take (i + 1) steps)))
steps_more first now next k j l steps i d exists before more =
    let step = get_or steps i d in
    subst (λ (xs : List Step). GathersAll first k next l (steps_text xs)) (sym (take_more steps i d exists))
    (subst (GathersAll first k next l) (sym (steps_append (take i steps) (step ∷ []) ∙ ap (λ (bytes : List ℕ). steps_text (take i steps) ++ bytes) (text_one (step_line step))))
    (gathered_both first now next k j l (steps_text (take i steps)) (ended (step_line step)) before more))

pub steps_prefix : (first now next : Option (List ℕ)) (k j : List ℕ) (steps : List Step) (i : ℕ) (d : Step) → i < length steps
    → GathersAll first k now j (text_of (map step_line (take i steps))) → AppendsPrefix now next (j ++ ended (step_line (get_or steps i d)))
    → AppendsPrefix first next (k ++ text_of (map step_line steps))
steps_prefix first now next k j steps i d exists before more =
    let step = get_or steps i d in
    subst (λ (l : List ℕ). AppendsPrefix first next (k ++ l)) (sym (steps_cut steps i d exists))
    (gathered_behind first now next k j (steps_text (take i steps)) (ended (step_line step) ++ steps_text (drop (i + 1) steps)) before
    (gathered_before now next j (ended (step_line step)) (steps_text (drop (i + 1) steps)) more))

pub steps_all : (first now : Option (List ℕ)) (k j : List ℕ) (steps : List Step) (i : ℕ) → length steps ≤ i → GathersAll first k now j (text_of (map step_line (take i steps)))
    → GathersAll first k now j (text_of (map step_line steps))
steps_all first now k j steps i all before = subst (λ (xs : List Step). GathersAll first k now j (steps_text xs)) (take_all i steps all) before

-- rows, one by one
abbrev rows_text : ℕ → List Row → List ℕ
rows_text number rows = text_of (rows_lines number rows)

pub rows_append : (number : ℕ) (xs ys : List Row) → rows_text number (xs ++ ys) ≡ rows_text number xs ++ rows_text (length xs + number) ys
rows_append number [] ys = ap (λ (n : ℕ). rows_text n ys) (omega arith)
rows_append number (x ∷ xs) ys =
    text_append (row_lines number x) (rows_lines (suc number) (xs ++ ys))
    ∙ (ap (λ (l : List ℕ). text_of (row_lines number x) ++ l) (rows_append (suc number) xs ys ∙ ap (λ (n : ℕ). rows_text (suc number) xs ++ rows_text n ys) (omega arith))
    ∙ (sym (append_assoc (text_of (row_lines number x)) (rows_text (suc number) xs) (rows_text (length (x ∷ xs) + number) ys))
    ∙ ap (λ (l : List ℕ). l ++ rows_text (length (x ∷ xs) + number) ys) (sym (text_append (row_lines number x) (rows_lines (suc number) xs)))))

rows_first : (rows : List Row) (i : ℕ) (more : List Row) → i ≤ length rows → rows_text 0 (take i rows ++ more) ≡ rows_text 0 (take i rows) ++ rows_text i more
rows_first rows i more fits = rows_append 0 (take i rows) more ∙ ap (λ (n : ℕ). rows_text 0 (take i rows) ++ rows_text n more) (omega (arith, length-take-le i rows fits))

one_row : (number : ℕ) (row : Row) → rows_text number (row ∷ []) ≡ text_of (row_lines number row)
one_row number row = ap text_of (append-nil (row_lines number row))

rows_cut : (rows : List Row) (i : ℕ) (row : Row) → i < length rows → row ≡ get_or rows i row → rows_text 0 rows ≡ rows_text 0 (take i rows)
    ++ (text_of (row_lines i row) ++ rows_text (suc i) (drop (i + 1) rows))
rows_cut rows i row exists is =
    ap (rows_text 0) (sym (take-append-drop i rows))
    ∙ (rows_first rows i (drop i rows) (omega arith)
    ∙ (ap (λ (xs : List Row). rows_text 0 (take i rows) ++ rows_text i xs) (drop_more rows i row exists ∙ ap (λ (r : Row). r ∷ drop (i + 1) rows) (sym is))
    ∙ ap (λ (l : List ℕ). rows_text 0 (take i rows) ++ l) (text_append (row_lines i row) (rows_lines (suc i) (drop (i + 1) rows)))))

pub rows_more : (first now next : Option (List ℕ)) (k j l : List ℕ) (rows : List Row) (i : ℕ) (row : Row) → i < length rows → row ≡ get_or rows i row
    → GathersAll first k now j (text_of (rows_lines 0 (take i rows))) → GathersAll now j next l (text_of (row_lines i row))
    → GathersAll first k next l (text_of (rows_lines 0 (take (i + 1) rows)))
rows_more first now next k j l rows i row exists is before more =
    subst (λ (xs : List Row). GathersAll first k next l (rows_text 0 xs)) (sym (take_more rows i row exists ∙ ap (λ (r : Row). take i rows ++ r ∷ []) (sym is)))
    (subst (GathersAll first k next l) (sym (rows_first rows i (row ∷ []) (omega arith) ∙ ap (λ (bytes : List ℕ). rows_text 0 (take i rows) ++ bytes) (one_row i row)))
    (gathered_both first now next k j l (rows_text 0 (take i rows)) (text_of (row_lines i row)) before more))

pub rows_prefix : (first now next : Option (List ℕ)) (k j : List ℕ) (rows : List Row) (i : ℕ) (row : Row) → i < length rows → row ≡ get_or rows i row
    → GathersAll first k now j (text_of (rows_lines 0 (take i rows))) → AppendsPrefix now next (j ++ text_of (row_lines i row))
    → AppendsPrefix first next (k ++ text_of (rows_lines 0 rows))
rows_prefix first now next k j rows i row exists is before more =
    subst (λ (l : List ℕ). AppendsPrefix first next (k ++ l)) (sym (rows_cut rows i row exists is))
    (gathered_behind first now next k j (rows_text 0 (take i rows)) (text_of (row_lines i row) ++ rows_text (suc i) (drop (i + 1) rows)) before
    (gathered_before now next j (text_of (row_lines i row)) (rows_text (suc i) (drop (i + 1) rows)) more))

pub rows_all : (first now : Option (List ℕ)) (k j : List ℕ) (rows : List Row) (i : ℕ) → length rows ≤ i → GathersAll first k now j (text_of (rows_lines 0 (take i rows)))
    → GathersAll first k now j (text_of (rows_lines 0 rows))
rows_all first now k j rows i all before = subst (λ (xs : List Row). GathersAll first k now j (rows_text 0 xs)) (take_all i rows all) before

-- a text that is gathered in three pieces, or where a piece fails
first_fails : (a b : Option (List ℕ)) (k first rest whole : List ℕ) → whole ≡ first ++ rest → AppendsPrefix a b (k ++ first) → AppendsPrefix a b (k ++ whole)
first_fails a b k first rest whole is prefix = subst (λ (l : List ℕ). AppendsPrefix a b (k ++ l)) (sym is) (gathered_before a b k first rest prefix)

middle_fails : (a b c : Option (List ℕ)) (k j first second rest whole : List ℕ) → whole ≡ first ++ (second ++ rest) → GathersAll a k b j first → AppendsPrefix b c (j ++ second)
    → AppendsPrefix a c (k ++ whole)
middle_fails a b c k j first second rest whole is done prefix =
    subst (λ (l : List ℕ). AppendsPrefix a c (k ++ l)) (sym is) (gathered_behind a b c k j first (second ++ rest) done (gathered_before b c j second rest prefix))

last_fails : (a b c d : Option (List ℕ)) (k j l first second third whole : List ℕ) → whole ≡ first ++ (second ++ third) → GathersAll a k b j first → GathersAll b j c l second
    → AppendsPrefix c d (l ++ third) → AppendsPrefix a d (k ++ whole)
last_fails a b c d k j l first second third whole is done more prefix =
    subst (λ (bytes : List ℕ). AppendsPrefix a d (k ++ bytes)) (sym is)
    (gathered_behind a b d k j first (second ++ third) done (gathered_behind b c d j l second third more prefix))

all_three : (a b c d : Option (List ℕ)) (k j l m first second third whole : List ℕ) → whole ≡ first ++ (second ++ third) → GathersAll a k b j first → GathersAll b j c l second
    → GathersAll c l d m third → GathersAll a k d m whole
all_three a b c d k j l m first second third whole is done more last =
    subst (GathersAll a k d m) (sym is) (gathered_both a b d k j m first (second ++ third) done (gathered_both b c d j l m second third more last))

-- a row
pub row_fails_first : (a b : Option (List ℕ)) (k : List ℕ) (number : ℕ) (row : Row) → AppendsPrefix a b (k ++ ended (node_line number row.parent))
    → AppendsPrefix a b (k ++ text_of (row_lines number row))
row_fails_first a b k number row prefix =
    first_fails a b k (ended (node_line number row.parent)) (text_of (map step_line row.steps) ++ ended (end_line row.end)) (text_of (row_lines number row)) (row_text number row) prefix

pub row_fails_second : (a b c : Option (List ℕ)) (k j : List ℕ) (number : ℕ) (row : Row) (steps : List Step) → steps ≡ row.steps
    → GathersAll a k b j (ended (node_line number row.parent)) → AppendsPrefix b c (j ++ text_of (map step_line steps))
    → AppendsPrefix a c (k ++ text_of (row_lines number row))
row_fails_second a b c k j number row steps same done prefix =
    middle_fails a b c k j (ended (node_line number row.parent)) (text_of (map step_line row.steps)) (ended (end_line row.end)) (text_of (row_lines number row)) (row_text number row) done
    (subst (λ (xs : List Step). AppendsPrefix b c (j ++ text_of (map step_line xs))) same prefix)

row_fails_third : (a b c d : Option (List ℕ)) (k j l : List ℕ) (number : ℕ) (row : Row) (steps : List Step) → steps ≡ row.steps
    → GathersAll a k b j (ended (node_line number row.parent)) → GathersAll b j c l (text_of (map step_line steps))
    → AppendsPrefix c d (l ++ ended (end_line row.end)) → AppendsPrefix a d (k ++ text_of (row_lines number row))
row_fails_third a b c d k j l number row steps same done more prefix =
    last_fails a b c d k j l (ended (node_line number row.parent)) (text_of (map step_line row.steps)) (ended (end_line row.end)) (text_of (row_lines number row)) (row_text number row) done
    (subst (λ (xs : List Step). GathersAll b j c l (text_of (map step_line xs))) same more) prefix

row_gathered : (a b c d : Option (List ℕ)) (k j l m : List ℕ) (number : ℕ) (row : Row) (steps : List Step) → steps ≡ row.steps
    → GathersAll a k b j (ended (node_line number row.parent)) → GathersAll b j c l (text_of (map step_line steps)) → GathersAll c l d m (ended (end_line row.end))
    → GathersAll a k d m (text_of (row_lines number row))
row_gathered a b c d k j l m number row steps same done more last =
    all_three a b c d k j l m (ended (node_line number row.parent)) (text_of (map step_line row.steps)) (ended (end_line row.end)) (text_of (row_lines number row)) (row_text number row) done
    (subst (λ (xs : List Step). GathersAll b j c l (text_of (map step_line xs))) same more) last

-- the last piece is a call whose outcome is handed on
pub row_ends_whole : {T E : Type 0} (a b c d : Option (List ℕ)) (k j l m : List ℕ) (number : ℕ) (row : Row) (steps : List Step) (result : Result T E) → steps ≡ row.steps
    → GathersAll a k b j (ended (node_line number row.parent)) → GathersAll b j c l (text_of (map step_line steps)) → OnOk result (GathersAll c l d m (ended (end_line row.end)))
    → OnOk result (GathersAll a k d m (text_of (row_lines number row)))
row_ends_whole a b c d k j l m number row steps (Ok value) same done more last = row_gathered a b c d k j l m number row steps same done more last
row_ends_whole a b c d k j l m number row steps (Err error) same done more last = tt

pub row_ends : {T E : Type 0} (a b c d : Option (List ℕ)) (k j l : List ℕ) (number : ℕ) (row : Row) (steps : List Step) (result : Result T E) → steps ≡ row.steps
    → GathersAll a k b j (ended (node_line number row.parent)) → GathersAll b j c l (text_of (map step_line steps)) → OnErr result (AppendsPrefix c d (l ++ ended (end_line row.end)))
    → OnErr result (AppendsPrefix a d (k ++ text_of (row_lines number row)))
row_ends a b c d k j l number row steps (Ok value) same done more last = tt
row_ends a b c d k j l number row steps (Err error) same done more last = row_fails_third a b c d k j l number row steps same done more last

-- a log
pub log_fails_first : (a b : Option (List ℕ)) (k : List ℕ) (rows : List Row) (footer : Footer) → AppendsPrefix a b (k ++ ended head_line)
    → AppendsPrefix a b (k ++ text_of (log_lines rows footer))
log_fails_first a b k rows footer prefix =
    first_fails a b k (ended head_line) (text_of (rows_lines 0 rows) ++ ended (footer_line footer)) (text_of (log_lines rows footer)) (log_text rows footer) prefix

pub log_fails_second : (a b c : Option (List ℕ)) (k j : List ℕ) (rows : List Row) (footer : Footer) → GathersAll a k b j (ended head_line)
    → AppendsPrefix b c (j ++ text_of (rows_lines 0 rows)) → AppendsPrefix a c (k ++ text_of (log_lines rows footer))
log_fails_second a b c k j rows footer done prefix =
    middle_fails a b c k j (ended head_line) (text_of (rows_lines 0 rows)) (ended (footer_line footer)) (text_of (log_lines rows footer)) (log_text rows footer) done prefix

pub log_ends_whole : {T E : Type 0} (a b c d : Option (List ℕ)) (k j l m : List ℕ) (rows : List Row) (footer : Footer) (result : Result T E) → GathersAll a k b j (ended head_line)
    → GathersAll b j c l (text_of (rows_lines 0 rows)) → OnOk result (GathersAll c l d m (ended (footer_line footer))) → OnOk result (GathersAll a k d m (text_of (log_lines rows footer)))
log_ends_whole a b c d k j l m rows footer (Ok value) done more last =
    all_three a b c d k j l m (ended head_line) (text_of (rows_lines 0 rows)) (ended (footer_line footer)) (text_of (log_lines rows footer)) (log_text rows footer) done more last
log_ends_whole a b c d k j l m rows footer (Err error) done more last = tt

pub log_ends : {T E : Type 0} (a b c d : Option (List ℕ)) (k j l : List ℕ) (rows : List Row) (footer : Footer) (result : Result T E) → GathersAll a k b j (ended head_line)
    → GathersAll b j c l (text_of (rows_lines 0 rows)) → OnErr result (AppendsPrefix c d (l ++ ended (footer_line footer))) → OnErr result (AppendsPrefix a d (k ++ text_of (log_lines rows footer)))
log_ends a b c d k j l rows footer (Ok value) done more last = tt
log_ends a b c d k j l rows footer (Err error) done more last =
    last_fails a b c d k j l (ended head_line) (text_of (rows_lines 0 rows)) (ended (footer_line footer)) (text_of (log_lines rows footer)) (log_text rows footer) done more last

-- a text that is gathered where nothing was kept, and then written
pub text_fails : (a b : Option (List ℕ)) (k text : List ℕ) → k ≡ [] → AppendsPrefix a b (k ++ text) → AppendsPrefix a b text
text_fails a b k text none prefix = subst (λ (l : List ℕ). AppendsPrefix a b (l ++ text)) none prefix

pub text_flushed : {T E : Type 0} (a b c : Option (List ℕ)) (k j text : List ℕ) (result : Result T E) → k ≡ [] → GathersAll a k b j text → OnOk result (Appends b c j)
    → OnOk result (Appends a c text)
text_flushed a b c k j text (Ok value) none gathered rest = subst (λ (l : List ℕ). Appends a c (l ++ text)) none (flushed_all a b c k j text gathered rest)
text_flushed a b c k j text (Err error) none gathered rest = tt

pub text_flush_fails : {T E : Type 0} (a b c : Option (List ℕ)) (k j text : List ℕ) (result : Result T E) → k ≡ [] → GathersAll a k b j text → OnErr result (AppendsPrefix b c j)
    → OnErr result (AppendsPrefix a c text)
text_flush_fails a b c k j text (Ok value) none gathered some = tt
text_flush_fails a b c k j text (Err error) none gathered some = text_fails a c k text none (flushed_prefix a b c k j text gathered some)
