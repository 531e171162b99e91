-- Tables with an entry for each row, which are made row by row.
use Rattle.std.proofs.Common.{◌≡◌, ℕ, suc, ◌+◌, ◌<◌, List, [], ◌∷◌, ◌++◌, length, get_or, take, drop, arith, sym, ap, ◌∙◌, append_assoc}
use Rattle.std.proofs.lemmas.List.{append-nil, length-append, length-take-le, get_or_append_left, take-append-drop}
use Rattle.std.proofs.Math.Seq.{get_or-append_seam, take-suc}
use Rattle.log_rows.specs.declared.rows.Row.{Row}
use Rattle.log_rows.specs.Rows.{no_row, table_from}

abbrev pub table : {A : Type 0} → (List Row → List A → Row → A) → List Row → List A
table entry rows = table_from entry [] [] rows

-- one row more
table_push : {A : Type 0} (entry : List Row → List A → Row → A) (before : List Row) (done : List A) (rows : List Row) (row : Row)
    → table_from entry before done (rows ++ row ∷ []) ≡ table_from entry before done rows ++ entry (before ++ rows) (table_from entry before done rows) row ∷ []
table_push {A} entry before done [] row = ap (λ (xs : List Row). done ++ entry xs done row ∷ []) (sym (append-nil before))
table_push {A} entry before done (r ∷ rows) row =
    table_push entry (before ++ r ∷ []) (done ++ entry before done r ∷ []) rows row
    ∙ ap (λ (xs : List Row). table_from entry before done (r ∷ rows) ++ entry xs (table_from entry before done (r ∷ rows)) row ∷ []) (append_assoc before (r ∷ []) rows)

table_length : {A : Type 0} (entry : List Row → List A → Row → A) (before : List Row) (done : List A) (rows : List Row)
    → length (table_from entry before done rows) ≡ length done + length rows
table_length {A} entry before done [] = omega arith
table_length {A} entry before done (r ∷ rows) =
    omega (arith, table_length entry (before ++ r ∷ []) (done ++ entry before done r ∷ []) rows, length-append done (entry before done r ∷ []))

table_has : {A : Type 0} (entry : List Row → List A → Row → A) (rows : List Row) → length (table entry rows) ≡ length rows
table_has entry rows = omega (arith, table_length entry [] [] rows)

-- the entries of the rows before others
pub table_stays : {A : Type 0} (entry : List Row → List A → Row → A) (xs ys : List Row) (k : ℕ) (d : A)
    → k < length xs → get_or (table entry (xs ++ ys)) k d ≡ get_or (table entry xs) k d
table_stays {A} entry xs [] k d exists = ap (λ (zs : List Row). get_or (table entry zs) k d) (append-nil xs)
table_stays {A} entry xs (y ∷ ys) k d exists =
    ap (λ (zs : List Row). get_or (table entry zs) k d) (sym (append_assoc xs (y ∷ []) ys))
    ∙ (table_stays entry (xs ++ y ∷ []) ys k d (omega (arith, length-append xs (y ∷ [])))
    ∙ (ap (λ (zs : List A). get_or zs k d) (table_push entry [] [] xs y)
    ∙ get_or_append_left (table entry xs) (entry xs (table entry xs) y ∷ []) d k (omega (arith, table_has entry xs))))

-- the entry of the last row
pub table_last : {A : Type 0} (entry : List Row → List A → Row → A) (xs : List Row) (x : Row) (d : A)
    → get_or (table entry (xs ++ x ∷ [])) (length xs) d ≡ entry xs (table entry xs) x
table_last {A} entry xs x d =
    ap (λ (zs : List A). get_or zs (length xs) d) (table_push entry [] [] xs x)
    ∙ (ap (λ (n : ℕ). get_or (table entry xs ++ entry xs (table entry xs) x ∷ []) n d) (sym (table_has entry xs))
    ∙ get_or-append_seam (table entry xs) (entry xs (table entry xs) x) [] d)

-- the entry of any row, by the rows before it
pub table_at : {A : Type 0} (entry : List Row → List A → Row → A) (rows : List Row) (i : ℕ) (d : A)
    → i < length rows → get_or (table entry rows) i d ≡ entry (take i rows) (table entry (take i rows)) (get_or rows i no_row)
table_at {A} entry rows i d exists =
    let prefix : length (take i rows) ≡ i = length-take-le i rows (omega arith) in
    let longer : length (take (suc i) rows) ≡ suc i = length-take-le (suc i) rows (omega arith) in
    let row = get_or rows i no_row in
    ap (λ (zs : List Row). get_or (table entry zs) i d) (sym (take-append-drop (suc i) rows))
    ∙ (table_stays entry (take (suc i) rows) (drop (suc i) rows) i d (omega (arith, longer))
    ∙ (ap (λ (zs : List Row). get_or (table entry zs) i d) (take-suc rows i no_row exists)
    ∙ (ap (λ (n : ℕ). get_or (table entry (take i rows ++ row ∷ [])) n d) (sym prefix)
    ∙ table_last entry (take i rows) row d)))
