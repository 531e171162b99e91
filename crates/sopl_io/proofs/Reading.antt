-- What was read so far of what was left.
use Rattle.std.proofs.Common.{◌≡◌, ℕ, ◌+◌, ◌-◌, ◌^◌, ◌<◌, ◌≤◌, List, [], ◌++◌, length, take, drop, Option, Some, None, unwrap_or, IfSome, subst, sym, ap, ◌∙◌, append_assoc, arith}
use Rattle.std.proofs.lemmas.List.{append-nil, length-append, length-take, take_all, take_at, take-append-le}
use Rattle.std.proofs.Math.Seq.{drop-append_seam}
use Rattle.std.specs.Io.KnownBytes.{Consumes, IsAtEnd, Keeps}
use Rattle.sopl_io.specs.Causes.{Rose}
use Rattle.sopl_io.specs.Rests.{LeavesRest, behind, closed}
use Rattle.sopl_io.specs.Stock.{Stock, text_of}
use Rattle.sopl_io.specs.Transfer.{cut_at}

-- one more piece
pub read_more : (first now next : Option (List ℕ)) (bytes piece : List ℕ) → Consumes first now bytes → Consumes now next piece → Consumes first next (bytes ++ piece)
read_more None now next bytes piece before more = tt
read_more (Some xs) None next bytes piece before more = absurd before
read_more (Some xs) (Some ys) None bytes piece before more = absurd more
read_more (Some xs) (Some ys) (Some zs) bytes piece before more =
    before ∙ ap (λ (l : List ℕ). bytes ++ l) more ∙ sym (append_assoc bytes piece zs)

cut_whole : (most : Option ℕ) (text bytes rest : List ℕ) → text ≡ bytes ++ rest → rest ≡ [] → length bytes ≤ unwrap_or most (2 ^ 64 - 1) → bytes ≡ cut_at most text
cut_whole None text bytes rest split none bound = sym (split ∙ ap (λ (l : List ℕ). bytes ++ l) none ∙ append-nil bytes)
cut_whole (Some most) text bytes rest split none bound =
    let whole : text ≡ bytes = split ∙ ap (λ (l : List ℕ). bytes ++ l) none ∙ append-nil bytes in
    sym (ap (λ (l : List ℕ). take most l) whole ∙ take_all most bytes bound)

cut_full : (most : Option ℕ) (text bytes rest : List ℕ) → text ≡ bytes ++ rest → length bytes ≡ unwrap_or most (2 ^ 64 - 1) → length bytes < 2 ^ 64 - 1 → bytes ≡ cut_at most text
cut_full None text bytes rest split full small = absurd (omega arith)
cut_full (Some most) text bytes rest split full small =
    sym (ap (λ (l : List ℕ). take most l) split ∙ take_at bytes rest most full)

-- at the end of input the text was read
pub read_to_end : (stock : Option Stock) (name : List ℕ) (first now : Option (List ℕ)) (most : Option ℕ) (bytes : List ℕ) → IfSome stock (λ s. first ≡ Some (text_of s name))
    → Consumes first now bytes → IsAtEnd now → length bytes ≤ unwrap_or most (2 ^ 64 - 1) → IfSome stock (λ s. bytes ≡ cut_at most (text_of s name))
read_to_end None name first now most bytes given read end bound = tt
read_to_end (Some s) name None now most bytes given read end bound = absurd (cc)
read_to_end (Some s) name (Some xs) None most bytes given read end bound = absurd read
read_to_end (Some s) name (Some xs) (Some ys) most bytes given read end bound =
    let same : text_of s name ≡ xs = cc in
    cut_whole most (text_of s name) bytes ys (same ∙ read) end bound

-- where the most is held, that much of the text was read
pub read_to_most : (stock : Option Stock) (name : List ℕ) (first now : Option (List ℕ)) (most : Option ℕ) (bytes : List ℕ) → IfSome stock (λ s. first ≡ Some (text_of s name))
    → Consumes first now bytes → length bytes ≡ unwrap_or most (2 ^ 64 - 1) → length bytes < 2 ^ 64 - 1 → IfSome stock (λ s. bytes ≡ cut_at most (text_of s name))
read_to_most None name first now most bytes given read full small = tt
read_to_most (Some s) name None now most bytes given read full small = absurd (cc)
read_to_most (Some s) name (Some xs) None most bytes given read full small = absurd read
read_to_most (Some s) name (Some xs) (Some ys) most bytes given read full small =
    let same : text_of s name ≡ xs = cc in
    cut_full most (text_of s name) bytes ys (same ∙ read) full small

-- as many as the most, and fewer than any number of 64 bits: the most was given
pub is_full : (most : Option ℕ) (n : ℕ) → n ≡ unwrap_or most (2 ^ 64 - 1) → n < 2 ^ 64 - 1 → most ≡ Some n
is_full None n full small = absurd (omega arith)
is_full (Some most) n full small = ap Some (sym full)

-- what was not read of the text is left
pub rest_left : (stock : Option Stock) (name : List ℕ) (first now : Option (List ℕ)) (bytes : List ℕ) → IfSome stock (λ s. first ≡ Some (text_of s name)) → Consumes first now bytes
    → IfSome stock (λ s. now ≡ Some (drop (length bytes) (text_of s name)))
rest_left None name first now bytes given read = tt
rest_left (Some s) name None now bytes given read = absurd (cc)
rest_left (Some s) name (Some xs) None bytes given read = absurd read
rest_left (Some s) name (Some xs) (Some ys) bytes given read =
    let same : text_of s name ≡ xs = cc in
    sym (ap (λ (l : List ℕ). Some (drop (length bytes) l)) (same ∙ read) ∙ ap Some (drop-append_seam bytes ys))

within_most : (most : Option ℕ) (n : ℕ) → n ≤ unwrap_or most (2 ^ 64 - 1) → IfSome most (λ m. n ≤ m)
within_most None n bound = tt
within_most (Some m) n bound = bound

-- the rest of the text is left where no more than the most was read
pub rest_behind : (stock : Option Stock) (name : List ℕ) (first now : Option (List ℕ)) (most : Option ℕ) (bytes : List ℕ) (before later : ℕ)
    → IfSome stock (λ s. first ≡ Some (text_of s name)) → Consumes first now bytes → length bytes ≤ unwrap_or most (2 ^ 64 - 1)
    → IfSome stock (λ s. LeavesRest most (text_of s name) before later now)
rest_behind None name first now most bytes before later given read bound = tt
rest_behind (Some s) name first now most bytes before later given read bound =
    behind (length bytes) (within_most most (length bytes) bound) (rest_left (Some s) name first now bytes given read)

-- also behind a read that failed
pub rest_kept : (stock : Option Stock) (name : List ℕ) (first now next : Option (List ℕ)) (most : Option ℕ) (bytes : List ℕ) (before later : ℕ)
    → IfSome stock (λ s. first ≡ Some (text_of s name)) → Consumes first now bytes → length bytes ≤ unwrap_or most (2 ^ 64 - 1) → Keeps now next
    → IfSome stock (λ s. LeavesRest most (text_of s name) before later next)
rest_kept None name first now next most bytes before later given read bound kept = tt
rest_kept (Some s) name None now next most bytes before later given read bound kept = absurd (cc)
rest_kept (Some s) name (Some xs) None next most bytes before later given read bound kept = absurd read
rest_kept (Some s) name (Some xs) (Some ys) None most bytes before later given read bound kept = absurd kept
rest_kept (Some s) name (Some xs) (Some ys) (Some zs) most bytes before later given read bound kept =
    behind (length bytes) (within_most most (length bytes) bound) (ap Some kept ∙ rest_left (Some s) name (Some xs) (Some ys) bytes given read)

-- and a `begin` that failed leaves nothing
pub rest_closed : (stock : Option Stock) (name : List ℕ) (left : Option (List ℕ)) (most : Option ℕ) (before later : ℕ) → Rose before later → IsAtEnd left
    → IfSome stock (λ s. LeavesRest most (text_of s name) before later left)
rest_closed None name left most before later rose end = tt
rest_closed (Some s) name left most before later rose end = closed rose end

piece_fits : (bytes buf : List ℕ) (count most : ℕ) → count ≤ most - length bytes → length bytes ≤ most → length (bytes ++ take count buf) ≤ most
piece_fits bytes buf count most fits within = omega (arith, fits, within, length-append bytes (take count buf), length-take {A = ℕ} count buf)

-- where one more piece was read that is not kept
pub rest_more : (stock : Option Stock) (name : List ℕ) (first now next : Option (List ℕ)) (most : Option ℕ) (bytes buf : List ℕ) (count before later : ℕ)
    → IfSome stock (λ s. first ≡ Some (text_of s name)) → Consumes first now bytes → Consumes now next (take count buf)
    → length bytes ≤ unwrap_or most (2 ^ 64 - 1) → count ≤ unwrap_or most (2 ^ 64 - 1) - length bytes
    → IfSome stock (λ s. LeavesRest most (text_of s name) before later next)
rest_more stock name first now next most bytes buf count before later given read more within fits =
    rest_behind stock name first next most (bytes ++ take count buf) before later given (read_more first now next bytes (take count buf) read more)
    (piece_fits bytes buf count (unwrap_or most (2 ^ 64 - 1)) fits within)

-- one more piece, which stands at the front of a buffer
pub read_kept : (first now next : Option (List ℕ)) (bytes buf rest items : List ℕ) (count : ℕ) → count ≤ length buf → items ≡ bytes ++ take count (buf ++ rest)
    → Consumes first now bytes → Consumes now next (take count buf) → Consumes first next items
read_kept first now next bytes buf rest items count within is before more =
    let piece : take count (buf ++ rest) ≡ take count buf = take-append-le count buf rest within in
    subst (λ (l : List ℕ). Consumes first next l) (sym (is ∙ ap (λ (l : List ℕ). bytes ++ l) piece)) (read_more first now next bytes (take count buf) before more)

pub kept_within : (bytes buf rest items : List ℕ) (count most : ℕ) → count ≤ length buf → items ≡ bytes ++ take count (buf ++ rest) → length bytes ≤ most
    → count ≤ most - length bytes → length items ≤ most
kept_within bytes buf rest items count most within is bound fits =
    let piece : take count (buf ++ rest) ≡ take count buf = take-append-le count buf rest within in
    subst (λ (l : List ℕ). length l ≤ most) (sym (is ∙ ap (λ (l : List ℕ). bytes ++ l) piece)) (piece_fits bytes buf count most fits bound)

-- one more piece that is not empty makes the list longer
pub piece_longer : (bytes buf rest items : List ℕ) (count : ℕ) → 0 < count → count ≤ length buf → items ≡ bytes ++ take count (buf ++ rest) → length bytes + 1 ≤ length items
piece_longer bytes buf rest items count some within is =
    let whole : items ≡ bytes ++ take count buf = is ∙ ap (λ (l : List ℕ). bytes ++ l) (take-append-le count buf rest within) in
    subst (λ (l : List ℕ). length bytes + 1 ≤ length l) (sym whole) (omega (arith, some, within, length-append bytes (take count buf), length-take {A = ℕ} count buf))
