-- What was written so far.
use Rattle.std.proofs.Common.{◌≡◌, ℕ, ◌+◌, ◌-◌, ◌≤◌, List, ◌++◌, length, take, drop, Option, Some, None, sym, ap, ◌∙◌, arith}
use Rattle.std.proofs.Math.Seq.{take-add}
use Rattle.std.proofs.lemmas.List.{take_all, take-take}
use Rattle.std.specs.Io.KnownBytes.{Appends, Keeps}
use Rattle.std.proofs.KnownBytes.{Appends-trans}
use Rattle.sopl_io.specs.Transfer.{AppendsPrefix}

-- one more piece
pub written_more : (first now next : Option (List ℕ)) (bytes : List ℕ) (at n : ℕ) → at + n ≤ length bytes → Appends first now (take at bytes)
    → Appends now next (take n (take (length bytes - at) (drop at bytes))) → Appends first next (take (at + n) bytes)
written_more first now next bytes at n within before more =
    let fits : take n (take (length bytes - at) (drop at bytes)) ≡ take n (drop at bytes) = take-take n (length bytes - at) (drop at bytes) (omega arith) in
    let whole = take-add at n bytes ∙ ap (λ (l : List ℕ). take at bytes ++ l) (sym fits) in
    rw whole (Appends-trans first now next (take at bytes) _ before more)

-- all pieces
pub written_whole : (first now : Option (List ℕ)) (bytes : List ℕ) (at : ℕ) → Appends first now (take at bytes) → length bytes ≤ at → Appends first now bytes
written_whole first now bytes at before all = rw (take_all at bytes all) at before

-- the pieces before one that was not taken
pub written_prefix : (first now next : Option (List ℕ)) (bytes : List ℕ) (at : ℕ) → Appends first now (take at bytes) → Keeps now next → AppendsPrefix first next bytes
written_prefix None now next bytes at before kept = (at, tt)
written_prefix (Some xs) None next bytes at before kept = absurd before
written_prefix (Some xs) (Some ys) None bytes at before kept = absurd kept
written_prefix (Some xs) (Some ys) (Some zs) bytes at before kept = (at, kept ∙ before)
