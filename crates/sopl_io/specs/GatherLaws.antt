-- Bytes that are gathered piece by piece.
use Rattle.std.specs.Prelude.{◌≡◌, ℕ, List, ◌++◌, Option, Some}
use Rattle.std.specs.Io.KnownBytes.{Appends}
use Rattle.sopl_io.specs.Gathered.{GathersAll}
use Rattle.sopl_io.specs.Transfer.{AppendsPrefix}

-- what a sink took and what is kept are, one behind the other, what they were and these bytes
abbrev pub GatheredFollow : Type 0
GatheredFollow =
    (taken taken_now kept kept_now bytes : List ℕ) → GathersAll (Some taken) kept (Some taken_now) kept_now bytes
    → taken_now ++ kept_now ≡ (taken ++ kept) ++ bytes

-- two pieces are gathered as one
abbrev pub GathersBoth : Type 0
GathersBoth =
    (first next now : Option (List ℕ)) (kept kept_next kept_now xs ys : List ℕ) → GathersAll first kept next kept_next xs → GathersAll next kept_next now kept_now ys
    → GathersAll first kept now kept_now (xs ++ ys)

-- a sink that fails at the second piece has a prefix of what was kept at first and of both
abbrev pub FailsBehind : Type 0
FailsBehind =
    (first next now : Option (List ℕ)) (kept kept_next xs ys : List ℕ) → GathersAll first kept next kept_next xs → AppendsPrefix next now (kept_next ++ ys)
    → AppendsPrefix first now (kept ++ (xs ++ ys))

-- where all that is kept is written behind a piece, the sink took what was kept at first and the piece
abbrev pub FlushesAll : Type 0
FlushesAll =
    (first next now : Option (List ℕ)) (kept kept_next xs : List ℕ) → GathersAll first kept next kept_next xs → Appends next now kept_next
    → Appends first now (kept ++ xs)
