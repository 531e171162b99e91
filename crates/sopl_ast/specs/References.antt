-- What contracts see of a reference.
use Rattle.std.specs.Borrow.{Bor}

-- what a reference shows
abbrev pub now_of : {A : Type 0} → Bor A → A
now_of reference = reference.now
