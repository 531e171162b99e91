-- What intervals with ends of 128 bits stand for, and which of them have room.
use Rattle.std.specs.Int.{w128}
use Rattle.std.specs.Int.RustNames.{FitsSigned}
use Rattle.term_language.specs.Ends as rule
use Rattle.term_goals.specs.declared.wide.WideEnds.{WideEnds}

abbrev pub wide_ends : WideEnds → rule.Ends
wide_ends a = rule.ends a.low a.high

-- both ends have room in 128 bits
pub record IsWideFit (a : rule.Ends) : Type 0 where
  pub low : FitsSigned w128 a.low
  pub high : FitsSigned w128 a.high
