-- What an interval with its mark stands for.
use Rattle.term_language.specs.Ends as ends
use Rattle.term_language.specs.declared.answers.Defined.{Defined}
use Rattle.term_math.specs.Shown.{ends_of}
use Rattle.term_math.specs.declared.values.AbstractValue as own

-- an interval, and the mark
pub record Sight : Type 0 where
  pub ends : ends.Ends
  pub mark : Defined

abbrev pub sight_of : own.AbstractValue → Sight
sight_of s = record { ends = ends_of s.ends; mark = s.mark }
