-- The exit status of each way in which a run ends.
use Rattle.std.specs.Prelude.{ℕ}
use Rattle.answer_texts.specs.declared.status.Status.{Status}
use Rattle.answer_texts.specs.declared.status.Status.TheVariants.{Done, Failing, Usage, Refused, Limit, Bounded, ReadFault, WriteFault, NoMemory, Unreadable}

-- 0 for an answer, 1 for what is not right, 2 to 4 for what is refused, 5 for a search that was cut short, 6 to 8 for what failed
-- outside, 9 for what cannot be read
abbrev pub code_of : Status → ℕ
code_of Done = 0
code_of Failing = 1
code_of Usage = 2
code_of Refused = 3
code_of Limit = 4
code_of Bounded = 5
code_of ReadFault = 6
code_of WriteFault = 7
code_of NoMemory = 8
code_of Unreadable = 9
