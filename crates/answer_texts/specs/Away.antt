-- How a command ends that is not done on its text.
use Rattle.std.specs.Prelude.{◌≡◌, ◌⊎◌, ℕ, List, pos}
use Rattle.sopl_base.specs.declared.fault.Fault.{Fault}
use Rattle.sopl_base.specs.declared.fault.Fault.TheVariants as fault
use Rattle.answer_lines.specs.AnswerData.{limit_data, line_of, refused_data}
use Rattle.answer_texts.specs.declared.status.Status.{Status}
use Rattle.answer_texts.specs.declared.status.Status.TheVariants.{Refused, Limit}

-- the text is refused, or it passes a limit
abbrev pub IsTurnedAway : Status → Type 0
IsTurnedAway status = (status ≡ Refused) ⊎ (status ≡ Limit)

-- a status and a line tell of a fault
abbrev pub TellsFault : Fault → Status → List ℕ → Type 0
TellsFault (fault.Text refusal) status line = (status ≡ Refused) × (line ≡ line_of (refused_data (pos refusal.at) (pos refusal.code)))
TellsFault (fault.Limit excess) status line = (status ≡ Limit) × (line ≡ line_of (limit_data excess))
TellsFault fault.NoMemory status line = ⊥
