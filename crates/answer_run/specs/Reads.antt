-- How much a run takes of what it reads.
use Rattle.std.specs.Prelude.{◌≡◌, ◌⊎◌, ℕ, false, List, Option, Some, None, IfSome}
use Rattle.sopl_io.specs.Rests.{LeavesRest}
use Rattle.answer_run.specs.Replies.{Asked}
use Rattle.answer_run.specs.Words.{is_drawn}
use Rattle.answer_run.specs.declared.commands.Job.TheVariants.{Pair}
use Rattle.answer_run.specs.declared.commands.PairCommand.{PairCommand}

-- of the text that a command reads the source has all but so many bytes left, at most, or nothing, where it failed; or, where the command has a second
-- file, it has some end of the bytes of that left; the counts are those of its faults
abbrev pub TakesAtMost : ℕ → Option Asked → ℕ → ℕ → Option (List ℕ) → Type 0
TakesAtMost most asked before now left =
    IfSome asked (λ a. is_drawn a.job ≡ false → LeavesRest (Some most) a.text before now left ⊎ (((command : PairCommand) × (a.job ≡ Pair command)) × LeavesRest None a.second before now left))
