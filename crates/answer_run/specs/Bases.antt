-- What a second file is judged by, and which command judges it so.
use Rattle.std.specs.Prelude.{ℕ, List}
use Rattle.answer_check.specs.CheckReplies.{IsProgramFor}
use Rattle.answer_eval.specs.EvalReplies.{IsStatedFor}
use Rattle.answer_run.specs.declared.commands.PairCommand.{PairCommand}
use Rattle.answer_run.specs.declared.commands.PairCommand.TheVariants.{Check, Eval}
use Rattle.answer_run.specs.declared.pair.Basis.{Basis}
use Rattle.answer_run.specs.declared.pair.Basis.TheVariants.{Log, Policy}

abbrev pub judging : Basis → PairCommand
judging (Log program) = Check
judging (Policy stated) = Eval

-- the text is solved, and this is its program, or what it states
abbrev pub IsBasisFor : List ℕ → Basis → Type 0
IsBasisFor text (Log program) = IsProgramFor text program
IsBasisFor text (Policy stated) = IsStatedFor text stated
