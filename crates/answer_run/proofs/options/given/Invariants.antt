use Rattle.std.proofs.Common.{◌≡◌, length, option_map}
use Rattle.answer_run.specs.Words as spec
use Rattle.answer_run.specs.Shown.{row_shown, text_shown}
use Rattle.answer_run.proofs.Parts.{given_behind}
use Rattle.answer_run.proofs.options.given.Given as goal

-- what was found, and what is found of the words that are left, is what is found of the words
abbrev pub invariant-parts : goal.invariant-parts
invariant-parts l = given_behind (row_shown l.row) l.seen l.kind (option_map text_shown l.found) l.left ≡ spec.given (row_shown l.row) l.kind l.words

abbrev pub decreases-parts : goal.decreases-parts
decreases-parts l = length l.left
