use Rattle.std.proofs.Common.{◌-◌, length}
use Rattle.sopl_lex.specs.Reads.{Reads}
use Rattle.sopl_lex.proofs.read.Given as goal

-- the text is read up to `at`
abbrev pub invariant-pieces : goal.invariant-pieces
invariant-pieces l = Reads l.text l.at l.tokens.items

abbrev pub decreases-pieces : goal.decreases-pieces
decreases-pieces l = length l.text - l.at
