use Rattle.std.specs.Prelude.{◌≡◌, ◌++◌, drop, take}
use Rattle.log_tree.specs.Words.{word_of}
use Rattle.log_tree.proofs.words.word.Given as goal

abbrev pub invariant-bytes : goal.invariant-bytes
invariant-bytes l = take l.i l.text ++ word_of (drop l.i l.text) ≡ word_of l.text
