use Rattle.std.specs.Prelude.{◌≡◌, drop}
use Rattle.log_tree.specs.Words.{rest_of}
use Rattle.log_tree.proofs.words.rest.Given as goal

abbrev pub invariant-bytes : goal.invariant-bytes
invariant-bytes l = rest_of (drop l.i l.text) ≡ rest_of l.text
