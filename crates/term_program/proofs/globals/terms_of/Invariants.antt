use Rattle.std.proofs.Common.{◌≡◌, take}
use Rattle.term_program.specs.Globals.{term_ids}
use Rattle.term_program.proofs.globals.terms_of.Given as goal

abbrev pub invariant-ids : goal.invariant-ids
invariant-ids l = term_ids l.terms.items ≡ take l.id-index l.ids
