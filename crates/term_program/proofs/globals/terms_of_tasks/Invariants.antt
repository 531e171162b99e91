use Rattle.std.proofs.Common.{◌≡◌, take}
use Rattle.std.specs.List.{flat_map}
use Rattle.term_program.specs.Globals.{numbers_in, term_ids}
use Rattle.term_program.proofs.globals.terms_of_tasks.Given as goal

abbrev pub invariant-tasks : goal.invariant-tasks
invariant-tasks l = term_ids l.terms.items ≡ flat_map numbers_in (take l.task-index l.tasks)
