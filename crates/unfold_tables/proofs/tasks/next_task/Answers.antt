use Rattle.std.proofs.Common.{rules, pos, w64, SFits, slice_index_or}
use Rattle.std.proofs.lemmas.Int.{to_z-of_z}
use Rattle.unfold_tables.proofs.Prefixes.{first_task}
use Rattle.unfold_tables.proofs.tasks.next_task.Goals as goal

pub returns-in-len3-up-clause-some : goal.returns-in-len3-up-clause-some
returns-in-len3-up-clause-some c =
    let fits0 : SFits w64 (slice_index_or c.args.numbers.now 0 (pos 0)) = search rules in
    let fits1 : SFits w64 (slice_index_or c.args.numbers.now 1 (pos 0)) = search rules in
    let fits2 : SFits w64 (slice_index_or c.args.numbers.now 2 (pos 0)) = search rules in
    first_task c.args.numbers.now _ _ _ c.in-len3-up.len_at_least (to_z-of_z w64 _ fits0) (to_z-of_z w64 _ fits1) (to_z-of_z w64 _ fits2)
