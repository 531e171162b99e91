use Rattle.std.proofs.Common.{sym, ap, ◌∙◌, nat_eq, length}
use Rattle.unfold_tables.specs.Tables.{shown}
use Rattle.unfold_tables.proofs.TooMany.{so_many}
use Rattle.unfold_tables.proofs.sets.Numbers.has_length.Goals as goal

pub returns-in-Between : goal.returns-in-Between
returns-in-Between c =
    ap (nat_eq c.args.count) (so_many c.in-Between.ends.lo c.in-Between.ends.hi c.size_of.result.value c.size_of.ensures)
    ∙ ap (λ numbers. nat_eq c.args.count (length (shown numbers))) (sym c.in-Between.is)
