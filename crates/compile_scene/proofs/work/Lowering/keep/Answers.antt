use Rattle.std.proofs.Common.{subst, sym, ap, ◌∙◌}
use Rattle.std.specs.Map.{lookup}
use Rattle.compile_scene.specs.Works.{AreKept, entries_in, things_of}
use Rattle.compile_scene.proofs.Keeping.{found_inserted, is_key, kept_inserted, others_stay}
use Rattle.compile_scene.proofs.work.Lowering.keep.Goals as goal

pub returns-clause-kept : goal.returns-clause-kept
returns-clause-kept c setting kept are =
    subst (AreKept setting (things_of c.args.self.now)) (sym c.in_ok-insert.ensures.entries)
    (kept_inserted setting (things_of c.args.self.now) c.args.name.now (entries_in c.args.self.now) c.in_ok-key.key c.args.arrays (c.in_ok-key.ensures.items ∙ c.as_slice.ensures.bytes) kept are)

pub returns-clause-found : goal.returns-clause-found
returns-clause-found c =
    ap (lookup (is_key c.args.name.now)) c.in_ok-insert.ensures.entries
    ∙ found_inserted c.args.name.now (entries_in c.args.self.now) c.in_ok-key.key c.args.arrays (c.in_ok-key.ensures.items ∙ c.as_slice.ensures.bytes)

pub returns-clause-others : goal.returns-clause-others
returns-clause-others c other differs =
    ap (lookup (is_key other)) c.in_ok-insert.ensures.entries
    ∙ others_stay c.args.name.now (entries_in c.args.self.now) c.in_ok-key.key c.args.arrays (c.in_ok-key.ensures.items ∙ c.as_slice.ensures.bytes) other differs
