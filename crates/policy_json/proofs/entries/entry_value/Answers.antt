use Rattle.std.proofs.Common.{sym, subst}
use Rattle.std.specs.Str.{IsUtf8}
use Rattle.policy_json.proofs.EntryWords.{word_is_text}
use Rattle.policy_json.proofs.entries.entry_value.Goals as goal

pub unreachable-requires : goal.unreachable-requires
unreachable-requires c =
    (rw c.in_default.is at c.from_utf8.ensures.cases).0 (subst IsUtf8 (sym c.as_slice.ensures.bytes) (word_is_text c.args.name.now c.requires.name))
