use Rattle.std.proofs.Common.{ap, ◌∙◌, [], ◌++◌, ◌∷◌}
use Rattle.compile_names.proofs.Grouping.{entered}
use Rattle.compile_names.proofs.names.Names.add_new.Goals as goal

pub returns : goal.returns
returns c =
    entered c.args.name.now c.args.self.now.groups.entries c.insert.new.self.entries c.in_ok-key.key c.push.new.self c.args.number c.requires.new
    (c.in_ok-key.ensures.items ∙ c.as_slice.ensures.bytes) (c.in_ok-push.ensures.items ∙ ap (λ l. l ++ c.args.number ∷ []) c.new-numbers.ensures.items) c.in_ok-insert.ensures.entries
