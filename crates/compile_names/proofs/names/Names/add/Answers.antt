use Rattle.std.proofs.Common.{◌≡◌, sym, ap, ◌∙◌, None, is_some}
use Rattle.std.specs.List.{position}
use Rattle.std.specs.Map.{keys_of, lookup}
use Rattle.std.specs.Str.{bytes_eq}
use Rattle.compile_names.specs.Grouped.{groups_in}
use Rattle.compile_names.proofs.Grouping.{found_either, is_key, new_either, not_grouped}
use Rattle.compile_names.proofs.names.Names.add.Goals as goal

missing : (c : goal.After-add_new-arg-1) → lookup (bytes_eq c.args.name.now) (groups_in c.args.self.now) ≡ None
missing c =
    not_grouped c.get_index_of.result c.args.name.now c.args.self.now.groups.entries
    (c.get_index_of.ensures.found ∙ ap (λ name. is_some (lookup (is_key name) c.args.self.now.groups.entries)) c.as_slice.ensures.bytes) c.in-None.is

pub add_new-requires : goal.add_new-requires
add_new-requires c = record { new = missing c }

pub returns-in-Some : goal.returns-in-Some
returns-in-Some c =
    found_either c.add_at.result c.args.name.now c.args.self.now.groups.entries c.in-Some.place c.args.number (groups_in c.add_at.new.self)
    (ap (λ name. position (is_key name) (keys_of c.args.self.now.groups.entries)) (sym c.as_slice.ensures.bytes) ∙ sym c.get_index_of.ensures.index ∙ c.in-Some.is) c.add_at.ensures

pub returns-in-None : goal.returns-in-None
returns-in-None c =
    new_either c.add_new.result c.args.name.now c.args.self.now.groups.entries c.args.number (groups_in c.add_new.new.self)
    (not_grouped c.get_index_of.result c.args.name.now c.args.self.now.groups.entries
    (c.get_index_of.ensures.found ∙ ap (λ name. is_some (lookup (is_key name) c.args.self.now.groups.entries)) c.as_slice.ensures.bytes) c.in-None.is)
    c.add_new.ensures
