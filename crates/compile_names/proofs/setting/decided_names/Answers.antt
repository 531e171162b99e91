use Rattle.std.proofs.Common.{rules, ◌≤◌, sym, ap, ◌∙◌, map, length}
use Rattle.sopl_ast.specs.References.{now_of}
use Rattle.compile_names.specs.Variables.{decided_name}
use Rattle.compile_names.proofs.Labels.{decided_labels, grouped_either}
use Rattle.compile_names.proofs.setting.decided_names.Goals as goal

pub returns : goal.returns
returns c =
    let past : length c.args.decisions.now ≤ c.decisions.decision-index = search rules in
    grouped_either c.of.result (map now_of c.as_slice.result.now) (map decided_name c.args.decisions.now)
    (ap (map now_of) c.as_slice.ensures.value ∙ sym (decided_labels c.args.decisions.now c.decisions.decision-index c.decisions.names.items past) ∙ c.decisions.invariant) c.of.ensures.grouped
