use Rattle.std.proofs.Common.{rules, ◌≤◌, sym, ap, ◌∙◌, map, length}
use Rattle.sopl_ast.specs.References.{now_of}
use Rattle.compile_names.specs.Variables.{drawn_name}
use Rattle.compile_names.proofs.Labels.{drawn_labels, grouped_either}
use Rattle.compile_names.proofs.setting.drawn_names.Goals as goal

pub returns : goal.returns
returns c =
    let past : length c.args.stochs.now ≤ c.stochs.stoch-index = search rules in
    grouped_either c.of.result (map now_of c.as_slice.result.now) (map drawn_name c.args.stochs.now)
    (ap (map now_of) c.as_slice.ensures.value ∙ sym (drawn_labels c.args.stochs.now c.stochs.stoch-index c.stochs.names.items past) ∙ c.stochs.invariant) c.of.ensures.grouped
