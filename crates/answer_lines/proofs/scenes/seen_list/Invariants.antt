use Rattle.std.proofs.Common.{◌≡◌, ◌++◌, map, drop}
use Rattle.serde_json.specs.View.{view}
use Rattle.answer_lines.specs.Shown.{entries_from}
use Rattle.answer_lines.proofs.scenes.seen_list.Given as goal

abbrev pub invariant-stochs : goal.invariant-stochs
invariant-stochs l = map view l.list.items ++ entries_from l.tree l.scenario l.place (drop l.place l.stochs) ≡ entries_from l.tree l.scenario 0 l.stochs
