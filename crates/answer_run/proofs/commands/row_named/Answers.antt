use Rattle.std.proofs.Common.{rules, tests, ap, map}
use Rattle.std.proofs.lemmas.Iterator.{YieldsList-from_slice}
use Rattle.std.proofs.lemmas.Iterator.Consumers.{YieldsList-from_copied}
use Rattle.std.proofs.lemmas.Iterator.Search.{find_from_yields_List}
use Rattle.std.specs.Str.{bytes_eq}
use Rattle.answer_run.specs.Words.{commands}
use Rattle.answer_run.specs.Shown.{row_shown}
use Rattle.answer_run.proofs.FoundRows.{found_shown}
use Rattle.answer_run.proofs.commands.row_named.Goals as goal

pub returns : goal.returns
returns c =
    found_shown c.args.word.now c.iter.result.rest.now commands c.find.result (ap (map row_shown) c.iter.ensures.rest)
    (find_from_yields_List (λ r. bytes_eq r.name.now c.args.word.now) _ _ _ c.find.ensures.ran (YieldsList-from_copied (YieldsList-from_slice c.iter.result.rest.now cc))
    (λ x b q k. search (rules, tests)))
