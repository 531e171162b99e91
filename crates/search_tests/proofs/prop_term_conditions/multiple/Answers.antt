use Rattle.search_tests.proofs.Growing.{kept_twice}
use Rattle.search_tests.proofs.prop_term_conditions.multiple.Goals as goal

pub returns-clause-kept : goal.returns-clause-kept
returns-clause-kept c =
    kept_twice c.args.b.now c.constant.new.self c.product.new.self c.constant.ensures.added.kept
    (kept_twice c.constant.new.self c.cell.new.self c.product.new.self c.cell.ensures.added.kept c.product.ensures.added.kept)
