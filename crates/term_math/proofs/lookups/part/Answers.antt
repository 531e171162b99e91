use Rattle.std.proofs.Common.{ℕ, ◌<◌, length, ap, arith, rules, sym, ◌∙◌}
use Rattle.term_math.specs.Kept.{block}
use Rattle.term_math.proofs.Blocks.{is_divided}
use Rattle.term_math.proofs.Ascents.{missing_block}
use Rattle.term_math.proofs.lookups.part.Goals as goal

pub returns : goal.returns
returns c =
    λ width complete.
    let some : 0 < length c.args.set.now = first_of (search rules, grind arith) in
    c.halved.ensures
    ∙ ap (λ (n : ℕ). block c.args.number.now c.args.set.now n c.args.elements.now) (is_divided (length c.args.elements.now) (length c.args.set.now) width some complete)

pub returns-then-is_missing : goal.returns-then-is_missing
returns-then-is_missing c =
    λ width complete. sym (missing_block c.args.number.now c.args.set.now width c.args.elements.now (c.is_missing.ensures c.if-is_missing.true))
