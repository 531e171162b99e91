use Rattle.std.proofs.Common.{◌≡◌, ◌∷◌, ◌++◌, [], get_or, rules}
use Rattle.term_program.specs.Programs.{things_in}
use Rattle.std.proofs.Common.{length}
use Rattle.std.proofs.lemmas.List.{get_or_default}
use Rattle.prop_operands.proofs.Keeping.{below_there, next_listed}
use Rattle.prop_operands.proofs.operands.list_of.Goals as goal

pub operand_of-requires-clause-exists : goal.operand_of-requires-clause-exists
operand_of-requires-clause-exists c =
    below_there (length (things_in c.args.program.now)) c.args.terms.now c.terms.term-index _ c.requires.exist c.terms-test.true (get_or_default c.args.terms.now c.terms.term-index _ _ c.terms-test.true)

pub terms-preserved : goal.terms-preserved
terms-preserved c =
    let pushed : c.push.new.self.items ≡ c.terms.list.items ++ c.in_ok-operand_of.field-0 ∷ [] = search rules in
    next_listed c.args.program.now c.args.terms.now c.terms.term-index _ c.terms.list.items c.push.new.self.items c.in_ok-operand_of.field-0 c.terms-test.true
    (get_or_default c.args.terms.now c.terms.term-index _ _ c.terms-test.true)
    c.in_ok-operand_of.ensures.operand c.in_ok-operand_of.ensures.term pushed c.terms.invariant
