use Rattle.std.proofs.Common.{List, subst}
use Rattle.term_program.specs.declared.draft.ChanceConditions.{ChanceConditions}
use Rattle.term_program.specs.declared.draft.Conditions.{Conditions}
use Rattle.term_program.specs.Mentions.{HaveLists, chance_ids, hard_ids}
use Rattle.term_program.proofs.Lists.{all_stay}
use Rattle.term_program.proofs.mentions.of_constraints.Goals as goal

pub returns-clause-hards : goal.returns-clause-hards
returns-clause-hards c =
    all_stay c.put_hards.new.self c.put_chances.new.self (hard_ids c.args.draft.now.hards.items) c.in_ok-put_chances.ensures.stays
    (subst (λ (hs : List Conditions). HaveLists c.put_hards.new.self (hard_ids hs)) c.as_slice.ensures.value c.in_ok-put_hards.ensures.there)

pub returns-clause-chances : goal.returns-clause-chances
returns-clause-chances c =
    subst (λ (cs : List ChanceConditions). HaveLists c.put_chances.new.self (chance_ids cs)) c.as_slice-2.ensures.value c.in_ok-put_chances.ensures.there
