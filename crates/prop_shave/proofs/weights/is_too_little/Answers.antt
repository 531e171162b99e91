use Rattle.term_program.specs.Programs.{things_in}
use Rattle.prop_shave.proofs.Fractions.{fraction_at}
use Rattle.prop_shave.proofs.weights.is_too_little.Goals as goal

pub is_less-requires-clause-from_zero : goal.is_less-requires-clause-from_zero
is_less-requires-clause-from_zero c =
    (fraction_at (things_in c.args.program.now) c.args.program.now.draft.chances.items c.args.instance _ _ c.requires.made.draft.thresholds c.threshold_of-threshold.ensures.p
    c.threshold_of-threshold.ensures.q).from_zero

pub is_less-requires-clause-to_whole : goal.is_less-requires-clause-to_whole
is_less-requires-clause-to_whole c =
    (fraction_at (things_in c.args.program.now) c.args.program.now.draft.chances.items c.args.instance _ _ c.requires.made.draft.thresholds c.threshold_of-threshold.ensures.p
    c.threshold_of-threshold.ensures.q).to_whole

pub is_less-requires-clause-positive : goal.is_less-requires-clause-positive
is_less-requires-clause-positive c =
    (fraction_at (things_in c.args.program.now) c.args.program.now.draft.chances.items c.args.instance _ _ c.requires.made.draft.thresholds c.threshold_of-threshold.ensures.p
    c.threshold_of-threshold.ensures.q).positive

pub is_less-requires-clause-small : goal.is_less-requires-clause-small
is_less-requires-clause-small c =
    (fraction_at (things_in c.args.program.now) c.args.program.now.draft.chances.items c.args.instance _ _ c.requires.made.draft.thresholds c.threshold_of-threshold.ensures.p
    c.threshold_of-threshold.ensures.q).small
