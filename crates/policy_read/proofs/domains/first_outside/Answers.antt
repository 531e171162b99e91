use Rattle.std.proofs.Common.{◌∙◌, map, sym, arith}
use Rattle.sopl_scen.specs.Domains.{ends_of}
use Rattle.policy_read.proofs.Domained.{outside_found, outside_more, outside_none}
use Rattle.policy_read.proofs.domains.first_outside.Goals as goal

pub returns-then-is_outside : goal.returns-then-is_outside
returns-then-is_outside c =
    outside_found (map ends_of c.args.domains.now) c.args.told.now c.values.i _ c.values-test.true (sym c.is_outside.ensures ∙ c.if-is_outside.true) c.values.invariant

pub values-preserved : goal.values-preserved
values-preserved c =
    outside_more (map ends_of c.args.domains.now) c.args.told.now c.values.i _ c.values-test.true (sym c.is_outside.ensures ∙ c.if-is_outside.false) c.values.invariant

pub returns : goal.returns
returns c = outside_none (map ends_of c.args.domains.now) c.args.told.now c.values.i (omega arith) c.values.invariant
