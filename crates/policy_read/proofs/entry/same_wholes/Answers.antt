use Rattle.std.proofs.Common.{◌∙◌, sym, arith}
use Rattle.serde_json.specs.View.{view}
use Rattle.policy_read.specs.Listed.{same_whole}
use Rattle.policy_read.proofs.Alike.{views_short, views_more, views_differ, views_all}
use Rattle.policy_read.proofs.entry.same_wholes.Goals as goal

pub returns-then-form-given : goal.returns-then-form-given
returns-then-form-given c = views_short view same_whole c.args.form.now c.args.given.now 0 c.if-form-given.true

pub returns-then-not-same_whole : goal.returns-then-not-same_whole
returns-then-not-same_whole c =
    views_differ view same_whole c.args.form.now c.args.given.now c.numbers.i c.index-form-i.result c.index-given-i.result c.numbers-test.true c.if-form-given.false c.index-form-i.is c.index-given-i.is
    (sym c.same_whole.ensures ∙ c.if-not-same_whole.true) c.numbers.invariant

pub numbers-preserved : goal.numbers-preserved
numbers-preserved c =
    views_more view same_whole c.args.form.now c.args.given.now c.numbers.i c.index-form-i.result c.index-given-i.result c.numbers-test.true c.if-form-given.false c.index-form-i.is c.index-given-i.is
    (sym c.same_whole.ensures ∙ c.if-not-same_whole.false) c.numbers.invariant

pub returns : goal.returns
returns c = views_all view same_whole c.args.form.now c.args.given.now c.numbers.i c.if-form-given.false (omega arith) c.numbers.invariant
