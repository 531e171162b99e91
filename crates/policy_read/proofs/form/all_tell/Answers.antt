use Rattle.std.proofs.Common.{◌∙◌, sym, arith}
use Rattle.serde_json.specs.View.{view}
use Rattle.policy_read.specs.Entries.{is_told}
use Rattle.policy_read.proofs.Alike.{views_short, views_more, views_differ, views_all}
use Rattle.policy_read.proofs.form.all_tell.Goals as goal

pub returns-then-form-given : goal.returns-then-form-given
returns-then-form-given c = views_short view is_told c.args.form.now c.args.given.now 0 c.if-form-given.true

pub returns-then-not-is_told : goal.returns-then-not-is_told
returns-then-not-is_told c =
    views_differ view is_told c.args.form.now c.args.given.now c.entries.i c.index-form-i.result c.index-given-i.result c.entries-test.true c.if-form-given.false c.index-form-i.is c.index-given-i.is
    (sym c.is_told.ensures ∙ c.if-not-is_told.true) c.entries.invariant

pub entries-preserved : goal.entries-preserved
entries-preserved c =
    views_more view is_told c.args.form.now c.args.given.now c.entries.i c.index-form-i.result c.index-given-i.result c.entries-test.true c.if-form-given.false c.index-form-i.is c.index-given-i.is
    (sym c.is_told.ensures ∙ c.if-not-is_told.false) c.entries.invariant

pub returns : goal.returns
returns c = views_all view is_told c.args.form.now c.args.given.now c.entries.i c.if-form-given.false (omega arith) c.entries.invariant
