use Rattle.std.proofs.Common.{◌∙◌, sym, arith}
use Rattle.serde_json.specs.View.{view}
use Rattle.policy_read.specs.Forms.{is_branch}
use Rattle.policy_read.proofs.Alike.{views_short, views_more, views_differ, views_all}
use Rattle.policy_read.proofs.form.all_branches.Goals as goal

pub returns-then-form-given : goal.returns-then-form-given
returns-then-form-given c = views_short view is_branch c.args.form.now c.args.given.now 0 c.if-form-given.true

pub returns-then-not-is_branch : goal.returns-then-not-is_branch
returns-then-not-is_branch c =
    views_differ view is_branch c.args.form.now c.args.given.now c.branches.i c.index-form-i.result c.index-given-i.result c.branches-test.true c.if-form-given.false c.index-form-i.is c.index-given-i.is
    (sym c.is_branch.ensures ∙ c.if-not-is_branch.true) c.branches.invariant

pub branches-preserved : goal.branches-preserved
branches-preserved c =
    views_more view is_branch c.args.form.now c.args.given.now c.branches.i c.index-form-i.result c.index-given-i.result c.branches-test.true c.if-form-given.false c.index-form-i.is c.index-given-i.is
    (sym c.is_branch.ensures ∙ c.if-not-is_branch.false) c.branches.invariant

pub returns : goal.returns
returns c = views_all view is_branch c.args.form.now c.args.given.now c.branches.i c.if-form-given.false (omega arith) c.branches.invariant
