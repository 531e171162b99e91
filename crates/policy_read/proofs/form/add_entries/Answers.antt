use Rattle.std.proofs.Common.{◌<◌, ◌≤◌, subst}
use Rattle.serde_json.specs.View.{view}
use Rattle.policy_read.specs.Forms.{told_list}
use Rattle.policy_read.proofs.Pairs.{pairs_all, pairs_more}
use Rattle.policy_read.proofs.form.add_entries.Goals as goal

pub entries-preserved : goal.entries-preserved
entries-preserved c =
    pairs_more told_list view c.args.form.now c.args.given.now c.entries.i c.args.found.now.items c.entries.found.items c.index-form-i.result c.index-given-i.result
    c.add_entry.new.found.items (subst (λ n. c.entries.i < n) c.min-many.ensures c.entries-test.true) c.index-form-i.is c.index-given-i.is c.in_ok-add_entry.ensures c.entries.invariant

pub returns : goal.returns
returns c =
    pairs_all told_list view c.args.form.now c.args.given.now c.entries.i c.args.found.now.items c.entries.found.items
    (subst (λ n. n ≤ c.entries.i) c.min-many.ensures c.entries-test.false) c.entries.invariant
