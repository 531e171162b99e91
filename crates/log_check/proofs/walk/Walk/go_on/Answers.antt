use Rattle.std.proofs.Common.{Some, None, refl}
use Rattle.sopl_base.specs.declared.reason.Side.TheVariants.{Le, Ge}
use Rattle.log_check.specs.Views.{checked_problem}
use Rattle.log_check.proofs.Waiting.{cut_at, cuts_of, gone_next, gone_split, side_is, side_there, split_is_right}
use Rattle.log_check.proofs.walk.Walk.go_on.Goals as goal

pub next-requires : goal.next-requires
next-requires c = record { cuts = cuts_of c.args.view.now.rows.now c.args.self.now c.requires.waits }

pub returns-in_default : goal.returns-in_default
returns-in_default c = record {
  gone = gone_next c.args.view.now.rows.now c.args.self.now c.next.new.self c.next.result
      (cut_at c.args.view.now.rows.now c.args.self.now.at c.index-view-self.result c.split_of.result None c.requires.exists c.split_of.ensures.cut c.in_default.is) c.requires.waits c.next.ensures.next
      c.next.ensures.capacity c.next.ensures.same_least c.next.ensures.same_tally;
  follow = c.next.ensures.follow;
}

pub unreachable-requires : goal.unreachable-requires
unreachable-requires c =
    let split = cut_at c.args.view.now.rows.now c.args.self.now.at c.index-view-self.result c.split_of.result (Some c.in-Some.cut) c.requires.exists c.split_of.ensures.cut c.in-Some.is in
    let right = split_is_right (checked_problem c.args.view.now) c.args.view.now.footer.now c.args.self.now.store.box c.args.view.now.rows.now c.args.self.now.at c.in-Some.cut split c.requires.right in
    side_there c.args.view.now.rows.now c.args.self.now.at c.args.view.now.sides.now _ Le c.requires.exists c.requires.ready.sides refl right.low c.in_default-low.is

pub unreachable-requires-in_default-high : goal.unreachable-requires-in_default-high
unreachable-requires-in_default-high c =
    let split = cut_at c.args.view.now.rows.now c.args.self.now.at c.index-view-self.result c.split_of.result (Some c.in-Some.cut) c.requires.exists c.split_of.ensures.cut c.in-Some.is in
    let right = split_is_right (checked_problem c.args.view.now) c.args.view.now.footer.now c.args.self.now.store.box c.args.view.now.rows.now c.args.self.now.at c.in-Some.cut split c.requires.right in
    side_there c.args.view.now.rows.now c.args.self.now.at c.args.view.now.sides.now _ Ge c.requires.exists c.requires.ready.sides refl right.high c.in_default-high.is

pub split-requires-clause-cut : goal.split-requires-clause-cut
split-requires-clause-cut c =
    let split = cut_at c.args.view.now.rows.now c.args.self.now.at c.index-view-self.result c.split_of.result (Some c.in-Some.cut) c.requires.exists c.split_of.ensures.cut c.in-Some.is in
    let right = split_is_right (checked_problem c.args.view.now) c.args.view.now.footer.now c.args.self.now.store.box c.args.view.now.rows.now c.args.self.now.at c.in-Some.cut split c.requires.right in
    right.cut

pub returns : goal.returns
returns c =
    let split = cut_at c.args.view.now.rows.now c.args.self.now.at c.index-view-self.result c.split_of.result (Some c.in-Some.cut) c.requires.exists c.split_of.ensures.cut c.in-Some.is in
    let right = split_is_right (checked_problem c.args.view.now) c.args.view.now.footer.now c.args.self.now.store.box c.args.view.now.rows.now c.args.self.now.at c.in-Some.cut split c.requires.right in
    record {
      gone = gone_split c.args.view.now.rows.now c.args.self.now c.split.new.self c.in-Some.cut c.in-Some-low.low c.in-Some-high.high c.requires.ready.ordered split right.cut
          (side_is c.args.view.now.rows.now c.args.self.now.at c.in-Some-low.low c.args.view.now.sides.now _ Le c.requires.exists c.requires.ready.sides refl c.in-Some-low.is)
          (side_is c.args.view.now.rows.now c.args.self.now.at c.in-Some-high.high c.args.view.now.sides.now _ Ge c.requires.exists c.requires.ready.sides refl c.in-Some-high.is) c.requires.waits
          c.requires.room c.requires.place c.split.ensures.at c.split.ensures.later c.split.ensures.capacity c.split.ensures.half c.split.ensures.marks c.split.ensures.spare c.split.ensures.same_least
          c.split.ensures.same_tally;
      follow = c.split.ensures.follow;
    }
