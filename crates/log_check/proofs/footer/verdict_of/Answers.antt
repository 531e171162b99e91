use Rattle.std.proofs.Common.{[], Option, refl, subst}
use Rattle.log_check.specs.declared.walk.WrongLine.{WrongLine}
use Rattle.log_check.specs.Views.{checked_problem}
use Rattle.log_check.specs.Walks.{WalkStands}
use Rattle.log_check.proofs.Footers.{first_wrong_row, is_accepted, wrong_footer}
use Rattle.log_check.proofs.footer.verdict_of.Goals as goal

pub returns-in-Some : goal.returns-in-Some
returns-in-Some c = record {
  verdict = first_wrong_row (checked_problem c.args.view.now) c.args.view.now.rows.now c.args.view.now.footer.now c.requires.ready.ordered c.args.tally.now c.in-Some.wrong
      (subst (λ (o : Option WrongLine). WalkStands (checked_problem c.args.view.now) c.args.view.now.rows.now c.args.view.now.footer.now [] o c.args.tally.now) c.in-Some.is c.requires.stands);
}

pub returns-then-is_right_footer : goal.returns-then-is_right_footer
returns-then-is_right_footer c = record {
  verdict = is_accepted (checked_problem c.args.view.now) c.args.view.now.rows.now c.args.view.now.footer.now c.requires.ready.ordered c.args.tally.now c.is_right_footer.result c.direction_of.result
      (subst (λ (o : Option WrongLine). WalkStands (checked_problem c.args.view.now) c.args.view.now.rows.now c.args.view.now.footer.now [] o c.args.tally.now) c.in_default.is c.requires.stands)
      c.requires.at_least_one c.requires.shallow c.direction_of.ensures.direction c.is_right_footer.ensures.holds c.if-is_right_footer.true;
}

pub returns : goal.returns
returns c = record {
  verdict = wrong_footer (checked_problem c.args.view.now) c.args.view.now.rows.now c.args.view.now.footer.now c.requires.ready.ordered c.args.tally.now c.is_right_footer.result c.direction_of.result _ c.footer_line.result
      (subst (λ (o : Option WrongLine). WalkStands (checked_problem c.args.view.now) c.args.view.now.rows.now c.args.view.now.footer.now [] o c.args.tally.now) c.in_default.is c.requires.stands)
      c.direction_of.ensures.direction c.is_right_footer.ensures.holds c.if-is_right_footer.false refl c.footer_line.ensures.line;
}
