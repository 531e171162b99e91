use Rattle.std.proofs.Common.{◌∙◌, ◌+◌, ◌<◌, ◌≤◌, List, length, ap, rules, sym, subst}
use Rattle.log_rows.specs.declared.rows.Row.{Row}
use Rattle.log_rows.specs.Rows.{AreOrdered}
use Rattle.term_program.specs.Stated.{box_problem_of}
use Rattle.log_check.specs.declared.sides.Sides.{Sides}
use Rattle.log_check.specs.Sides.{AreSides}
use Rattle.log_check.specs.Walks.{lines_of}
use Rattle.log_check.proofs.Checking.{begins_well, lines_fit, root_is_box}
use Rattle.log_check.proofs.checker.Checker.check.Goals as goal

pub fill_sides-requires-clause-fits : goal.fill_sides-requires-clause-fits
fill_sides-requires-clause-fits c =
    lines_fit c.as_slice-rows.result.now c.args.self.now.lines (subst (λ (list : List Row). 2 + lines_of list ≤ c.args.self.now.lines) (sym c.as_slice-rows.ensures.value) c.requires.room.lines) c.count_fits.ensures.fits

pub walk_along-requires-clause-ready : goal.walk_along-requires-clause-ready
walk_along-requires-clause-ready c =
    record {
      made = c.requires.made;
      ordered = subst AreOrdered (sym c.as_slice-rows.ensures.value) c.requires.ordered;
      sides = subst (λ (list : List Sides). AreSides c.as_slice-rows.result.now list) (sym c.as_slice.ensures.value) c.fill_sides.ensures.sides;
      fits = lines_fit c.as_slice-rows.result.now c.args.self.now.lines (subst (λ (list : List Row). 2 + lines_of list ≤ c.args.self.now.lines) (sym c.as_slice-rows.ensures.value) c.requires.room.lines) c.count_fits.ensures.fits;
    }

pub walk_along-requires-clause-stands : goal.walk_along-requires-clause-stands
walk_along-requires-clause-stands c =
    begins_well (box_problem_of c.args.program.now) c.as_slice-rows.result.now c.args.log.now.footer c.begin.new.self (subst AreOrdered (sym c.as_slice-rows.ensures.value) c.requires.ordered)
    (subst (λ (list : List Row). 0 < length list) (sym c.as_slice-rows.ensures.value) c.requires.at_least_one) (root_is_box c.args.program.now c.requires.made) c.begin.ensures.at
    (c.begin.ensures.same_store ∙ c.requires.root) (ap (λ v. v.items) c.begin.ensures.same_later ∙ c.requires.room.none) c.begin.ensures.least c.begin.ensures.tally

pub walk_along-requires-clause-in_step : goal.walk_along-requires-clause-in_step
walk_along-requires-clause-in_step c = c.begin.ensures.in_step c.args.program.now

pub returns-clause-same_room : goal.returns-clause-same_room
returns-clause-same_room c = record {
  kept = λ rows room. record {
    marks = search (rules, room);
    none = search (rules, room);
    lines = room.lines;
    nodes = room.nodes;
    spare = search (rules, room);
    later = search (rules, room);
    sides = search (rules, room);
    cells = (c.end.ensures.follow c.args.program.now c.walk_along.ensures.in_step).cells;
  };
}

pub verdict_of-verdict-requires-clause-ready : goal.verdict_of-verdict-requires-clause-ready
verdict_of-verdict-requires-clause-ready c =
    record {
      made = c.requires.made;
      ordered = subst AreOrdered (sym c.as_slice-rows.ensures.value) c.requires.ordered;
      sides = subst (λ (list : List Sides). AreSides c.as_slice-rows.result.now list) (sym c.as_slice.ensures.value) c.fill_sides.ensures.sides;
      fits = lines_fit c.as_slice-rows.result.now c.args.self.now.lines (subst (λ (list : List Row). 2 + lines_of list ≤ c.args.self.now.lines) (sym c.as_slice-rows.ensures.value) c.requires.room.lines) c.count_fits.ensures.fits;
    }
