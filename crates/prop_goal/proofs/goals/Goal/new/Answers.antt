use Rattle.std.proofs.Common.{List, length, rules, subst, sym, ◌≡◌, ◌∙◌, ℕ}
use Rattle.term_goals.specs.declared.sums.Atom.{Atom}
use Rattle.term_program.specs.Programs.{problem_in, root_in}
use Rattle.prop_goal.specs.Cells.{AreGoalCells}
use Rattle.prop_goal.specs.Goals.{ArePartial, FitsKept}
use Rattle.prop_goal.proofs.goals.Goal.new.Goals as goal

pub returns-clause-fits : goal.returns-clause-fits
returns-clause-fits c =
    let program = c.args.program.now in
    let long : c.len.result ≡ length c.in_ok-watched.watched.cells.items = search rules in
    record {
      made = c.requires.made;
      scenarios = c.scenarios.ensures;
      partial = subst (λ (n : ℕ). ArePartial (root_in program) (problem_in program) n c.in_ok-partial.partial.items) (sym c.scenarios.ensures) c.in_ok-partial.ensures.partial;
      watched = subst (λ (atoms : List Atom). AreGoalCells c.in_ok-watched.watched program atoms) (c.as_slice.ensures.value ∙ sym c.in_ok-kept.ensures.atoms) c.in_ok-watched.ensures;
      kept = subst (FitsKept c.in_ok-kept.kept program) long c.in_ok-kept.ensures.fits;
    }

pub returns-clause-in_step : goal.returns-clause-in_step
returns-clause-in_step c = λ b. record { keeps = c.in_ok-kept.ensures.keeps c.in_ok-watched.watched.cells.items b; rested = tt }
