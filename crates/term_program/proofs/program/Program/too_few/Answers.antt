use Rattle.std.proofs.Common.{rules, ◌≤ℤ◌, pos, sym, subst, SFits}
use Rattle.std.proofs.lemmas.Int.{to_z-of_z}
use Rattle.std.specs.Int.{w128}
use Rattle.term_math.specs.Shown.{box_in}
use Rattle.term_program.specs.Drafts.{conditions_of}
use Rattle.term_program.specs.Programs.{root_in, things_in}
use Rattle.term_program.proofs.Weighing.{left_up}
use Rattle.term_program.proofs.program.Program.too_few.Goals as goal

pub reaches-requires-clause-sum_low : goal.reaches-requires-clause-sum_low
reaches-requires-clause-sum_low c =
    let fits : SFits w128 c.weight_left-left.result.value = search rules in
    rw (to_z-of_z w128 c.weight_left-left.result.value fits) (subst (λ s. pos 0 ≤ℤ s) (sym c.weight_left-left.ensures)
    (left_up (root_in c.args.self.now) (box_in c.args.view.now) c.args.self.now.draft.weights.items (conditions_of (things_in c.args.self.now) c.args.chance.now.conditions)
    c.requires.made.problem.weighs))
