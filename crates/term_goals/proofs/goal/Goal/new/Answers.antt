use Rattle.std.proofs.Common.{Some, None, refl}
use Rattle.term_math.specs.Shown.{box_in}
use Rattle.term_nodes.specs.Things.{things}
use Rattle.term_store.proofs.Adding.{all_there}
use Rattle.term_goals.proofs.Summing.{sound_goal, summed_room}
use Rattle.term_goals.proofs.goal.Goal.new.Goals as goal

pub returns-then-objective-clause-sound : goal.returns-then-objective-clause-sound
returns-then-objective-clause-sound c =
    sound_goal (box_in c.args.here.now.root) c.args.here.now.items.now c.args.objective.now.terms.now c.in_ok-goal.goal None
    (all_there c.args.here.now.items.now c.args.objective.now.terms.now c.requires.exist) c.in_ok-goal.ensures.terms c.in_ok-goal.ensures.summed tt

pub returns-clause-sound : goal.returns-clause-sound
returns-clause-sound c =
    sound_goal (box_in c.args.here.now.root) c.args.here.now.items.now c.args.objective.now.terms.now c.in_ok-goal-2.goal (Some c.in_ok-summed.summed)
    (all_there c.args.here.now.items.now c.args.objective.now.terms.now c.requires.exist) c.in_ok-goal-2.ensures.terms c.in_ok-goal-2.ensures.summed
    (summed_room (box_in c.args.here.now.root) (things c.args.here.now.items.now) c.args.objective.now.weights.now c.args.objective.now.terms.now c.in_ok-summed.summed c.requires.weights
    (c.in_ok-measured.ensures refl) c.in_ok-summed.ensures)

pub measured-requires-clause-exist : goal.measured-requires-clause-exist
measured-requires-clause-exist c = all_there c.args.here.now.items.now c.args.objective.now.terms.now c.requires.exist

pub summed-requires-clause-exist : goal.summed-requires-clause-exist
summed-requires-clause-exist c = all_there c.args.here.now.items.now c.args.objective.now.terms.now c.requires.exist
