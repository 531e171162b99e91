use Rattle.std.proofs.Common.{ap, map}
use Rattle.unfold_constants.specs.Choosing.{open_in}
use Rattle.unfold_constants.specs.Here.{known_in}
use Rattle.compile_counts.proofs.Entering.{next_met, next_entered, none_left, first_entered}
use Rattle.compile_counts.proofs.bindings.all_places.Goals as goal

pub choices-init : goal.choices-init
choices-init c =
    first_entered c.args.over.now c.args.whole (known_in c.args.known.now) (known_in c.in_ok-choices.choices.here) (open_in c.in_ok-choices.choices) c.in_ok-choices.ensures.here
    c.in_ok-choices.ensures.opened _ (map known_in c.new-found.result.items) _ (ap (map known_in) c.new-found.ensures.items) c.requires.met c.in_ok-enter.ensures.added
    c.in_ok-enter.ensures.opened

pub enter-requires-in-choices : goal.enter-requires-in-choices
enter-requires-in-choices c =
    record {
      met = next_met c.args.over.now c.args.whole c.in_ok-advance.field-0 (known_in c.choices.choices.here) (open_in c.choices.choices) (known_in c.advance.new.self.here)
          (open_in c.advance.new.self) _ _ c.if-branch.true c.in_ok-advance.ensures c.choices.invariant;
    }

pub choices-preserved : goal.choices-preserved
choices-preserved c =
    next_entered c.args.over.now c.args.whole c.in_ok-advance.field-0 (known_in c.choices.choices.here) (open_in c.choices.choices) (known_in c.advance.new.self.here)
    (open_in c.advance.new.self) _ _ _ _ c.if-branch.true c.in_ok-advance.ensures c.in_ok-enter-2.ensures.added c.in_ok-enter-2.ensures.opened c.choices.invariant

pub returns : goal.returns
returns c =
    record {
      places = none_left c.args.over.now c.args.whole c.in_ok-advance.field-0 (known_in c.choices.choices.here) (open_in c.choices.choices) (known_in c.advance.new.self.here)
          (open_in c.advance.new.self) _ _ c.if-branch.false c.in_ok-advance.ensures c.choices.invariant;
    }
