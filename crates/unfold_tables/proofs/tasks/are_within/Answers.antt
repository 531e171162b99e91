use Rattle.std.proofs.Common.{sym, ap, ◌∙◌, pos, int_lt, map}
use Rattle.std.proofs.lemmas.Int.{to_z-of_z}
use Rattle.std.specs.Int.{w64}
use Rattle.unfold_tables.specs.Tables.{task_in}
use Rattle.unfold_tables.proofs.Folds.{not_sound, sound_fit, same_fit}
use Rattle.unfold_tables.proofs.tasks.are_within.Goals as goal

pub returns-then-not-all_sound : goal.returns-then-not-all_sound
returns-then-not-all_sound c =
    not_sound c.args.capacity c.as_slice.result.now _ (ap (map task_in) c.as_slice.ensures.value
    ∙ c.in_ok-tasks.ensures) (ap (λ z. int_lt z (pos 0)) (sym (to_z-of_z w64 c.args.capacity c.ranges.capacity)) ∙ c.if-capacity-lt0.false) c.all_sound.result
    c.all_sound.ensures c.if-not-all_sound.true

pub returns : goal.returns
returns c =
    sound_fit c.args.capacity c.as_slice.result.now _ (ap (map task_in) c.as_slice.ensures.value
    ∙ c.in_ok-tasks.ensures) (ap (λ z. int_lt z (pos 0)) (sym (to_z-of_z w64 c.args.capacity c.ranges.capacity)) ∙ c.if-capacity-lt0.false) c.all_sound.result
    _
    c.all_sound.ensures c.if-not-all_sound.false (c.in_ok-all.ensures
    ∙ same_fit (c.of-most.ensures.same ∙ to_z-of_z w64 c.args.capacity c.ranges.capacity) (c.as_slice-2.ensures.value ∙ sym c.as_slice.ensures.value))
