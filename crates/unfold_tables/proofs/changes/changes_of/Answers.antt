use Rattle.std.proofs.Common.{rules, ◌≡◌, ap, sym, ◌∙◌, ℤ, pos, int_lt, ◌+ℤ◌, ◌-ℤ◌, SFits}
use Rattle.std.proofs.lemmas.Int.{to_z-of_z}
use Rattle.std.specs.Int.{w64, w128}
use Rattle.unfold_tables.specs.Tables.{task_in}
use Rattle.unfold_tables.proofs.Sweeping.{two_parts}
use Rattle.unfold_tables.proofs.changes.changes_of.Goals as goal

pub returns : goal.returns
returns c =
    let task = c.args.task.now in
    let first : SFits w128 c.of-start.result.value = search rules in
    let last : SFits w128 c.plus.result.value = search rules in
    let fits_start : SFits w64 task.start = search rules in
    let fits_duration : SFits w64 task.duration = search rules in
    let fits_demand : SFits w64 task.demand = search rules in
    let start : c.of-start.result.value ≡ task.start = c.of-start.ensures.same ∙ to_z-of_z w64 task.start fits_start in
    let duration : c.of.result.value ≡ task.duration = c.of.ensures.same ∙ to_z-of_z w64 task.duration fits_duration in
    let demand : c.of-demand.result.value ≡ task.demand = c.of-demand.ensures.same ∙ to_z-of_z w64 task.demand fits_demand in
    λ time.
    two_parts time _ _ (task_in task) (to_z-of_z w128 c.of-start.result.value first ∙ start) demand
    (to_z-of_z w128 c.plus.result.value last ∙ c.plus.ensures.sum ∙ (λ i. start i +ℤ duration i)) (c.minus.ensures.difference ∙ (λ i. c.of-2.ensures.same i -ℤ demand i))
    (ap (λ z. int_lt z (pos 0)) (sym (to_z-of_z w64 task.duration fits_duration)) ∙ c.if-task-lt0.false)
