use Rattle.std.proofs.Common.{◌∙◌, length, map, refl, subst, sym, ℕ}
use Rattle.term_program.specs.Programs.{problem_in, root_in}
use Rattle.prop_shave.specs.ChanceSums.{is_touched, left_over, touched_by}
use Rattle.prop_chance.specs.UpToDate.{AreMentioning, numbers_in}
use Rattle.prop_chance.proofs.KeptWeights.{weight_waits}
use Rattle.prop_chance.proofs.Conditions.{moved}
use Rattle.prop_chance.proofs.Turned.{turns_known}
use Rattle.prop_chance.proofs.chances.Chance.look.Goals as goal

pub let_told_wait-requires : goal.let_told_wait-requires
let_told_wait-requires c =
    let p = c.args.self.now in
    let mentions = is_touched (root_in c.args.program.now) (problem_in c.args.program.now) p.constraint.instance in
    let lists =
    moved numbers_in p.constraint.mentioning.items c.as_slice-2.result.now p.constraint.cells.items c.as_slice.result.now
    (touched_by (root_in c.args.program.now) (problem_in c.args.program.now) p.constraint.instance)
    c.as_slice-2.ensures.value c.as_slice.ensures.value c.requires.fits.constraint.touched
    in
    record {
      lists = (
        mentions,
        subst (λ (n : ℕ). AreMentioning mentions n c.as_slice.result.now (map numbers_in c.as_slice-2.result.now)) (sym c.requires.fits.waits) lists,
      );
    }

pub forget_waiting-requires-clause-waits : goal.forget_waiting-requires-clause-waits
forget_waiting-requires-clause-waits c = c.let_told_wait.ensures.count ∙ c.requires.fits.waits

pub forget_waiting-requires-clause-listed : goal.forget_waiting-requires-clause-listed
forget_waiting-requires-clause-listed c = c.let_told_wait.ensures.listed c.requires.weight.listed

pub renew_all-requires-clause-listed : goal.renew_all-requires-clause-listed
renew_all-requires-clause-listed c = c.let_told_wait.ensures.listed c.requires.weight.listed

pub renew_all-requires-clause-seen : goal.renew_all-requires-clause-seen
renew_all-requires-clause-seen c =
    let p = c.args.self.now in
    let mentions = is_touched (root_in c.args.program.now) (problem_in c.args.program.now) p.constraint.instance in
    let lists =
    moved numbers_in p.constraint.mentioning.items c.as_slice-2.result.now p.constraint.cells.items c.as_slice.result.now
    (touched_by (root_in c.args.program.now) (problem_in c.args.program.now) p.constraint.instance)
    c.as_slice-2.ensures.value c.as_slice.ensures.value c.requires.fits.constraint.touched
    in
    weight_waits (root_in c.args.program.now) c.args.store.now.box (problem_in c.args.program.now) p.constraint.instance p.weight _ refl refl
    (λ number fresh.
    c.let_told_wait.ensures.wait mentions number
    (subst (λ (n : ℕ). AreMentioning mentions n c.as_slice.result.now (map numbers_in c.as_slice-2.result.now)) (sym c.requires.fits.waits) lists) fresh)
    c.let_told_wait.ensures.clean c.requires.weight.truths

pub renew_all-requires-clause-waits : goal.renew_all-requires-clause-waits
renew_all-requires-clause-waits c = c.let_told_wait.ensures.count ∙ c.requires.fits.waits

pub returns-clause-looked : goal.returns-clause-looked
returns-clause-looked c =
    let p = c.args.self.now in
    let root = root_in c.args.program.now in
    let terms = problem_in c.args.program.now in
    let mentions = is_touched root terms p.constraint.instance in
    let lists =
    moved numbers_in p.constraint.mentioning.items c.as_slice-2.result.now p.constraint.cells.items c.as_slice.result.now
    (touched_by (root_in c.args.program.now) (problem_in c.args.program.now) p.constraint.instance)
    c.as_slice-2.ensures.value c.as_slice.ensures.value c.requires.fits.constraint.touched
    in
    record {
      weight = c.renew_all.ensures.keeps;
      turns = turns_known (left_over root terms p.constraint.instance) mentions (length terms.weights) c.args.store.now.box p.weight.outdated c.let_told_wait.new.self p.constraint.cells.items p.turns
          c.forget_waiting.new.turns
          (λ number fresh.
          c.let_told_wait.ensures.wait mentions number
          (subst (λ (n : ℕ). AreMentioning mentions n c.as_slice.result.now (map numbers_in c.as_slice-2.result.now)) (sym c.requires.fits.waits) lists) fresh)
          c.let_told_wait.ensures.clean c.forget_waiting.ensures.forgotten c.forget_waiting.ensures.fewer c.requires.turns;
      alike = record {
        constraint = refl;
        room = c.renew_all.ensures.room;
        waits = c.renew_all.ensures.waits ∙ c.let_told_wait.ensures.count;
        turns = c.forget_waiting.ensures.room;
      };
    }
