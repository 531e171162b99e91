use Rattle.std.proofs.Common.{◌≡◌, ◌<◌, IfNone, None, Option, arith, ap, false, length, refl, rules, subst, ◌∙◌, ℕ}
use Rattle.prop_shave.specs.ChanceSums.{is_touched}
use Rattle.term_program.specs.Programs.{problem_in, root_in}
use Rattle.prop_core.specs.Watches.{waits_at}
use Rattle.prop_chance.specs.UpToDate.{AreListed}
use Rattle.prop_chance.proofs.KeptWeights.{weight_known, weight_waits}
use Rattle.prop_chance.proofs.Outdating.{none_waits, told_alike}
use Rattle.prop_chance.proofs.kept_weight.KeptWeight.renew_all.Goals as goal

pub renew_waiting-requires-clause-room : goal.renew_waiting-requires-clause-room
renew_waiting-requires-clause-room c = c.scenarios.invariant.room ∙ c.requires.room

pub renew_waiting-requires-clause-waits : goal.renew_waiting-requires-clause-waits
renew_waiting-requires-clause-waits c = ap (λ flags. length flags.items) c.take_number.ensures.waits ∙ (c.scenarios.invariant.waits ∙ c.requires.waits)

pub renew_waiting-requires-clause-seen : goal.renew_waiting-requires-clause-seen
renew_waiting-requires-clause-seen c =
    let told = ap (λ list. list.items) c.take_number.ensures.told in
    weight_waits (root_in c.args.program.now) c.args.store.now.box (problem_in c.args.program.now) c.args.instance c.scenarios.self _ refl refl
    (λ number. told_alike (is_touched (root_in c.args.program.now) (problem_in c.args.program.now) c.args.instance) number c.scenarios.self.outdated c.take_number.new.self c.take_number.ensures.waits told)
    (told ∙ c.scenarios.invariant.seen.clean) c.scenarios.invariant.seen.keeps

pub scenarios-preserved : goal.scenarios-preserved
scenarios-preserved c = record {
  seen = c.renew_waiting.ensures.seen;
  listed = c.renew_waiting.ensures.listed (c.in-Some.ensures.taken c.scenarios.invariant.listed);
  room = c.renew_waiting.ensures.room ∙ c.scenarios.invariant.room;
  waits = c.renew_waiting.ensures.waits ∙ (ap (λ flags. length flags.items) c.take_number.ensures.waits ∙ c.scenarios.invariant.waits);
}

pub returns : goal.returns
returns c =
    let root = root_in c.args.program.now in
    let terms = problem_in c.args.program.now in
    let b = c.args.store.now.box in
    let w = c.scenarios.self in
    let old = w.outdated in
    let new = c.take_number.new.self in
    let none : c.take_number.result ≡ None = search rules in
    let calm =
    subst (λ (o : Option ℕ). IfNone o (AreListed old → (k : ℕ) → k < length old.waits.items → waits_at old.waits.items k ≡ false)) none c.take_number.ensures.calm c.scenarios.invariant.listed in
    let still : (k : ℕ) → k < length old.waits.items → waits_at new.waits.items k ≡ false =
    λ k below. ap (λ flags. waits_at flags.items k) c.take_number.ensures.waits ∙ calm k below in
    let told = ap (λ list. list.items) c.take_number.ensures.told in
    let as_many = ap (λ flags. length flags.items) c.take_number.ensures.waits in
    let seen =
    weight_waits root b terms c.args.instance w _ refl refl (λ number. told_alike (is_touched root terms c.args.instance) number old new c.take_number.ensures.waits told)
    (told ∙ c.scenarios.invariant.seen.clean) c.scenarios.invariant.seen.keeps
    in
    record {
      known = weight_known root b terms c.args.instance _ (c.scenarios.invariant.room ∙ c.requires.room) seen
          (λ k below. still k (omega (arith, below, c.scenarios.invariant.waits, c.requires.waits)));
      keeps = record { truths = seen.keeps; listed = none_waits new (λ k below. still k (omega (arith, below, as_many))) };
      room = c.scenarios.invariant.room;
      waits = as_many ∙ c.scenarios.invariant.waits;
    }
