use Rattle.std.proofs.Common.{◌≡◌, ◌<◌, IfNone, None, Option, ap, arith, false, length, refl, rules, subst, sym, ◌∙◌, ℕ}
use Rattle.prop_core.specs.Watches.{waits_at}
use Rattle.prop_shave.specs.GoalSums.{AreParts}
use Rattle.prop_chance.specs.UpToDate.{AreListed}
use Rattle.prop_chance.proofs.Outdating.{none_waits, told_alike}
use Rattle.prop_goal.specs.KeptParts.{touches}
use Rattle.prop_goal.proofs.KeptParts.{parts_wait}
use Rattle.prop_goal.proofs.kept_ends.KeptEnds.renew_all.Goals as goal

pub renew_waiting-requires-clause-parts : goal.renew_waiting-requires-clause-parts
renew_waiting-requires-clause-parts c = subst (λ list. AreParts c.args.program.now list.items) (sym c.parts.invariant.atoms) c.requires.parts

pub renew_waiting-requires-clause-one_each : goal.renew_waiting-requires-clause-one_each
renew_waiting-requires-clause-one_each c =
    let atoms = sym (ap (λ list. length list.items) c.parts.invariant.atoms) in
    record {
      ends = c.parts.invariant.ends ∙ (c.requires.one_each.ends ∙ atoms);
      waits = ap (λ flags. length flags.items) c.take_number.ensures.waits ∙ (c.parts.invariant.waits ∙ (c.requires.one_each.waits ∙ atoms));
    }

pub renew_waiting-requires-clause-seen : goal.renew_waiting-requires-clause-seen
renew_waiting-requires-clause-seen c =
    let k = c.parts.self in
    let told = ap (λ list. list.items) c.take_number.ensures.told in
    record {
      parts = parts_wait c.args.program.now c.args.store.now.box k.parts _ refl refl (λ number. told_alike (touches c.args.program.now k.parts.atoms.items) number k.parts.outdated c.take_number.new.self c.take_number.ensures.waits told) (told ∙ c.parts.invariant.seen.parts.clean) c.parts.invariant.seen.parts.keeps;
      summed = c.parts.invariant.seen.summed;
    }

pub parts-preserved : goal.parts-preserved
parts-preserved c = record {
  seen = c.renew_waiting.ensures.seen;
  listed = c.renew_waiting.ensures.listed (c.in-Some.ensures.taken c.parts.invariant.listed);
  atoms = c.renew_waiting.ensures.atoms ∙ c.parts.invariant.atoms;
  ends = c.renew_waiting.ensures.ends ∙ c.parts.invariant.ends;
  waits = c.renew_waiting.ensures.waits ∙ (ap (λ flags. length flags.items) c.take_number.ensures.waits ∙ c.parts.invariant.waits);
  turns = c.renew_waiting.ensures.turns ∙ c.parts.invariant.turns;
}

pub returns : goal.returns
returns c =
    let k = c.parts.self in
    let old = k.parts.outdated in
    let new = c.take_number.new.self in
    let none : c.take_number.result ≡ None = search rules in
    let calm =
    subst (λ (o : Option ℕ). IfNone o (AreListed old → (number : ℕ) → number < length old.waits.items → waits_at old.waits.items number ≡ false)) none c.take_number.ensures.calm
    c.parts.invariant.listed in
    let still : (number : ℕ) → number < length old.waits.items → waits_at new.waits.items number ≡ false =
    λ number below. ap (λ flags. waits_at flags.items number) c.take_number.ensures.waits ∙ calm number below in
    let told = ap (λ list. list.items) c.take_number.ensures.told in
    let as_many = ap (λ flags. length flags.items) c.take_number.ensures.waits in
    let atoms = ap (λ list. length list.items) c.parts.invariant.atoms in
    record {
      seen = record {
        parts = parts_wait c.args.program.now c.args.store.now.box k.parts _ refl refl (λ number. told_alike (touches c.args.program.now k.parts.atoms.items) number k.parts.outdated c.take_number.new.self c.take_number.ensures.waits told) (told ∙ c.parts.invariant.seen.parts.clean) c.parts.invariant.seen.parts.keeps;
        summed = c.parts.invariant.seen.summed;
      };
      calm = λ number below. still number (omega (arith, below, atoms, c.parts.invariant.waits, c.requires.one_each.waits));
      listed = none_waits new (λ number below. still number (omega (arith, below, as_many)));
      atoms = c.parts.invariant.atoms;
      ends = c.parts.invariant.ends;
      waits = as_many ∙ c.parts.invariant.waits;
      turns = c.parts.invariant.turns;
    }
