use Rattle.std.proofs.Common.{◌≡◌, ◌<◌, IfNone, None, Option, ap, arith, false, length, refl, rules, subst, sym, ◌∙◌, ℕ}
use Rattle.prop_core.specs.Watches.{waits_at}
use Rattle.term_goals.specs.Goals.{AtomsExist}
use Rattle.term_program.specs.Programs.{things_in}
use Rattle.prop_chance.specs.UpToDate.{AreListed}
use Rattle.prop_chance.proofs.Outdating.{none_waits, told_alike}
use Rattle.prop_goal.specs.KeptParts.{touches}
use Rattle.prop_goal.proofs.KeptParts.{parts_wait}
use Rattle.prop_goal.proofs.kept_worst.KeptWorst.renew_all.Goals as goal

pub renew_waiting-requires-clause-exist : goal.renew_waiting-requires-clause-exist
renew_waiting-requires-clause-exist c = subst (λ list. AtomsExist (length (things_in c.args.program.now)) list.items) (sym c.scenarios.invariant.atoms) c.requires.exist

pub renew_waiting-requires-clause-one_each : goal.renew_waiting-requires-clause-one_each
renew_waiting-requires-clause-one_each c =
    let atoms = sym (ap (λ list. length list.items) c.scenarios.invariant.atoms) in
    record {
      ends = c.scenarios.invariant.ends ∙ (c.requires.one_each.ends ∙ atoms);
      waits = ap (λ flags. length flags.items) c.take_number.ensures.waits ∙ (c.scenarios.invariant.waits ∙ (c.requires.one_each.waits ∙ atoms));
    }

pub renew_waiting-requires-clause-seen : goal.renew_waiting-requires-clause-seen
renew_waiting-requires-clause-seen c =
    let k = c.scenarios.self in
    let told = ap (λ list. list.items) c.take_number.ensures.told in
    parts_wait c.args.program.now c.args.store.now.box k.parts _ refl refl (λ number. told_alike (touches c.args.program.now k.parts.atoms.items) number k.parts.outdated c.take_number.new.self c.take_number.ensures.waits told) (told ∙ c.scenarios.invariant.seen.clean) c.scenarios.invariant.seen.keeps

pub scenarios-preserved : goal.scenarios-preserved
scenarios-preserved c = record {
  seen = c.renew_waiting.ensures.seen;
  listed = c.renew_waiting.ensures.listed (c.in-Some.ensures.taken c.scenarios.invariant.listed);
  atoms = c.renew_waiting.ensures.atoms ∙ c.scenarios.invariant.atoms;
  ends = c.renew_waiting.ensures.ends ∙ c.scenarios.invariant.ends;
  waits = c.renew_waiting.ensures.waits ∙ (ap (λ flags. length flags.items) c.take_number.ensures.waits ∙ c.scenarios.invariant.waits);
}

pub returns : goal.returns
returns c =
    let k = c.scenarios.self in
    let old = k.parts.outdated in
    let new = c.take_number.new.self in
    let none : c.take_number.result ≡ None = search rules in
    let calm =
    subst (λ (o : Option ℕ). IfNone o (AreListed old → (number : ℕ) → number < length old.waits.items → waits_at old.waits.items number ≡ false)) none c.take_number.ensures.calm
    c.scenarios.invariant.listed in
    let still : (number : ℕ) → number < length old.waits.items → waits_at new.waits.items number ≡ false =
    λ number below. ap (λ flags. waits_at flags.items number) c.take_number.ensures.waits ∙ calm number below in
    let told = ap (λ list. list.items) c.take_number.ensures.told in
    let as_many = ap (λ flags. length flags.items) c.take_number.ensures.waits in
    let atoms = ap (λ list. length list.items) c.scenarios.invariant.atoms in
    record {
      seen = parts_wait c.args.program.now c.args.store.now.box k.parts _ refl refl (λ number. told_alike (touches c.args.program.now k.parts.atoms.items) number k.parts.outdated c.take_number.new.self c.take_number.ensures.waits told) (told ∙ c.scenarios.invariant.seen.clean) c.scenarios.invariant.seen.keeps;
      calm = λ number below. still number (omega (arith, below, atoms, c.scenarios.invariant.waits, c.requires.one_each.waits));
      listed = none_waits new (λ number below. still number (omega (arith, below, as_many)));
      atoms = c.scenarios.invariant.atoms;
      ends = c.scenarios.invariant.ends;
      waits = as_many ∙ c.scenarios.invariant.waits;
    }
