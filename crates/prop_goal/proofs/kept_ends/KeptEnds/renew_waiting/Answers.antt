use Rattle.std.proofs.Common.{◌≡◌, ◌<◌, ◌∙◌, ap, arith, false, length, refl, rules, subst, sym, true}
use Rattle.prop_chance.proofs.Outdating.{listed_calm, told_alike}
use Rattle.prop_goal.specs.KeptParts.{KeepsPartEnds, touches}
use Rattle.prop_goal.specs.KeptEnds.{IsEndSummed}
use Rattle.prop_goal.proofs.KeptParts.{parts_more, parts_wait}
use Rattle.prop_goal.proofs.kept_ends.KeptEnds.renew_waiting.Goals as goal

pub returns-then-not-has_waiting-clause-listed : goal.returns-then-not-has_waiting-clause-listed
returns-then-not-has_waiting-clause-listed c =
    let calm : c.has_waiting.result ≡ false = search rules in
    listed_calm c.args.self.now.parts.outdated c.args.number (c.has_waiting.ensures.calm calm)

pub renew-requires-clause-exists : goal.renew-requires-clause-exists
renew-requires-clause-exists c =
    let waiting : c.has_waiting.result ≡ true = search rules in
    omega (arith, c.has_waiting.ensures.exists waiting, c.requires.one_each.waits)

pub returns-then-not-renew-clause-seen : goal.returns-then-not-renew-clause-seen
returns-then-not-renew-clause-seen c =
    let program = c.args.program.now in
    let b = c.args.store.now.box in
    let k = c.renew.new.self in
    let failed : c.renew.result ≡ false = search rules in
    let same = c.renew.ensures.unset failed in
    let told = ap (λ list. list.items) c.unlist.ensures.told in
    record {
      parts = parts_wait program b k.parts _ refl refl (λ number. told_alike (touches program k.parts.atoms.items) number k.parts.outdated c.unlist.new.self c.unlist.ensures.waits told) (told ∙ (ap (λ x. x.parts.outdated.told.items) same ∙ c.requires.seen.parts.clean)) (subst (λ x. KeepsPartEnds program b x.parts) (sym same) c.requires.seen.parts.keeps);
      summed = subst (λ x. IsEndSummed program x) (sym same) c.requires.seen.summed;
    }

pub returns-clause-seen : goal.returns-clause-seen
returns-clause-seen c =
    let waiting : c.has_waiting.result ≡ true = search rules in
    let exists : c.args.number < length c.args.self.now.parts.atoms.items = omega (arith, c.has_waiting.ensures.exists waiting, c.requires.one_each.waits) in
    let renewed = c.if-not-renew.ensures.renewed in
    record {
      parts = parts_more c.args.program.now c.args.store.now.box c.args.number c.args.self.now.parts c.renew.new.self.parts renewed.told exists c.requires.one_each renewed.put renewed.seen c.requires.seen.parts;
      summed = c.if-not-renew.ensures.summed c.args.program.now c.requires.seen.summed;
    }

pub returns-clause-listed : goal.returns-clause-listed
returns-clause-listed c = c.if-not-renew.ensures.renewed.put.listed

pub returns-clause-left : goal.returns-clause-left
returns-clause-left c = c.if-not-renew.ensures.renewed.put.left
