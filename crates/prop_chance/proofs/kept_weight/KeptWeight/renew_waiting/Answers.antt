use Rattle.std.proofs.Common.{◌≡◌, ◌<◌, arith, false, length, refl, rules, subst, true, ℕ}
use Rattle.term_program.specs.Programs.{problem_in, root_in}
use Rattle.prop_shave.specs.ChanceSums.{truth_over}
use Rattle.prop_chance.specs.KeptWeights.{IsTruthSet}
use Rattle.prop_chance.proofs.KeptWeights.{seen_more}
use Rattle.prop_chance.proofs.Outdating.{listed_calm}
use Rattle.prop_chance.proofs.kept_weight.KeptWeight.renew_waiting.Goals as goal

pub returns-then-not-has_waiting-clause-listed : goal.returns-then-not-has_waiting-clause-listed
returns-then-not-has_waiting-clause-listed c =
    let calm : c.has_waiting.result ≡ false = search rules in
    listed_calm c.args.self.now.outdated c.args.number (c.has_waiting.ensures.calm calm)

pub scenario_numbered-scenario-requires-clause-exists : goal.scenario_numbered-scenario-requires-clause-exists
scenario_numbered-scenario-requires-clause-exists c =
    let waiting : c.has_waiting.result ≡ true = search rules in
    omega (arith, c.has_waiting.ensures.exists waiting, c.requires.waits)

pub returns-clause-seen : goal.returns-clause-seen
returns-clause-seen c =
    let waiting : c.has_waiting.result ≡ true = search rules in
    let exists : c.args.number < length (problem_in c.args.program.now).weights = omega (arith, c.has_waiting.ensures.exists waiting, c.requires.waits) in
    seen_more (root_in c.args.program.now) c.args.store.now.box (problem_in c.args.program.now) c.args.instance c.args.number c.args.self.now c.renew.new.self _ exists c.requires.room
    (subst (λ (n : ℕ). IsTruthSet (problem_in c.args.program.now) c.args.self.now c.renew.new.self n
    (truth_over (root_in c.args.program.now) (problem_in c.args.program.now) c.args.instance c.args.store.now.box n)) c.scenario_numbered-scenario.ensures c.if-not-renew.ensures.set)
    refl refl c.wait_no_more.ensures.told c.wait_no_more.ensures.waits c.requires.seen
