use Rattle.std.proofs.Common.{arith, rules, ◌≡◌, sym, subst, ◌∙◌, pos, ◌≤ℤ◌, true, false, [], ◌∷◌, ◌++◌, get_or, slice_get, Some}
use Rattle.std.proofs.lemmas.Option.{slice_get-get_or}
use Rattle.sopl_ast.specs.Instances.{Chance}
use Rattle.policy_eval.specs.Reports.{IsReport}
use Rattle.policy_eval.specs.Tried.{policy_of, posed}
use Rattle.policy_eval.proofs.Compared.{reached_by, reached_not}
use Rattle.policy_eval.proofs.Trials.{chance_fails, reached_is, sofar_all, sofar_more, sum_between, weight_is}
use Rattle.policy_eval.proofs.trial.Trial.chances.Goals as goal

pub is_reached-requires-clause-low : goal.is_reached-requires-clause-low
is_reached-requires-clause-low c =
    subst (λ z. pos 0 ≤ℤ z) (sym c.in_ok-sum.ensures.sum)
    (sum_between c.args.self.now c.requires.tried _).from_low

pub is_reached-requires-clause-high : goal.is_reached-requires-clause-high
is_reached-requires-clause-high c =
    subst (λ z. z ≤ℤ c.args.self.now.tree.now.total) (sym c.in_ok-sum.ensures.sum)
    (sum_between c.args.self.now c.requires.tried _).to_high

pub returns-then-not-is_reached : goal.returns-then-not-is_reached
returns-then-not-is_reached c =
    let d : Chance = get_or c.args.self.now.chances.now c.chances.instance c.index-self-instance.result in
    let at : slice_get c.args.self.now.chances.now c.chances.instance ≡ Some d =
    slice_get-get_or c.args.self.now.chances.now c.chances.instance c.index-self-instance.result c.chances-test.true in
    let is = c.in_ok-sum.ensures.sum ∙ weight_is c.args.self.now c.requires.tried d in
    let failed : c.is_reached.result ≡ false = search rules in
    record {
      told = subst (IsReport (posed c.args.self.now) (policy_of c.args.self.now)) (sym c.unreached.ensures.told)
          (chance_fails c.args.self.now c.requires.tried c.chances.instance d c.in_ok-sum.sum.value c.chances.sums.items c.requires.held at is
          (reached_not c.is_reached.result _ _ c.is_reached.ensures.reached (reached_is c.args.self.now c.requires.tried d c.in_ok-sum.sum.value is) failed) c.chances.invariant);
    }

pub chances-preserved : goal.chances-preserved
chances-preserved c =
    let d : Chance = get_or c.args.self.now.chances.now c.chances.instance c.index-self-instance.result in
    let at : slice_get c.args.self.now.chances.now c.chances.instance ≡ Some d =
    slice_get-get_or c.args.self.now.chances.now c.chances.instance c.index-self-instance.result c.chances-test.true in
    let is = c.in_ok-sum.ensures.sum ∙ weight_is c.args.self.now c.requires.tried d in
    let met : c.is_reached.result ≡ true = search rules in
    let put : c.put.new.sums.items ≡ c.chances.sums.items ++ c.in_ok-sum.sum.value ∷ [] = search rules in
    sofar_more c.args.self.now c.requires.tried c.chances.instance c.chances.sums.items c.put.new.sums.items d c.in_ok-sum.sum.value at is
    (reached_by c.is_reached.result _ _ c.is_reached.ensures.reached (reached_is c.args.self.now c.requires.tried d c.in_ok-sum.sum.value is) met) put c.chances.invariant

pub returns : goal.returns
returns c = record { told = sofar_all c.args.self.now c.requires.tried c.chances.instance c.chances.sums.items (omega (arith, c.chances-test.false)) c.chances.invariant }
