use Rattle.std.proofs.Common.{◌≡◌, ◌∙◌, rules, sym, true}
use Rattle.std.specs.Cmp.Rules.{signed_items}
use Rattle.answer_tests.proofs.Roots.{same_box}
use Rattle.answer_tests.proofs.answer_check_logs.log_check_other_programs.is_same_box.Goals as goal

pub returns : goal.returns
returns c = record {
  same = λ is.
      let met : c.eq-lows.result ≡ true = search rules in
      let lows = (signed_items c.lows.result.now c.lows-2.result.now).0 (sym c.eq-lows.ensures ∙ met) in
      let highs = (signed_items c.highs.result.now c.highs-2.result.now).0 (sym c.eq.ensures ∙ is) in
      same_box c.args.one.now.box c.args.other.now.box (sym c.lows.ensures ∙ (lows ∙ c.lows-2.ensures)) (sym c.highs.ensures ∙ (highs ∙ c.highs-2.ensures));
}
