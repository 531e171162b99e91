-- The loop goes on as the chain of its items does, and ends as it does.
use Rattle.std.proofs.Common.{◌≡◌, None, Some, Ok, false, [], ◌∷◌, ◌++◌, arith, rules}
use Rattle.std.proofs.lemmas.Result.{err_from_is_err_and}
use Rattle.parse_grammar.specs.Expressions as phrase
use Rattle.parse_grammar.specs.Phrases.{way}
use Rattle.parse_exprs.proofs.Turns.{chain_kept, chain_refused, chain_stopped, chain_over}
use Rattle.parse_exprs.proofs.Faults.{fails_on}
use Rattle.parse_exprs.proofs.level.Level.more_factors.Goals as goal
use Rattle.parse_exprs.proofs.level.Level.more_factors.Goals.{else-parts-test, then-parts-test+in_ok-part+in_default}

pub parts-preserved : goal.parts-preserved
parts-preserved g c =
    let next = phrase.next_factor (way false c.args.self.now.here.depth) in
    let found : next c.parts.left.now ≡ Ok (Some c.in-Some.part, c.in_ok-part.behind.now) = first_of (search rules, grind arith) in
    let pushed : c.push-in-parts.new.self.others ≡ c.parts.parts.others ++ c.in-Some.part ∷ [] = first_of (search rules, grind arith) in
    let first : c.push-in-parts.new.self.first ≡ c.args.first = first_of (search rules, grind arith) in
    (chain_kept next _ c.parts._turn _ _ _ _ _ _ c.parts-test.true found pushed c.parts.invariant.0, first)

pub returns-in_err-part : goal.returns-in_err-part
unfolding phrase.more_factors
returns-in_err-part g c =
    let p = err_from_is_err_and c.from_residual-in_err-part.result c.from_residual-in_err-part.ensures.1 in
    rw (p.1, p.2) (fails_on c.in_err-part.field-0.0 (phrase.next_factor (way false c.args.self.now.here.depth) c.parts.left.now)
    (phrase.more_factors (way false c.args.self.now.here.depth) c.args.first c.args.second c.args.tokens.now)
    (λ stop e. let over = chain_refused _ _ _ _ _ _ _ c.parts-test.true e c.parts.invariant.0 in first_of (search rules, grind arith))
    c.in_err-part.ensures)

pub returns : goal.returns
unfolding phrase.more_factors
returns g c =
    elim c.parts-test.branch [
      | else-parts-test w ↦
          let over = chain_over _ _ _ _ _ _ w.parts-test.false c.parts.invariant.0 in first_of (search rules, grind arith)
      | then-parts-test+in_ok-part+in_default w ↦
          let next = phrase.next_factor (way false c.args.self.now.here.depth) in
          let none : next c.parts.left.now ≡ Ok (None, c.parts-test.left.now) = first_of (search rules, grind arith) in
          let over = chain_stopped _ _ _ _ _ _ _ w.parts-test.true none c.parts.invariant.0 in first_of (search rules, grind arith)
    ]
