-- The loop goes on as the chain of its parts does, and ends as it does.
use Rattle.std.proofs.Common.{◌≡◌, None, Some, Ok, [], ◌∷◌, ◌++◌, arith, rules}
use Rattle.std.proofs.lemmas.Result.{err_from_is_err_and}
use Rattle.parse_exprs.proofs.Turns.{chain_kept, chain_refused, chain_stopped, chain_over}
use Rattle.parse_exprs.proofs.Faults.{fails_on}
use Rattle.parse_grammar.specs.Reading.{chain}
use Rattle.std.proofs.Common.{length}
use Rattle.parse_exprs.proofs.chains.chain.Goals as goal
use Rattle.parse_exprs.proofs.chains.chain.Goals.{else-parts-test, then-parts-test+in_ok-part+in_default}

pub parts-preserved : goal.parts-preserved
parts-preserved g c = λ reads h.
    let is = h _ _ c.in_ok-part.ensures in
    let found : reads c.parts.left.now ≡ Ok (Some (g.L.Parts.shown c.in-Some.part), c.in_ok-part.behind.now) = first_of (search rules, grind arith) in
    let pushed : g.L.Parts.listed c.add.new.self ≡ g.L.Parts.listed c.parts.parts ++ g.L.Parts.shown c.in-Some.part ∷ [] = first_of (search rules, grind arith) in
    chain_kept reads _ c.parts._turn _ _ _ _ _ _ c.parts-test.true found pushed (c.parts.invariant reads h)

pub returns-in_err-part : goal.returns-in_err-part
returns-in_err-part g c = λ reads h.
    let p = err_from_is_err_and c.from_residual.result c.from_residual.ensures.1 in
    rw (p.1, p.2) (fails_on c.in_err-part.field-0.0 (reads c.parts.left.now) (chain reads (length c.args.tokens.now) (g.L.Parts.listed c.args.parts) c.args.tokens.now)
    (λ stop e. chain_refused _ _ _ _ _ _ _ c.parts-test.true e (c.parts.invariant reads h))
    (h _ _ c.in_err-part.ensures))

pub returns : goal.returns
returns g c = λ reads h.
    elim c.parts-test.branch [
      | else-parts-test w ↦
          let over = chain_over _ _ _ _ _ _ w.parts-test.false (c.parts.invariant reads h) in first_of (search rules, grind arith)
      | then-parts-test+in_ok-part+in_default w ↦
          let is = h _ _ w.in_ok-part.ensures in
          let none : reads c.parts.left.now ≡ Ok (None, c.parts-test.left.now) = first_of (search rules, grind arith) in
          let over = chain_stopped _ _ _ _ _ _ _ w.parts-test.true none (c.parts.invariant reads h) in first_of (search rules, grind arith)
    ]
