-- The loop goes on as the chain of its parts does, whatever reads the next part.
use Rattle.std.proofs.Common.{◌≡◌, ◌-◌, length, option_map}
use Rattle.parse_grammar.specs.Reading.{Next, chain}
use Rattle.parse_exprs.specs.ReaderAnswers.{Answers}
use Rattle.parse_exprs.proofs.chains.chain.Given as goal

abbrev pub invariant-parts : goal.invariant-parts
invariant-parts g l =
    (reads : Next g.L.Parts.Shown)
    → ((ts : _) (r : _) → goal.N-post g l.next ts r → Answers (λ x. (option_map g.L.Parts.shown x.0, x.1.now)) r (reads ts.now))
    → chain reads (length l.tokens - l._turn) (g.L.Parts.listed l.parts) l.left ≡ chain reads (length l.tokens) (g.L.Parts.listed l.fn.parts) l.tokens
