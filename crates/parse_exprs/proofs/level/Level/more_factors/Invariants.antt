-- The loop goes on as the chain of its items does.
use Rattle.std.proofs.Common.{◌≡◌, ◌-◌, false, length, [], ◌∷◌}
use Rattle.parse_grammar.specs.Reading.{chain}
use Rattle.parse_grammar.specs.Expressions as phrase
use Rattle.parse_grammar.specs.Phrases.{way}
use Rattle.parse_exprs.proofs.level.Level.more_factors.Given as goal

abbrev pub invariant-parts : goal.invariant-parts
invariant-parts g l =
    (chain (phrase.next_factor (way false l.self.here.depth)) (length l.tokens - l._turn) l.parts.others l.left
    ≡ chain (phrase.next_factor (way false l.self.here.depth)) (length l.tokens) (l.fn.second ∷ []) l.tokens) × (l.parts.first ≡ l.fn.first)
