-- A function value that reads what is asked of it, at each level below a number. It is no record: the search for proofs would open it in
-- each phrase, and a phrase only hands it on.
use Rattle.std.specs.Prelude.{ℕ, ◌<◌, List, Result, false}
use Rattle.std.specs.declared.alloc.Global.{Global}
use denote.Ref.{Bor}
use Rattle.sopl_ast.specs.declared.token.Token.{Token}
use Rattle.sopl_ast.specs.Tree.{Tree}
use Rattle.parse_grammar.specs.Expressions as phrase
use Rattle.parse_grammar.specs.Phrases.{way}
use Rattle.parse_grammar.specs.Reading.{Read, Way}
use Rattle.parse_exprs.specs.ReaderAnswers.{Answers}
use Rattle.parse_exprs.specs.declared.reader.Ask.{Ask}
use Rattle.parse_exprs.specs.declared.reader.Ask.TheVariants as ask
use Rattle.parse_exprs.specs.declared.reader.ParseStop.{ParseStop}

-- the phrase that is asked for
abbrev pub asked : Ask → Way → List Token → Read Tree
asked ask.Expression w ts = phrase.expression w ts
asked ask.Negation w ts = phrase.negation w ts
asked ask.Sum w ts = phrase.sum w ts
asked ask.Product w ts = phrase.product w ts
asked ask.Operand w ts = phrase.operand w ts

-- at each level below this number it may be called, and it answers the phrase that is asked for
pub data Nests (levels : ℕ) (pre : Global → ℕ → Ask → Bor (List Token) → Type 0)
    (post : Global → ℕ → Ask → Bor (List Token) → Result (Tree × Bor (List Token)) ParseStop → Type 0) : Type 0 where
  nests : ((alloc : Global) (n : ℕ) (a : Ask) (tokens : Bor (List Token)) → n < levels → pre alloc n a tokens)
      → ((alloc : Global) (n : ℕ) (a : Ask) (tokens : Bor (List Token)) (r : Result (Tree × Bor (List Token)) ParseStop) → n < levels
      → post alloc n a tokens r → Answers (λ x. (x.0, x.1.now)) r (asked a (way false n) tokens.now))
      → Nests levels pre post
