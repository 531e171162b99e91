-- What a function value that reads the levels below may be asked, and what it answers.
use Rattle.std.proofs.Common.{◌<◌, ◌≤◌, ◌+◌, ℕ, List, Result, false, arith}
use Rattle.std.specs.declared.alloc.Global.{Global}
use denote.Ref.{Bor}
use Rattle.sopl_ast.specs.declared.token.Token.{Token}
use Rattle.sopl_ast.specs.Tree.{Tree}
use Rattle.parse_grammar.specs.Phrases.{way}
use Rattle.parse_exprs.specs.ReaderAnswers.{Answers}
use Rattle.parse_exprs.specs.Nests.{Nests, nests, asked}
use Rattle.parse_exprs.specs.declared.reader.Ask.{Ask}
use Rattle.parse_exprs.specs.declared.reader.ParseStop.{ParseStop}

-- what is said of the levels below a number is said of those below a lesser one
pub fewer : {pre : Global → ℕ → Ask → Bor (List Token) → Type 0} {post : Global → ℕ → Ask → Bor (List Token) → Result (Tree × Bor (List Token)) ParseStop → Type 0}
    (m n : ℕ) → m ≤ n → Nests n pre post → Nests m pre post
fewer m n less (nests callable reads) =
    nests (λ alloc k a tokens h. callable alloc k a tokens (omega (arith, h, less)))
    (λ alloc k a tokens r h. reads alloc k a tokens r (omega (arith, h, less)))

-- it may be called
pub callable : {pre : Global → ℕ → Ask → Bor (List Token) → Type 0} {post : Global → ℕ → Ask → Bor (List Token) → Result (Tree × Bor (List Token)) ParseStop → Type 0}
    (alloc : Global) (n : ℕ) (a : Ask) (tokens : Bor (List Token)) → Nests (n + 1) pre post → pre alloc n a tokens
callable alloc n a tokens (nests call reads) = call alloc n a tokens (omega arith)

-- it answers what is asked for
pub answered : {pre : Global → ℕ → Ask → Bor (List Token) → Type 0} {post : Global → ℕ → Ask → Bor (List Token) → Result (Tree × Bor (List Token)) ParseStop → Type 0}
    (alloc : Global) (n : ℕ) (a : Ask) (tokens : Bor (List Token)) (r : Result (Tree × Bor (List Token)) ParseStop) → Nests (n + 1) pre post → post alloc n a tokens r
    → Answers (λ x. (x.0, x.1.now)) r (asked a (way false n) tokens.now)
answered alloc n a tokens r (nests call reads) h = reads alloc n a tokens r (omega arith) h

pub ruleset nesting = (fewer, callable, answered)
