-- How tokens are read where none is missing, by the number of openings that are left.
use Rattle.std.proofs.Common.{◌≡◌, ℕ, zero, suc, ◌-◌, ◌<◌, false, Ok, Err, refl, sym, ap, List, arith}
use Rattle.sopl_ast.specs.declared.token.Token.{Token}
use Rattle.parse_grammar.specs.Reading.{Depth}
use Rattle.parse_grammar.specs.Phrases.{way, inner_of, deeper}

-- no opening is left
pub inside_none : (n : ℕ) (ts : List Token) → n ≡ 0 → deeper false n ts ≡ Err (Depth ts)
unfolding deeper
inside_none zero ts h = refl
inside_none (suc n) ts h = absurd (omega (arith, h))

-- one opening fewer is left inside
pub inside_some : (n : ℕ) (ts : List Token) → 0 < n → deeper false n ts ≡ Ok (inner_of (way false (n - 1)))
unfolding deeper
inside_some zero ts h = absurd (omega (arith, h))
inside_some (suc n) ts h =
    let e : suc n - 1 ≡ n = omega arith in
    ap (λ m. Ok (inner_of (way false m))) (sym e)

pub ruleset ways = (inside_none, inside_some)
