-- How a loop over the items of a chain goes on, and how it ends.
use Rattle.std.proofs.Common.{◌≡◌, ℕ, zero, suc, ◌+◌, ◌-◌, ◌<◌, ◌≤◌, List, [], ◌∷◌, ◌++◌, Option, Some, None, Ok, Err, sym, ap, ◌∙◌, arith}
use Rattle.sopl_ast.specs.declared.token.Token.{Token}
use Rattle.parse_grammar.specs.Reading.{Stop, Read, Next, ◌>>=◌, chain, chain_on}

-- what follows is settled by what is read next
pub chain_step : {A : Type 0} (next : Next A) (fuel : ℕ) (found : List A) (ts : List Token) (item : Read (Option A)) → next ts ≡ item
    → chain next (suc fuel) found ts ≡ (item >>= (λ x. chain_on (λ more left. chain next fuel more left) found x.1 x.0))
unfolding chain
chain_step next fuel found ts item e = ap (λ r. r >>= (λ x. chain_on (λ more left. chain next fuel more left) found x.1 x.0)) e

-- a turn that finds an item
pub chain_kept : {A : Type 0} (next : Next A) (n turn : ℕ) (found more : List A) (ts left : List Token) (item : A) (whole : Read (List A))
    → turn < n → next ts ≡ Ok (Some item, left) → more ≡ found ++ item ∷ [] → chain next (n - turn) found ts ≡ whole
    → chain next (n - (turn + 1)) more left ≡ whole
chain_kept next n turn found more ts left item whole below e pushed h =
    let on : n - turn ≡ suc (n - (turn + 1)) = omega arith in
    ap (λ items. chain next (n - (turn + 1)) items left) pushed
    ∙ sym (chain_step next (n - (turn + 1)) found ts (Ok (Some item, left)) e)
    ∙ ap (λ fuel. chain next fuel found ts) (sym on) ∙ h

-- a turn that finds no item
pub chain_stopped : {A : Type 0} (next : Next A) (n turn : ℕ) (found : List A) (ts left : List Token) (whole : Read (List A))
    → turn < n → next ts ≡ Ok (None, left) → chain next (n - turn) found ts ≡ whole → whole ≡ Ok (found, left)
chain_stopped next n turn found ts left whole below e h =
    let on : n - turn ≡ suc (n - (turn + 1)) = omega arith in
    sym h ∙ ap (λ fuel. chain next fuel found ts) on ∙ chain_step next (n - (turn + 1)) found ts (Ok (None, left)) e

-- a turn that is refused
pub chain_refused : {A : Type 0} (next : Next A) (n turn : ℕ) (found : List A) (ts : List Token) (stop : Stop) (whole : Read (List A))
    → turn < n → next ts ≡ Err stop → chain next (n - turn) found ts ≡ whole → whole ≡ Err stop
chain_refused next n turn found ts stop whole below e h =
    let on : n - turn ≡ suc (n - (turn + 1)) = omega arith in
    sym h ∙ ap (λ fuel. chain next fuel found ts) on ∙ chain_step next (n - (turn + 1)) found ts (Err stop) e

-- all turns are over
pub chain_over : {A : Type 0} (next : Next A) (n turn : ℕ) (found : List A) (ts : List Token) (whole : Read (List A))
    → n ≤ turn → chain next (n - turn) found ts ≡ whole → whole ≡ Ok (found, ts)
unfolding chain
chain_over next n turn found ts whole over h =
    let none : n - turn ≡ zero = omega arith in
    sym h ∙ ap (λ fuel. chain next fuel found ts) none
