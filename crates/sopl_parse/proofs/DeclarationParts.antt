-- A long declaration is read as its parts, one behind the other.
use Rattle.std.proofs.Common.{◌≡◌, List, Ok, sym, ◌∙◌}
use Rattle.sopl_ast.specs.declared.token.Token.{Token}
use Rattle.sopl_ast.specs.Whole.{IntDecl, DvarDecl, StochDecl}
use Rattle.parse_grammar.specs.declared.marks.Mark.TheVariants as m
use Rattle.parse_grammar.specs.Reading.{Way, ◌>>=◌, past, name}
use Rattle.parse_grammar.specs.Expressions.{range}
use Rattle.parse_grammar.specs.Phrases.{integer, dims, init, decision, stochastic, variable, distribution, stage}
use Rattle.parse_exprs.proofs.Grouped.{grouped, then_same}
use Rattle.sopl_parse.specs.DeclarationParts.{assigned, staged}

-- an `int` is its name, its dimensions, and then its value
pub integer_parts : (w : Way) (ts : List Token) → integer w ts
    ≡ (name w ts >>= (λ n. dims w n.1 >>= (λ d. assigned w d.1 >>= (λ v. Ok (IntDecl n.0.0 n.0.1 d.0 v.0, v.1)))))
unfolding integer assigned
integer_parts w ts =
    then_same (name w ts) _ _ (λ n.
    then_same (dims w n.1) _ _ (λ d. sym (
    grouped (past w m.Assign d.1) _ _
    ∙ then_same (past w m.Assign d.1) _ _ (λ left. grouped (init w left) _ _
    ∙ then_same (init w left) _ _ (λ v. grouped (past w m.Semi v.1) _ _)))))

-- a decision is its name and dimensions, its range, and then its stage
pub decision_parts : (w : Way) (ts : List Token) → decision w ts
    ≡ (variable w ts >>= (λ v. range w v.1 >>= (λ over. staged w over.1 >>= (λ s. Ok (DvarDecl v.0.0.0 v.0.0.1 v.0.1 over.0 s.0, s.1)))))
unfolding decision staged
decision_parts w ts =
    then_same (variable w ts) _ _ (λ v.
    then_same (range w v.1) _ _ (λ over. sym (
    grouped (stage w over.1) _ _
    ∙ then_same (stage w over.1) _ _ (λ s. grouped (past w m.Semi s.1) _ _))))

-- a stochastic variable is its name and dimensions, its distribution, and then its stage
pub stochastic_parts : (w : Way) (ts : List Token) → stochastic w ts
    ≡ (variable w ts >>= (λ v. distribution w v.1 >>= (λ found. staged w found.1 >>= (λ s. Ok (StochDecl v.0.0.0 v.0.0.1 v.0.1 found.0 s.0, s.1)))))
unfolding stochastic staged
stochastic_parts w ts =
    then_same (variable w ts) _ _ (λ v.
    then_same (distribution w v.1) _ _ (λ found. sym (
    grouped (stage w found.1) _ _
    ∙ then_same (stage w found.1) _ _ (λ s. grouped (past w m.Semi s.1) _ _))))
