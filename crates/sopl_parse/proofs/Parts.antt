-- A chance constraint is read as its parts, one behind the other.
use Rattle.std.proofs.Common.{◌≡◌, List, Ok, sym, ◌∙◌}
use Rattle.sopl_ast.specs.declared.token.Token.{Token}
use Rattle.sopl_ast.specs.Tree.{Tree}
use Rattle.sopl_ast.specs.Whole.{ConsTree, ChanceTree}
use Rattle.parse_grammar.specs.declared.marks.Mark.TheVariants as m
use Rattle.parse_grammar.specs.Reading.{Read, Way, ◌>>=◌, past, enter}
use Rattle.parse_grammar.specs.Expressions.{no_tree, sum}
use Rattle.parse_grammar.specs.Phrases.{chance}
use Rattle.parse_exprs.proofs.Grouped.{grouped, then_same}
use Rattle.sopl_parse.specs.Parts.{condition, share}

-- a chance constraint from its probability and its end
abbrev pub with_share : Way → Tree × List Token → Read ConsTree
with_share w x = do
  (pq, after) ← share w x.1
  Ok (ChanceTree x.0 pq.0 pq.1, after)

-- its probability is read as its parts are
shared : (w : Way) (e : Tree) (ts : List Token)
    → (sum w ts >>= (λ p. past w m.Slash p.1 >>= (λ behind. sum w behind >>= (λ q. past w m.Semi q.1 >>= (λ after. Ok (ChanceTree e p.0 q.0, after))))))
    ≡ with_share w (e, ts)
unfolding share
shared w e ts = sym (
    grouped (sum w ts) _ _
    ∙ then_same (sum w ts) _ _ (λ p. grouped (past w m.Slash p.1) _ _
    ∙ then_same (past w m.Slash p.1) _ _ (λ behind. grouped (sum w behind) _ _
    ∙ then_same (sum w behind) _ _ (λ q. grouped (past w m.Semi q.1) _ _))))

-- a chance constraint is its condition, and then its probability
pub chance_parts : (w : Way) (ts : List Token) → chance w ts ≡ (condition w ts >>= with_share w)
unfolding chance condition
chance_parts w ts = sym (
    grouped (enter w m.ParenOpen no_tree (λ inner. inner.expression) ts) _ _
    ∙ then_same (enter w m.ParenOpen no_tree (λ inner. inner.expression) ts) _ _ (λ e. grouped (past w m.ParenClose e.1) _ _
    ∙ then_same (past w m.ParenClose e.1) _ _ (λ behind. grouped (past w m.GreaterEq behind) _ _
    ∙ then_same (past w m.GreaterEq behind) _ _ (λ last. sym (shared w e.0 last)))))
