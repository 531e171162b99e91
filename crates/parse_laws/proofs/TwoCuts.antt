-- Two ways to cut one list in two.
use Rattle.std.proofs.Common.{◌≡◌, ◌∙◌, refl, sym, ap, List, [], ◌∷◌, ◌++◌}
use Rattle.sopl_ast.specs.declared.token.Token.{Token}

-- at one place, or one before the other
pub data TwoCuts (a b c d : List Token) : Type 0 where
  at_one : a ≡ c → b ≡ d → TwoCuts a b c d
  sooner : (u : Token) (us : List Token) → c ≡ a ++ u ∷ us → b ≡ u ∷ us ++ d → TwoCuts a b c d
  later : (u : Token) (us : List Token) → a ≡ c ++ u ∷ us → d ≡ u ∷ us ++ b → TwoCuts a b c d

-- a token before both
cuts_behind : (u v : Token) (a b c d : List Token) → u ≡ v → TwoCuts a b c d → TwoCuts (u ∷ a) b (v ∷ c) d
cuts_behind u v a b c d same (at_one one two) = at_one (ap (λ x. x ∷ a) same ∙ ap (λ l. v ∷ l) one) two
cuts_behind u v a b c d same (sooner w ws one two) = sooner w ws (ap (λ l. v ∷ l) one ∙ ap (λ x. x ∷ (a ++ w ∷ ws)) (sym same)) two
cuts_behind u v a b c d same (later w ws one two) = later w ws (ap (λ l. u ∷ l) one ∙ ap (λ x. x ∷ (c ++ w ∷ ws)) same) two

pub same_first : (u v : Token) (us vs : List Token) → u ∷ us ≡ v ∷ vs → u ≡ v
same_first u v us vs e = cc

same_rest : (u v : Token) (us vs : List Token) → u ∷ us ≡ v ∷ vs → us ≡ vs
same_rest u v us vs e = cc

pub two_cuts : (a b c d : List Token) → a ++ b ≡ c ++ d → TwoCuts a b c d
two_cuts [] b [] d e = at_one refl e
two_cuts [] b (v ∷ vs) d e = sooner v vs refl e
two_cuts (u ∷ us) b [] d e = later u us refl (sym e)
two_cuts (u ∷ us) b (v ∷ vs) d e =
    cuts_behind u v us b vs d (same_first u v (us ++ b) (vs ++ d) e) (two_cuts us b vs d (same_rest u v (us ++ b) (vs ++ d) e))
