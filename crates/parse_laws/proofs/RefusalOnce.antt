-- A text that is not read is refused by one code at one place.
use Rattle.std.proofs.Common.{◌≡◌, List, length, Result, Ok, Err, sym, subst}
use Rattle.sopl_base.specs.declared.fault.Refusal.{Refusal}
use Rattle.sopl_ast.specs.declared.token.Token.{Token}
use Rattle.sopl_lex.proofs.Meet.{lexes_one}
use Rattle.sopl_ast.specs.Misspelled.{IsMisspelled}
use Rattle.parse_laws.proofs.PrefixOnce.{misspelled_once}
use Rattle.parse_laws.specs.RefusalLaws.{no_tokens, misspelled, OneRefusal}

abbrev pub lexed : List Token → Result (List Token) Refusal
lexed tokens = Ok tokens

abbrev unlexed : Refusal → Result (List Token) Refusal
unlexed refusal = Err refusal

pub same_tokens : (a b : List Token) → lexed a ≡ lexed b → a ≡ b
same_tokens a b e = cc

same_refusal : (a b : Refusal) → unlexed a ≡ unlexed b → a ≡ b
same_refusal a b e = cc

never_both : (r : Refusal) (b : List Token) → unlexed r ≡ lexed b → ⊥
never_both r b e = cc

pub one_refusal : OneRefusal
one_refusal text a b (no_tokens one) (no_tokens two) = same_refusal a b (lexes_one text (Err a) (Err b) one two)
one_refusal text a b (no_tokens one) (misspelled tokens two wrong) = absurd (never_both a tokens (lexes_one text (Err a) (Ok tokens) one two))
one_refusal text a b (misspelled tokens one wrong) (no_tokens two) = absurd (never_both b tokens (lexes_one text (Err b) (Ok tokens) two one))
one_refusal text a b (misspelled tokens one wrong) (misspelled others two error) =
    misspelled_once (length text) tokens a b wrong
    (subst (λ l. IsMisspelled (length text) l b) (sym (same_tokens tokens others (lexes_one text (Ok tokens) (Ok others) one two))) error)
