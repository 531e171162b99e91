-- The names among the tokens of a text have the form of names.
use Rattle.std.proofs.Common.{◌≡◌, ℕ, Bool, true, false, not, List, [], ◌∷◌, ◌++◌, length, Option, Some, None, refl, sym, ap, subst, ◌∙◌, unwrap_or, option_map, if◌then◌else◌, pos}
use Rattle.std.specs.List.{AllByRecursion, list_all}
use Rattle.std.proofs.lemmas.Bool.{and_parts}
use Rattle.std.specs.Str.{bytes_eq}
use Rattle.sopl_base.proofs.Booleans.{not_true}
use Rattle.sopl_ast.specs.declared.token.Token.{Token}
use Rattle.sopl_ast.specs.declared.token.TokenKind.{TokenKind}
use Rattle.sopl_ast.specs.declared.token.TokenKind.TheVariants as k
use Rattle.sopl_ast.specs.Pieces.{Piece, Blank, Word, piece_of, is_word, is_literal, kind_in, keywords, symbols, decimal}
use Rattle.sopl_ast.specs.Tokens.{Cuts, start, next, token_of}
use Rattle.sopl_ast.specs.Origin.{HasForm, IsFromTokens}
use Rattle.sopl_ast.specs.Whole.{ModelTree}
use Rattle.sopl_ast.specs.Accepted.{IsTextOf}

-- whether a token is a name
abbrev is_name : TokenKind → Bool
is_name (k.Name bytes) = true
is_name _ = false

-- a row of a table of tokens is no name
abbrev no_name : List ℕ × TokenKind → Bool
no_name row = not (is_name row.1)

-- what a table without names gives is no name
kind_no_name : (bytes : List ℕ) (rows : List (List ℕ × TokenKind)) (kind : TokenKind) → list_all no_name rows ≡ true → kind_in bytes rows ≡ Some kind → is_name kind ≡ false
kind_no_name bytes [] kind all e = absurd (cc)
kind_no_name bytes (row ∷ rows) kind all e =
    by_row (bytes_eq bytes row.0) e (kind_no_name bytes rows kind (and_parts (no_name row) (list_all no_name rows) all).1)
  where
    parts : (no_name row ≡ true) × (list_all no_name rows ≡ true)
    parts = and_parts (no_name row) (list_all no_name rows) all

    by_row : (b : Bool) → (if b then Some row.1 else kind_in bytes rows) ≡ Some kind → (kind_in bytes rows ≡ Some kind → is_name kind ≡ false)
        → is_name kind ≡ false
    by_row true h later = let same : row.1 ≡ kind = cc in ap is_name (sym same) ∙ not_true (is_name row.1) parts.0
    by_row false h later = later h

keywords_no_name : list_all no_name keywords ≡ true
keywords_no_name = refl

symbols_no_name : list_all no_name symbols ≡ true
symbols_no_name = refl

-- a piece that is a name has the form of one
name_formed : (bytes name : List ℕ) → piece_of bytes ≡ Some (Word (k.Name name)) → is_word name ≡ true
name_formed bytes name e = by_blank _ e
  where
    by_symbol : (o : Option TokenKind) → kind_in bytes symbols ≡ o → option_map Word o ≡ Some (Word (k.Name name)) → is_word name ≡ true
    by_symbol None is h = absurd (cc)
    by_symbol (Some kind) is h =
        let same : kind ≡ k.Name name = cc in
        let clash = ap is_name (sym same) ∙ kind_no_name bytes symbols kind symbols_no_name is in absurd (cc)

    by_keyword : (o : Option TokenKind) → is_word bytes ≡ true → kind_in bytes keywords ≡ o → Some (Word (unwrap_or o (k.Name bytes))) ≡ Some (Word (k.Name name)) → is_word name ≡ true
    by_keyword None formed is h = let same : bytes ≡ name = cc in subst (λ b. is_word b ≡ true) same formed
    by_keyword (Some kind) formed is h =
        let same : kind ≡ k.Name name = cc in
        let clash = ap is_name (sym same) ∙ kind_no_name bytes keywords kind keywords_no_name is in absurd (cc)

    by_word : (b : Bool) → is_word bytes ≡ b
        → (if b then Some (Word (unwrap_or (kind_in bytes keywords) (k.Name bytes))) else option_map Word (kind_in bytes symbols)) ≡ Some (Word (k.Name name))
        → is_word name ≡ true
    by_word true is h = by_keyword (kind_in bytes keywords) is refl h
    by_word false is h = by_symbol (kind_in bytes symbols) refl h

    by_literal : (b : Bool)
        → (if b then Some (Word (k.Lit (pos (decimal bytes)))) else if is_word bytes then Some (Word (unwrap_or (kind_in bytes keywords) (k.Name bytes))) else option_map Word (kind_in bytes symbols))
        ≡ Some (Word (k.Name name))
        → is_word name ≡ true
    by_literal true h = absurd (cc)
    by_literal false h = by_word (is_word bytes) refl h

    by_blank : (b : Bool)
        → (if b then Some Blank else if is_literal bytes then Some (Word (k.Lit (pos (decimal bytes)))) else if is_word bytes then Some (Word (unwrap_or (kind_in bytes keywords) (k.Name bytes)))
        else option_map Word (kind_in bytes symbols)) ≡ Some (Word (k.Name name))
        → is_word name ≡ true
    by_blank true h = absurd (cc)
    by_blank false h = by_literal (is_literal bytes) h

-- the names of both lists have the form of names
both_formed : (a b : List Token) → AllByRecursion (λ token. HasForm token.kind) a → AllByRecursion (λ token. HasForm token.kind) b
    → AllByRecursion (λ token. HasForm token.kind) (a ++ b)
both_formed [] b first second = second
both_formed (u ∷ us) b first second = (first.0, both_formed us b first.1 second)

kind_formed : (bytes : List ℕ) (kind : TokenKind) → piece_of bytes ≡ Some (Word kind) → HasForm kind
kind_formed bytes (k.Name name) e = name_formed bytes name e
kind_formed bytes _ e = tt

piece_formed : (at : ℕ) (piece : Piece) (bytes : List ℕ) → piece_of bytes ≡ Some piece → AllByRecursion (λ token. HasForm token.kind) (token_of at piece bytes)
piece_formed at Blank bytes e = tt
piece_formed at (Word kind) bytes e = (kind_formed bytes kind e, tt)

-- the names among the tokens of a text have the form of names
pub names_formed : (text : List ℕ) (at : ℕ) (tokens : List Token) (rest : List ℕ) → Cuts text at tokens rest → AllByRecursion (λ token. HasForm token.kind) tokens
names_formed text _ _ _ start = tt
names_formed text _ _ _ (next at tokens rest piece bytes after cut begins) =
    both_formed tokens (token_of at piece bytes) (names_formed text at tokens rest cut) (piece_formed at piece bytes begins.form)

-- a model that a text spells comes from tokens
pub model_from_tokens : (text : List ℕ) (model : ModelTree) → IsTextOf text model → IsFromTokens model
model_from_tokens text model has =
    record { tokens = has.tokens; spelled = record { nesting = 64; spelled = has.spelled }; names = names_formed text (length text) has.tokens [] has.read.1 }
