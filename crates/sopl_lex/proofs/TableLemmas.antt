-- A look-up in two tables, one after the other.
use Rattle.std.proofs.Common.{◌≡◌, ℕ, Bool, true, false, cond, List, [], ◌∷◌, ◌++◌, Option, None, Some, refl, ap, ◌∙◌}
use Rattle.std.specs.Str.{bytes_eq}
use Rattle.sopl_ast.specs.Pieces.{kind_in, declaration_keywords, statement_keywords, expression_keywords, keywords}
use Rattle.sopl_ast.specs.declared.token.TokenKind.{TokenKind}

-- the first answer, else the second
abbrev pub either : Option TokenKind → Option TokenKind → Option TokenKind
either (Some kind) other = Some kind
either None other = other

pub kind_in_append : (bytes : List ℕ) (rows more : List (List ℕ × TokenKind)) → kind_in bytes (rows ++ more) ≡ either (kind_in bytes rows) (kind_in bytes more)
kind_in_append bytes [] more = refl
kind_in_append bytes (row ∷ rows) more = by_row (bytes_eq bytes row.0) (kind_in_append bytes rows more)
  where
    by_row : (b : Bool) → kind_in bytes (rows ++ more) ≡ either (kind_in bytes rows) (kind_in bytes more) → cond b (Some row.1) (kind_in bytes (rows ++ more))
        ≡ either (cond b (Some row.1) (kind_in bytes rows)) (kind_in bytes more)
    by_row true ih = refl
    by_row false ih = ih

pub kind_in_either : (bytes : List ℕ) → kind_in bytes keywords ≡ either (kind_in bytes declaration_keywords) (either (kind_in bytes statement_keywords) (kind_in bytes expression_keywords))
kind_in_either bytes =
    kind_in_append bytes declaration_keywords (statement_keywords ++ expression_keywords)
    ∙ ap (either (kind_in bytes declaration_keywords)) (kind_in_append bytes statement_keywords expression_keywords)
