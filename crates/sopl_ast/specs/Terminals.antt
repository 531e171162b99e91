-- Terminals: what one token may say.
use Rattle.std.specs.Prelude.{ℕ, ℤ, nat_eq, Bool, true, false, List, [], ◌∷◌, Option, Some, None}
use Rattle.sopl_ast.specs.declared.token.TokenKind.{TokenKind}
use Rattle.sopl_ast.specs.declared.token.TokenKind.TheVariants as k
use Rattle.sopl_ast.specs.KindSets.{kind_number, KindSet}

-- a terminal, by what it says: one of some kinds, each with what it says; a literal, which says its value; or a name, which says its bytes
pub data Terminal : Type 0 → Type 1 where
  one_of : {X : Type 0} → TokenKind → X → List (TokenKind × X) → Terminal X
  a_literal : Terminal ℤ
  a_name : Terminal (List ℕ)

-- the value of a literal
abbrev pub literal_value : TokenKind → Option ℤ
literal_value (k.Lit value) = Some value
literal_value _ = None

-- the bytes of a name
abbrev pub name_bytes : TokenKind → Option (List ℕ)
name_bytes (k.Name bytes) = Some bytes
name_bytes _ = None

-- a keyword or a symbol, which says nothing more
abbrev pub mark_of : TokenKind → Terminal (Unit {0})
mark_of kind = one_of kind tt []

-- one value where the test is passed, and else the other
abbrev pub found_or : {X : Type 0} → Bool → X → Option X → Option X
found_or true x other = Some x
found_or false x other = other

-- what the kind with this number says
abbrev pub look_up : {X : Type 0} → List (TokenKind × X) → ℕ → Option X
look_up [] c = None
look_up (p ∷ ps) c = found_or (nat_eq (kind_number p.0) c) p.1 (look_up ps c)

-- what a token of this kind says as the terminal, if it is one
abbrev pub says : {X : Type 0} → Terminal X → TokenKind → Option X
says (one_of kind x more) other = look_up ((kind, x) ∷ more) (kind_number other)
says a_literal other = literal_value other
says a_name other = name_bytes other

-- the kinds of a list
abbrev pub kinds_in : {X : Type 0} → List (TokenKind × X) → KindSet
kinds_in [] = []
kinds_in (p ∷ ps) = kind_number p.0 ∷ kinds_in ps

-- the kinds of a terminal
abbrev pub kinds_of : {X : Type 0} → Terminal X → KindSet
kinds_of (one_of kind x more) = kind_number kind ∷ kinds_in more
kinds_of a_literal = 2 ∷ []
kinds_of a_name = 1 ∷ []
