-- What is read at the front of tokens, and how readings follow one another.
use Rattle.std.specs.Prelude.{ℕ, zero, suc, Bool, true, false, List, [], ◌∷◌, ◌++◌, Option, Some, None, Result, Ok, Err}
use Rattle.sopl_ast.specs.declared.token.Token.{Token}
use Rattle.sopl_ast.specs.Lists.{BinderTree}
use Rattle.sopl_ast.specs.Tree.{Tree}
use Rattle.sopl_ast.specs.Whole.{DimTree, InitTree, ConsTree}
use Rattle.parse_grammar.specs.declared.marks.Mark.{Mark}
use Rattle.parse_grammar.specs.Heads.{head, rest, place, is_mark, named}

-- where reading stops: at tokens with which no phrase goes on, or at a token that opens one bracket or prefix operator too many
pub data Stop : Type 0 where
  Syntax : (left : List Token) → Stop
  Depth : (left : List Token) → Stop

-- what is read, and the tokens that are left, or where reading stops
abbrev pub Read : Type 0 → Type 0
Read A = Result (A × List Token) Stop

-- reads on behind what was read
infixl 10 ◌>>=◌
abbrev pub ◌>>=◌ : {A B : Type 0} → Result A Stop → (A → Result B Stop) → Result B Stop
◌>>=◌ (Ok a) f = f a
◌>>=◌ (Err stop) f = Err stop

-- the phrases that are read inside a bracket or behind a prefix operator
pub record Inner : Type 0 where
  pub expression : List Token → Read Tree
  pub negation : List Token → Read Tree
  pub operand : List Token → Read Tree
  pub summed : List Token → Read (List BinderTree × Tree)
  pub arguments : List Token → Read (List Tree)
  pub compared : List Token → Read (List BinderTree × Tree)
  pub task : List Token → Read (Tree × (Tree × Tree))
  pub tasks : List Token → Read (List BinderTree × ((Tree × (Tree × Tree)) × Tree))
  pub bound : List Token → Read (List BinderTree)
  pub dim : List Token → Read DimTree
  pub inits : List Token → Read (List InitTree)
  pub elements : List Token → Read (List Tree)
  pub outcomes : List Token → Read (List (Tree × Tree))
  pub quantified : List Token → Read (List BinderTree × ConsTree)
  pub constraints : List Token → Read (List ConsTree)

-- how tokens are read: whether they may end too early, and what is read inside a bracket or behind a prefix operator that stands at a place
pub record Way : Type 0 where
  pub cut : Bool
  pub inside : List Token → Result Inner Stop

-- what is missing: the value, where the tokens may end too early and do
abbrev pub absent : {A : Type 0} → Bool → A → List Token → Result A Stop
absent false value ts = Err (Syntax ts)
absent true value [] = Ok value
absent true value (u ∷ us) = Err (Syntax (u ∷ us))

-- the tokens behind the first one, if that is as it must be
abbrev pub passed : Way → List Token → Bool → Result (List Token) Stop
passed w ts true = Ok (rest ts)
passed w ts false = absent w.cut [] ts

-- the tokens behind a mark
unfoldable pub past : Way → Mark → List Token → Result (List Token) Stop
past w mark ts = passed w ts (is_mark mark (head ts))

-- what is read inside a bracket that stands there, and the tokens behind it; none where the tokens end
abbrev pub opened : Way → List Token → Bool → Result (Option (Inner × List Token)) Stop
opened w ts true = do
  inner ← w.inside ts
  Ok (Some (inner, rest ts))
opened w ts false = absent w.cut None ts

-- a bracket
unfoldable pub opening : Way → Mark → List Token → Result (Option (Inner × List Token)) Stop
opening w mark ts = opened w ts (is_mark mark (head ts))

-- what stands inside a bracket; some value where the tokens end
abbrev pub content_of : {A : Type 0} → A → (Inner → List Token → Read A) → Option (Inner × List Token) → Read A
content_of value content None = Ok (value, [])
content_of value content (Some x) = content x.0 x.1

-- a bracket and what stands inside it
abbrev pub enter : {A : Type 0} → Way → Mark → A → (Inner → List Token → Read A) → List Token → Read A
enter w mark value content ts = opening w mark ts >>= content_of value content

-- the name at the front, and its place
abbrev pub name_at : Way → List Token → Option (List ℕ) → Read (List ℕ × ℕ)
name_at w ts (Some bytes) = Ok ((bytes, place ts), rest ts)
name_at w ts None = absent w.cut (([], 0), []) ts

-- a name, and its place
unfoldable pub name : Way → List Token → Read (List ℕ × ℕ)
name w ts = name_at w ts (named (head ts))

-- reads an item if there is one, by its first token
abbrev pub Next : Type 0 → Type 0
Next A = List Token → Read (Option A)

-- goes on behind an item, if there was one
abbrev pub chain_on : {A : Type 0} → (List A → List Token → Read (List A)) → List A → List Token → Option A → Read (List A)
chain_on again found left None = Ok (found, left)
chain_on again found left (Some item) = again (found ++ item ∷ []) left

-- items one after another, at most as many as `fuel`, behind those that were found
unfoldable pub chain : {A : Type 0} → Next A → ℕ → List A → List Token → Read (List A)
chain next zero found ts = Ok (found, ts)
chain next (suc fuel) found ts = do
  (item, left) ← next ts
  chain_on (λ more left. chain next fuel more left) found left item
