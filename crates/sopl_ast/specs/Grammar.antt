-- The grammar: which lists of tokens spell which models, by the row of a model. The number says how many nestings may be open at once: a
-- bracket up to the one that closes it, or a `!`, prefix `-`, `=>`, `forall` or `sum` up to the end of what stands behind it. A text is
-- spelled where `cut` of `RowSpelling` is false; a prefix of a text is what is spelled where it is true.
use Rattle.std.specs.Prelude.{ℕ, true, false, List, []}
use Rattle.sopl_ast.specs.declared.token.Token.{Token}
use Rattle.sopl_ast.specs.ModelRows.{row}
use Rattle.sopl_ast.specs.Nonterminals.{Model}
use Rattle.sopl_ast.specs.RowSpelling.{IsSpelledAt}
use Rattle.sopl_ast.specs.Whole.{ModelTree}

-- the tokens spell the model, and never more than this many nestings are open
abbrev pub SpellsIn : ℕ → List Token → ModelTree → Type 0
SpellsIn n tokens whole = IsSpelledAt false n (row Model) tokens whole []

-- the tokens spell the model, however deep they nest
pub record Spells (tokens : List Token) (whole : ModelTree) : Type 0 where
  pub nesting : ℕ
  pub spelled : SpellsIn nesting tokens whole

-- the greatest nesting
abbrev pub max_nesting : ℕ
max_nesting = 64

-- the tokens spell the model, and their nesting never passes the greatest
abbrev pub SpellsWithin : List Token → ModelTree → Type 0
SpellsWithin tokens whole = SpellsIn max_nesting tokens whole

-- the tokens go along the rows up to where they end, and never more than this many nestings are open
pub record IsPrefix (n : ℕ) (tokens : List Token) : Type 0 where
  pub whole : ModelTree
  pub spelled : IsSpelledAt true n (row Model) tokens whole []
