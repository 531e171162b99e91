-- The laws of the rows.
use Rattle.std.specs.Prelude.{◌≡◌, ℕ, ◌+◌, ◌<◌, Bool, true, false, List, [], ◌∷◌, ◌++◌, length, Ok, Err}
use Rattle.sopl_ast.specs.declared.token.Token.{Token}
use Rattle.sopl_ast.specs.Grammar.{SpellsIn, Spells, IsPrefix}
use Rattle.sopl_ast.specs.Whole.{ModelTree}
use Rattle.parse_grammar.specs.Heads.{head}
use Rattle.parse_grammar.specs.Phrases.{way}
use Rattle.parse_grammar.specs.Reading.{Syntax, Depth, Read}
use Rattle.sopl_ast.specs.KindSets.{KindSet, first_kind, has_kind}
use Rattle.sopl_ast.specs.ModelRows.{row}
use Rattle.sopl_ast.specs.Nonterminals.{Nonterminal, ValueOf}
use Rattle.sopl_ast.specs.PhraseLanguage.{nullable, starts}
use Rattle.grammar_rows.specs.ReadersOfRows.{reader_of}
use Rattle.grammar_rows.specs.RowReading.{read_at}
use Rattle.sopl_ast.specs.RowSpelling.{IsSpelledAt}
use Rattle.grammar_rows.specs.RowTests.{continues, row_passes}

-- each row passes the test
abbrev pub RowsPass : Type 0
RowsPass = (s : Nonterminal) → row_passes s ≡ true

-- what is read of a row is spelled
abbrev pub ReadRowsAreSpelled : Type 0
ReadRowsAreSpelled = (cut : Bool) (n : ℕ) (s : Nonterminal) (ts : List Token) (x : ValueOf s) (r : List Token)
    → read_at cut n (row s) ts ≡ Ok (x, r) → IsSpelledAt cut n (row s) ts x r

-- some value is read, and no token is left
pub record ReadsAll {A : Type 0} (o : Read A) : Type 0 where
  pub value : A
  pub read : o ≡ Ok (value, [])

-- what is spelled of a row is read, where no kind stands behind it that goes on with it;
-- where tokens may end too early and do, some value is read
pub record SpelledRowsAreRead : Type 0 where
  pub whole : (n : ℕ) (s : Nonterminal) (ts : List Token) (x : ValueOf s) (r : List Token)
      → has_kind (continues (row s)) (first_kind r) ≡ false → IsSpelledAt false n (row s) ts x r → read_at false n (row s) ts ≡ Ok (x, r)
  pub too_early : (n : ℕ) (s : Nonterminal) (ts : List Token) (x : ValueOf s)
      → IsSpelledAt true n (row s) ts x [] → ReadsAll (read_at true n (row s) ts)

-- where tokens may end too early and there are none, some value of a row is read
abbrev pub RowsMayBeMissing : Type 0
RowsMayBeMissing = (n : ℕ) (s : Nonterminal) → ReadsAll (read_at true n (row s) [])

-- a token was taken with which a phrase starts, and fewer are left; or none, where it may have none; or all of it is missing
pub data TakesTokens (cut : Bool) (ks : KindSet) (may : Bool) (ts r : List Token) : Type 0 where
  takes : has_kind ks (first_kind ts) ≡ true → length r < length ts → TakesTokens cut ks may ts r
  takes_none : may ≡ true → ts ≡ r → TakesTokens cut ks may ts r
  lacks_all : cut ≡ true → ts ≡ [] → r ≡ [] → TakesTokens cut ks may ts r

-- a row takes a token with which it starts, or none where it may have none, or all of it is missing
abbrev pub RowsTakeTokens : Type 0
RowsTakeTokens = (cut : Bool) (n : ℕ) (s : Nonterminal) (ts : List Token) (x : ValueOf s) (r : List Token)
    → IsSpelledAt cut n (row s) ts x r → TakesTokens cut (starts (row s)) (nullable (row s)) ts r

-- tokens spell one value of a row at most, however deep they nest, where the row ends with the tokens
abbrev pub RowsHaveOneValue : Type 0
RowsHaveOneValue = (s : Nonterminal) → has_kind (continues (row s)) 0 ≡ false → (ts : List Token) (n m : ℕ) (a b : ValueOf s)
    → IsSpelledAt false n (row s) ts a [] → IsSpelledAt false m (row s) ts b [] → a ≡ b

-- how a reading ends: with a value, at tokens with which nothing goes on, or at a token that counts once too often
pub data ReadEnd (A : Type 0) : Type 0 where
  got : A → ReadEnd A
  stuck : ReadEnd A
  sunk : ReadEnd A

-- it ends so, and these tokens are left
abbrev pub end_at : {A : Type 0} → ReadEnd A → List Token → Read A
end_at (got a) left = Ok (a, left)
end_at stuck left = Err (Syntax left)
end_at sunk left = Err (Depth left)

-- a reading takes some tokens, and ends alike whatever tokens stand behind them, if the first is of the same kind
pub record IsReadByKinds (n : ℕ) (s : Nonterminal) (ts : List Token) : Type 0 where
  pub used : List Token
  pub left : List Token
  pub all : ts ≡ used ++ left
  pub end : ReadEnd (ValueOf s)
  pub again : (others : List Token) → head others ≡ head left → read_at false n (row s) (used ++ others) ≡ end_at end others

-- reading a row goes by the tokens that it takes and the kind of the next one
abbrev pub RowsAreReadByKinds : Type 0
RowsAreReadByKinds = (n : ℕ) (s : Nonterminal) (ts : List Token) → IsReadByKinds n s ts

-- with some tokens behind them, these spell a row within two nestings more
pub record IsFilledOut (n : ℕ) (s : Nonterminal) (ts : List Token) : Type 0 where
  pub others : List Token
  pub value : ValueOf s
  pub spelled : IsSpelledAt false (n + 2) (row s) (ts ++ others) value []

-- tokens that go along a row up to where they end are the beginning of what spells it
abbrev pub RowPrefixesGoOn : Type 0
RowPrefixesGoOn = (n : ℕ) (s : Nonterminal) (ts : List Token) (x : ValueOf s) → IsSpelledAt true n (row s) ts x [] → IsFilledOut n s ts

-- a prefix of a prefix is one
abbrev pub RowPrefixesAreClosed : Type 0
RowPrefixesAreClosed = (n : ℕ) (before behind : List Token) → IsPrefix n (before ++ behind) → IsPrefix n before

-- the tokens go along the rows up to some that are left, and with the first of those no model goes on
pub record IsMisplacedInRows (n : ℕ) (ts left : List Token) : Type 0 where
  pub used : List Token
  pub all : ts ≡ used ++ left
  pub prefix : IsPrefix n used
  pub none : (others : List Token) (whole : ModelTree) → head others ≡ head left → Spells (used ++ others) whole → ⊥

-- the tokens go along the rows up to one that counts once too often
pub record IsTooDeepInRows (n : ℕ) (ts left : List Token) : Type 0 where
  pub used : List Token
  pub token : Token
  pub more : List Token
  pub all : ts ≡ used ++ token ∷ more
  pub at : left ≡ token ∷ more
  pub prefix : IsPrefix n used
  pub deeper : IsPrefix (n + 1) (used ++ token ∷ [])
  pub over : IsPrefix n (used ++ token ∷ []) → ⊥
  pub none : (others : List Token) (whole : ModelTree) → SpellsIn n (used ++ token ∷ others) whole → ⊥

-- tokens spell a model, or they are refused at a place
pub data EndsInRows (n : ℕ) (ts : List Token) : Type 0 where
  spells : (whole : ModelTree) → SpellsIn n ts whole → EndsInRows n ts
  misplaced_at : (left : List Token) → IsMisplacedInRows n ts left → EndsInRows n ts
  too_deep_at : (left : List Token) → IsTooDeepInRows n ts left → EndsInRows n ts

-- all tokens do so
abbrev pub TokensEndInRows : Type 0
TokensEndInRows = (n : ℕ) (ts : List Token) → EndsInRows n ts

-- each row is read as by the function of the reader that reads it
abbrev pub RowsAreReadAlike : Type 0
RowsAreReadAlike = (n : ℕ) (s : Nonterminal) (ts : List Token) → read_at false n (row s) ts ≡ reader_of s (way false n) ts
