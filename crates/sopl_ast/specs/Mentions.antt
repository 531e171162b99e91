-- Which names stand in an expression.
use Rattle.std.specs.Prelude.{ℕ, Bool, false, ◌||◌, List}
use Rattle.std.specs.Str.{bytes_eq}
use Rattle.sopl_ast.specs.Tree.{Tree, Node, Shape, Lit, Name, Index, Call, Add, Mul, Cmp, Not, And, Or, Implies, Sum, Selected, AllDifferent, Cumulative, Trees, no_tree}
use Rattle.sopl_ast.specs.Tree.{tree, Terms, no_term, term, Factors, no_factor, factor, Binders, no_binder, binder, Range, Named, Ends}

abbrev mutual
  -- the name stands in the expression: alone, before indices, as a binder or as a range
  pub mentions : List ℕ → Tree → Bool
  mentions n (Node at shape) = shape_mentions n shape

  pub shape_mentions : List ℕ → Shape → Bool
  shape_mentions n (Lit value) = false
  shape_mentions n (Name name) = bytes_eq name n
  shape_mentions n (Index name ts) = bytes_eq name n || some_mentions n ts
  shape_mentions n (Call f a) = mentions n a
  shape_mentions n (Add ts) = some_term_mentions n ts
  shape_mentions n (Mul a fs) = mentions n a || some_factor_mentions n fs
  shape_mentions n (Cmp op a b) = mentions n a || mentions n b
  shape_mentions n (Not a) = mentions n a
  shape_mentions n (And ts) = some_mentions n ts
  shape_mentions n (Or ts) = some_mentions n ts
  shape_mentions n (Implies a b) = mentions n a || mentions n b
  shape_mentions n (Sum bs a) = some_binder_mentions n bs || mentions n a
  shape_mentions n (Selected which ts) = some_mentions n ts
  shape_mentions n (AllDifferent bs a) = some_binder_mentions n bs || mentions n a
  shape_mentions n (Cumulative bs a b c d) = some_binder_mentions n bs || mentions n a || mentions n b || mentions n c || mentions n d

  pub some_mentions : List ℕ → Trees → Bool
  some_mentions n no_tree = false
  some_mentions n (tree t ts) = mentions n t || some_mentions n ts

  pub some_term_mentions : List ℕ → Terms → Bool
  some_term_mentions n no_term = false
  some_term_mentions n (term minus t ts) = mentions n t || some_term_mentions n ts

  pub some_factor_mentions : List ℕ → Factors → Bool
  some_factor_mentions n no_factor = false
  some_factor_mentions n (factor op t fs) = mentions n t || some_factor_mentions n fs

  pub some_binder_mentions : List ℕ → Binders → Bool
  some_binder_mentions n no_binder = false
  some_binder_mentions n (binder name at range bs) = bytes_eq name n || range_mentions n range || some_binder_mentions n bs

  pub range_mentions : List ℕ → Range → Bool
  range_mentions n (Named name at) = bytes_eq name n
  range_mentions n (Ends lo hi) = mentions n lo || mentions n hi
