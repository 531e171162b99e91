-- What walking through an expression of a constraint answers, step by step, with how many things were counted. These steps are the code's own: no public
-- clause cites them.
use Rattle.std.specs.Prelude.{ℕ, pos, Bool, true, false, not, List, drop, None, Ok, Err}
use Rattle.std.specs.Ordering.{int_eq}
use Rattle.sopl_base.specs.declared.fault.Fault.TheVariants.{Text}
use Rattle.sopl_base.specs.declared.codes.TheConstants as codes
use Rattle.sopl_ast.specs.declared.operators.MulOp.{MulOp}
use Rattle.sopl_ast.specs.declared.operators.MulOp.TheVariants.{Times, Div, Mod}
use Rattle.sopl_ast.specs.Tree as t
use Rattle.sopl_ast.specs.Tree.{Tree, Shape, Trees, Terms, Factors, Binders, Node, no_tree, tree, no_term, term, no_factor, factor, no_binder, binder, place_of}
use Rattle.sopl_ast.specs.Lists.{BinderTree, trees, binders}
use Rattle.sopl_ast.specs.Known.{Known, with_bound}
use Rattle.unfold_constants.specs.Evaluation.{Step, ◌>>=◌, done, for_each, number, range_numbers}

-- a refusal with this code at this place, unless a test holds
abbrev pub unless : Bool → ℕ → ℕ → Step (Unit {0})
unless true code at count = Ok (tt, count)
unless false code at count = Err (Text (record { code = code; at = at }))

-- a divisor has a value, which is not 0
abbrev pub divisor : Known → Tree → Step (Unit {0})
divisor known e = number known (place_of e) e >>= (λ x. unless (not (int_eq x (pos 0))) codes.UNDEFINED (place_of e))

abbrev mutual
  pub walk : Known → Tree → Step (Unit {0})
  walk known (Node at shape) = walk_shape known shape

  pub walk_shape : Known → Shape → Step (Unit {0})
  walk_shape known (t.Lit z) = done tt
  walk_shape known (t.Name name) = done tt
  walk_shape known (t.Index name es) = walk_all known es
  walk_shape known (t.Call f e) = walk known e
  walk_shape known (t.Add parts) = walk_terms known parts
  walk_shape known (t.Mul first others) = walk known first >>= (λ u. walk_factors known others)
  walk_shape known (t.Cmp op a b) = walk known a >>= (λ u. walk known b)
  walk_shape known (t.Not e) = walk known e
  walk_shape known (t.And es) = walk_all known es
  walk_shape known (t.Or es) = walk_all known es
  walk_shape known (t.Implies a b) = walk known a >>= (λ u. walk known b)
  walk_shape known (t.Sum bs e) = over known bs (λ here. walk here e >>= (λ u. done tt))
  walk_shape known (t.Selected which es) = walk_all known es
  walk_shape known (t.AllDifferent bs e) = over known bs (λ here. walk here e >>= (λ u. done tt))
  walk_shape known (t.Cumulative bs start duration demand capacity) =
      over known bs (λ here. walk here start >>= (λ u. walk here duration >>= (λ u. walk here demand >>= (λ u. done tt)))) >>= (λ u. walk known capacity)

  pub walk_all : Known → Trees → Step (Unit {0})
  walk_all known no_tree = done tt
  walk_all known (tree e es) = walk known e >>= (λ u. walk_all known es)

  pub walk_terms : Known → Terms → Step (Unit {0})
  walk_terms known no_term = done tt
  walk_terms known (term minus e more) = walk known e >>= (λ u. walk_terms known more)

  pub walk_factors : Known → Factors → Step (Unit {0})
  walk_factors known no_factor = done tt
  walk_factors known (factor Times e more) = walk known e >>= (λ u. walk_factors known more)
  walk_factors known (factor Div e more) = divisor known e >>= (λ u. walk_factors known more)
  walk_factors known (factor Mod e more) = divisor known e >>= (λ u. walk_factors known more)

  -- a body for each way in which binders take their values, the last one fastest
  pub over : Known → Binders → (Known → Step (Unit {0})) → Step (Unit {0})
  over known no_binder body = body known
  over known (binder name at range more) body =
      range_numbers known None range >>= (λ ns. for_each (λ n u. over (with_bound name n known) more body) ns tt)

-- a product from its first part on
abbrev pub walk_product : Known → Tree → Factors → Step (Unit {0})
walk_product known first others = walk known first >>= (λ u. walk_factors known others)

-- a factor, or a divisor
abbrev pub walk_factor : Known → MulOp → Tree → Step (Unit {0})
walk_factor known Times e = walk known e
walk_factor known Div e = divisor known e
walk_factor known Mod e = divisor known e

-- expressions at a place
abbrev pub walk_body : List Tree → Known → Step (Unit {0})
walk_body body here = walk_all here (trees body)

-- binders of which so many have values
abbrev pub inside : List BinderTree → (Known → Step (Unit {0})) → ℕ → Known → Unit {0} → Step (Unit {0})
inside bs body depth here u = over here (binders (drop depth bs)) body

-- the start, the length and the demand of tasks for each way in which binders take their values
abbrev pub walk_tasks : Known → Binders → Tree → Tree → Tree → Step (Unit {0})
walk_tasks known bs start duration demand =
    over known bs (λ here. walk here start >>= (λ u. walk here duration >>= (λ u. walk here demand >>= (λ u. done tt))))
