-- The least and the greatest of terms, and functions of one term.
use Rattle.std.proofs.Common.{◌≡◌, refl, ap, ◌<◌, List, [], ◌∷◌, length, arith}
use Rattle.std.proofs.lemmas.List.{append-nil}
use Rattle.sopl_base.specs.declared.extreme.Extreme.{Extreme}
use Rattle.sopl_ast.specs.declared.operators.Function.{Function}
use Rattle.sopl_ast.specs.declared.operators.Function.TheVariants.{Negative, Size}
use Rattle.term_language.specs.Terms as c
use Rattle.compile_laws.specs.Instances.{function_of, extreme_of}
use Rattle.compile_exprs.specs.Made.{operand_subterms}
use Rattle.compile_laws.specs.Subterms.{all_subterms, subterms}
use Rattle.term_store.specs.Additions.{extreme_at, term_ids}
use Rattle.term_nodes.specs.Things.{Thing, terms_at}
use Rattle.term_store.specs.declared.ids.TermId.{TermId}

pub extreme_is : (things : List Thing) (which : Extreme) (ids : List TermId) (ts : c.Terms) → 0 < length ids → terms_at things (term_ids ids) ≡ ts
    → extreme_at which things ids ≡ extreme_of which ts
extreme_is things which [] ts some are = absurd (omega (arith, some))
extreme_is things which (id ∷ ids) ts some are = ap (extreme_of which) are

pub extreme_sizes : (which : Extreme) (ts : c.Terms) → operand_subterms (extreme_of which ts) ≡ all_subterms ts
extreme_sizes which c.no_term = refl
extreme_sizes which (c.term a later) = refl

pub called_sizes : (f : Function) (a : c.Term) → operand_subterms (function_of f a) ≡ subterms a
called_sizes Negative a = append-nil (subterms a)
called_sizes Size a = refl
