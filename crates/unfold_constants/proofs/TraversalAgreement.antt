-- Walking through an expression of a constraint step by step agrees with what is met in it.
use Rattle.std.proofs.Common.{refl, sym, subst, ℕ, ℤ, pos, Bool, true, false, not, List, [], ◌∷◌, ◌++◌, Option, None, int_eq}
use Rattle.std.specs.List.{flat_map}
use Rattle.std.specs.Option.{unwrap_or}
use Rattle.sopl_base.specs.declared.codes.TheConstants as codes
use Rattle.sopl_ast.specs.declared.operators.MulOp.TheVariants.{Times, Div, Mod}
use Rattle.sopl_ast.specs.Tree as t
use Rattle.sopl_ast.specs.Tree.{Tree, Shape, Trees, Terms, Factors, Binders, Node, no_tree, tree, no_term, term, no_factor, factor, no_binder, binder, place_of}
use Rattle.sopl_ast.specs.Constants.{value}
use Rattle.sopl_ast.specs.Known.{Known, with_bound}
use Rattle.sopl_ast.specs.UnfoldEvents as m
use Rattle.sopl_ast.specs.UnfoldEvents.{UnfoldEvent, Counted, refused_unless, is_zero}
use Rattle.unfold_constants.specs.Evaluation.{Step, ◌>>=◌, done, for_each}
use Rattle.unfold_constants.specs.Traversal as k
use Rattle.unfold_constants.proofs.Steps.{Agrees, counted, agree_done, agree_bind, agree_bind_two, agree_then, agree_count}
use Rattle.unfold_constants.proofs.EvaluationAgreement.{agree_number, agree_range}

-- a step that answers nothing agrees with what is met
abbrev pub Meets : Step (Unit {0}) → List UnfoldEvent → Type 0
Meets step events = Agrees step events counted

meets_done : Meets (done tt) []
meets_done = agree_done tt counted refl

meets_bind : {s t : Step (Unit {0})} {ms ns : List UnfoldEvent} → Meets s ms → Meets t ns → Meets (s >>= (λ u. t)) (ms ++ ns)
meets_bind a b = agree_bind a (λ u is. b)

meets_last : {s : Step (Unit {0})} {ms : List UnfoldEvent} → Meets s ms → Meets (s >>= (λ u. done tt)) ms
meets_last a = agree_then (λ u. tt) a (λ u is. refl)

pub meets_unless : (b : Bool) (code at : ℕ) → Meets (k.unless b code at) (refused_unless b code at)
meets_unless true code at = record { at = λ count. (tt, refl, refl) }
meets_unless false code at = record { at = λ count. refl }

pub meets_divisor : (known : Known) (e : Tree) → Meets (k.divisor known e) (m.divisor_events known e)
meets_divisor known e =
    agree_bind (agree_number e known (place_of e)) (λ x is.
    subst (λ v. Meets (k.unless (not (int_eq x (pos 0))) codes.UNDEFINED (place_of e)) (refused_unless (not (is_zero v)) codes.UNDEFINED (place_of e))) (sym is)
    (meets_unless (not (int_eq x (pos 0))) codes.UNDEFINED (place_of e)))

-- a step for each of some numbers
pub meets_all : (next : ℤ → Step (Unit {0})) (events : ℤ → List UnfoldEvent) → ((n : ℤ) → Meets (next n) (events n))
    → (ns : List ℤ) → Meets (for_each (λ n u. next n) ns tt) (flat_map (λ n. Counted ∷ events n) ns)
meets_all next events a [] = meets_done
meets_all next events a (n ∷ ns) = agree_bind_two agree_count (λ u is. a n) (λ u is. meets_all next events a ns)

mutual
  pub meets_walk : (e : Tree) (known : Known) → Meets (k.walk known e) (m.expression_events known e)
  meets_walk (Node at shape) known = meets_shape shape known

  meets_shape : (shape : Shape) (known : Known) → Meets (k.walk_shape known shape) (m.inside_events None known shape)
  meets_shape (t.Lit z) known = meets_done
  meets_shape (t.Name name) known = meets_done
  meets_shape (t.Index name es) known = meets_trees es known
  meets_shape (t.Call f e) known = meets_walk e known
  meets_shape (t.Add parts) known = meets_terms parts known
  meets_shape (t.Mul first others) known = meets_bind (meets_walk first known) (meets_factors others known (value known first))
  meets_shape (t.Cmp op a b) known = meets_bind (meets_walk a known) (meets_walk b known)
  meets_shape (t.Not e) known = meets_walk e known
  meets_shape (t.And es) known = meets_trees es known
  meets_shape (t.Or es) known = meets_trees es known
  meets_shape (t.Implies a b) known = meets_bind (meets_walk a known) (meets_walk b known)
  meets_shape (t.Sum bs e) known = meets_over bs known _ (λ here. m.expression_events here e) (λ here. meets_last (meets_walk e here))
  meets_shape (t.Selected which es) known = meets_trees es known
  meets_shape (t.AllDifferent bs e) known = meets_over bs known _ (λ here. m.expression_events here e) (λ here. meets_last (meets_walk e here))
  meets_shape (t.Cumulative bs start duration demand capacity) known =
      meets_bind
      (meets_over bs known _ (λ here. m.expression_events here start ++ (m.expression_events here duration ++ m.expression_events here demand))
      (λ here. meets_bind (meets_walk start here) (meets_bind (meets_walk duration here) (meets_last (meets_walk demand here)))))
      (meets_walk capacity known)

  pub meets_trees : (es : Trees) (known : Known) → Meets (k.walk_all known es) (m.all_events None known es)
  meets_trees no_tree known = meets_done
  meets_trees (tree e es) known = meets_bind (meets_walk e known) (meets_trees es known)

  meets_terms : (parts : Terms) (known : Known) → Meets (k.walk_terms known parts) (m.terms_events None known parts)
  meets_terms no_term known = meets_done
  meets_terms (term minus e more) known = meets_bind (meets_walk e known) (meets_terms more known)

  meets_factors : (parts : Factors) (known : Known) (before : Option ℤ) → Meets (k.walk_factors known parts) (m.factors_events None known before parts)
  meets_factors no_factor known before = meets_done
  meets_factors (factor Times e more) known before = meets_bind (meets_walk e known) (meets_factors more known before)
  meets_factors (factor Div e more) known before = meets_bind (meets_divisor known e) (meets_factors more known before)
  meets_factors (factor Mod e more) known before = meets_bind (meets_divisor known e) (meets_factors more known before)

  pub meets_over : (bs : Binders) (known : Known) (body : Known → Step (Unit {0})) (each : Known → List UnfoldEvent) → ((here : Known) → Meets (body here) (each here))
      → Meets (k.over known bs body) (m.binding_events known None bs each)
  meets_over no_binder known body each a = a known
  meets_over (binder name at range more) known body each a =
      agree_bind (agree_range range known None) (λ ns is.
      subst (λ v. Meets (for_each (λ n u. k.over (with_bound name n known) more body) ns tt)
      (flat_map (λ n. Counted ∷ m.binding_events (with_bound name n known) None more each) (unwrap_or v []))) (sym is)
      (meets_all _ (λ n. m.binding_events (with_bound name n known) None more each) (λ n. meets_over more (with_bound name n known) body each a) ns))
