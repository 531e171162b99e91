-- A long phrase is read as its parts, one behind the other.
use Rattle.std.proofs.Common.{◌≡◌, List, Result, Ok, Err, refl, sym, ◌∙◌}
use Rattle.sopl_ast.specs.declared.token.Token.{Token}
use Rattle.sopl_ast.specs.Tree.{Tree}
use Rattle.sopl_ast.specs.Lists.{BinderTree}
use Rattle.parse_grammar.specs.declared.marks.Mark.TheVariants as m
use Rattle.parse_grammar.specs.Reading.{Stop, Read, Way, ◌>>=◌, past, enter}
use Rattle.parse_grammar.specs.Expressions.{no_tree, all, expression, tasks}
use Rattle.parse_exprs.specs.Tasks.{enclosed_task, limited_task}

-- readings may be grouped to the left
pub grouped : {A B C : Type 0} (r : Result A Stop) (f : A → Result B Stop) (g : B → Result C Stop) → (r >>= f >>= g) ≡ (r >>= (λ x. f x >>= g))
grouped (Ok a) f g = refl
grouped (Err stop) f g = refl

-- what follows a reading may be written otherwise
pub then_same : {A B : Type 0} (r : Result A Stop) (f g : A → Result B Stop) → ((x : A) → f x ≡ g x) → (r >>= f) ≡ (r >>= g)
then_same (Ok a) f g same = same a
then_same (Err stop) f g same = refl

-- tasks from their binders and the rest
abbrev pub with_task : Way → List BinderTree × List Token → Read (List BinderTree × ((Tree × (Tree × Tree)) × Tree))
with_task w x = do
  (each, after) ← limited_task w x.1
  Ok ((x.0, each), after)

-- a task and its capacity are read one behind the other
limited : (w : Way) (bs : List BinderTree) (ts : List Token)
    → (enter w m.ParenOpen (no_tree, (no_tree, no_tree)) (λ inner. inner.task) ts >>= (λ each. past w m.ParenClose each.1
    >>= (λ last. past w m.Comma last >>= (λ further. expression w further >>= (λ c. Ok ((bs, (each.0, c.0)), c.1))))))
    ≡ with_task w (bs, ts)
unfolding enclosed_task limited_task
limited w bs ts = sym (
    grouped (enclosed_task w ts) _ _
    ∙ grouped (enter w m.ParenOpen (no_tree, (no_tree, no_tree)) (λ inner. inner.task) ts) _ _
    ∙ then_same (enter w m.ParenOpen (no_tree, (no_tree, no_tree)) (λ inner. inner.task) ts) _ _ (λ each. grouped (past w m.ParenClose each.1) _ _
    ∙ then_same (past w m.ParenClose each.1) _ _ (λ last. grouped (past w m.Comma last) _ _
    ∙ then_same (past w m.Comma last) _ _ (λ further. grouped (expression w further) _ _))))

-- what stands inside `cumulative` is its binders, and then the task with its capacity
pub tasks_parts : (w : Way) (ts : List Token) → tasks w ts ≡ (all w ts >>= with_task w)
unfolding tasks
tasks_parts w ts = then_same (all w ts) _ _ (λ x. limited w x.0 x.1)
