-- The nodes over the root box by the wide reading.
use Rattle.std.proofs.Common.{◌≡◌, ◌∙◌, ap, List}
use Rattle.box_problem.specs.Box.{Box}
use Rattle.term_language.specs.Rules.{Reading, Wide}
use Rattle.term_math.specs.Shown.{box_in}
use Rattle.term_nodes.specs.declared.evaluation.Evaluator.{Evaluator}
use Rattle.term_nodes.specs.declared.items.Item.{Item}
use Rattle.term_nodes.specs.Seen.{reading_of}

-- what is told of them is told of the root
pub read_as : {A : Type 0} (f : Reading → Box → Box → List Item → A) (here : Evaluator) (root : Box) (items : List Item) → reading_of here ≡ Wide → box_in here.root ≡ root → box_in here.view ≡ root
    → here.items.now ≡ items → f (reading_of here) (box_in here.root) (box_in here.view) here.items.now ≡ f Wide root root items
read_as f here root items reading_is root_is view_is items_are =
    ap (λ (r : Reading). f r (box_in here.root) (box_in here.view) here.items.now) reading_is
    ∙ ap (λ (b : Box). f Wide b (box_in here.view) here.items.now) root_is
    ∙ ap (λ (b : Box). f Wide root b here.items.now) view_is
    ∙ ap (f Wide root root) items_are
