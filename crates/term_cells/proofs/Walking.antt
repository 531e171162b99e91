-- Steps of the walk over nodes.
use Rattle.std.proofs.Common.{◌≡◌, ℕ, ◌+◌, ◌<◌, ◌≤◌, List, ◌++◌, length, get_or, drop, append_assoc, refl, ap, sym, ◌∙◌}
use Rattle.std.proofs.lemmas.List.{at_drop_more, at_drop_all}
use Rattle.std.proofs.lemmas.List.Sums.{fold-append}
use Rattle.std.specs.BTreeSet.{insert_key}
use Rattle.std.specs.Ordering.{nat_cmp}
use Rattle.box_problem.specs.Box.{Box}
use Rattle.term_language.specs.Rules.{form}
use Rattle.term_language.specs.Terms.{Made, Selected, Term, Terms}
use Rattle.term_math.specs.Shown.{form_of}
use Rattle.term_language.specs.declared.made.Operation.{Operation}
use Rattle.sopl_base.specs.declared.extreme.Extreme.{Extreme}
use Rattle.term_nodes.specs.declared.nodes.Node.{Node}
use Rattle.term_nodes.specs.declared.nodes.Signed.{Signed}
use Rattle.term_nodes.specs.declared.nodes.Task.{Task}
use Rattle.term_nodes.specs.declared.items.Item.{Item}
use Rattle.term_nodes.specs.Things.{Thing, nothing, term_in, cond_in, thing_at, term_at, cond_at, thing_of, parts_at, tasks_at, terms_at, conds_at}
use Rattle.term_nodes.specs.Built.{Facts, IsAt}
use Rattle.term_language.specs.Mentions.{mentions, terms_mention, parts_mention, cond_mentions, conds_mention, tasks_mention}
use Rattle.term_cells.specs.Cells.{other_mentions, task_mentions, with_cells}

-- what a node mentions, where it is known which node stands at a number
pub others_of_node : (root : Box) (all : List Thing) (id : ℕ) (item : Item) (node : Node) (before after : List ℕ) → IsAt root all id item → item.node ≡ node → after
    ≡ with_cells before (other_mentions root (term_in (thing_of all node))) → after ≡ with_cells before (other_mentions root (term_at all id))
others_of_node root all id item node before after at is put =
    put ∙ ap (λ (n : Node). with_cells before (other_mentions root (term_in (thing_of all n)))) (sym is) ∙ ap (λ (t : Thing). with_cells before (other_mentions root (term_in t))) (sym at.thing)

pub cond_of_node : (root : Box) (all : List Thing) (id : ℕ) (item : Item) (node : Node) (before after : List ℕ) → IsAt root all id item → item.node ≡ node → after
    ≡ with_cells before (cond_mentions root (cond_in (thing_of all node))) → after ≡ with_cells before (cond_mentions root (cond_at all id))
cond_of_node root all id item node before after at is put =
    put ∙ ap (λ (n : Node). with_cells before (cond_mentions root (cond_in (thing_of all n)))) (sym is) ∙ ap (λ (t : Thing). with_cells before (cond_mentions root (cond_in t))) (sym at.thing)

-- the linear form that is kept of it
pub form_of_node : (root : Box) (all : List Thing) (id : ℕ) (item : Item) (node : Node) → IsAt root all id item → item.node ≡ node → form_of item.facts.form ≡ form root (term_in (thing_of all node))
form_of_node root all id item node at is =
    ap (λ (f : Facts). f.form) at.kept ∙ ap (λ (n : Node). form root (term_in (thing_of all n))) is

-- nothing is mentioned where nothing stands
pub no_term_here : (root : Box) (all : List Thing) (id : ℕ) (set : List ℕ) → thing_at all id ≡ nothing → set ≡ with_cells set (other_mentions root (term_at all id))
no_term_here root all id set none = ap (λ (t : Thing). with_cells set (other_mentions root (term_in t))) (sym none)

pub no_cond_here : (root : Box) (all : List Thing) (id : ℕ) (set : List ℕ) → thing_at all id ≡ nothing → set ≡ with_cells set (cond_mentions root (cond_at all id))
no_cond_here root all id set none = ap (λ (t : Thing). with_cells set (cond_mentions root (cond_in t))) (sym none)

-- what is made of one number mentions nothing else
pub of_operation : (root : Box) (operation : Operation) (t : Term) (set : List ℕ) → set ≡ with_cells set (other_mentions root (Made operation t))
of_operation root operation t set = refl

-- the least and the greatest of several mention what these do
pub of_extreme : (root : Box) (extreme : Extreme) (t : Term) (later : Terms) (before after : List ℕ) → after ≡ with_cells before (mentions root t ++ terms_mention root later) → after
    ≡ with_cells before (other_mentions root (Selected extreme t later))
of_extreme root extreme t later before after put = put

-- one of several more
pub next_part : (root : Box) (all : List Thing) (before after : List ℕ) (xs : List Signed) (i : ℕ) (x : Signed) → i < length xs → x ≡ get_or xs i x → after
    ≡ with_cells before (mentions root (term_at all x.term))
    → with_cells after (parts_mention root (parts_at all (drop (i + 1) xs))) ≡ with_cells before (parts_mention root (parts_at all (drop i xs)))
next_part root all before after xs i x below at put =
    ap (λ (set : List ℕ). with_cells set (parts_mention root (parts_at all (drop (i + 1) xs)))) put
    ∙ sym (fold-append (insert_key nat_cmp) before (mentions root (term_at all x.term)) (parts_mention root (parts_at all (drop (i + 1) xs))))
    ∙ ap (λ (y : Signed). with_cells before (mentions root (term_at all y.term) ++ parts_mention root (parts_at all (drop (i + 1) xs)))) at
    ∙ sym (at_drop_more (λ ys. with_cells before (parts_mention root (parts_at all ys))) xs i x below)

pub next_term : (root : Box) (all : List Thing) (before after xs : List ℕ) (i x : ℕ) → i < length xs → x ≡ get_or xs i x → after ≡ with_cells before (mentions root (term_at all x))
    → with_cells after (terms_mention root (terms_at all (drop (i + 1) xs))) ≡ with_cells before (terms_mention root (terms_at all (drop i xs)))
next_term root all before after xs i x below at put =
    ap (λ (set : List ℕ). with_cells set (terms_mention root (terms_at all (drop (i + 1) xs)))) put
    ∙ sym (fold-append (insert_key nat_cmp) before (mentions root (term_at all x)) (terms_mention root (terms_at all (drop (i + 1) xs))))
    ∙ ap (λ (y : ℕ). with_cells before (mentions root (term_at all y) ++ terms_mention root (terms_at all (drop (i + 1) xs)))) at
    ∙ sym (at_drop_more (λ ys. with_cells before (terms_mention root (terms_at all ys))) xs i x below)

pub next_cond : (root : Box) (all : List Thing) (before after xs : List ℕ) (i x : ℕ) → i < length xs → x ≡ get_or xs i x → after ≡ with_cells before (cond_mentions root (cond_at all x))
    → with_cells after (conds_mention root (conds_at all (drop (i + 1) xs))) ≡ with_cells before (conds_mention root (conds_at all (drop i xs)))
next_cond root all before after xs i x below at put =
    ap (λ (set : List ℕ). with_cells set (conds_mention root (conds_at all (drop (i + 1) xs)))) put
    ∙ sym (fold-append (insert_key nat_cmp) before (cond_mentions root (cond_at all x)) (conds_mention root (conds_at all (drop (i + 1) xs))))
    ∙ ap (λ (y : ℕ). with_cells before (cond_mentions root (cond_at all y) ++ conds_mention root (conds_at all (drop (i + 1) xs)))) at
    ∙ sym (at_drop_more (λ ys. with_cells before (conds_mention root (conds_at all ys))) xs i x below)

pub three_lists : (set one two last first second third : List ℕ) → one ≡ with_cells set first → two ≡ with_cells one second → last ≡ with_cells two third
    → last ≡ with_cells set (first ++ (second ++ third))
three_lists set one two last first second third first_put second_put third_put =
    third_put
    ∙ ap (λ (s : List ℕ). with_cells s third) second_put
    ∙ sym (fold-append (insert_key nat_cmp) one second third)
    ∙ ap (λ (s : List ℕ). with_cells s (second ++ third)) first_put
    ∙ sym (fold-append (insert_key nat_cmp) set first (second ++ third))

pub next_task : (root : Box) (all : List Thing) (before after : List ℕ) (xs : List Task) (i : ℕ) (x : Task) → i < length xs → x ≡ get_or xs i x → after ≡ with_cells before (task_mentions root all x)
    → with_cells after (tasks_mention root (tasks_at all (drop (i + 1) xs))) ≡ with_cells before (tasks_mention root (tasks_at all (drop i xs)))
next_task root all before after xs i x below at put =
    let later : List ℕ = tasks_mention root (tasks_at all (drop (i + 1) xs)) in
    let s : List ℕ = mentions root (term_at all x.start) in
    let d : List ℕ = mentions root (term_at all x.duration) in
    let m : List ℕ = mentions root (term_at all x.demand) in
    ap (λ (set : List ℕ). with_cells set later) put
    ∙ sym (fold-append (insert_key nat_cmp) before (s ++ (d ++ m)) later)
    ∙ ap (with_cells before) (append_assoc s (d ++ m) later ∙ ap (λ (xs : List ℕ). s ++ xs) (append_assoc d m later))
    ∙ ap (λ (y : Task). with_cells before (mentions root (term_at all y.start) ++ (mentions root (term_at all y.duration) ++ (mentions root (term_at all y.demand) ++ later)))) at
    ∙ sym (at_drop_more (λ ys. with_cells before (tasks_mention root (tasks_at all ys))) xs i x below)

-- none is left
pub no_task_left : (root : Box) (all : List Thing) (set : List ℕ) (xs : List Task) (i : ℕ) → length xs ≤ i → with_cells set (tasks_mention root (tasks_at all (drop i xs))) ≡ set
no_task_left root all set xs i past = at_drop_all (λ ys. with_cells set (tasks_mention root (tasks_at all ys))) xs i past

pub no_part_left : (root : Box) (all : List Thing) (set : List ℕ) (xs : List Signed) (i : ℕ) → length xs ≤ i → with_cells set (parts_mention root (parts_at all (drop i xs))) ≡ set
no_part_left root all set xs i past = at_drop_all (λ ys. with_cells set (parts_mention root (parts_at all ys))) xs i past

pub no_term_left : (root : Box) (all : List Thing) (set xs : List ℕ) (i : ℕ) → length xs ≤ i → with_cells set (terms_mention root (terms_at all (drop i xs))) ≡ set
no_term_left root all set xs i past = at_drop_all (λ ys. with_cells set (terms_mention root (terms_at all ys))) xs i past

pub no_cond_left : (root : Box) (all : List Thing) (set xs : List ℕ) (i : ℕ) → length xs ≤ i → with_cells set (conds_mention root (conds_at all (drop i xs))) ≡ set
no_cond_left root all set xs i past = at_drop_all (λ ys. with_cells set (conds_mention root (conds_at all ys))) xs i past
