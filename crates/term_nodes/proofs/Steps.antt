-- Steps of what sums and conditions are over a box, from the last part to the first.
use Rattle.std.proofs.Common.{◌≡◌, ℕ, ◌+◌, ◌-◌, ◌<◌, ◌≤◌, List, [], ◌∷◌, length, get_or, drop, zero, suc, arith, ap, subst, sym, ◌∙◌}
use Rattle.std.proofs.lemmas.List.{at_drop_more, at_drop_all, get_or_default}
use Rattle.box_problem.specs.Box.{Box}
use Rattle.term_language.specs.Ends as ends
use Rattle.term_language.specs.Forms.{sign}
use Rattle.term_language.specs.Marks.{both, all_marks, and_truth, or_truth}
use Rattle.term_language.specs.Terms as rule
use Rattle.term_language.specs.declared.answers.Defined.TheVariants.{Always}
use Rattle.term_language.specs.Rules.{Reading, form, atoms, mark, marks, sum_atoms, truth, all_truth, any_truth}
use Rattle.term_language.specs.declared.answers.Truth.{Truth}
use Rattle.term_nodes.specs.declared.nodes.Node.{Node}
use Rattle.term_nodes.specs.declared.nodes.Signed.{Signed}
use Rattle.term_nodes.specs.declared.items.Item.{Item}
use Rattle.term_nodes.specs.Things.{Thing, term_in, cond_in, table_in, term_at, terms_at, cond_at, table_at, thing_of, parts_at, conds_at}
use Rattle.term_nodes.specs.Built.{Facts, IsAt, IsBelow, IsSound, IsRight, PartsBelow, AllBelow}
use Rattle.term_nodes.specs.Seen.{Sight, sight, sum_sight}

-- what is known where it is known which node stands at a number
pub seen_at : (reading : Reading) (root b : Box) (all : List Thing) (id : ℕ) (item : Item) (node : Node) (r : Sight) → IsAt root all id item → item.node ≡ node → r ≡ sight reading root b (term_in (thing_of all node))
    → r ≡ sight reading root b (term_at all id)
seen_at reading root b all id item node r at is seen =
    seen ∙ ap (λ (n : Node). sight reading root b (term_in (thing_of all n))) (sym is) ∙ ap (λ (t : Thing). sight reading root b (term_in t)) (sym at.thing)

pub truth_at : (reading : Reading) (root b : Box) (all : List Thing) (id : ℕ) (item : Item) (node : Node) (r : Truth) → IsAt root all id item → item.node ≡ node → r ≡ truth reading root b (cond_in (thing_of all node))
    → r ≡ truth reading root b (cond_at all id)
truth_at reading root b all id item node r at is seen =
    seen ∙ ap (λ (n : Node). truth reading root b (cond_in (thing_of all n))) (sym is) ∙ ap (λ (t : Thing). truth reading root b (cond_in t)) (sym at.thing)

pub below_at : (root : Box) (all : List Thing) (id : ℕ) (item : Item) (node : Node) → IsAt root all id item → item.node ≡ node → IsBelow id node
below_at root all id item node at is = subst (IsBelow id) is at.below

pub sound_at : (root : Box) (all : List Thing) (id : ℕ) (item : Item) (node : Node) → IsAt root all id item → item.node ≡ node → IsSound root (thing_of all node)
sound_at root all id item node at is = subst (λ (n : Node). IsSound root (thing_of all n)) is at.sound

pub right_at : (root : Box) (all : List Thing) (id : ℕ) (item : Item) (node : Node) → IsAt root all id item → item.node ≡ node → IsRight root all node
right_at root all id item node at is = subst (IsRight root all) is at.right

pub plain_at : (root : Box) (all : List Thing) (id : ℕ) (item : Item) (node : Node) → IsAt root all id item → item.node ≡ node → item.facts.form.plain ≡ (form root (term_in (thing_of all node))).plain
plain_at root all id item node at is =
    ap (λ (f : Facts). f.form.plain) at.kept ∙ ap (λ (n : Node). (form root (term_in (thing_of all n))).plain) is

pub table_is : (root : Box) (all : List Thing) (id : ℕ) (item : Item) (node : Node) (t : rule.Table) → IsAt root all id item → item.node ≡ node → t ≡ table_in (thing_of all node) → t ≡ table_at all id
table_is root all id item node t at is found =
    found ∙ ap (λ (n : Node). table_in (thing_of all n)) (sym is) ∙ ap table_in (sym at.thing)

pub next_seen_marks : (reading : Reading) (root b : Box) (all : List Thing) (xs : List ℕ) (i x : ℕ) → i < length xs → x ≡ get_or xs i x → all_marks (marks reading root b (terms_at all (drop i xs)))
    ≡ both (mark reading root b (term_at all x)) (all_marks (marks reading root b (terms_at all (drop (i + 1) xs))))
next_seen_marks reading root b all xs i x below at =
    at_drop_more (λ ys. all_marks (marks reading root b (terms_at all ys))) xs i x below
    ∙ ap (λ (y : ℕ). both (mark reading root b (term_at all y)) (all_marks (marks reading root b (terms_at all (drop (i + 1) xs))))) (sym at)

pub no_seen_marks : (reading : Reading) (root b : Box) (all : List Thing) (xs : List ℕ) (i : ℕ) → length xs ≤ i → all_marks (marks reading root b (terms_at all (drop i xs))) ≡ Always
no_seen_marks reading root b all xs i past = at_drop_all (λ ys. all_marks (marks reading root b (terms_at all ys))) xs i past

-- the parts of a sum
pub next_part : (reading : Reading) (root b : Box) (all : List Thing) (xs : List Signed) (i : ℕ) (x : Signed) → i < length xs → x ≡ get_or xs i x → sum_sight reading root b (parts_at all (drop i xs))
    ≡ record {
      ends = ends.plus (ends.scaled (sign x.subtracted) (atoms reading root b (term_at all x.term))) (sum_atoms reading root b (parts_at all (drop (i + 1) xs)));
      mark =
          both (mark reading root b (term_at all x.term)) (sum_sight reading root b (parts_at all (drop (i + 1) xs))).mark;
    }
next_part reading root b all xs i x below at =
    at_drop_more (λ ys. sum_sight reading root b (parts_at all ys)) xs i x below
    ∙ ap (λ (y : Signed). record {
      ends = ends.plus (ends.scaled (sign y.subtracted) (atoms reading root b (term_at all y.term))) (sum_atoms reading root b (parts_at all (drop (i + 1) xs)));
      mark =
          both (mark reading root b (term_at all y.term)) (sum_sight reading root b (parts_at all (drop (i + 1) xs))).mark;
    }) (sym at)

pub no_parts : (reading : Reading) (root b : Box) (all : List Thing) (xs : List Signed) (i : ℕ) → length xs ≤ i → sum_sight reading root b (parts_at all (drop i xs)) ≡ sum_sight reading root b (parts_at all [])
no_parts reading root b all xs i past = at_drop_all (λ ys. sum_sight reading root b (parts_at all ys)) xs i past

pub part_below : (limit : ℕ) (xs : List Signed) (i : ℕ) (x : Signed) → PartsBelow limit xs → i < length xs → x ≡ get_or xs i x → x.term < limit
part_below limit [] i x below there at = omega (arith, there)
part_below limit (y ∷ ys) zero x below there at = subst (λ (p : Signed). p.term < limit) (sym at) below.0
part_below limit (y ∷ ys) (suc i) x below there at = part_below limit ys i x below.1 (omega (arith, there)) at

-- conditions
pub next_all : (reading : Reading) (root b : Box) (all : List Thing) (xs : List ℕ) (i x : ℕ) → i < length xs → x ≡ get_or xs i x → all_truth reading root b (conds_at all (drop i xs))
    ≡ and_truth (truth reading root b (cond_at all x)) (all_truth reading root b (conds_at all (drop (i + 1) xs)))
next_all reading root b all xs i x below at =
    at_drop_more (λ ys. all_truth reading root b (conds_at all ys)) xs i x below
    ∙ ap (λ (y : ℕ). and_truth (truth reading root b (cond_at all y)) (all_truth reading root b (conds_at all (drop (i + 1) xs)))) (sym at)

pub next_any : (reading : Reading) (root b : Box) (all : List Thing) (xs : List ℕ) (i x : ℕ) → i < length xs → x ≡ get_or xs i x → any_truth reading root b (conds_at all (drop i xs))
    ≡ or_truth (truth reading root b (cond_at all x)) (any_truth reading root b (conds_at all (drop (i + 1) xs)))
next_any reading root b all xs i x below at =
    at_drop_more (λ ys. any_truth reading root b (conds_at all ys)) xs i x below
    ∙ ap (λ (y : ℕ). or_truth (truth reading root b (cond_at all y)) (any_truth reading root b (conds_at all (drop (i + 1) xs)))) (sym at)

pub none_all : (reading : Reading) (root b : Box) (all : List Thing) (xs : List ℕ) (i : ℕ) → length xs ≤ i → all_truth reading root b (conds_at all (drop i xs))
    ≡ all_truth reading root b (conds_at all [])
none_all reading root b all xs i past = at_drop_all (λ ys. all_truth reading root b (conds_at all ys)) xs i past

pub none_any : (reading : Reading) (root b : Box) (all : List Thing) (xs : List ℕ) (i : ℕ) → length xs ≤ i → any_truth reading root b (conds_at all (drop i xs))
    ≡ any_truth reading root b (conds_at all [])
none_any reading root b all xs i past = at_drop_all (λ ys. any_truth reading root b (conds_at all ys)) xs i past

pub cond_below : (limit : ℕ) (xs : List ℕ) (i x : ℕ) → AllBelow limit xs → i < length xs → x ≡ get_or xs i x → x < limit
cond_below limit [] i x below there at = omega (arith, there)
cond_below limit (y ∷ ys) zero x below there at = subst (λ (p : ℕ). p < limit) (sym at) below.0
cond_below limit (y ∷ ys) (suc i) x below there at = cond_below limit ys i x below.1 (omega (arith, there)) at

-- a number of the list is below the limit, in a loop that counts down
pub cond_back : (limit : ℕ) (xs : List ℕ) (i d : ℕ) → AllBelow limit xs → 0 < i → i ≤ length xs → get_or xs (i - 1) d < limit
cond_back limit xs i d below positive most =
    let there : i - 1 < length xs = omega (arith, positive, most) in
    cond_below limit xs (i - 1) (get_or xs (i - 1) d) below there (get_or_default xs (i - 1) d (get_or xs (i - 1) d) there)

pub part_back : (limit : ℕ) (xs : List Signed) (i : ℕ) (d : Signed) → PartsBelow limit xs → 0 < i → i ≤ length xs → (get_or xs (i - 1) d).term < limit
part_back limit xs i d below positive most =
    let there : i - 1 < length xs = omega (arith, positive, most) in
    part_below limit xs (i - 1) (get_or xs (i - 1) d) below there (get_or_default xs (i - 1) d (get_or xs (i - 1) d) there)

pub all_parts : (reading : Reading) (root b : Box) (all : List Thing) (xs : List Signed) (i : ℕ) (r : Sight) → i ≤ 0 → r ≡ sum_sight reading root b (parts_at all (drop i xs)) → r ≡ sum_sight reading root b (parts_at all xs)
all_parts reading root b all xs i r none is =
    let at_zero : i ≡ 0 = omega (arith, none) in
    is ∙ ap (λ (j : ℕ). sum_sight reading root b (parts_at all (drop j xs))) at_zero
