-- What is made of one number over a box, and the least and the greatest of several.
use Rattle.std.proofs.Common.{◌≡◌, ℕ, ◌+◌, ◌<◌, ◌≤◌, ℤ, pos, Bool, true, false, List, [], ◌∷◌, length, get_or, drop, arith, refl, ap, subst, sym, ◌∙◌}
use Rattle.std.specs.List.{fold}
use Rattle.std.proofs.lemmas.List.{at_drop_more, at_drop_all}
use Rattle.box_problem.specs.Box.{Box}
use Rattle.term_language.specs.Ends as ends
use Rattle.term_language.specs.Marks.{both, all_marks}
use Rattle.term_language.specs.Rules.{Reading, Near, Wide, form, forms, mark, marks, interval, intervals, folds, folded, unless_folded, chosen}
use Rattle.term_language.specs.Sizes.{size}
use Rattle.term_language.specs.Terms as rule
use Rattle.term_language.specs.declared.answers.Defined.{Defined}
use Rattle.term_language.proofs.Bounds.{bounded_whole}
use Rattle.term_language.proofs.Sharpening.{intervals_narrow}
use Rattle.term_language.proofs.Marks.{both_always, both_grouped}
use Rattle.term_language.proofs.Shared.{bounds_within}
use Rattle.term_math.specs.Shown.{box_in}
use Rattle.sopl_base.specs.declared.extreme.Extreme.{Extreme}
use Rattle.term_language.specs.declared.made.Operation.{Operation}
use Rattle.sopl_base.specs.Extremes.{chosen_by}
use Rattle.term_language.specs.Ends.{made, made_of, picked}
use Rattle.term_math.specs.Made.{IsSmall}
use Rattle.term_nodes.specs.declared.evaluation.Evaluator.{Evaluator}
use Rattle.term_nodes.specs.Seen.{reading_of, CanRead, Sight, sight, extreme_range}
use Rattle.term_nodes.specs.Things.{Thing, term_at, terms_at, things}
use Rattle.term_nodes.proofs.Ready.{small_term}

-- whole intervals of small terms are small
range_small : (here : Evaluator) (id : ℕ) → CanRead here → IsSmall (interval (reading_of here) (box_in here.root) (box_in here.view) (term_at (things here.items.now) id))
range_small here id ready =
    let root = box_in here.root in
    let b = box_in here.view in
    let t = term_at (things here.items.now) id in
    let sound = small_term root here.items.now id ready.built in
    let bounds = bounds_within (interval (reading_of here) root b t) (interval Wide root root t) (size root t) (intervals_narrow (reading_of here) root b root t ready.root_is_box ready.inside sound.proper)
    (bounded_whole root t sound.proper) in
    record { low = omega (arith, bounds.low, sound.small); high = omega (arith, bounds.high, sound.small) }

pub operation_small : (here : Evaluator) (id : ℕ) (a : ends.Ends) → CanRead here → a ≡ interval (reading_of here) (box_in here.root) (box_in here.view) (term_at (things here.items.now) id) → IsSmall a
operation_small here id a ready is = subst IsSmall (sym is) (range_small here id ready)

-- whether something folds is seen by its form
folded_plain : (fold_it : Bool) (z : _) → (folded fold_it z).plain ≡ fold_it
folded_plain true z = refl
folded_plain false z = refl

pub same_sight : (a c : ends.Ends) (m n : Defined) → a ≡ c → m ≡ n → (◌≡◌ {A = Sight}) (record { ends = a; mark = m }) (record { ends = c; mark = n })
same_sight a c m n p q = (ap (λ (e : ends.Ends). record { ends = e; mark = m }) p) ∙ ap (λ (k : Defined). record { ends = c; mark = k }) q

-- a term that folds to a number, or is an atom: where it is plain it has no interval of its own, and else the one that is told
folded_seen : (fold_it : Bool) (z : ℤ) (c a : ends.Ends) (m n : Defined) (plain : Bool) → plain ≡ (folded fold_it z).plain → plain ≡ true → a ≡ ends.exactly (pos 0) → m ≡ n
    → (◌≡◌ {A = Sight}) (record { ends = a; mark = m }) (record { ends = unless_folded fold_it c; mark = n })
folded_seen fold_it z c a m n plain plain_is met zero marked =
    same_sight a (unless_folded fold_it c) m n (zero ∙ ap (λ (f : Bool). unless_folded f c) (sym met ∙ plain_is ∙ folded_plain fold_it z)) marked

alone_seen : (fold_it : Bool) (z : ℤ) (c a : ends.Ends) (m n : Defined) (plain : Bool) → plain ≡ (folded fold_it z).plain → plain ≡ false → a ≡ c → m ≡ n
    → (◌≡◌ {A = Sight}) (record { ends = a; mark = m }) (record { ends = unless_folded fold_it c; mark = n })
alone_seen fold_it z c a m n plain plain_is unmet is marked =
    same_sight a (unless_folded fold_it c) m n (is ∙ ap (λ (f : Bool). unless_folded f c) (sym unmet ∙ plain_is ∙ folded_plain fold_it z)) marked

pub operation_folded : (reading : Reading) (root b : Box) (op : Operation) (t : rule.Term) (plain : Bool) (a : ends.Ends) (m : Defined) → plain ≡ (form root (rule.Made op t)).plain → plain ≡ true → a
    ≡ ends.exactly (pos 0) → m ≡ mark reading root b t → (◌≡◌ {A = Sight}) (record { ends = a; mark = m }) (sight reading root b (rule.Made op t))
operation_folded reading root b op t plain a m plain_is met zero marked =
    folded_seen (folds (form root t ∷ []) (mark Near root root t)) (made_of op (form root t).constant) (made op (interval reading root b t)) a m (mark reading root b t) plain plain_is met zero marked

pub operation_alone : (reading : Reading) (root b : Box) (op : Operation) (t : rule.Term) (plain : Bool) (a : ends.Ends) (m : Defined) → plain ≡ (form root (rule.Made op t)).plain → plain ≡ false → a
    ≡ made op (interval reading root b t) → m ≡ mark reading root b t → (◌≡◌ {A = Sight}) (record { ends = a; mark = m }) (sight reading root b (rule.Made op t))
operation_alone reading root b op t plain a m plain_is unmet is marked =
    alone_seen (folds (form root t ∷ []) (mark Near root root t)) (made_of op (form root t).constant) (made op (interval reading root b t)) a m (mark reading root b t) plain plain_is unmet is marked

-- whether the least or the greatest of terms folds
abbrev all_fold : Box → rule.Term → rule.Terms → Bool
all_fold root t later = folds (form root t ∷ forms root later) (both (mark Near root root t) (all_marks (marks Near root root later)))

pub extreme_folded : (reading : Reading) (root b : Box) (e : Extreme) (t : rule.Term) (later : rule.Terms) (plain : Bool) (a : ends.Ends) (r : Sight) → plain ≡ (form root (rule.Selected e t later)).plain
    → plain ≡ true → a ≡ ends.exactly (pos 0) → r ≡ extreme_range reading root b e t later → (◌≡◌ {A = Sight}) (record { ends = a; mark = r.mark }) (sight reading root b (rule.Selected e t later))
extreme_folded reading root b e t later plain a r plain_is met zero is =
    folded_seen (all_fold root t later) (chosen (chosen_by e) (form root t) (forms root later)) (extreme_range reading root b e t later).ends a r.mark (extreme_range reading root b e t later).mark plain
    plain_is met zero (ap (λ (s : Sight). s.mark) is)

pub extreme_alone : (reading : Reading) (root b : Box) (e : Extreme) (t : rule.Term) (later : rule.Terms) (plain : Bool) (r : Sight) → plain ≡ (form root (rule.Selected e t later)).plain → plain ≡ false
    → r ≡ extreme_range reading root b e t later → r ≡ sight reading root b (rule.Selected e t later)
extreme_alone reading root b e t later plain r plain_is unmet is =
    is ∙ alone_seen (all_fold root t later) (chosen (chosen_by e) (form root t) (forms root later)) (extreme_range reading root b e t later).ends (extreme_range reading root b e t later).ends
    (extreme_range reading root b e t later).mark (extreme_range reading root b e t later).mark plain plain_is unmet refl refl

-- one after the other is taken, from the first to the last
abbrev pub taken : Reading → Box → Box → Extreme → ends.Ends → Defined → rule.Terms → Sight
taken reading root b e a m rule.no_term = record { ends = a; mark = m }
taken reading root b e a m (rule.term t later) = taken reading root b e (picked e a (interval reading root b t)) (both m (mark reading root b t)) later

taken_all : (reading : Reading) (root b : Box) (e : Extreme) (a : ends.Ends) (m : Defined) (ts : rule.Terms) → taken reading root b e a m ts
    ≡ record { ends = fold (picked e) a (intervals reading root b ts); mark = both m (all_marks (marks reading root b ts)) }
taken_all reading root b e a m rule.no_term = ap (λ (n : Defined). record { ends = a; mark = n }) (sym (both_always m))
taken_all reading root b e a m (rule.term t later) =
    taken_all reading root b e (picked e a (interval reading root b t)) (both m (mark reading root b t)) later
    ∙ ap (λ (n : Defined). record { ends = fold (picked e) (picked e a (interval reading root b t)) (intervals reading root b later); mark = n })
    (both_grouped m (mark reading root b t) (all_marks (marks reading root b later)))

pub taken_is : (reading : Reading) (root b : Box) (e : Extreme) (t : rule.Term) (later : rule.Terms) → taken reading root b e (interval reading root b t) (mark reading root b t) later
    ≡ extreme_range reading root b e t later
taken_is reading root b e t later = taken_all reading root b e (interval reading root b t) (mark reading root b t) later

pub next_taken : (reading : Reading) (root b : Box) (e : Extreme) (a : ends.Ends) (m : Defined) (all : List Thing) (xs : List ℕ) (i x : ℕ) → i < length xs → x ≡ get_or xs i x
    → taken reading root b e a m (terms_at all (drop i xs)) ≡ taken reading root b e (picked e a (interval reading root b (term_at all x))) (both m (mark reading root b (term_at all x)))
    (terms_at all (drop (i + 1) xs))
next_taken reading root b e a m all xs i x below at =
    at_drop_more (λ ys. taken reading root b e a m (terms_at all ys)) xs i x below
    ∙ ap (λ (y : ℕ). taken reading root b e (picked e a (interval reading root b (term_at all y))) (both m (mark reading root b (term_at all y))) (terms_at all (drop (i + 1) xs))) (sym at)

pub none_taken : (reading : Reading) (root b : Box) (e : Extreme) (a : ends.Ends) (m : Defined) (all : List Thing) (xs : List ℕ) (i : ℕ) → length xs ≤ i
    → taken reading root b e a m (terms_at all (drop i xs)) ≡ record { ends = a; mark = m }
none_taken reading root b e a m all xs i past = at_drop_all (λ ys. taken reading root b e a m (terms_at all ys)) xs i past
