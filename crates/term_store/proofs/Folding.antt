-- What is known of a term that folds to a number, or is an atom, is right.
use Rattle.std.proofs.Common.{◌≡◌, ℕ, ◌+◌, ◌<◌, ◌≤◌, ℤ, unsigned_abs, Bool, true, false, ◌&&◌, List, [], ◌∷◌, map, length, get_or, drop, arith, refl, ap, subst, sym, ◌∙◌}
use Rattle.std.specs.List.{fold, list_all}
use Rattle.std.proofs.lemmas.List.{at_drop_more, at_drop_all}
use Rattle.box_problem.specs.Box.{Box, IsBox}
use Rattle.term_language.specs.Ends as ends
use Rattle.term_language.specs.Forms.{Form, number_form, is_constant}
use Rattle.term_language.specs.Marks.{both, all_marks, is_always}
use Rattle.term_language.specs.Rules.{Near, Wide, form, forms, atoms, mark, marks, interval, intervals, folds, folded, unless_folded, chosen}
use Rattle.term_language.specs.Sizes.{cells_weight, alone_weight, atoms_weight, size}
use Rattle.term_language.specs.Laws.{IsProper, AreProper}
use Rattle.term_language.specs.Terms as rule
use Rattle.term_language.specs.declared.answers.Defined.{Defined}
use Rattle.term_language.specs.declared.answers.Truth.TheVariants.{True}
use Rattle.term_language.proofs.Bounds.{bounded_whole}
use Rattle.term_language.proofs.FormValues.{and_first, and_second}
use Rattle.sopl_base.specs.declared.extreme.Extreme.{Extreme}
use Rattle.term_language.specs.declared.made.Operation.{Operation}
use Rattle.sopl_base.specs.Extremes.{chosen_by}
use Rattle.term_language.specs.Ends.{made, made_of, picked}
use Rattle.term_math.specs.Made.{IsSmall}
use Rattle.term_math.proofs.Constants.{constant_interval, constant_intervals}
use Rattle.term_math.proofs.Rules.{made_exactly, fold_exactly, folded_size}
use Rattle.term_nodes.specs.declared.items.Item.{Item}
use Rattle.term_nodes.specs.Things.{Thing, a_term, term_at, terms_at, things}
use Rattle.term_nodes.specs.Built.{Facts, IsBuilt, facts_of}
use Rattle.term_nodes.specs.Seen.{Sight, extreme_range}
use Rattle.term_language.proofs.Marks.{both_always, both_grouped}
use Rattle.term_nodes.proofs.Ready.{small_term, terms_proper}
use Rattle.term_store.specs.Atoms.{of_folded, size_of_folded}

-- whole intervals over the root are small
pub wide_small : (root : Box) (items : List Item) (id : ℕ) (a : ends.Ends) → IsBuilt root items → a ≡ interval Wide root root (term_at (things items) id) → IsSmall a
wide_small root items id a all is =
    let t = term_at (things items) id in
    let sound = small_term root items id all in
    let bounds = bounded_whole root t sound.proper in
    subst IsSmall (sym is) (record { low = omega (arith, bounds.low, sound.small); high = omega (arith, bounds.high, sound.small) })

-- all that is known of a term
abbrev pub known : Form → Defined → Defined → ends.Ends → ℕ → Facts
known f near far a weight = record { form = f; mark = near; wide_mark = far; wide = a; weight = weight; truth = True }

module _ (root : Box) (t : rule.Term) (folds_it : Bool) (z : ℤ) (a : ends.Ends) (is_form : form root t ≡ folded folds_it z) (is_atoms : atoms Wide root root t
    ≡ unless_folded folds_it a) (is_weight : atoms_weight root t ≡ alone_weight (form root t) (atoms Wide root root t)) (is_number : folds_it ≡ true → z ≡ a.high) where
  folded_same : (b : Bool) (x y : ℤ) → (b ≡ true → x ≡ y) → folded b x ≡ folded b y
  folded_same true x y same = ap number_form (same refl)
  folded_same false x y same = refl

  form_is : form root t ≡ folded folds_it a.high
  form_is = is_form ∙ folded_same folds_it z a.high is_number

  weight_is : atoms_weight root t ≡ alone_weight (folded folds_it a.high) (unless_folded folds_it a)
  weight_is =
      is_weight ∙ ap (λ (f : Form). alone_weight f (atoms Wide root root t)) form_is
      ∙ ap (λ (e : ends.Ends). alone_weight (folded folds_it a.high) e) is_atoms

  -- all that is kept of it is right, where each piece is
  pub kept_as : (near far m : Defined) (b : Bool) (s : Sight) → mark Near root root t ≡ near → mark Wide root root t ≡ far → b ≡ folds_it → m ≡ near
      → s ≡ record { ends = a; mark = far } → of_folded b m s ≡ facts_of root (a_term t)
  kept_as near far m b s is_near is_far b_is m_is s_is =
      ap (λ (x : Bool). of_folded x m s) b_is
      ∙ ap (λ (x : Defined). of_folded folds_it x s) m_is
      ∙ ap (of_folded folds_it near) s_is
      ∙ sym (
      ap (λ (f : Form). known f (mark Near root root t) (mark Wide root root t) (atoms Wide root root t) (atoms_weight root t)) form_is
      ∙ ap (λ (m : Defined). known (folded folds_it a.high) m (mark Wide root root t) (atoms Wide root root t) (atoms_weight root t)) is_near
      ∙ ap (λ (m : Defined). known (folded folds_it a.high) near m (atoms Wide root root t) (atoms_weight root t)) is_far
      ∙ ap (λ (e : ends.Ends). known (folded folds_it a.high) near far e (atoms_weight root t)) is_atoms
      ∙ ap (known (folded folds_it a.high) near far (unless_folded folds_it a)) weight_is
      )

  -- and so is its size
  pub measured_as : (far : Defined) (b : Bool) (s : Sight) → b ≡ folds_it → s ≡ record { ends = a; mark = far } → size_of_folded b s.ends ≡ size root t
  measured_as far b s b_is s_is =
      ap (λ (x : Bool). size_of_folded x s.ends) b_is
      ∙ ap (λ (x : Sight). size_of_folded folds_it x.ends) s_is
      ∙ sym (
      ap (λ (f : Form). unsigned_abs f.constant + cells_weight root f.cells + atoms_weight root t) form_is
      ∙ ap (λ (n : ℕ). unsigned_abs (folded folds_it a.high).constant + cells_weight root (folded folds_it a.high).cells + n) weight_is
      ∙ folded_size root folds_it a.high a
      )

-- what is made of one number
operation_number : (root : Box) (op : Operation) (t : rule.Term) → IsBox root → IsProper t → folds (form root t ∷ []) (mark Near root root t) ≡ true → made_of op (form root t).constant
    ≡ (made op (interval Wide root root t)).high
operation_number root op t is_box proper fold_it =
    let constant : is_constant (form root t) ≡ true = and_first (is_constant (form root t)) true (and_first (is_constant (form root t) && true) (is_always (mark Near root root t)) fold_it) in
    sym (ap (λ (e : ends.Ends). (made op e).high) (constant_interval Wide root root t is_box proper constant) ∙ made_exactly op (form root t).constant)

pub operation_kept : (root : Box) (items : List Item) (op : Operation) (id : ℕ) (b : Bool) (m : Defined) (s : Sight) → IsBox root → IsBuilt root items → b
    ≡ folds (form root (term_at (things items) id) ∷ []) (mark Near root root (term_at (things items) id)) → m ≡ mark Near root root (term_at (things items) id) → s
    ≡ record { ends = made op (interval Wide root root (term_at (things items) id)); mark = mark Wide root root (term_at (things items) id) } → of_folded b m s
    ≡ facts_of root (a_term (rule.Made op (term_at (things items) id)))
operation_kept root items op id b m s is_box all b_is m_is s_is =
    let t = term_at (things items) id in
    kept_as root (rule.Made op t) (folds (form root t ∷ []) (mark Near root root t)) (made_of op (form root t).constant) (made op (interval Wide root root t)) refl refl refl
    (operation_number root op t is_box (small_term root items id all).proper) (mark Near root root t) (mark Wide root root t) m b s refl refl b_is m_is s_is

pub operation_measured : (root : Box) (items : List Item) (op : Operation) (id : ℕ) (b : Bool) (s : Sight) → IsBox root → IsBuilt root items → b
    ≡ folds (form root (term_at (things items) id) ∷ []) (mark Near root root (term_at (things items) id)) → s
    ≡ record { ends = made op (interval Wide root root (term_at (things items) id)); mark = mark Wide root root (term_at (things items) id) } → size_of_folded b s.ends
    ≡ size root (rule.Made op (term_at (things items) id))
operation_measured root items op id b s is_box all b_is s_is =
    let t = term_at (things items) id in
    measured_as root (rule.Made op t) (folds (form root t ∷ []) (mark Near root root t)) (made_of op (form root t).constant) (made op (interval Wide root root t)) refl refl refl
    (operation_number root op t is_box (small_term root items id all).proper) (mark Wide root root t) b s b_is s_is

-- the least and the greatest of several
extreme_number : (root : Box) (e : Extreme) (t : rule.Term) (later : rule.Terms) → IsBox root → IsProper t → AreProper later
    → folds (form root t ∷ forms root later) (both (mark Near root root t) (all_marks (marks Near root root later))) ≡ true → chosen (chosen_by e) (form root t) (forms root later)
    ≡ (extreme_range Wide root root e t later).ends.high
extreme_number root e t later is_box proper others fold_it =
    let all = and_first (is_constant (form root t) && list_all is_constant (forms root later)) (is_always (both (mark Near root root t) (all_marks (marks Near root root later)))) fold_it in
    let first = constant_interval Wide root root t is_box proper (and_first (is_constant (form root t)) (list_all is_constant (forms root later)) all) in
    let rest = constant_intervals Wide root root later is_box others (and_second (is_constant (form root t)) (list_all is_constant (forms root later)) all) in
    let numbers : List ℤ = map (λ (g : Form). g.constant) (forms root later) in
    sym (
    ap (λ (a : ends.Ends). (fold (picked e) a (intervals Wide root root later)).high) first
    ∙ ap (λ (es : List ends.Ends). (fold (picked e) (ends.exactly (form root t).constant) es).high) rest
    ∙ ap (λ (a : ends.Ends). a.high) (fold_exactly e (form root t).constant numbers)
    )

abbrev all_fold : Box → rule.Term → rule.Terms → Bool
all_fold root t later = folds (form root t ∷ forms root later) (both (mark Near root root t) (all_marks (marks Near root root later)))

pub extreme_kept : (root : Box) (items : List Item) (e : Extreme) (first : ℕ) (later : List ℕ) (b : Bool) (m : Defined) (s : Sight) → IsBox root → IsBuilt root items → b
    ≡ all_fold root (term_at (things items) first) (terms_at (things items) later) → m
    ≡ both (mark Near root root (term_at (things items) first)) (all_marks (marks Near root root (terms_at (things items) later))) → s
    ≡ extreme_range Wide root root e (term_at (things items) first) (terms_at (things items) later) → of_folded b m s
    ≡ facts_of root (a_term (rule.Selected e (term_at (things items) first) (terms_at (things items) later)))
extreme_kept root items e first later b m s is_box all b_is m_is s_is =
    let t = term_at (things items) first in
    let ts = terms_at (things items) later in
    kept_as root (rule.Selected e t ts) (all_fold root t ts) (chosen (chosen_by e) (form root t) (forms root ts)) (extreme_range Wide root root e t ts).ends refl refl refl
    (extreme_number root e t ts is_box (small_term root items first all).proper (terms_proper root items later all)) (both (mark Near root root t) (all_marks (marks Near root root ts)))
    (extreme_range Wide root root e t ts).mark m b s refl refl b_is m_is s_is

pub extreme_measured : (root : Box) (items : List Item) (e : Extreme) (first : ℕ) (later : List ℕ) (b : Bool) (s : Sight) → IsBox root → IsBuilt root items → b
    ≡ all_fold root (term_at (things items) first) (terms_at (things items) later) → s ≡ extreme_range Wide root root e (term_at (things items) first) (terms_at (things items) later)
    → size_of_folded b s.ends ≡ size root (rule.Selected e (term_at (things items) first) (terms_at (things items) later))
extreme_measured root items e first later b s is_box all b_is s_is =
    let t = term_at (things items) first in
    let ts = terms_at (things items) later in
    measured_as root (rule.Selected e t ts) (all_fold root t ts) (chosen (chosen_by e) (form root t) (forms root ts)) (extreme_range Wide root root e t ts).ends refl refl refl
    (extreme_number root e t ts is_box (small_term root items first all).proper (terms_proper root items later all)) (extreme_range Wide root root e t ts).mark b s b_is s_is

-- steps over several terms
pub next_constants : (root : Box) (all : List Thing) (xs : List ℕ) (i x : ℕ) → i < length xs → x ≡ get_or xs i x → list_all is_constant (forms root (terms_at all (drop i xs)))
    ≡ (is_constant (form root (term_at all x)) && list_all is_constant (forms root (terms_at all (drop (i + 1) xs))))
next_constants root all xs i x below at =
    at_drop_more (λ ys. list_all is_constant (forms root (terms_at all ys))) xs i x below
    ∙ ap (λ (y : ℕ). is_constant (form root (term_at all y)) && list_all is_constant (forms root (terms_at all (drop (i + 1) xs)))) (sym at)

pub no_constants : (root : Box) (all : List Thing) (xs : List ℕ) (i : ℕ) → length xs ≤ i → list_all is_constant (forms root (terms_at all (drop i xs))) ≡ true
no_constants root all xs i past = at_drop_all (λ ys. list_all is_constant (forms root (terms_at all ys))) xs i past

pub next_marks : (root : Box) (m : Defined) (all : List Thing) (xs : List ℕ) (i x : ℕ) → i < length xs → x ≡ get_or xs i x → both m (all_marks (marks Near root root (terms_at all (drop i xs))))
    ≡ both (both m (mark Near root root (term_at all x))) (all_marks (marks Near root root (terms_at all (drop (i + 1) xs))))
next_marks root m all xs i x below at =
    at_drop_more (λ ys. both m (all_marks (marks Near root root (terms_at all ys)))) xs i x below
    ∙ ap (λ (y : ℕ). both m (both (mark Near root root (term_at all y)) (all_marks (marks Near root root (terms_at all (drop (i + 1) xs)))))) (sym at)
    ∙ sym (both_grouped m (mark Near root root (term_at all x)) (all_marks (marks Near root root (terms_at all (drop (i + 1) xs)))))

pub no_marks : (root : Box) (m : Defined) (all : List Thing) (xs : List ℕ) (i : ℕ) → length xs ≤ i → both m (all_marks (marks Near root root (terms_at all (drop i xs)))) ≡ m
no_marks root m all xs i past = at_drop_all (λ ys. both m (all_marks (marks Near root root (terms_at all ys)))) xs i past ∙ both_always m
