-- Steps of the loops over terms that are to differ.
use Rattle.std.proofs.Common.{◌≡◌, ℕ, ◌+◌, ◌<◌, ◌≤◌, suc, ℤ, Bool, true, false, if◌then◌else◌, List, [], ◌∷◌, length, get_or, drop, arith, refl, ap, sym, subst, ◌∙◌}
use Rattle.std.specs.List.{list_all, list_any}
use Rattle.std.proofs.lemmas.List.{at_drop_more, at_drop_all}
use Rattle.std.proofs.lemmas.Bool.{and_left}
use Rattle.sopl_base.proofs.Booleans.{and_true}
use Rattle.box_problem.specs.Box.{Box}
use Rattle.term_language.specs.Ends.{Ends}
use Rattle.term_language.specs.Globals.{is_inside, are_crowded, never_differ, are_apart, always_differ}
use Rattle.term_language.specs.Marks.{judged}
use Rattle.term_language.specs.Rules.{Reading, interval, intervals}
use Rattle.term_language.specs.declared.answers.Defined.{Defined}
use Rattle.term_language.specs.declared.answers.Defined.TheVariants.{Maybe, Always}
use Rattle.term_language.specs.declared.answers.Truth.{Truth}
use Rattle.term_language.specs.declared.answers.Truth.TheVariants.{False, Unknown, True}
use Rattle.term_language.proofs.Sharpening.{intervals_narrow}
use Rattle.term_math.specs.Shown.{box_in}
use Rattle.term_crowds.specs.Crowds.{AllOrdered}
use Rattle.term_crowds.proofs.Crowding.{apart_uncrowded}
use Rattle.term_windows.specs.declared.windows.Window.{Window}
use Rattle.term_windows.specs.Windows.{last_in, inside_in}
use Rattle.term_windows.proofs.Crowding as windows
use Rattle.term_windows.proofs.Crowding.{IsSearched, crowd_of}
use Rattle.term_windows.proofs.Steps.{next_any, next_each, no_more, one_more, this_any, this_fails}
use Rattle.term_nodes.specs.declared.evaluation.Evaluator.{Evaluator}
use Rattle.term_nodes.specs.Built.{AllBelow}
use Rattle.term_nodes.specs.Seen.{reading_of, CanRead}
use Rattle.term_nodes.specs.Things.{Thing, term_at, terms_at, things}
use Rattle.term_nodes.proofs.Ready.{small_term}

-- the intervals of several terms
abbrev pub spans : Reading → Box → Box → List Thing → List ℕ → List Ends
spans reading root b all xs = intervals reading root b (terms_at all xs)

-- none of them is empty
pub all_ordered : (here : Evaluator) (xs : List ℕ) → CanRead here → AllOrdered (intervals (reading_of here) (box_in here.root) (box_in here.view) (terms_at (things here.items.now) xs))
all_ordered here [] ready = tt
all_ordered here (x ∷ xs) ready =
    let root = box_in here.root in
    let sound = small_term root here.items.now x ready.built in
    ((intervals_narrow (reading_of here) root (box_in here.view) root (term_at (things here.items.now) x) ready.root_is_box ready.inside sound.proper).ordered, all_ordered here xs ready)

pub count_spans : (reading : Reading) (root b : Box) (all : List Thing) (xs : List ℕ) → length (intervals reading root b (terms_at all xs)) ≡ length xs
count_spans reading root b all [] = refl
count_spans reading root b all (x ∷ xs) = ap suc (count_spans reading root b all xs)

-- how many lie in a window
dropped : (reading : Reading) (root b : Box) (all : List Thing) (xs : List ℕ) (i x : ℕ) → i < length xs → x ≡ get_or xs i x
    → spans reading root b all (drop i xs) ≡ interval reading root b (term_at all x) ∷ spans reading root b all (drop (i + 1) xs)
dropped reading root b all xs i x below at =
    at_drop_more (λ ys. spans reading root b all ys) xs i x below
    ∙ ap (λ (y : ℕ). interval reading root b (term_at all y) ∷ spans reading root b all (drop (i + 1) xs)) (sym at)

pub next_inside : (reading : Reading) (root b : Box) (all : List Thing) (w : Window) (xs : List ℕ) (i x : ℕ) (e : Ends) (t : Bool) → i < length xs → x ≡ get_or xs i x → e ≡ interval reading root b (term_at all x)
    → t ≡ is_inside w.low (last_in w) e → t ≡ true → inside_in w (spans reading root b all (drop i xs)) ≡ inside_in w (spans reading root b all (drop (i + 1) xs)) + 1
next_inside reading root b all w xs i x e t below at is told met =
    one_more w _ _ (interval reading root b (term_at all x)) (dropped reading root b all xs i x below at) (ap (is_inside w.low (last_in w)) (sym is) ∙ sym told ∙ met)

pub next_outside : (reading : Reading) (root b : Box) (all : List Thing) (w : Window) (xs : List ℕ) (i x : ℕ) (e : Ends) (t : Bool) → i < length xs → x ≡ get_or xs i x → e ≡ interval reading root b (term_at all x)
    → t ≡ is_inside w.low (last_in w) e → t ≡ false → inside_in w (spans reading root b all (drop i xs)) ≡ inside_in w (spans reading root b all (drop (i + 1) xs))
next_outside reading root b all w xs i x e t below at is told unmet =
    no_more w _ _ (interval reading root b (term_at all x)) (dropped reading root b all xs i x below at) (ap (is_inside w.low (last_in w)) (sym is) ∙ sym told ∙ unmet)

pub none_inside : (reading : Reading) (root b : Box) (all : List Thing) (w : Window) (xs : List ℕ) (i : ℕ) → length xs ≤ i → inside_in w (spans reading root b all (drop i xs)) ≡ 0
none_inside reading root b all w xs i past = at_drop_all (λ ys. inside_in w (spans reading root b all ys)) xs i past

-- windows that get narrower
pub first_window : (reading : Reading) (root b : Box) (all : List Thing) (xs : List ℕ) (a : ℤ) (w : Window) → w.low ≡ a → w.width ≡ length xs → IsSearched (spans reading root b all xs) a w
first_window reading root b all xs a w low width = windows.first_window (spans reading root b all xs) a w low (omega (arith, width, count_spans reading root b all xs))

pub full_window : (here : Evaluator) (xs : List ℕ) (a : ℤ) (w : Window) (count : ℕ) → CanRead here → IsSearched (spans (reading_of here) (box_in here.root) (box_in here.view) (things here.items.now) xs) a w
    → count ≡ inside_in w (spans (reading_of here) (box_in here.root) (box_in here.view) (things here.items.now) xs) → 0 < w.width → w.width < count
    → list_any (λ (y : Ends). are_crowded (spans (reading_of here) (box_in here.root) (box_in here.view) (things here.items.now) xs) a y.high)
    (spans (reading_of here) (box_in here.root) (box_in here.view) (things here.items.now) xs) ≡ true
full_window here xs a w count ready searched counted some more =
    windows.full_window (spans (reading_of here) (box_in here.root) (box_in here.view) (things here.items.now) xs) a w count (all_ordered here xs ready) searched counted some more

-- one lower end after the other
pub next_uncrowded : (reading : Reading) (root b : Box) (all : List Thing) (es : List Ends) (xs : List ℕ) (i x : ℕ) (e : Ends) (t : Bool) → i < length xs → x ≡ get_or xs i x → e ≡ interval reading root b (term_at all x)
    → t ≡ list_any (λ (y : Ends). are_crowded es e.low y.high) es → t ≡ false → crowd_of es (spans reading root b all (drop i xs)) ≡ crowd_of es (spans reading root b all (drop (i + 1) xs))
next_uncrowded reading root b all es xs i x e t below at is told unmet =
    next_any (λ (f : Ends). list_any (λ (y : Ends). are_crowded es f.low y.high) es) _ _ (interval reading root b (term_at all x)) (dropped reading root b all xs i x below at)
    (ap (λ (f : Ends). list_any (λ (y : Ends). are_crowded es f.low y.high) es) (sym is) ∙ sym told ∙ unmet)

pub next_crowded : (reading : Reading) (root b : Box) (all : List Thing) (es : List Ends) (xs : List ℕ) (i x : ℕ) (e : Ends) (t : Bool) → i < length xs → x ≡ get_or xs i x → e ≡ interval reading root b (term_at all x)
    → t ≡ list_any (λ (y : Ends). are_crowded es e.low y.high) es → t ≡ true → crowd_of es (spans reading root b all (drop i xs)) ≡ true
next_crowded reading root b all es xs i x e t below at is told met =
    this_any (λ (f : Ends). list_any (λ (y : Ends). are_crowded es f.low y.high) es) _ _ (interval reading root b (term_at all x)) (dropped reading root b all xs i x below at)
    (ap (λ (f : Ends). list_any (λ (y : Ends). are_crowded es f.low y.high) es) (sym is) ∙ sym told ∙ met)

pub none_crowded_left : (reading : Reading) (root b : Box) (all : List Thing) (es : List Ends) (xs : List ℕ) (i : ℕ) → length xs ≤ i → crowd_of es (spans reading root b all (drop i xs)) ≡ false
none_crowded_left reading root b all es xs i past = at_drop_all (λ ys. crowd_of es (spans reading root b all ys)) xs i past

-- intervals apart from one
pub next_apart : (reading : Reading) (root b : Box) (all : List Thing) (a : Ends) (xs : List ℕ) (i x : ℕ) (e : Ends) (t : Bool) → i < length xs → x ≡ get_or xs i x → e ≡ interval reading root b (term_at all x)
    → t ≡ are_apart a e → t ≡ true → list_all (are_apart a) (spans reading root b all (drop i xs)) ≡ list_all (are_apart a) (spans reading root b all (drop (i + 1) xs))
next_apart reading root b all a xs i x e t below at is told met =
    next_each (are_apart a) _ _ (interval reading root b (term_at all x)) (dropped reading root b all xs i x below at) (ap (are_apart a) (sym is) ∙ sym told ∙ met)

pub not_apart : (reading : Reading) (root b : Box) (all : List Thing) (a : Ends) (xs : List ℕ) (i x : ℕ) (e : Ends) (t : Bool) → i < length xs → x ≡ get_or xs i x → e ≡ interval reading root b (term_at all x)
    → t ≡ are_apart a e → t ≡ false → list_all (are_apart a) (spans reading root b all (drop i xs)) ≡ false
not_apart reading root b all a xs i x e t below at is told unmet =
    this_fails (are_apart a) _ _ (interval reading root b (term_at all x)) (dropped reading root b all xs i x below at) (ap (are_apart a) (sym is) ∙ sym told ∙ unmet)

pub all_apart : (reading : Reading) (root b : Box) (all : List Thing) (a : Ends) (xs : List ℕ) (i : ℕ) → length xs ≤ i → list_all (are_apart a) (spans reading root b all (drop i xs)) ≡ true
all_apart reading root b all a xs i past = at_drop_all (λ ys. list_all (are_apart a) (spans reading root b all ys)) xs i past

-- intervals apart from each other
pub first_apart : (reading : Reading) (root b : Box) (all : List Thing) (left later : List ℕ) (x : ℕ) (e : Ends) (t : Bool) → left ≡ x ∷ later → e ≡ interval reading root b (term_at all x)
    → t ≡ list_all (are_apart e) (spans reading root b all later) → t ≡ true → always_differ (spans reading root b all left) ≡ always_differ (spans reading root b all later)
first_apart reading root b all left later x e t split is told met =
    ap (λ ys. always_differ (spans reading root b all ys)) split
    ∙ and_true (list_all (are_apart (interval reading root b (term_at all x))) (spans reading root b all later)) (always_differ (spans reading root b all later))
    (ap (λ (f : Ends). list_all (are_apart f) (spans reading root b all later)) (sym is) ∙ sym told ∙ met)

pub first_touches : (reading : Reading) (root b : Box) (all : List Thing) (left later : List ℕ) (x : ℕ) (e : Ends) (t : Bool) → left ≡ x ∷ later → e ≡ interval reading root b (term_at all x)
    → t ≡ list_all (are_apart e) (spans reading root b all later) → t ≡ false → always_differ (spans reading root b all left) ≡ false
first_touches reading root b all left later x e t split is told unmet =
    ap (λ ys. always_differ (spans reading root b all ys)) split
    ∙ and_left (list_all (are_apart (interval reading root b (term_at all x))) (spans reading root b all later)) (always_differ (spans reading root b all later))
    (ap (λ (f : Ends). list_all (are_apart f) (spans reading root b all later)) (sym is) ∙ sym told ∙ unmet)

pub none_touches : (reading : Reading) (root b : Box) (all : List Thing) (left : List ℕ) → length left ≡ 0 → always_differ (spans reading root b all left) ≡ true
none_touches reading root b all [] none = refl
none_touches reading root b all (x ∷ left) none = absurd (omega (arith, none))

pub first_below : (limit : ℕ) (left later : List ℕ) (x : ℕ) → left ≡ x ∷ later → AllBelow limit left → x < limit
first_below limit left later x split below = (subst (AllBelow limit) split below).0

pub later_below : (limit : ℕ) (left later : List ℕ) (x : ℕ) → left ≡ x ∷ later → AllBelow limit left → AllBelow limit later
later_below limit left later x split below = (subst (AllBelow limit) split below).1

pub maybe_never : (never always : Bool) (t : Bool) → t ≡ never → t ≡ true → judged Maybe never always ≡ False
maybe_never never always t told met = ap (λ (p : Bool). judged Maybe p always) (sym told ∙ met)

pub maybe_open : (never always : Bool) (t : Bool) → t ≡ never → t ≡ false → judged Maybe never always ≡ Unknown
maybe_open never always t told unmet = ap (λ (p : Bool). judged Maybe p always) (sym told ∙ unmet)

pub surely_apart : (here : Evaluator) (xs : List ℕ) (t : Bool) → CanRead here → t ≡ always_differ (spans (reading_of here) (box_in here.root) (box_in here.view) (things here.items.now) xs) → t ≡ true
    → judged Always (never_differ (spans (reading_of here) (box_in here.root) (box_in here.view) (things here.items.now) xs))
    (always_differ (spans (reading_of here) (box_in here.root) (box_in here.view) (things here.items.now) xs)) ≡ True
surely_apart here xs t ready told met =
    let es = spans (reading_of here) (box_in here.root) (box_in here.view) (things here.items.now) xs in
    let is : always_differ es ≡ true = sym told ∙ met in
    ap (λ (p : Bool). judged Always p (always_differ es)) (apart_uncrowded es (all_ordered here xs ready) is) ∙ ap (λ (p : Bool). if p then True else Unknown) is

open_always : (never : Bool) → judged Maybe never false ≡ judged Always never false
open_always true = refl
open_always false = refl

pub not_surely : (never always : Bool) (t : Bool) (r : Truth) → t ≡ always → t ≡ false → r ≡ judged Maybe never always → r ≡ judged Always never always
not_surely never always t r told unmet is =
    let no : always ≡ false = sym told ∙ unmet in
    is ∙ ap (judged Maybe never) no ∙ open_always never ∙ sym (ap (judged Always never) no)

pub judged_by : (m n : Defined) (never always : Bool) (r : Truth) → m ≡ n → r ≡ judged m never always → r ≡ judged n never always
judged_by m n never always r same is = is ∙ ap (λ (k : Defined). judged k never always) same
