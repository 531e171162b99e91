-- Steps of the loops over slices of intervals.
use Rattle.std.proofs.Common.{◌≡◌, ℕ, suc, ◌+◌, ◌<◌, ◌≤◌, ℤ, int_le, Bool, true, false, List, [], ◌∷◌, length, get_or, drop, arith, refl, ap, sym, ◌∙◌}
use Rattle.std.specs.List.{list_all, list_any}
use Rattle.std.proofs.lemmas.List.{at_drop_more, at_drop_all}
use Rattle.std.proofs.lemmas.Bool.{and_left}
use Rattle.sopl_base.proofs.Tests.{le_tested}
use Rattle.sopl_base.proofs.Booleans.{and_true}
use Rattle.term_language.specs.Ends as rule
use Rattle.term_language.specs.Globals.{is_inside, are_crowded, are_apart, always_differ}
use Rattle.term_language.proofs.FormValues.{and_first, and_second}
use Rattle.term_crowds.specs.Crowds.{AllOrdered}
use Rattle.term_math.specs.Shown.{ends_of}
use Rattle.term_math.specs.declared.ends.Ends.{Ends}
use Rattle.term_windows.specs.declared.windows.Window.{Window}
use Rattle.term_windows.specs.Windows.{last_in, inside_in, spans}
use Rattle.term_windows.proofs.Steps.{next_any, this_any, next_each, this_fails, one_more, no_more}
use Rattle.term_windows.proofs.Crowding.{IsSearched, crowd_of, first_window}

pub split : (xs : List Ends) (i : ℕ) (x : Ends) → i < length xs → x ≡ get_or xs i x → spans (drop i xs) ≡ ends_of x ∷ spans (drop (i + 1) xs)
split xs i x below at = at_drop_more spans xs i x below ∙ ap (λ (y : Ends). ends_of y ∷ spans (drop (i + 1) xs)) (sym at)

pub length_spans : (xs : List Ends) → length (spans xs) ≡ length xs
length_spans [] = refl
length_spans (x ∷ xs) = ap suc (length_spans xs)

-- in a window
pub next_inside : (w : Window) (xs : List Ends) (i : ℕ) (x : Ends) (t : Bool) → i < length xs → x ≡ get_or xs i x → t ≡ is_inside w.low (last_in w) (ends_of x) → t ≡ true
    → inside_in w (spans (drop i xs)) ≡ inside_in w (spans (drop (i + 1) xs)) + 1
next_inside w xs i x t below at told met = one_more w (spans (drop i xs)) (spans (drop (i + 1) xs)) (ends_of x) (split xs i x below at) (sym told ∙ met)

pub next_outside : (w : Window) (xs : List Ends) (i : ℕ) (x : Ends) (t : Bool) → i < length xs → x ≡ get_or xs i x → t ≡ is_inside w.low (last_in w) (ends_of x) → t ≡ false
    → inside_in w (spans (drop i xs)) ≡ inside_in w (spans (drop (i + 1) xs))
next_outside w xs i x t below at told unmet = no_more w (spans (drop i xs)) (spans (drop (i + 1) xs)) (ends_of x) (split xs i x below at) (sym told ∙ unmet)

pub none_inside : (w : Window) (xs : List Ends) (i : ℕ) → length xs ≤ i → inside_in w (spans (drop i xs)) ≡ 0
none_inside w xs i past = at_drop_all (λ ys. inside_in w (spans ys)) xs i past

-- crowds from each lower end
pub widest_window : (xs : List Ends) (a : ℤ) (w : Window) → w.low ≡ a → w.width ≡ length xs → IsSearched (spans xs) a w
widest_window xs a w low width = first_window (spans xs) a w low (omega (arith, width, length_spans xs))

pub next_uncrowded : (es : List rule.Ends) (xs : List Ends) (i : ℕ) (x : Ends) (t : Bool) → i < length xs → x ≡ get_or xs i x → t ≡ list_any (λ (y : rule.Ends). are_crowded es x.low y.high) es
    → t ≡ false
    → crowd_of es (spans (drop i xs)) ≡ crowd_of es (spans (drop (i + 1) xs))
next_uncrowded es xs i x t below at told unmet =
    next_any (λ (e : rule.Ends). list_any (λ (y : rule.Ends). are_crowded es e.low y.high) es) (spans (drop i xs)) (spans (drop (i + 1) xs)) (ends_of x) (split xs i x below at) (sym told ∙ unmet)

pub next_crowded : (es : List rule.Ends) (xs : List Ends) (i : ℕ) (x : Ends) (t : Bool) → i < length xs → x ≡ get_or xs i x → t ≡ list_any (λ (y : rule.Ends). are_crowded es x.low y.high) es
    → t ≡ true
    → crowd_of es (spans (drop i xs)) ≡ true
next_crowded es xs i x t below at told met =
    this_any (λ (e : rule.Ends). list_any (λ (y : rule.Ends). are_crowded es e.low y.high) es) (spans (drop i xs)) (spans (drop (i + 1) xs)) (ends_of x) (split xs i x below at) (sym told ∙ met)

pub none_crowded_left : (es : List rule.Ends) (xs : List Ends) (i : ℕ) → length xs ≤ i → crowd_of es (spans (drop i xs)) ≡ false
none_crowded_left es xs i past = at_drop_all (λ ys. crowd_of es (spans ys)) xs i past

-- intervals apart from one
pub next_apart : (a : rule.Ends) (xs : List Ends) (i : ℕ) (x : Ends) (t : Bool) → i < length xs → x ≡ get_or xs i x → t ≡ are_apart a (ends_of x) → t ≡ true
    → list_all (are_apart a) (spans (drop i xs)) ≡ list_all (are_apart a) (spans (drop (i + 1) xs))
next_apart a xs i x t below at told met = next_each (are_apart a) (spans (drop i xs)) (spans (drop (i + 1) xs)) (ends_of x) (split xs i x below at) (sym told ∙ met)

pub not_apart : (a : rule.Ends) (xs : List Ends) (i : ℕ) (x : Ends) (t : Bool) → i < length xs → x ≡ get_or xs i x → t ≡ are_apart a (ends_of x) → t ≡ false
    → list_all (are_apart a) (spans (drop i xs)) ≡ false
not_apart a xs i x t below at told unmet = this_fails (are_apart a) (spans (drop i xs)) (spans (drop (i + 1) xs)) (ends_of x) (split xs i x below at) (sym told ∙ unmet)

pub all_apart : (a : rule.Ends) (xs : List Ends) (i : ℕ) → length xs ≤ i → list_all (are_apart a) (spans (drop i xs)) ≡ true
all_apart a xs i past = at_drop_all (λ ys. list_all (are_apart a) (spans ys)) xs i past

-- and from each other
pub first_apart : (left later : List Ends) (x : Ends) (t : Bool) → left ≡ x ∷ later → t ≡ list_all (are_apart (ends_of x)) (spans later) → t ≡ true
    → always_differ (spans left) ≡ always_differ (spans later)
first_apart left later x t split told met = ap (λ ys. always_differ (spans ys)) split ∙ and_true (list_all (are_apart (ends_of x)) (spans later)) (always_differ (spans later)) (sym told ∙ met)

pub first_touches : (left later : List Ends) (x : Ends) (t : Bool) → left ≡ x ∷ later → t ≡ list_all (are_apart (ends_of x)) (spans later) → t ≡ false → always_differ (spans left) ≡ false
first_touches left later x t split told unmet = ap (λ ys. always_differ (spans ys)) split ∙ and_left (list_all (are_apart (ends_of x)) (spans later)) (always_differ (spans later)) (sym told ∙ unmet)

pub none_touches : (left : List Ends) → length left ≡ 0 → always_differ (spans left) ≡ true
none_touches [] none = refl
none_touches (x ∷ left) none = absurd (omega (arith, none))

-- no interval is empty where that was tried of each
pub all_tried : (xs : List Ends) → list_all (λ (x : Ends). int_le x.low x.high) xs ≡ true → AllOrdered (spans xs)
all_tried [] all = tt
all_tried (x ∷ xs) all = (
  le_tested x.low x.high (and_first (int_le x.low x.high) (list_all (λ (x : Ends). int_le x.low x.high) xs) all),
  all_tried xs (and_second (int_le x.low x.high) (list_all (λ (x : Ends). int_le x.low x.high) xs) all),
)
