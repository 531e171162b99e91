-- Steps of loops over what is left of a list: what is told of all that is left, from its first item.
use Rattle.std.proofs.Common.{◌≡◌, ◌+◌, Bool, true, false, ◌||◌, if◌then◌else◌, List, ◌∷◌, length, arith, refl, ap, ◌∙◌}
use Rattle.std.specs.List.{filter, list_all, list_any}
use Rattle.std.proofs.lemmas.Bool.{and_left, or_left}
use Rattle.sopl_base.proofs.Booleans.{and_true}
use Rattle.term_language.specs.Ends.{Ends}
use Rattle.term_language.specs.Globals.{is_inside}
use Rattle.term_windows.specs.declared.windows.Window.{Window}
use Rattle.term_windows.specs.Windows.{last_in, inside_in}

pub or_false : (a b : Bool) → a ≡ false → (a || b) ≡ b
or_false true b p = absurd (cc)
or_false false b p = refl

-- tests of some and of all
pub next_any : {A : Type 0} (f : A → Bool) (left later : List A) (x : A) → left ≡ x ∷ later → f x ≡ false → list_any f left ≡ list_any f later
next_any f left later x split unmet = ap (list_any f) split ∙ or_false (f x) (list_any f later) unmet

pub this_any : {A : Type 0} (f : A → Bool) (left later : List A) (x : A) → left ≡ x ∷ later → f x ≡ true → list_any f left ≡ true
this_any f left later x split met = ap (list_any f) split ∙ or_left (f x) (list_any f later) met

pub next_each : {A : Type 0} (f : A → Bool) (left later : List A) (x : A) → left ≡ x ∷ later → f x ≡ true → list_all f left ≡ list_all f later
next_each f left later x split met = ap (list_all f) split ∙ and_true (f x) (list_all f later) met

pub this_fails : {A : Type 0} (f : A → Bool) (left later : List A) (x : A) → left ≡ x ∷ later → f x ≡ false → list_all f left ≡ false
this_fails f left later x split unmet = ap (list_all f) split ∙ and_left (f x) (list_all f later) unmet

-- how many lie in a window
pub one_more : (w : Window) (left later : List Ends) (e : Ends) → left ≡ e ∷ later → is_inside w.low (last_in w) e ≡ true → inside_in w left ≡ inside_in w later + 1
one_more w left later e split is =
    ap (inside_in w) split
    ∙ ap (λ (p : Bool). length (if p then e ∷ filter (is_inside w.low (last_in w)) later else filter (is_inside w.low (last_in w)) later)) is ∙ omega arith

pub no_more : (w : Window) (left later : List Ends) (e : Ends) → left ≡ e ∷ later → is_inside w.low (last_in w) e ≡ false → inside_in w left ≡ inside_in w later
no_more w left later e split is =
    ap (inside_in w) split
    ∙ ap (λ (p : Bool). length (if p then e ∷ filter (is_inside w.low (last_in w)) later else filter (is_inside w.low (last_in w)) later)) is
