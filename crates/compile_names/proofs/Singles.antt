-- Sets of one number each, whose numbers stand in each index.
use Rattle.std.proofs.Common.{◌≡◌, ◌≢◌, ℕ, refl, sym, ap, ◌∙◌, ◌+◌, ◌≤◌, arith, ℤ, List, [], ◌∷◌, ◌++◌, length, map, take}
use Rattle.std.proofs.Math.Seq.{take-length}
use Rattle.std.proofs.lemmas.List.{take-append-le, append-nil, length-append}
use Rattle.std.specs.declared.alloc.Global.{Global}
use Rattle.std.specs.declared.vec.Vec.{Vec}
use Rattle.term_language.specs.Arrays.{indices}
use Rattle.compile_names.specs.declared.first_places.Places.{Places}
use Rattle.term_math.specs.Kept as kept
use Rattle.compile_names.specs.Kept.{place_in, places_behind}
use Rattle.compile_names.proofs.Ordering.{set_behind}

-- what is left of sets at whose prefix sets of one number stood: their numbers stand behind others, and the indices are the same
pub record AreSingles (first : List ℤ) (sets : List (Vec ℤ Global)) (index : List ℤ) (left : List (Vec ℤ Global)) : Type 0 where
  pub kept : take (length first) index ≡ first
  pub longer : length first ≤ length index
  pub fewer : length left ≤ length sets
  pub same : (places : Places) → places_behind places index left ≡ places_behind places first sets

-- at first
pub no_singles : (first : List ℤ) (sets : List (Vec ℤ Global)) → AreSingles first sets first sets
no_singles first sets = record { kept = take-length first; longer = omega arith; fewer = omega arith; same = λ places. refl }

-- the indices of a set of one number and of others
pub behind_one : (places : Places) (numbers : List ℤ) (n : ℤ) (left later : List (Vec ℤ Global)) → kept.sets_of left ≡ (n ∷ []) ∷ kept.sets_of later
    → places_behind places (numbers ++ n ∷ []) later ≡ places_behind places numbers left
behind_one places numbers n left later is =
    sym (append-nil (places_behind places (numbers ++ n ∷ []) later))
    ∙ sym (set_behind places numbers (indices (kept.sets_of later)) (n ∷ []))
    ∙ ap (λ sets. map (λ more. place_in places (numbers ++ more)) (indices sets)) (sym is)

-- one set more
pub one_more : (first : List ℤ) (sets : List (Vec ℤ Global)) (index next : List ℤ) (left later : List (Vec ℤ Global)) (n : ℤ) → kept.sets_of left ≡ (n ∷ []) ∷ kept.sets_of later
    → length later + 1 ≡ length left → next ≡ index ++ n ∷ [] → AreSingles first sets index left → AreSingles first sets next later
one_more first sets index next left later n is shorter pushed so =
    record {
      kept = ap (take (length first)) pushed ∙ take-append-le (length first) index (n ∷ []) so.longer ∙ so.kept;
      longer = omega (arith, so.longer, ap length pushed, length-append index (n ∷ []));
      fewer = omega (arith, so.fewer, shorter);
      same = λ places. ap (λ numbers. places_behind places numbers later) pushed ∙ behind_one places index n left later is ∙ so.same places;
    }

pub ruleset singles = (no_singles, one_more)

-- the first set has one number alone
pub one_number : (sets later : List (Vec ℤ Global)) (set : Vec ℤ Global) (n : ℤ) → sets ≡ set ∷ later → set.items ≡ n ∷ [] → kept.sets_of sets ≡ (n ∷ []) ∷ kept.sets_of later
one_number sets later set n split is = ap kept.sets_of split ∙ ap (λ numbers. numbers ∷ kept.sets_of later) is

-- there is no first set, or it has no number or more than one
abbrev first_length : List (List ℤ) → ℕ
first_length [] = 0
first_length (set ∷ later) = length set

pub no_set : (sets : List (Vec ℤ Global)) → length sets ≡ 0 → (number : ℤ) (others : List (List ℤ)) → kept.sets_of sets ≢ (number ∷ []) ∷ others
no_set [] none number others is = cc
no_set (set ∷ sets) none number others is = absurd (omega (arith, none))

pub other_numbers : (sets later : List (Vec ℤ Global)) (set : Vec ℤ Global) → sets ≡ set ∷ later → length set.items ≢ 1 → (number : ℤ) (others : List (List ℤ))
    → kept.sets_of sets ≢ (number ∷ []) ∷ others
other_numbers sets later set split more number others is = more (ap first_length (sym (ap kept.sets_of split) ∙ is))
