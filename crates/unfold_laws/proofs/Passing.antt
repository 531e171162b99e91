-- Occurrences that pass, and their parts.
use Rattle.std.proofs.Common.{◌≡◌, refl, sym, ap, subst, ℕ, ◌+◌, ◌<◌, ◌≤◌, nat_lt, nat_le, ◌^◌, ℤ, pos, Bool, true, false, cond, List, [], ◌∷◌, ◌++◌, Option, Some, None}
use Rattle.std.proofs.Common.{option_and_then, Result, Ok, Err, IsOk, true≢false, arith}
use Rattle.std.proofs.lemmas.Bool.{leb-true, ltb-true, lt-ltb}
use Rattle.std.specs.Int.RustNames.{unsigned_abs}
use Rattle.std.specs.List.{flat_map, AllByRecursion}
use Rattle.sopl_base.specs.declared.fault.Fault.{Fault}
use Rattle.sopl_base.specs.declared.fault.Fault.TheVariants.{Limit}
use Rattle.sopl_base.specs.declared.codes.TheConstants as codes
use Rattle.sopl_ast.specs.Tree.{Tree, Node}
use Rattle.sopl_ast.specs.Known.{Known}
use Rattle.sopl_ast.specs.Constants.{value, untested, within}
use Rattle.sopl_ast.specs.UnfoldEvents.{UnfoldEvent, Counted, Refused, Passed, excess, first_failure, most_counted, most_numbers, no_value, refused_unless, too_many, constant_events, inside_events}
use Rattle.unfold_laws.specs.Passing.{NothingFails, IsConstant}

-- what is met behind what was met
abbrev pub behind : Result ℕ Fault → List UnfoldEvent → Result ℕ Fault
behind (Ok n) events = first_failure n events
behind (Err f) events = Err f

chosen : (b : Bool) (n : ℕ) (f : Fault) (events more : List UnfoldEvent) → first_failure n (events ++ more) ≡ behind (first_failure n events) more
    → cond b (first_failure n (events ++ more)) (Err f) ≡ behind (cond b (first_failure n events) (Err f)) more
chosen true n f events more is = is
chosen false n f events more is = refl

pub met_append : (count : ℕ) (events more : List UnfoldEvent) → first_failure count (events ++ more) ≡ behind (first_failure count events) more
met_append count [] more = refl
met_append count (Counted ∷ events) more = chosen (nat_lt count most_counted) (count + 1) (Limit (excess codes.UNFOLDING (pos (most_counted + 1)) (pos most_counted))) events more
    (met_append (count + 1) events more)
met_append count (Refused r ∷ events) more = refl
met_append count (Passed e ∷ events) more = refl

-- what passes where more was counted passes where less was
fewer : (n m : ℕ) → m ≤ n → nat_lt n most_counted ≡ true → nat_lt m most_counted ≡ true
fewer n m less is = let h : n < most_counted = ltb-true n most_counted is in lt-ltb m most_counted (omega (arith, h, less))

abbrev counted_then : ℕ → List UnfoldEvent → Bool → Result ℕ Fault
counted_then n events b = cond b (first_failure (n + 1) events) (Err (Limit (excess codes.UNFOLDING (pos (most_counted + 1)) (pos most_counted))))

counted_from : (n m : ℕ) (events : List UnfoldEvent) → (IsOk (first_failure (n + 1) events) → IsOk (first_failure (m + 1) events)) → (b : Bool) → (b ≡ true → nat_lt m most_counted ≡ true)
    → IsOk (counted_then n events b) → IsOk (counted_then m events (nat_lt m most_counted))
counted_from n m events again true few ok = subst (λ b. IsOk (counted_then m events b)) (sym (few refl)) (again ok)
counted_from n m events again false few ok = absurd (true≢false (sym ok))

pub passes_from : (events : List UnfoldEvent) (n m : ℕ) → m ≤ n → IsOk (first_failure n events) → IsOk (first_failure m events)
passes_from [] n m less is = refl
passes_from (Counted ∷ events) n m less is =
    counted_from n m events (passes_from events (n + 1) (m + 1) (omega (arith, less))) (nat_lt n most_counted) (fewer n m less) is
passes_from (Refused r ∷ events) n m less is = absurd (true≢false (sym is))
passes_from (Passed e ∷ events) n m less is = absurd (true≢false (sym is))

pub parts_pass : (xs ys : List UnfoldEvent) → NothingFails (xs ++ ys) → NothingFails xs × NothingFails ys
parts_pass xs ys is = on (first_failure 0 xs) refl (subst IsOk (met_append 0 xs ys) is)
  where
    on : (m : Result ℕ Fault) → first_failure 0 xs ≡ m → IsOk (behind m ys) → NothingFails xs × NothingFails ys
    on (Ok n) found ok = (subst IsOk (sym found) refl, passes_from ys n 0 (omega arith) ok)
    on (Err f) found ok = absurd (true≢false (sym ok))

-- the parts of each of some things
pub each_passes : {A : Type 0} (f : A → List UnfoldEvent) (xs : List A) → NothingFails (flat_map f xs) → AllByRecursion (λ x. NothingFails (f x)) xs
each_passes f [] is = tt
each_passes f (x ∷ xs) is = let both = parts_pass (f x) (flat_map f xs) is in (both.0, each_passes f xs both.1)

-- what stands behind a thing that is counted
pub passes_counted : (events : List UnfoldEvent) → NothingFails (Counted ∷ events) → NothingFails events
passes_counted events is = (parts_pass (Counted ∷ []) events is).1

-- a test that does not refuse holds
pub test_holds : (b : Bool) (code at : ℕ) → NothingFails (refused_unless b code at) → b ≡ true
test_holds true code at is = refl
test_holds false code at is = absurd (true≢false (sym is))

-- a limit that is not passed
pub count_fits : (code count : ℕ) → NothingFails (too_many code count) → count ≤ most_numbers
count_fits code count is = on (nat_le count most_numbers) refl is
  where
    on : (b : Bool) → nat_le count most_numbers ≡ b → NothingFails (cond b [] (Passed (excess code (pos count) (pos most_numbers)) ∷ [])) → count ≤ most_numbers
    on true few ok = leb-true count most_numbers few
    on false few ok = absurd (true≢false (sym ok))

-- a value that is there
given : (whole : ℕ) (v : Option ℤ) → NothingFails (no_value v whole) → (x : ℤ) × (v ≡ Some x)
given whole None is = absurd (true≢false (sym is))
given whole (Some x) is = (x, refl)

abbrev is_there : Option ℤ → Bool
is_there None = false
is_there (Some y) = true

abbrev value_or : ℤ → Option ℤ → ℤ
value_or d None = d
value_or d (Some y) = y

small : (z x : ℤ) → within z ≡ Some x → IsConstant x
small z x is = on (nat_le (unsigned_abs z) (2 ^ 40)) refl is
  where
    on : (b : Bool) → nat_le (unsigned_abs z) (2 ^ 40) ≡ b → ◌≡◌ {A = Option ℤ} (cond b (Some z) None) (Some x) → IsConstant x
    on true few same = subst IsConstant (ap (value_or z) same) (leb-true (unsigned_abs z) (2 ^ 40) few)
    on false few same = absurd (true≢false (sym (ap is_there same)))

sized : (w : Option ℤ) (x : ℤ) → option_and_then within w ≡ Some x → IsConstant x
sized None x is = absurd (true≢false (sym (ap is_there is)))
sized (Some z) x is = small z x is

pub value_small : (known : Known) (e : Tree) (x : ℤ) → value known e ≡ Some x → IsConstant x
value_small known (Node at shape) x is = sized (untested known shape) x is

pub value_given : (known : Known) (whole : ℕ) (e : Tree) → NothingFails (constant_events known whole e) → (x : ℤ) × (value known e ≡ Some x) × IsConstant x
value_given known whole (Node at shape) is =
    let there = given whole (value known (Node at shape)) (parts_pass (inside_events (Some whole) known shape) (no_value (value known (Node at shape)) whole) is).1 in
    (there.0, there.1, value_small known (Node at shape) there.0 there.1)
