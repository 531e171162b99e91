-- What is answered at a constant place that passes.
use Rattle.std.proofs.Common.{◌≡◌, sym, ap, subst, ◌∙◌, inl, inr, ℕ, ℤ, pos, true, false, not, List, [], Some, Result, Ok, Err, IfOk, IfErr, is_ok, true≢false}
use Rattle.std.specs.Option.{unwrap_or}
use Rattle.std.specs.Ordering.{int_eq}
use Rattle.std.specs.declared.alloc.AllocError.{AllocError}
use Rattle.sopl_base.specs.declared.fault.Fault.{Fault}
use Rattle.sopl_base.specs.declared.fault.Fault.TheVariants.{NoMemory}
use Rattle.sopl_base.proofs.Booleans.{not_true}
use Rattle.sopl_base.specs.declared.codes.TheConstants as codes
use Rattle.sopl_ast.specs.Tree.{Tree, Range, place_of}
use Rattle.sopl_ast.specs.Known.{Known}
use Rattle.sopl_ast.specs.Constants.{value, numbers_of, numbers_in}
use Rattle.sopl_ast.specs.UnfoldEvents.{UnfoldEvent, first_failure, is_zero, refused_unless, constant_place, divisor_events}
use Rattle.unfold_laws.specs.Passing.{NothingFails}
use Rattle.unfold_laws.proofs.Passing.{parts_pass, test_holds}
use Rattle.unfold_tables.specs.Walks.{Walks}

-- what passes is refused only where memory runs out, where nothing was counted before
pub memory_only : {A : Type 0} (events : List UnfoldEvent) (before after : ℕ) (result : Result A Fault)
    → NothingFails events → before ≡ 0 → Walks before after events result → IfErr result (λ fault. fault ≡ NoMemory)
memory_only events before after (Ok x) passes none walks = tt
memory_only events before after (Err f) passes none (inl is) = is
memory_only events before after (Err f) passes none (inr is) =
    absurd (true≢false (sym passes ∙ ap is_ok (sym (ap (λ n. first_failure n events) none) ∙ is)))

-- what is said of an answer holds of the answer that is handed on
pub handed_on : {A : Type 0} (P : A → Type 0) (answer : Result A Fault) (result : Result A AllocError)
    → IfOk result (λ x. answer ≡ Ok x) → IfOk answer P → IfOk result P
handed_on P answer (Ok x) same holds = subst (λ a. IfOk a P) same holds
handed_on P answer (Err e) same holds = tt

-- what follows for an answer
pub handed_further : {A : Type 0} (P Q : A → Type 0) → ((x : A) → P x → Q x) → (answer : Result A Fault) → IfOk answer P → IfOk answer Q
handed_further P Q so (Ok x) holds = so x holds
handed_further P Q so (Err f) holds = tt

-- the parts of a divisor
pub divisor_part : (known : Known) (e : Tree) → NothingFails (divisor_events known e) → NothingFails (constant_place known e)
divisor_part known e is = (parts_pass (constant_place known e) (refused_unless (not (is_zero (value known e))) codes.UNDEFINED (place_of e)) is).0

-- a divisor is not 0
pub divisor_nonzero : (known : Known) (e : Tree) (x : ℤ) → NothingFails (divisor_events known e) → value known e ≡ Some x → int_eq x (pos 0) ≡ false
divisor_nonzero known e x is there =
    let test = test_holds (not (is_zero (value known e))) codes.UNDEFINED (place_of e)
    (parts_pass (constant_place known e) (refused_unless (not (is_zero (value known e))) codes.UNDEFINED (place_of e)) is).1 in
    not_true (int_eq x (pos 0)) (subst (λ v. not (is_zero v) ≡ true) there test)

-- the numbers of a range
pub numbers_shown : (known : Known) (range : Range) (ns : List ℤ) → numbers_of known range ≡ Some ns → ns ≡ numbers_in known range
numbers_shown known range ns is = sym (ap (λ o. unwrap_or o []) is)
