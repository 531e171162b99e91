-- What binders give, where what is met in them passes.
use Rattle.std.proofs.Common.{◌≡◌, refl, sym, subst, ◌∙◌, ℕ, ℤ, List, [], ◌∷◌, ◌++◌, Option, Some, None, option_map, option_and_then}
use Rattle.std.specs.List.{flat_map, AllByRecursion}
use Rattle.std.specs.Option.{unwrap_or}
use Rattle.sopl_base.proofs.Lists.{all_append}
use Rattle.sopl_base.specs.declared.codes.TheConstants as codes
use Rattle.sopl_ast.specs.Tree.{Range, Named, Ends, Binders, no_binder, binder, place_of}
use Rattle.sopl_ast.specs.Numbers.{both_of, all_of, joined, up_to, count_between}
use Rattle.sopl_ast.specs.Known.{Known, with_bound, set_named, ascending}
use Rattle.sopl_ast.specs.Constants.{value_or_zero, bindings, all_bindings, numbers_of, numbers_in}
use Rattle.sopl_ast.specs.UnfoldEvents.{UnfoldEvent, Counted, too_many, constant_place, range_events, binding_events}
use Rattle.unfold_laws.specs.Passing.{NothingFails}
use Rattle.unfold_laws.proofs.Passing.{parts_pass, passes_counted, value_given}

-- a range has numbers
range_there : (known : Known) (range : Range) → NothingFails (range_events known None range) → (ns : List ℤ) × (numbers_of known range ≡ Some ns)
range_there known (Named name at) is = (ascending (set_named name known.sets), refl)
range_there known (Ends lo hi) is =
    let first = parts_pass (constant_place known lo) (constant_place known hi ++ too_many codes.NUMBERS (count_between (value_or_zero known lo) (value_or_zero known hi))) is in
    let second = parts_pass (constant_place known hi) (too_many codes.NUMBERS (count_between (value_or_zero known lo) (value_or_zero known hi))) first.1 in
    let a = value_given known (place_of lo) lo first.0 in
    let b = value_given known (place_of hi) hi second.0 in
    (up_to a.0 b.0, λ i. both_of up_to (a.1 i) (b.1 i))

-- the environments that binders give are there, and each has a property
abbrev Given : (Known → Type 0) → Option (List Known) → Type 0
Given P found = (list : List Known) × (found ≡ Some list) × AllByRecursion P list

-- those of each of some numbers
given_each : (P : Known → Type 0) (f : ℤ → Option (List Known)) (met_in : ℤ → List UnfoldEvent) → ((n : ℤ) → NothingFails (met_in n) → Given P (f n))
    → (ns : List ℤ) → NothingFails (flat_map (λ n. Counted ∷ met_in n) ns)
    → (lists : List (List Known)) × (all_of f ns ≡ Some lists) × AllByRecursion P (joined lists)
given_each P f met_in each [] is = ([], refl, tt)
given_each P f met_in each (n ∷ ns) is =
    let both = parts_pass (Counted ∷ met_in n) (flat_map (λ n. Counted ∷ met_in n) ns) is in
    let first = each n (passes_counted (met_in n) both.0) in
    let more = given_each P f met_in each ns both.1 in
    (first.0 ∷ more.0, (λ i. both_of (λ y ys. y ∷ ys) (first.1 i) (more.1 i)), all_append P first.0 (joined more.0) first.2 more.2)

-- a property that holds at first, and that each bound name keeps
pub given_by : (Q : Known → Type 0) → ((name : List ℕ) (n : ℤ) (here : Known) → Q here → Q (with_bound name n here))
    → (bs : Binders) (known : Known) (each : Known → List UnfoldEvent) → Q known → NothingFails (binding_events known None bs each)
    → Given (λ here. Q here × NothingFails (each here)) (bindings known bs)
given_by Q keeps no_binder known each held is = (known ∷ [], refl, ((held, is), tt))
given_by Q keeps (binder name at range more) known each held is =
    let both = parts_pass (range_events known None range) (flat_map (λ number. Counted ∷ binding_events (with_bound name number known) None more each) (numbers_in known range)) is in
    let there = range_there known range both.0 in
    let all = given_each (λ here. Q here × NothingFails (each here)) (λ number. bindings (with_bound name number known) more)
    (λ number. binding_events (with_bound name number known) None more each)
    (λ number passes. given_by Q keeps more (with_bound name number known) each (keeps name number known held) passes) there.0
    (subst (λ o. NothingFails (flat_map (λ number. Counted ∷ binding_events (with_bound name number known) None more each) (unwrap_or o []))) there.1 both.1) in (
      joined all.0,
      (λ i. option_and_then (λ numbers. option_map joined (all_of (λ number. bindings (with_bound name number known) more) numbers)) (there.1 i))
          ∙ (λ i. option_map joined (all.1 i)),
      all.2,
    )

-- what holds where names are bound holds of each environment in the list of all
pub all_given : (Q : Known → Type 0) → ((name : List ℕ) (n : ℤ) (here : Known) → Q here → Q (with_bound name n here))
    → (bs : Binders) (known : Known) (each : Known → List UnfoldEvent) → Q known → NothingFails (binding_events known None bs each)
    → AllByRecursion (λ here. Q here × NothingFails (each here)) (all_bindings known bs)
all_given Q keeps bs known each held is =
    let there = given_by Q keeps bs known each held is in
    subst (λ o. AllByRecursion (λ here. Q here × NothingFails (each here)) (unwrap_or o [])) (sym there.1) there.2
