-- Each instance of a text is counted.
use Rattle.std.proofs.Common.{◌≡◌, refl, sym, ap, ℕ, zero, suc, ◌+◌, ◌<◌, ◌≤◌, nat_lt, nat_eq, ℤ, pos, Bool, true, false, cond, List, [], ◌∷◌, ◌++◌, length, map, Option, Some}
use Rattle.std.proofs.Common.{None, option_map, option_and_then, Err, IsOk, true≢false, arith}
use Rattle.std.proofs.lemmas.Bool.{ltb-true, eqb-true}
use Rattle.std.proofs.lemmas.Grind.{flat_map-append}
use Rattle.std.proofs.lemmas.List.{length-map, length-append}
use Rattle.std.specs.List.{flat_map, filter, range_with_len}
use Rattle.std.specs.Option.{unwrap_or}
use Rattle.sopl_base.specs.declared.fault.Fault.TheVariants.{Limit}
use Rattle.sopl_base.specs.declared.codes.TheConstants as codes
use Rattle.sopl_ast.specs.Tree.{Binders, no_binder, binder}
use Rattle.sopl_ast.specs.Whole.{DimTree, Declaration, IntDecl, RangeDecl, SetDecl, DvarDecl, StochDecl, ConsTree, ConsTrees, ForallTree, BlockTree, HardTree, ChanceTree, no_cons}
use Rattle.sopl_ast.specs.Whole.{cons, conses}
use Rattle.sopl_ast.specs.Numbers.{both_of, all_of, joined}
use Rattle.sopl_ast.specs.Known.{Known, with_bound}
use Rattle.sopl_ast.specs.Constants.{bindings, all_bindings, numbers_of}
use Rattle.sopl_ast.specs.UnfoldEvents.{UnfoldEvent, Counted, Refused, Passed, excess, first_failure, most_counted, range_events, binding_events}
use Rattle.sopl_ast.specs.Instances.{Stochastic, independent}
use Rattle.sopl_ast.specs.Arrays.{dimensions_of, indices, with_index, array_of, dimension_events, array_events}
use Rattle.sopl_ast.specs.Declarations.{Declared, nothing_declared, domain_of, stage_of, outcome_of, domain_events, stage_events, outcome_events, decisions_of}
use Rattle.sopl_ast.specs.Declarations.{stochastics_of, behind, behind_all, declaration_events, declarations_events}
use Rattle.sopl_ast.specs.Unfolding.{ConstraintInstance, hard_instance, chance_instance, conditions_of, constraint_instances, all_constraint_instances, hards_among, chances_among}
use Rattle.sopl_ast.specs.Unfolding.{by_stage, constraint_events, constraints_events, goal_events, problem_of, text_events, body_events}
use Rattle.unfold_laws.specs.Bounds.{InstancesAreCounted}
use Rattle.unfold_laws.proofs.Whole.{found_in}

-- how many of occurrences are things that are counted
abbrev counted : List UnfoldEvent → ℕ
counted [] = 0
counted (Counted ∷ later) = suc (counted later)
counted (Refused r ∷ later) = counted later
counted (Passed e ∷ later) = counted later

counted_append : (xs ys : List UnfoldEvent) → counted (xs ++ ys) ≡ counted xs + counted ys
counted_append [] ys = omega arith
counted_append (Counted ∷ xs) ys = let more = counted_append xs ys in omega (arith, more)
counted_append (Refused r ∷ xs) ys = counted_append xs ys
counted_append (Passed e ∷ xs) ys = counted_append xs ys

-- not more are counted than may be
few_counted : (events : List UnfoldEvent) (n : ℕ) → n ≤ most_counted → IsOk (first_failure n events) → n + counted events ≤ most_counted
few_counted [] n few is = omega (arith, few)
few_counted (Counted ∷ later) n few is = on (nat_lt n most_counted) refl (few_counted later (n + 1)) is
  where
    on : (b : Bool) → nat_lt n most_counted ≡ b → (n + 1 ≤ most_counted → IsOk (first_failure (n + 1) later) → (n + 1) + counted later ≤ most_counted)
        → IsOk (cond b (first_failure (n + 1) later) (Err (Limit (excess codes.UNFOLDING (pos (most_counted + 1)) (pos most_counted))))) → n + suc (counted later) ≤ most_counted
    on true less again ok = let h : n < most_counted = ltb-true n most_counted less in let all = again (omega (arith, h)) ok in omega (arith, all)
    on false less again ok = absurd (true≢false (sym ok))
few_counted (Refused r ∷ later) n few is = absurd (true≢false (sym is))
few_counted (Passed e ∷ later) n few is = absurd (true≢false (sym is))

-- something that is counted for each of some things
each_counted : {A : Type 0} (each : A → List UnfoldEvent) (xs : List A) → length xs ≤ counted (flat_map (λ x. Counted ∷ each x) xs)
each_counted each [] = omega arith
each_counted each (x ∷ xs) =
    let more = each_counted each xs in
    let both = counted_append (each x) (flat_map (λ x. Counted ∷ each x) xs) in omega (arith, more, both)

array_counted : {A : Type 0} (known : Known) (dims : List DimTree) (make : List ℤ → Known → A) (each : Known → List UnfoldEvent)
    → length (array_of known dims make) ≤ counted (array_events known dims each)
array_counted known dims make each =
    let ds = dimensions_of known dims in
    let all = each_counted (λ index. each (with_index ds index known)) (indices ds) in
    let made = length-map (indices ds) (λ index. make index (with_index ds index known)) in
    let both = counted_append (dimension_events known dims) (flat_map (λ index. Counted ∷ each (with_index ds index known)) (indices ds)) in
    omega (arith, all, made, both)

-- Declarations.

abbrev variables : Declared → ℕ
variables found = length found.decisions + length found.stochastics

variables_behind : (d : Declaration) (found : Declared) → variables (behind d found) ≤ variables found + counted (declaration_events found d)
variables_behind (IntDecl name at dims x) found = omega arith
variables_behind (RangeDecl name at lo hi) found = omega arith
variables_behind (SetDecl name at elements) found = omega arith
variables_behind (DvarDecl name at dims range stage) found =
    let more = length-append found.decisions (decisions_of found.known name dims range stage) in
    let all : length (decisions_of found.known name dims range stage) ≤ counted (declaration_events found (DvarDecl name at dims range stage)) =
    array_counted found.known dims (λ index here. record { name = name; index = index; lo = (domain_of here range).0; hi = (domain_of here range).1; stage = stage_of here stage })
    (λ here. domain_events here range ++ stage_events here stage) in
    omega (arith, more, all)
variables_behind (StochDecl name at dims dist stage) found =
    let more = length-append found.stochastics (stochastics_of found.known name dims dist stage) in
    let all : length (stochastics_of found.known name dims dist stage) ≤ counted (declaration_events found (StochDecl name at dims dist stage)) =
    array_counted found.known dims (λ index here. independent name index (map (outcome_of here) dist) (stage_of here stage))
    (λ here. outcome_events here [] dist ++ stage_events here stage) in
    omega (arith, more, all)

variables_behind_all : (ds : List Declaration) (found : Declared) → variables (behind_all ds found) ≤ variables found + counted (declarations_events found ds)
variables_behind_all [] found = omega arith
variables_behind_all (d ∷ ds) found =
    let first = variables_behind d found in
    let more = variables_behind_all ds (behind d found) in
    let both = counted_append (declaration_events found d) (declarations_events (behind d found) ds) in
    omega (arith, first, more, both)

-- Stages.

-- how many of the stages from one on are this one
abbrev hits : ℕ → ℕ → ℕ → ℕ
hits k a zero = 0
hits k a (suc n) = cond (nat_eq k a) 1 0 + hits k (a + 1) n

no_hit : (k a n : ℕ) → k < a → hits k a n ≡ 0
no_hit k a zero less = refl
no_hit k a (suc n) less = on (nat_eq k a) (λ same. eqb-true k a same) (no_hit k (a + 1) n (omega (arith, less)))
  where
    on : (b : Bool) → (b ≡ true → k ≡ a) → hits k (a + 1) n ≡ 0 → cond b 1 0 + hits k (a + 1) n ≡ 0
    on true same more = let is = same refl in absurd (omega (arith, is, less))
    on false same more = omega (arith, more)

one_hit : (k a n : ℕ) → hits k a n ≤ 1
one_hit k a zero = omega arith
one_hit k a (suc n) = on (nat_eq k a) (λ same. eqb-true k a same) (one_hit k (a + 1) n) (no_hit k (a + 1) n)
  where
    on : (b : Bool) → (b ≡ true → k ≡ a) → hits k (a + 1) n ≤ 1 → (k < a + 1 → hits k (a + 1) n ≡ 0) → cond b 1 0 + hits k (a + 1) n ≤ 1
    on true same more none = let is = same refl in let zero_more = none (omega (arith, is)) in omega (arith, zero_more)
    on false same more none = omega (arith, more)

abbrev at_stage : List Stochastic → ℕ → List Stochastic
at_stage ss stage = filter (λ (s : Stochastic). nat_eq s.stage stage) ss

stage_more : (s : Stochastic) (ss : List Stochastic) (a n : ℕ)
    → length (flat_map (at_stage (s ∷ ss)) (range_with_len a n)) ≡ length (flat_map (at_stage ss) (range_with_len a n)) + hits s.stage a n
stage_more s ss a zero = refl
stage_more s ss a (suc n) =
    let first = length-append (at_stage (s ∷ ss) a) (flat_map (at_stage (s ∷ ss)) (range_with_len (a + 1) n)) in
    let second = length-append (at_stage ss a) (flat_map (at_stage ss) (range_with_len (a + 1) n)) in
    let more = stage_more s ss (a + 1) n in
    let here = one (nat_eq s.stage a) in
    omega (arith, first, second, more, here)
  where
    one : (b : Bool) → length (cond b (s ∷ at_stage ss a) (at_stage ss a)) ≡ length (at_stage ss a) + cond b 1 0
    one true = omega arith
    one false = omega arith

by_stage_kept : (ss : List Stochastic) → length (by_stage ss) ≤ length ss
unfolding by_stage
by_stage_kept [] = none 1 24
  where
    none : (a n : ℕ) → length (flat_map (at_stage []) (range_with_len a n)) ≤ 0
    none a zero = omega arith
    none a (suc n) = none (a + 1) n
by_stage_kept (s ∷ ss) =
    let more = stage_more s ss 1 24 in
    let hit = one_hit s.stage 1 24 in
    let rest = by_stage_kept ss in
    omega (arith, more, hit, rest)

-- Constraints.

module _ {A : Type 0} (f : Known → List A) where
  all_counted : (g : ℤ → Option (List Known)) (met_in : ℤ → List UnfoldEvent) → ((n : ℤ) → length (flat_map f (unwrap_or (g n) [])) ≤ counted (met_in n))
      → (ns : List ℤ) → length (flat_map f (unwrap_or (option_map joined (all_of g ns)) [])) ≤ counted (flat_map (λ n. Counted ∷ met_in n) ns)
  all_counted g met_in each [] = omega arith
  all_counted g met_in each (n ∷ ns) = on (g n) (all_of g ns) (each n) (all_counted g met_in each ns)
    where
      on : (o : Option (List Known)) (os : Option (List (List Known))) → length (flat_map f (unwrap_or o [])) ≤ counted (met_in n)
          → length (flat_map f (unwrap_or (option_map joined os) [])) ≤ counted (flat_map (λ n. Counted ∷ met_in n) ns)
          → length (flat_map f (unwrap_or (option_map joined (both_of (λ y ys. y ∷ ys) o os)) [])) ≤ counted (flat_map (λ n. Counted ∷ met_in n) (n ∷ ns))
      on None os first more = omega arith
      on (Some l) None first more = omega arith
      on (Some l) (Some ls) first more =
          let split = ap length (flat_map-append f l (joined ls)) in
          let lengths = length-append (flat_map f l) (flat_map f (joined ls)) in
          let both = counted_append (met_in n) (flat_map (λ n. Counted ∷ met_in n) ns) in
          omega (arith, first, more, split, lengths, both)

  over_counted : (bs : Binders) (known : Known) (each : Known → List UnfoldEvent) → ((here : Known) → length (f here) ≤ counted (each here))
      → length (flat_map f (all_bindings known bs)) ≤ counted (binding_events known None bs each)
  over_counted no_binder known each fits = let all = length-append (f known) [] in let here = fits known in omega (arith, all, here)
  over_counted (binder name at range more) known each fits =
      on (numbers_of known range)
      (all_counted (λ n. bindings (with_bound name n known) more) (λ n. binding_events (with_bound name n known) None more each)
      (λ n. over_counted more (with_bound name n known) each fits))
    where
      on : (o : Option (List ℤ))
          → ((ns : List ℤ) → length (flat_map f (unwrap_or (option_map joined (all_of (λ n. bindings (with_bound name n known) more) ns)) []))
          ≤ counted (flat_map (λ n. Counted ∷ binding_events (with_bound name n known) None more each) ns))
          → length (flat_map f (unwrap_or (option_and_then (λ numbers. option_map joined (all_of (λ n. bindings (with_bound name n known) more) numbers)) o) []))
          ≤ counted (range_events known None range ++ flat_map (λ n. Counted ∷ binding_events (with_bound name n known) None more each) (unwrap_or o []))
      on None all = omega arith
      on (Some ns) all =
          let here = all ns in
          let both = counted_append (range_events known None range) (flat_map (λ n. Counted ∷ binding_events (with_bound name n known) None more each) ns) in
          omega (arith, here, both)

mutual
  instances_counted : (c : ConsTree) (known : Known) (first : ℕ) → length (constraint_instances known first c) ≤ counted (constraint_events known c)
  instances_counted (ForallTree bs c) known first =
      over_counted (λ here. constraint_instances here first c) bs known (λ here. constraint_events here c) (λ here. instances_counted c here first)
  instances_counted (BlockTree cs) known first = all_instances_counted cs known first
  instances_counted (HardTree e) known first = omega arith
  instances_counted (ChanceTree e p q) known first = omega arith

  all_instances_counted : (cs : ConsTrees) (known : Known) (first : ℕ) → length (all_constraint_instances known first cs) ≤ counted (constraints_events known cs)
  all_instances_counted no_cons known first = omega arith
  all_instances_counted (cons c cs) known first =
      let here = instances_counted c known first in
      let more = all_instances_counted cs known (first + length (conditions_of c)) in
      let lengths = length-append (constraint_instances known first c) (all_constraint_instances known (first + length (conditions_of c)) cs) in
      let both = counted_append (constraint_events known c) (constraints_events known cs) in
      omega (arith, here, more, lengths, both)

kinds_counted : (xs : List ConstraintInstance) → length (hards_among xs) + length (chances_among xs) ≡ length xs
kinds_counted [] = refl
kinds_counted (hard_instance h ∷ xs) = let more = kinds_counted xs in omega (arith, more)
kinds_counted (chance_instance c ∷ xs) = let more = kinds_counted xs in omega (arith, more)

pub instances_are_counted : InstancesAreCounted
unfolding problem_of text_events
instances_are_counted model passes =
    let found = found_in model in
    let declared = variables_behind_all model.decls nothing_declared in
    let staged = by_stage_kept found.stochastics in
    let walked = all_instances_counted (conses model.body) found.known 0 in
    let kinds = kinds_counted (all_constraint_instances found.known 0 (conses model.body)) in
    let inner = counted_append (goal_events found.known model.goal) (constraints_events found.known (conses model.body)) in
    let outer = counted_append (declarations_events nothing_declared model.decls) (body_events found model) in
    let few = few_counted (declarations_events nothing_declared model.decls ++ body_events found model) 0 (omega arith) passes in
    omega (arith, declared, staged, walked, kinds, inner, outer, few)
