-- What binders give, where their ranges pass.
use Rattle.std.proofs.Common.{◌≡◌, refl, sym, ap, subst, ◌∙◌, ℕ, ℤ, List, [], ◌∷◌, ◌++◌, Option, Some, None, is_some, T, option_map, option_and_then}
use Rattle.std.specs.List.{flat_map, AllByRecursion}
use Rattle.std.specs.Option.{unwrap_or}
use Rattle.sopl_base.proofs.Lists.{all_joined}
use Rattle.sopl_base.specs.declared.codes.TheConstants as codes
use Rattle.sopl_ast.specs.Tree.{Range, Named, Ends, Binders, no_binder, binder, place_of}
use Rattle.sopl_ast.specs.Numbers.{both_of, all_of, joined, up_to, count_between}
use Rattle.sopl_ast.specs.Known.{Known, with_bound}
use Rattle.sopl_ast.specs.Constants.{value_or_zero, bindings, all_bindings, numbers_of, numbers_in}
use Rattle.sopl_ast.specs.UnfoldEvents.{Counted, too_many, constant_events, range_events, binding_events}
use Rattle.unfold_laws.specs.Passing.{NothingFails}
use Rattle.unfold_laws.proofs.Passing.{parts_pass, passes_counted, each_passes, value_given}
use Rattle.unfold_laws.proofs.Declared.{each_of}
use Rattle.compile_counts.specs.Walked.{AreMet, RangesPass, BodiesPass}

-- what is there is what stands in place of nothing
there : {A : Type 0} (o : Option A) (x d : A) → o ≡ Some x → o ≡ Some (unwrap_or o d)
there o x d is = is ∙ ap Some (sym (ap (λ p. unwrap_or p d) is))

-- a range has its numbers
pub range_there : (known : Known) (whole : Option ℕ) (range : Range) → NothingFails (range_events known whole range)
    → numbers_of known range ≡ Some (numbers_in known range)
range_there known whole (Named name at) is = refl
range_there known whole (Ends lo hi) is =
    let least = unwrap_or whole (place_of lo) in
    let greatest = unwrap_or whole (place_of hi) in
    let first = parts_pass (constant_events known least lo)
    (constant_events known greatest hi ++ too_many codes.NUMBERS (count_between (value_or_zero known lo) (value_or_zero known hi))) is in
    let second = parts_pass (constant_events known greatest hi) (too_many codes.NUMBERS (count_between (value_or_zero known lo) (value_or_zero known hi))) first.1 in
    let a = value_given known least lo first.0 in
    let b = value_given known greatest hi second.0 in
    there (numbers_of known (Ends lo hi)) (up_to a.0 b.0) [] (λ i. both_of up_to (a.1 i) (b.1 i))

-- one list before others, each of them there
one_there : (o : Option (List Known)) (x : List Known) (p : Option (List (List Known))) (xs : List Known) → o ≡ Some x → option_map joined p ≡ Some xs
    → option_map joined (both_of (λ y ys. y ∷ ys) o p) ≡ Some (x ++ xs)
one_there o x None xs is more = absurd (subst (λ q. T (is_some q)) (sym more) tt)
one_there o x (Some lists) xs is more =
    ap (λ q. option_map joined (both_of (λ y ys. y ∷ ys) q (Some lists))) is ∙ ap (option_map (λ l. x ++ l)) more

-- lists that are all there, one behind the other
all_there : (f : ℤ → Option (List Known)) (g : ℤ → List Known) (ns : List ℤ) → AllByRecursion (λ n. f n ≡ Some (g n)) ns
    → option_map joined (all_of f ns) ≡ Some (flat_map g ns)
all_there f g [] all = refl
all_there f g (n ∷ ns) all = one_there (f n) (g n) (all_of f ns) (flat_map g ns) all.0 (all_there f g ns all.1)

-- the places at each of some numbers of a name
abbrev pub places_at : Known → List ℕ → Binders → List ℤ → List Known
places_at known name more ns = flat_map (λ n. all_bindings (with_bound name n known) more) ns

module _ (known : Known) (whole : Option ℕ) (name : List ℕ) (at : ℕ) (range : Range) (more : Binders) where
  -- the places of a binder, where those that follow it have theirs
  step_there : NothingFails (range_events known whole range)
      → AllByRecursion (λ n. bindings (with_bound name n known) more ≡ Some (all_bindings (with_bound name n known) more)) (numbers_in known range)
      → bindings known (binder name at range more) ≡ Some (places_at known name more (numbers_in known range))
  step_there passes each =
      (λ i. option_and_then (λ numbers. option_map joined (all_of (λ number. bindings (with_bound name number known) more) numbers)) (range_there known whole range passes i))
      ∙ all_there (λ n. bindings (with_bound name n known) more) (λ n. all_bindings (with_bound name n known) more) (numbers_in known range) each

-- all places are there
places_there : (bs : Binders) (known : Known) (whole : Option ℕ) → AreMet known whole bs → bindings known bs ≡ Some (all_bindings known bs)
places_there no_binder known whole are = refl
places_there (binder name at range more) known whole are =
    there (bindings known (binder name at range more)) (places_at known name more (numbers_in known range)) []
    (step_there known whole name at range more are.0
    (each_of (λ n. AreMet (with_bound name n known) whole more) (λ n. bindings (with_bound name n known) more ≡ Some (all_bindings (with_bound name n known) more))
    (λ n met. places_there more (with_bound name n known) whole met) (numbers_in known range) are.1))

-- the places of a binder are those of each of its numbers
pub places_step : (known : Known) (whole : Option ℕ) (name : List ℕ) (at : ℕ) (range : Range) (more : Binders) → AreMet known whole (binder name at range more)
    → all_bindings known (binder name at range more) ≡ places_at known name more (numbers_in known range)
places_step known whole name at range more are =
    ap (λ o. unwrap_or o [])
    (step_there known whole name at range more are.0
    (each_of (λ n. AreMet (with_bound name n known) whole more) (λ n. bindings (with_bound name n known) more ≡ Some (all_bindings (with_bound name n known) more))
    (λ n met. places_there more (with_bound name n known) whole met) (numbers_in known range) are.1))

pub ranges_pass : RangesPass
ranges_pass no_binder known whole each is = tt
ranges_pass (binder name at range more) known whole each is =
    let both = parts_pass (range_events known whole range)
    (flat_map (λ number. Counted ∷ binding_events (with_bound name number known) whole more each) (numbers_in known range)) is in (
      both.0,
      each_of (λ n. NothingFails (Counted ∷ binding_events (with_bound name n known) whole more each)) (λ n. AreMet (with_bound name n known) whole more)
          (λ n counted. ranges_pass more (with_bound name n known) whole each (passes_counted (binding_events (with_bound name n known) whole more each) counted))
          (numbers_in known range)
          (each_passes (λ number. Counted ∷ binding_events (with_bound name number known) whole more each) (numbers_in known range) both.1),
    )

pub bodies_pass : BodiesPass
bodies_pass no_binder known whole each is = (is, tt)
bodies_pass (binder name at range more) known whole each is =
    let both = parts_pass (range_events known whole range)
    (flat_map (λ number. Counted ∷ binding_events (with_bound name number known) whole more each) (numbers_in known range)) is in
    subst (λ list. AllByRecursion (λ here. NothingFails (each here)) list)
    (sym (places_step known whole name at range more (ranges_pass (binder name at range more) known whole each is)))
    (all_joined (λ here. NothingFails (each here)) (λ n. all_bindings (with_bound name n known) more) (numbers_in known range)
    (each_of (λ n. NothingFails (Counted ∷ binding_events (with_bound name n known) whole more each))
    (λ n. AllByRecursion (λ here. NothingFails (each here)) (all_bindings (with_bound name n known) more))
    (λ n counted. bodies_pass more (with_bound name n known) whole each (passes_counted (binding_events (with_bound name n known) whole more each) counted))
    (numbers_in known range)
    (each_passes (λ number. Counted ∷ binding_events (with_bound name number known) whole more each) (numbers_in known range) both.1)))
