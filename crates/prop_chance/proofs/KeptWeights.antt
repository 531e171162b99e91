-- The weight that is kept, and how it is mended.
use Rattle.std.proofs.Common.{◌≡◌, inl, inr, ℕ, zero, suc, ◌+◌, ◌<◌, ◌≤◌, ℤ, pos, ◌+ℤ◌, ◌-ℤ◌, Bool, true, false, List, [], length, get_or, set, arith, refl, sym, ap, subst, ◌∙◌}
use Rattle.std.specs.List.{Contains, range_with_len}
use Rattle.std.proofs.lemmas.Bool.{cases_eq}
use Rattle.std.proofs.lemmas.Grind.{get_or-set_at}
use Rattle.std.proofs.lemmas.Int.{ints}
use Rattle.std.proofs.lemmas.List.{get_or_default, get_or-set_other}
use Rattle.sopl_base.specs.declared.wide.Wide.{Wide}
use Rattle.box_problem.specs.Box.{Box}
use Rattle.term_language.specs.declared.answers.Truth.{Truth}
use Rattle.term_language.specs.declared.answers.Truth.TheVariants.{False}
use Rattle.term_problem.specs.Problems.{ProblemTerms}
use Rattle.term_problem.specs.Refuted.{is_false}
use Rattle.term_problem.specs.Search.{numbers_to}
use Rattle.term_program.specs.Programs.{kept}
use Rattle.prop_core.specs.Watches.{AgreeElsewhere, waits_at}
use Rattle.prop_shave.proofs.Fractions.{truth_weighs}
use Rattle.prop_shave.proofs.Mentioned.{untouched}
use Rattle.prop_shave.specs.ChanceSums.{condition_in, is_touched, truth_over, weight_at, weight_over}
use Rattle.prop_shave.specs.Sums.{sum_over}
use Rattle.prop_chance.specs.Deciding.{ends_elsewhere, over_agrees}
use Rattle.prop_chance.specs.KeptWeights.{IsSummed, IsTruthSet, IsWeightSeen, KeepsTruths, KeepsWeight, KnowsWeight, weight_by}
use Rattle.prop_chance.specs.UpToDate.{AreListed, IsUpToDate}
use Rattle.prop_chance.specs.declared.kept_weight.KeptWeight.{KeptWeight}
use Rattle.prop_chance.specs.declared.outdated.Outdated.{Outdated}
use Rattle.prop_chance.proofs.Outdating.{fresh_alone, never}

-- sums over the same numbers, and over numbers of which one differs
same_from : (f g : ℕ → ℤ) (start n : ℕ) → ((k : ℕ) → start ≤ k → k < start + n → f k ≡ g k) → sum_over f (range_with_len start n) ≡ sum_over g (range_with_len start n)
same_from f g start zero same = refl
same_from f g start (suc n) same =
    let first = same start (omega arith) (omega arith) in
    let rest = same_from f g (start + 1) n (λ k from below. same k (omega (arith, from)) (omega (arith, below))) in
    omega (arith, ints, first, rest)

pub same_to : (f g : ℕ → ℤ) (n : ℕ) → ((k : ℕ) → k < n → f k ≡ g k) → sum_over f (range_with_len 0 n) ≡ sum_over g (range_with_len 0 n)
same_to f g n same = same_from f g 0 n (λ k from below. same k (omega (arith, below)))

pub one_turned : (f g : ℕ → ℤ) (at start n : ℕ) → start ≤ at → at < start + n → ((k : ℕ) → ¬ k ≡ at → g k ≡ f k) → sum_over g (range_with_len start n)
    ≡ ((sum_over f (range_with_len start n) +ℤ g at) -ℤ f at)
one_turned f g at start zero from below same = absurd (omega (arith, from, below))
one_turned f g at start (suc n) from below same =
    elim (cases_eq at start) [
      | inl here ↦
          let rest = same_from f g (start + 1) n (λ k past within. sym (same k (λ is. absurd (omega (arith, past, is, here))))) in
          let f_here = ap f here in
          let g_here = ap g here in
          omega (arith, ints, rest, f_here, g_here)
      | inr other ↦
          let rest = one_turned f g at (start + 1) n (omega (arith, from, other)) (omega (arith, below)) same in
          let first = same start (λ is. other (sym is)) in
          omega (arith, ints, rest, first)
    ]

-- the truth in one scenario is set, and the sum with it
pub sum_set : (terms : ProblemTerms) (truths new : List Truth) (scenario : ℕ) (found d : Truth) (left less total before after : ℤ) → scenario < length terms.weights → length truths
    ≡ length terms.weights → before ≡ kept (is_false (get_or truths scenario d)) (weight_at terms scenario) → after ≡ kept (is_false found) (weight_at terms scenario) → less ≡ left -ℤ before
    → total ≡ less +ℤ after → new ≡ set truths scenario found → left ≡ sum_over (weight_by terms truths) (numbers_to (length terms.weights))
    → total ≡ sum_over (weight_by terms new) (numbers_to (length terms.weights))
sum_set terms truths new scenario found d left less total before after exists room was is minus plus put so_far =
    let f = weight_by terms truths in
    let g = weight_by terms (set truths scenario found) in
    let there : scenario < length truths = omega (arith, exists, room) in
    let was_f : before ≡ weight_by terms truths scenario =
    was ∙ ap (λ (t : Truth). kept (is_false t) (weight_at terms scenario)) (get_or_default truths scenario d False there) in
    let is_g : after ≡ weight_by terms (set truths scenario found) scenario =
    is ∙ ap (λ (t : Truth). kept (is_false t) (weight_at terms scenario)) (sym (get_or-set_at truths scenario scenario found False refl there)) in
    let turned_sum =
    one_turned f g scenario 0 (length terms.weights) (omega arith) (omega (arith, exists))
    (λ k other. ap (λ (t : Truth). kept (is_false t) (weight_at terms k)) (get_or-set_other truths scenario k found False other)) in
    subst (λ (list : List Truth). total ≡ sum_over (weight_by terms list) (numbers_to (length terms.weights))) (sym put) (omega (arith, ints, turned_sum, was_f, is_g, minus, plus, so_far))

-- a sum of nothing
pub sum_none : (f : ℕ → ℤ) (n : ℕ) → ((k : ℕ) → f k ≡ pos 0) → sum_over f (range_with_len 0 n) ≡ pos 0
sum_none f n none = same_to f (λ k. pos 0) n (λ k below. none k) ∙ zeros 0 n
  where
    zeros : (start n : ℕ) → sum_over (λ (k : ℕ). pos 0) (range_with_len start n) ≡ pos 0
    zeros start zero = refl
    zeros start (suc n) = let rest = zeros (start + 1) n in omega (arith, ints, rest)

-- nothing was seen
pub forgotten : (root b : Box) (terms : ProblemTerms) (instance : ℕ) (w : KeptWeight) → ((k : ℕ) → get_or w.truths.items k False ≡ False) → w.left.value ≡ pos 0
    → ((k : ℕ) → waits_at w.outdated.waits.items k ≡ true) → AreListed w.outdated → KeepsWeight root terms instance b w
forgotten root b terms instance w none left all listed = record {
  truths = record {
    summed = left ∙ sym (sum_none (weight_by terms w.truths.items) (length terms.weights) (λ k. ap (λ (t : Truth). kept (is_false t) (weight_at terms k)) (none k)));
    each = λ k d below fresh. never (is_touched root terms instance) w.outdated k all fresh;
  };
  listed = listed;
}

-- the sum of truths that have not changed
same_sum : (terms : ProblemTerms) (old new : KeptWeight) → new.truths ≡ old.truths → new.left ≡ old.left → IsSummed terms old → IsSummed terms new
same_sum terms old new truths left summed =
    ap (λ (w : Wide). w.value) left ∙ (summed ∙ sym (ap (λ ts. sum_over (weight_by terms ts.items) (numbers_to (length terms.weights))) truths))

-- one cell more was told
pub weight_told : (root b c : Box) (terms : ProblemTerms) (instance cell : ℕ) (old new : KeptWeight) → new.truths ≡ old.truths → new.left ≡ old.left
    → ((mentions : ℕ → ℕ → Bool) (number : ℕ) → IsUpToDate mentions new.outdated number → IsUpToDate mentions old.outdated number × (mentions cell number ≡ false))
    → (AreListed old.outdated → AreListed new.outdated) → AgreeElsewhere cell b c → KeepsWeight root terms instance b old → KeepsWeight root terms instance c new
weight_told root b c terms instance cell old new truths left told listed agree keeps = record {
  truths = record {
    summed = same_sum terms old new truths left keeps.truths.summed;
    each = λ k d below fresh.
        let was = told (is_touched root terms instance) k fresh in
        ap (λ ts. get_or ts.items k d) truths
        ∙ (keeps.truths.each k d below was.0
        ∙ over_agrees root b c (condition_in terms instance k)
        (λ n mentioned. ends_elsewhere cell b c agree n (λ same. untouched cell _ was.1 (subst (Contains _) same mentioned))));
  };
  listed = listed keeps.listed;
}

-- the scenarios wait that mention a cell that was told
pub weight_waits : (root b : Box) (terms : ProblemTerms) (instance : ℕ) (old new : KeptWeight) → new.truths ≡ old.truths → new.left ≡ old.left
    → ((number : ℕ) → IsUpToDate (is_touched root terms instance) new.outdated number → IsUpToDate (is_touched root terms instance) old.outdated number) → new.outdated.told.items ≡ []
    → KeepsTruths root terms instance b old → IsWeightSeen root terms instance b new
weight_waits root b terms instance old new truths left wait clean keeps = record {
  keeps = record {
    summed = same_sum terms old new truths left keeps.summed;
    each = λ k d below fresh. ap (λ ts. get_or ts.items k d) truths ∙ keeps.each k d below (wait k fresh);
  };
  clean = clean;
}

-- a scenario is seen anew
pub seen_more : (root b : Box) (terms : ProblemTerms) (instance i : ℕ) (old now new : KeptWeight) → i < length terms.weights → length old.truths.items ≡ length terms.weights
    → IsTruthSet terms old now i (truth_over root terms instance b i) → new.truths ≡ now.truths → new.left ≡ now.left → new.outdated.told ≡ now.outdated.told
    → new.outdated.waits.items ≡ set now.outdated.waits.items i false → IsWeightSeen root terms instance b old → IsWeightSeen root terms instance b new
seen_more root b terms instance i old now new exists room put truths left told flags is =
    let inside : i < length old.truths.items = omega (arith, exists, room) in
    let waits : new.outdated.waits.items ≡ set old.outdated.waits.items i false = flags ∙ ap (λ (o : Outdated). set o.waits.items i false) put.outdated in
    let others : (k : ℕ) → (¬ k ≡ i) → waits_at new.outdated.waits.items k ≡ waits_at old.outdated.waits.items k =
    λ k other. ap (λ (list : List Bool). waits_at list k) waits ∙ get_or-set_other old.outdated.waits.items i k false true other in
    let seen : (k : ℕ) (d : Truth) → get_or new.truths.items k d ≡ get_or (set old.truths.items i (truth_over root terms instance b i)) k d =
    λ k d. ap (λ ts. get_or ts.items k d) truths ∙ ap (λ (list : List Truth). get_or list k d) put.truths in
    record {
      keeps = record {
        summed = same_sum terms now new truths left (put.summed is.keeps.summed);
        each = λ k d below fresh. elim (cases_eq k i) [
          | inl same ↦ seen k d
              ∙ (get_or-set_at old.truths.items i k (truth_over root terms instance b i) d same inside ∙ sym (ap (truth_over root terms instance b) same))
          | inr other ↦ seen k d
              ∙ (get_or-set_other old.truths.items i k (truth_over root terms instance b i) d other
              ∙ is.keeps.each k d below (fresh_alone (is_touched root terms instance) old.outdated k is.clean (sym (others k other) ∙ fresh.calm)))
        ];
      };
      clean = ap (λ list. list.items) (told ∙ ap (λ (o : Outdated). o.told) put.outdated) ∙ is.clean;
    }

-- where none waits, the truths are those over the box, and the weight is what is left there
all_true : (root b : Box) (terms : ProblemTerms) (instance : ℕ) (w : KeptWeight) → IsWeightSeen root terms instance b w
    → ((k : ℕ) → k < length terms.weights → waits_at w.outdated.waits.items k ≡ false) → (k : ℕ) (d : Truth) → k < length terms.weights
    → get_or w.truths.items k d ≡ truth_over root terms instance b k
all_true root b terms instance w is calm k d below =
    is.keeps.each k d below (fresh_alone (is_touched root terms instance) w.outdated k is.clean (calm k below))

pub weight_known : (root b : Box) (terms : ProblemTerms) (instance : ℕ) (w : KeptWeight) → length w.truths.items ≡ length terms.weights → IsWeightSeen root terms instance b w
    → ((k : ℕ) → k < length terms.weights → waits_at w.outdated.waits.items k ≡ false) → KnowsWeight root terms instance b w
weight_known root b terms instance w room is calm = record {
  left = is.keeps.summed
      ∙ same_to (weight_by terms w.truths.items) (weight_over root terms instance b) (length terms.weights)
      (λ k below. truth_weighs root b terms instance k (get_or w.truths.items k False) (weight_by terms w.truths.items k) (all_true root b terms instance w is calm k False below) refl);
  truths = record { as_many = room; each = λ k d below. all_true root b terms instance w is calm k d below };
}
