-- The worse ends of parts, and what they leave open.
use Rattle.std.proofs.Common.{◌≡◌, ◌∙◌, ℕ, ◌+◌, ◌<◌, ◌≤◌, ℤ, pos, ◌+ℤ◌, ◌-ℤ◌, ◌*ℤ◌, false, List, Option, Some, None, IfSome, length, get_or, drop}
use Rattle.std.proofs.Common.{arith, ap, subst, sym}
use Rattle.std.proofs.lemmas.Int.{ints}
use Rattle.std.proofs.lemmas.List.{at_drop_all, at_drop_more}
use Rattle.sopl_base.specs.declared.direction.Direction.{Direction}
use Rattle.sopl_base.specs.declared.direction.Direction.TheVariants.{Minimize, Maximize, Nothing}
use Rattle.box_problem.specs.Box.{Box, Inside, IsBox}
use Rattle.box_problem.proofs.Boxes.{points_of_parts}
use Rattle.box_problem.proofs.Shared.{lows_inside}
use Rattle.term_language.specs.declared.answers.Defined.{Defined}
use Rattle.term_language.specs.declared.answers.Defined.TheVariants.{Always}
use Rattle.term_language.specs.Ends.{Ends, Lies, ends, scaled}
use Rattle.term_language.specs.Laws.{IsProper, Marks}
use Rattle.term_language.specs.Rules.{Near, interval, mark}
use Rattle.term_language.specs.Terms.{Term}
use Rattle.term_language.specs.Values.{value}
use Rattle.term_language.proofs.Products.{in_scaled}
use Rattle.term_language.proofs.Soundness.{marks_tell, values_lie}
use Rattle.term_nodes.proofs.Ready.{small_term}
use Rattle.term_problem.specs.Objective.{better_end}
use Rattle.term_nodes.specs.Things.{term_at}
use Rattle.term_program.specs.declared.over.Range.{Range}
use Rattle.term_program.specs.Programs.{IsMade, ends_in, no_better, problem_in, root_in, things_in}
use Rattle.sopl_base.specs.declared.wide.Wide.{Wide}
use Rattle.std.specs.Option.{option_map_or}
use Rattle.term_problem.specs.Problems.{direction_in}
use Rattle.term_goals.specs.declared.sums.Atom.{Atom}
use Rattle.term_program.specs.declared.program.Program.{Program}
use Rattle.prop_shave.specs.declared.part_ends.PartEnds.{PartEnds}
use Rattle.prop_shave.specs.GoalKnown.{AreEnds, AreEndsOf, IsPartSeen, IsWorsened}
use Rattle.prop_shave.specs.GoalSums.{IsAsGood, part_at, part_over, worse_end}
use Rattle.prop_shave.proofs.Leaving.{some_there}
use Rattle.prop_shave.specs.Sums.{sum_over, turn_of}

-- two intervals with a number in common
common : (direction : Direction) (part whole : Ends) (z : ℤ) → Lies z part → Lies z whole → IsAsGood direction (better_end direction part) (worse_end direction whole)
common Minimize part whole z here there = omega (arith, ints, here.from_low, there.to_high)
common Maximize part whole z here there = omega (arith, ints, here.to_high, there.from_low)
common Nothing part whole z here there = tt

-- where a term has a value all over a box, its better end over a part is at least as good as its worse end over the box
pub worse_there : (direction : Direction) (root b c : Box) (k : ℤ) (t : Term) → IsBox b → Inside c b → IsProper t → mark Near root b t ≡ Always
    → IsAsGood direction (better_end direction (scaled k (interval Near root c t))) (worse_end direction (scaled k (interval Near root b t)))
worse_there direction root b c k t is_box inside proper always =
    let within = lows_inside c inside.is_box in
    let there = points_of_parts c b c.lows inside within in
    by_value (value c.lows t) (subst (λ (m : Defined). Marks m (value c.lows t)) always (marks_tell Near root b c.lows t is_box there proper))
    (values_lie Near root c c.lows t inside.is_box within proper) (values_lie Near root b c.lows t is_box there proper)
  where
    by_value : (v : Option ℤ) → Marks Always v → IfSome v (λ z. Lies z (interval Near root c t)) → IfSome v (λ z. Lies z (interval Near root b t))
        → IsAsGood direction (better_end direction (scaled k (interval Near root c t))) (worse_end direction (scaled k (interval Near root b t)))
    by_value None some here there = absurd some
    by_value (Some z) some here there =
        common direction (scaled k (interval Near root c t)) (scaled k (interval Near root b t)) (k *ℤ z) (in_scaled k z (interval Near root c t) here)
        (in_scaled k z (interval Near root b t) there)

step_of : (direction : Direction) (start old new rest before better worse after : ℤ) → IsAsGood direction start (old +ℤ ((after -ℤ before) +ℤ rest)) → IsAsGood direction after worse → better ≡ before
    → new ≡ ((old +ℤ worse) -ℤ better) → IsAsGood direction start (new +ℤ rest)
step_of Minimize start old new rest before better worse after so_far good is put = omega (arith, ints, so_far, good, is, put)
step_of Maximize start old new rest before better worse after so_far good is put = omega (arith, ints, so_far, good, is, put)
step_of Nothing start old new rest before better worse after so_far good is put = tt

pub as_good_more : (direction : Direction) (f g : ℕ → ℤ) (list : List ℕ) (i d : ℕ) (start old new better worse : ℤ) → i < length list
    → IsAsGood direction start (old +ℤ sum_over (turn_of f g) (drop i list)) → better ≡ f (get_or list i d) → IsAsGood direction (g (get_or list i d)) worse → new ≡ ((old +ℤ worse) -ℤ better)
    → IsAsGood direction start (new +ℤ sum_over (turn_of f g) (drop (i + 1) list))
as_good_more direction f g list i d start old new better worse below so_far is good put =
    let more = at_drop_more (λ xs. sum_over (turn_of f g) xs) list i d below in
    step_of direction start old new (sum_over (turn_of f g) (drop (i + 1) list)) (f (get_or list i d)) better worse (g (get_or list i d))
    (subst (λ (z : ℤ). IsAsGood direction start (old +ℤ z)) more so_far) good is put

pub as_good_all : (direction : Direction) (f g : ℕ → ℤ) (list : List ℕ) (i : ℕ) (start now : ℤ) → length list ≤ i
    → IsAsGood direction start (now +ℤ sum_over (turn_of f g) (drop i list)) → IsAsGood direction start now
as_good_all direction f g list i start now past so_far =
    let none = at_drop_all (λ xs. sum_over (turn_of f g) xs) list i past in
    let same : now +ℤ sum_over (turn_of f g) (drop i list) ≡ now = omega (arith, ints, none) in
    subst (IsAsGood direction start) same so_far

-- what is at least as good as a number that is better than the best value is better, too
pub still_better : (direction : Direction) (end worst best : ℤ) → IsAsGood direction end worst → no_better direction worst best ≡ false → no_better direction end best ≡ false
still_better Minimize end worst best good better = grind (arith, ints, good, better)
still_better Maximize end worst best good better = grind (arith, ints, good, better)
still_better Nothing end worst best good better = absurd (cc)

-- a part with its worse end
pub worsened_is : (e : PartEnds) (w : Wide) (old : ℤ) (r : Option Wide) → e.worse ≡ Some w → IfSome r (λ new. new.value ≡ ((old +ℤ w.value) -ℤ e.better.value))
    → IfSome r (λ new. IsWorsened e old new.value)
worsened_is e w old None told sum = tt
worsened_is e w old (Some new) told sum = record { worse = w; told = told; sum = sum }

-- one of the parts that mention a cell: it is as good as its worse end
pub part_good : (program : Program) (b c : Box) (atoms : List Atom) (ends : List PartEnds) (number : ℕ) (d : PartEnds) (w : Wide) → AreEnds program b atoms ends → Inside c b → number < length atoms
    → (get_or ends number d).worse ≡ Some w → IsAsGood (direction_in (problem_in program)) (part_at program atoms c number) w.value
part_good program b c atoms ends number d w are inside below told =
    let there = some_there atoms number below in
    let fact = (are.each number there.0 d below there.1).worse c inside in
    let found : IsAsGood (direction_in (problem_in program)) (part_over (direction_in (problem_in program)) (root_in program) (things_in program) c there.0) w.value =
    subst (λ (o : Option Wide). IfSome o (λ x. IsAsGood (direction_in (problem_in program)) (part_over (direction_in (problem_in program)) (root_in program) (things_in program) c there.0) x.value))
    told fact
    in
    subst (λ (o : Option Atom). IsAsGood (direction_in (problem_in program))
    (option_map_or (part_over (direction_in (problem_in program)) (root_in program) (things_in program) c) o (pos 0)) w.value) (sym there.1) found

pub part_better : (program : Program) (b : Box) (atoms : List Atom) (ends : List PartEnds) (number : ℕ) (d : PartEnds) → AreEnds program b atoms ends → number < length atoms
    → (get_or ends number d).better.value ≡ part_at program atoms b number
part_better program b atoms ends number d are below =
    let there = some_there atoms number below in
    (are.each number there.0 d below there.1).better
    ∙ sym (ap (λ (o : Option Atom). option_map_or (part_over (direction_in (problem_in program)) (root_in program) (things_in program) b) o (pos 0)) there.1)

-- the ends of a part, as they are seen
pub part_seen : (program : Program) (b : Box) (a : Atom) (range : Range) (better : Wide) (worse : Option Wide) (direction : Direction)
    → ends_in range.interval ≡ interval Near (root_in program) b (term_at (things_in program) a.term) → range.defined ≡ mark Near (root_in program) b (term_at (things_in program) a.term)
    → direction ≡ direction_in (problem_in program) → better.value ≡ better_end direction (scaled a.k (ends range.interval.lo range.interval.hi)) → IfSome worse (λ w. range.defined ≡ Always)
    → IfSome worse (λ w. w.value ≡ worse_end (direction_in (problem_in program)) (scaled a.k (ends range.interval.lo range.interval.hi)))
    → IsPartSeen program b a (record { better = better; worse = worse })
part_seen program b a range better worse direction seen marked same is always told =
    let mine = direction_in (problem_in program) in
    record {
      better = is ∙ ap (λ (d : Direction). better_end d (scaled a.k (ends range.interval.lo range.interval.hi))) same ∙ ap (λ (e : Ends). better_end mine (scaled a.k e)) seen;
      worse = exact worse always told;
    }
  where
    exact : (o : Option Wide) → IfSome o (λ w. range.defined ≡ Always)
        → IfSome o (λ w. w.value ≡ worse_end (direction_in (problem_in program)) (scaled a.k (ends range.interval.lo range.interval.hi)))
        → IfSome o (λ w. (mark Near (root_in program) b (term_at (things_in program) a.term) ≡ Always)
        × (w.value ≡ worse_end (direction_in (problem_in program)) (scaled a.k (interval Near (root_in program) b (term_at (things_in program) a.term)))))
    exact None defined value = tt
    exact (Some w) defined value = (sym marked ∙ defined, value ∙ ap (λ (e : Ends). worse_end (direction_in (problem_in program)) (scaled a.k e)) seen)

-- a worse end that is seen is one over each part of the box
pub ends_of_seen : (program : Program) (b : Box) (a : Atom) (e : PartEnds) → IsMade program → Inside b (root_in program) → IsPartSeen program b a e → AreEndsOf program b a e
ends_of_seen program b a e made inside seen = record {
  better = seen.better;
  worse = λ c within. by_worse e.worse c within seen.worse;
}
  where
    by_worse : (o : Option Wide) (c : Box) → Inside c b
        → IfSome o (λ w. (mark Near (root_in program) b (term_at (things_in program) a.term) ≡ Always)
        × (w.value ≡ worse_end (direction_in (problem_in program)) (scaled a.k (interval Near (root_in program) b (term_at (things_in program) a.term)))))
        → IfSome o (λ w. IsAsGood (direction_in (problem_in program)) (part_over (direction_in (problem_in program)) (root_in program) (things_in program) c a) w.value)
    by_worse None c within told = tt
    by_worse (Some w) c within told =
        let root = root_in program in
        let t = term_at (things_in program) a.term in
        let mine = direction_in (problem_in program) in
        let proper = (small_term root program.draft.store.items.items a.term made.draft.store.built).proper in
        subst (IsAsGood mine (part_over mine root (things_in program) c a)) (sym told.1) (worse_there mine root b c a.k t inside.is_box within proper told.0)
