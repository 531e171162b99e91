-- A search may go by what closes a box.
use Rattle.std.proofs.Common.{◌≡◌, refl, sym, ap, ◌∙◌, arith, ℕ, ◌<◌, ◌≤◌, ℤ, pos, ◌*ℤ◌, ◌≤ℤ◌, int_lt, true, false, List, [], ◌∷◌, ◌++◌, length, map, All, Contains, Option, Some}
use Rattle.std.proofs.Common.{None, IsSome, IfSome, IsTrue, option_and_then, unwrap_or, slice_get}
use Rattle.std.proofs.lemmas.Int.{ints}
use Rattle.std.proofs.lemmas.List.Elements.{Contains-append_left, Contains-append_right}
use Rattle.std.proofs.lemmas.Option.{slice_get_within}
use Rattle.std.specs.List.{AllByRecursion, flat_map}
use Rattle.std.specs.Option.{option_map_or}
use Rattle.sopl_base.specs.declared.direction.Direction.{Direction}
use Rattle.sopl_base.specs.declared.direction.Direction.TheVariants.{Minimize, Maximize, Nothing}
use Rattle.sopl_base.specs.declared.reason.Reason.{Reason}
use Rattle.sopl_base.specs.declared.reason.Reason.TheVariants.{Hard, Chance, Undefined, Bound}
use Rattle.sopl_base.specs.Better.{IsBetter}
use Rattle.sopl_base.proofs.Tests.{lt_untest}
use Rattle.sopl_base.proofs.Lists.{each_at}
use Rattle.box_problem.specs.Box.{Box, IsBox, InBox, IsPoint}
use Rattle.box_problem.specs.BoxProblem.{Beats, Follows, Lawful}
use Rattle.box_problem.proofs.Boxes.{one_point}
use Rattle.term_language.specs.declared.answers.Defined.{Defined}
use Rattle.term_language.specs.declared.answers.Defined.TheVariants.{Never, Maybe, Always}
use Rattle.term_language.specs.Ends.{Ends, Lies, exactly}
use Rattle.term_language.specs.Laws.{Exact, Marks, IsProper, IsProperCond}
use Rattle.term_language.specs.Rules.{Near, mark, truth, interval}
use Rattle.term_language.specs.Terms.{Cond}
use Rattle.term_language.specs.Values.{value, holds}
use Rattle.term_language.proofs.Exactness.{IsOne}
use Rattle.term_language.proofs.OnPoints.{points_exact, points_known}
use Rattle.term_language.proofs.Products.{in_exactly, up}
use Rattle.term_language.proofs.Soundness.{marks_tell, truths_tell}
use Rattle.term_problem.specs.Laws.{ProblemsAreLawful}
use Rattle.term_problem.specs.Objective.{goal_ends_of, goal_ends, better_end}
use Rattle.term_problem.specs.Points.{weight_where, Holds, goal_value, worth}
use Rattle.term_problem.specs.Problems.{ChanceTerms, GoalTerms, ProblemTerms, IsChance, IsProblem, direction_in}
use Rattle.term_problem.specs.Refuted.{is_false, is_never, weight_left, none_better, refutes}
use Rattle.term_problem.specs.Search.{numbers_to, reasons_of, problem_over}
use Rattle.term_problem.proofs.Goals.{goal_lies, one_goal}
use Rattle.term_problem.proofs.Lists.{at_some, to_some, chained, fails, all_at, all_from, contains_map, contains_flat_map, contains_number}
use Rattle.term_problem.proofs.Points.{points_are_told}
use Rattle.term_problem.proofs.Worth.{some_terms, worth_there}
use Rattle.term_problem.proofs.Weights.{never_false, known_holds, where_or_left, left_at_point}

-- Which values are better.

-- nothing in an interval is better than its better end
end_is_best : (direction : Direction) (z : ℤ) (a : Ends) → Lies z a → ¬ IsBetter direction z (better_end direction a)
end_is_best Minimize z a lies better = absurd (omega (arith, ints, lies.from_low, better))
end_is_best Maximize z a lies better = absurd (omega (arith, ints, lies.to_high, better))
end_is_best Nothing z a lies better = better

-- what is better than a value lies in no interval that has none better
some_better : (direction : Direction) (z w : ℤ) (a : Ends) → Lies z a → IsBetter direction z w → none_better direction a w ≡ false
some_better Minimize z w a lies better = grind (arith, ints, lies.from_low)
some_better Maximize z w a lies better = grind (arith, ints, lies.to_high)
some_better Nothing z w a lies better = absurd better

-- where an interval is one number and has one that is better, this is it
is_better : (direction : Direction) (z w : ℤ) (a : Ends) → Lies z a → IsOne a → none_better direction a w ≡ false → IsBetter direction z w
is_better Minimize z w a lies one some = grind (arith, ints, lies.to_high)
is_better Maximize z w a lies one some = grind (arith, ints, lies.from_low)
is_better Nothing z w a lies one some = absurd (cc)

closed_by_end : (direction : Direction) (a : Ends) (w : ℤ) → ¬ IsBetter direction (better_end direction a) w → none_better direction a w ≡ true
closed_by_end Minimize a w not_better = grind (arith, ints)
closed_by_end Maximize a w not_better = grind (arith, ints)
closed_by_end Nothing a w not_better = refl

-- what is closed against a value is closed against each that is as good
closed_later : (direction : Direction) (a : Ends) (x w : ℤ) → ¬ IsBetter direction w x → none_better direction a w ≡ true → none_better direction a x ≡ true
closed_later Minimize a x w not_better closed = grind (arith, ints)
closed_later Maximize a x w not_better closed = grind (arith, ints)
closed_later Nothing a x w not_better closed = refl

later_bound : (direction : Direction) (a : Ends) (v w : Option ℤ) → Follows direction v w → option_map_or (none_better direction a) w false ≡ true
    → option_map_or (none_better direction a) v false ≡ true
later_bound direction a v None follows closed = absurd (cc)
later_bound direction a None (Some w) follows closed = absurd follows
later_bound direction a (Some x) (Some w) follows closed = closed_later direction a x w follows closed

one_end : (direction : Direction) (z : ℤ) (a : Ends) → ¬ direction ≡ Nothing → Lies z a → IsOne a → better_end direction a ≡ z
one_end Minimize z a some lies one = omega (arith, ints, lies.from_low, lies.to_high, one)
one_end Maximize z a some lies one = omega (arith, ints, lies.from_low, lies.to_high, one)
one_end Nothing z a some lies one = absurd (some refl)

-- Marks.

never_there : (m : Defined) (v : Option ℤ) → Marks m v → IsSome v → is_never m ≡ false
never_there Never None marked there = absurd (cc)
never_there Never (Some x) marked there = absurd marked
never_there Maybe v marked there = refl
never_there Always v marked there = refl

there_at_point : (m : Defined) (fact : Type 0) (v : Option ℤ) → Exact m fact → Marks m v → is_never m ≡ false → IsSome v
there_at_point Never fact v exact marked some = absurd (cc)
there_at_point Maybe fact v exact marked some = absurd exact
there_at_point Always fact None exact marked some = absurd marked
there_at_point Always fact (Some x) exact marked some = refl

at_most : (x y : ℤ) → int_lt y x ≡ false → x ≤ℤ y
at_most x y tested = grind (arith, ints)

-- a value that is there
there_lies : (o : Option ℤ) (a : Ends) → IsSome o → IfSome o (λ z. Lies z a) → Lies (unwrap_or o (pos 0)) a
there_lies None a there lies = absurd (cc)
there_lies (Some z) a there lies = lies

module _ (root : Box) (terms : ProblemTerms) (is : IsProblem terms) where
  -- Reasons.

  abbrev hard_reasons : List Reason
  hard_reasons = flat_map (λ i. map (Hard i) (numbers_to (length terms.weights))) (numbers_to (length terms.hards))

  abbrev chance_reasons : List Reason
  chance_reasons = map Chance (numbers_to (length terms.chances))

  abbrev undefined_reasons : List Reason
  undefined_reasons = map Undefined (numbers_to (length terms.weights))

  has_hard : (i s : ℕ) → i < length terms.hards → s < length terms.weights → Contains (reasons_of terms) (Hard i s)
  has_hard i s there within =
      Contains-append_left (hard_reasons ++ chance_reasons ++ undefined_reasons) (Bound ∷ []) (Hard i s)
      (Contains-append_left (hard_reasons ++ chance_reasons) undefined_reasons (Hard i s)
      (Contains-append_left hard_reasons chance_reasons (Hard i s)
      (contains_flat_map (λ j. map (Hard j) (numbers_to (length terms.weights))) (numbers_to (length terms.hards)) i (Hard i s) (contains_number (length terms.hards) i there)
      (contains_map (Hard i) (numbers_to (length terms.weights)) s (contains_number (length terms.weights) s within)))))

  has_chance : (i : ℕ) → i < length terms.chances → Contains (reasons_of terms) (Chance i)
  has_chance i there =
      Contains-append_left (hard_reasons ++ chance_reasons ++ undefined_reasons) (Bound ∷ []) (Chance i)
      (Contains-append_left (hard_reasons ++ chance_reasons) undefined_reasons (Chance i)
      (Contains-append_right hard_reasons chance_reasons (Chance i)
      (contains_map Chance (numbers_to (length terms.chances)) i (contains_number (length terms.chances) i there))))

  has_undefined : (s : ℕ) → s < length terms.weights → Contains (reasons_of terms) (Undefined s)
  has_undefined s within =
      Contains-append_left (hard_reasons ++ chance_reasons ++ undefined_reasons) (Bound ∷ []) (Undefined s)
      (Contains-append_right (hard_reasons ++ chance_reasons) undefined_reasons (Undefined s)
      (contains_map Undefined (numbers_to (length terms.weights)) s (contains_number (length terms.weights) s within)))

  has_bound : Contains (reasons_of terms) Bound
  has_bound = Contains-append_right (hard_reasons ++ chance_reasons ++ undefined_reasons) (Bound ∷ []) Bound (0, omega arith, refl)

  module _ (b : Box) (point : List ℤ) (is_box : IsBox b) (inside : InBox b point) where
    abbrev DoHold : List Cond → Type 0
    DoHold conditions = All (λ condition. IsTrue (holds point condition)) conditions

    abbrev AreThere : GoalTerms → Type 0
    AreThere goal = All (λ term. IsSome (value point term)) goal.terms

    abbrev AreProperGoal : GoalTerms → Type 0
    AreProperGoal goal = AllByRecursion IsProper goal.terms

    -- the value of a point that satisfies lies in the objective's interval
    worth_lies : (goal : Option GoalTerms) → IfSome goal (λ (g : GoalTerms). 1 ≤ length g.terms) → IfSome goal AreProperGoal → IfSome goal AreThere
        → Lies (unwrap_or (option_map_or (goal_value point terms.weights) goal (Some (pos 0))) (pos 0)) (option_map_or (goal_ends_of root b terms.weights) goal (exactly (pos 0)))
    worth_lies None some proper there = in_exactly (pos 0) (pos 0) refl
    worth_lies (Some goal) some proper there =
        there_lies (goal_value point terms.weights goal) (goal_ends_of root b terms.weights goal) (worth_there point terms.weights (Some goal) some there)
        (goal_lies root b point is_box inside terms.weights goal proper)

    lies : Holds terms point → Lies (unwrap_or (worth terms point) (pos 0)) (goal_ends root b terms)
    lies all = worth_lies terms.goal (some_terms terms is.first terms.goal is.goal) is.proper.goal all.goal

    -- no reason closes the box of a point that satisfies and is better
    kept : (reason : Reason) (v : Option ℤ) → Holds terms point → IfSome v (λ w. IsBetter (direction_in terms) (unwrap_or (worth terms point) (pos 0)) w) → refutes root terms reason b v ≡ false
    kept (Hard i s) v all better =
        fails (λ condition. is_false (truth Near root b condition)) (option_and_then (λ conditions. slice_get conditions s) (slice_get terms.hards i))
        (λ condition at.
        let two = chained (slice_get terms.hards i) (λ conditions. slice_get conditions s) condition at in
        never_false (truth Near root b condition) (holds point condition)
        (truths_tell Near root b point condition is_box inside
        (each_at IsProperCond two.first (each_at (AllByRecursion IsProperCond) terms.hards is.proper.hards i two.first two.is_first) s condition two.is_second))
        (all_at (λ c. IsTrue (holds point c)) two.first (all_at DoHold terms.hards all.hards i two.first two.is_first) s condition two.is_second))
    kept (Chance i) v all better =
        fails (λ (chance : ChanceTerms). int_lt (chance.q *ℤ weight_left root b terms.weights chance.conditions) (chance.p *ℤ terms.whole)) (slice_get terms.chances i)
        (λ chance at.
        let enough = all_at (λ (c : ChanceTerms). (c.p *ℤ terms.whole) ≤ℤ (c.q *ℤ weight_where point terms.weights c.conditions)) terms.chances all.chances i chance at in
        let made = each_at (IsChance terms) terms.chances is.chances i chance at in
        let proper = each_at (λ (c : ChanceTerms). AllByRecursion IsProperCond c.conditions) terms.chances is.proper.chances i chance at in
        let positive = made.positive in
        let more = up chance.q (weight_where point terms.weights chance.conditions) (weight_left root b terms.weights chance.conditions) (omega (arith, ints, positive))
        (where_or_left root b point is_box inside terms.weights chance.conditions is.weighs proper) in
        lt_untest (chance.q *ℤ weight_left root b terms.weights chance.conditions) (chance.p *ℤ terms.whole) (omega (arith, ints, enough, more)))
    kept (Undefined s) v all better =
        fails (λ (goal : GoalTerms). option_map_or (λ term. is_never (mark Near root b term)) (slice_get goal.terms s) false) terms.goal
        (λ goal is_goal.
        fails (λ term. is_never (mark Near root b term)) (slice_get goal.terms s)
        (λ term at.
        never_there (mark Near root b term) (value point term)
        (marks_tell Near root b point term is_box inside (each_at IsProper goal.terms (at_some AreProperGoal terms.goal goal is.proper.goal is_goal) s term at))
        (all_at (λ t. IsSome (value point t)) goal.terms (at_some AreThere terms.goal goal all.goal is_goal) s term at)))
    kept Bound v all better =
        fails (λ w. none_better (direction_in terms) (goal_ends root b terms) w) v
        (λ w is_w.
        some_better (direction_in terms) (unwrap_or (worth terms point) (pos 0)) w (goal_ends root b terms) (lies all)
        (at_some (λ u. IsBetter (direction_in terms) (unwrap_or (worth terms point) (pos 0)) u) v w better is_w))

    -- on a box of one point
    module _ (one : IsPoint b) where
      one_worth : (goal : Option GoalTerms) → IfSome goal AreProperGoal → IfSome goal AreThere → IsOne (option_map_or (goal_ends_of root b terms.weights) goal (exactly (pos 0)))
      one_worth None proper there = refl
      one_worth (Some goal) proper there = one_goal root b point is_box inside one terms.weights goal proper there

      one_ends : Holds terms point → IsOne (goal_ends root b terms)
      one_ends all = one_worth terms.goal is.proper.goal all.goal

      end_is : (goal : Option GoalTerms) → IfSome goal (λ (g : GoalTerms). (length g.terms ≡ length terms.weights) × (¬ g.direction ≡ Nothing)) → IfSome goal AreProperGoal → IfSome goal AreThere
          → better_end (option_map_or (λ (g : GoalTerms). g.direction) goal Nothing) (option_map_or (goal_ends_of root b terms.weights) goal (exactly (pos 0)))
          ≡ unwrap_or (option_map_or (goal_value point terms.weights) goal (Some (pos 0))) (pos 0)
      end_is None made proper there = refl
      end_is (Some goal) made proper there =
          one_end goal.direction (unwrap_or (goal_value point terms.weights goal) (pos 0)) (goal_ends_of root b terms.weights goal) made.1
          (worth_lies (Some goal) (some_terms terms is.first (Some goal) made) proper there) (one_worth (Some goal) proper there)

      pub end_exact : Holds terms point → better_end (direction_in terms) (goal_ends root b terms) ≡ unwrap_or (worth terms point) (pos 0)
      end_exact all = end_is terms.goal is.goal is.proper.goal all.goal

      -- what no reason closes satisfies and is better
      module _ (v : Option ℤ) (quiet : (reason : Reason) → Contains (reasons_of terms) reason → refutes root terms reason b v ≡ false) where
        hards_hold : All DoHold terms.hards
        hards_hold =
            all_from DoHold terms.hards
            (λ i conditions at_i.
            all_from (λ condition. IsTrue (holds point condition)) conditions
            (λ s condition at_s.
            let proper = each_at IsProperCond conditions (each_at (AllByRecursion IsProperCond) terms.hards is.proper.hards i conditions at_i) s condition at_s in
            let long = each_at (λ (c : List Cond). length c ≡ length terms.weights) terms.hards is.hards i conditions at_i in
            let within = slice_get_within conditions s condition at_s in
            let same : option_map_or (λ c. is_false (truth Near root b c)) (option_and_then (λ (c : List Cond). slice_get c s) (slice_get terms.hards i)) false
            ≡ is_false (truth Near root b condition) =
            ap (λ o. option_map_or (λ c. is_false (truth Near root b c)) (option_and_then (λ (c : List Cond). slice_get c s) o) false) at_i
            ∙ ap (λ o. option_map_or (λ c. is_false (truth Near root b c)) o false) at_s in
            known_holds (truth Near root b condition) (holds point condition) (points_known root b condition is_box one proper) (truths_tell Near root b point condition is_box inside proper)
            (sym same ∙ quiet (Hard i s) (has_hard i s (slice_get_within terms.hards i conditions at_i) (omega (arith, within, long))))))

        chances_hold : All (λ (chance : ChanceTerms). (chance.p *ℤ terms.whole) ≤ℤ (chance.q *ℤ weight_where point terms.weights chance.conditions)) terms.chances
        chances_hold =
            all_from (λ (chance : ChanceTerms). (chance.p *ℤ terms.whole) ≤ℤ (chance.q *ℤ weight_where point terms.weights chance.conditions)) terms.chances
            (λ i chance at.
            let made = each_at (IsChance terms) terms.chances is.chances i chance at in
            let proper = each_at (λ (c : ChanceTerms). AllByRecursion IsProperCond c.conditions) terms.chances is.proper.chances i chance at in
            let positive = made.positive in
            let same : refutes root terms (Chance i) b v ≡ int_lt (chance.q *ℤ weight_left root b terms.weights chance.conditions) (chance.p *ℤ terms.whole) =
            ap (λ o. option_map_or (λ (c : ChanceTerms). int_lt (c.q *ℤ weight_left root b terms.weights c.conditions) (c.p *ℤ terms.whole)) o false) at in
            let enough = at_most (chance.p *ℤ terms.whole) (chance.q *ℤ weight_left root b terms.weights chance.conditions)
            (sym same ∙ quiet (Chance i) (has_chance i (slice_get_within terms.chances i chance at))) in
            let more = up chance.q (weight_left root b terms.weights chance.conditions) (weight_where point terms.weights chance.conditions) (omega (arith, ints, positive))
            (left_at_point root b point is_box inside one terms.weights chance.conditions proper) in
            omega (arith, ints, enough, more))

        goal_holds : IfSome terms.goal AreThere
        goal_holds =
            to_some AreThere terms.goal
            (λ goal is_goal.
            all_from (λ term. IsSome (value point term)) goal.terms
            (λ s term at.
            let proper = each_at IsProper goal.terms (at_some AreProperGoal terms.goal goal is.proper.goal is_goal) s term at in
            let made = at_some (λ (g : GoalTerms). (length g.terms ≡ length terms.weights) × (¬ g.direction ≡ Nothing)) terms.goal goal is.goal is_goal in
            let long = made.0 in
            let within = slice_get_within goal.terms s term at in
            let same : refutes root terms (Undefined s) b v ≡ is_never (mark Near root b term) =
            ap (λ o. option_map_or (λ (g : GoalTerms). option_map_or (λ t. is_never (mark Near root b t)) (slice_get g.terms s) false) o false) is_goal
            ∙ ap (λ o. option_map_or (λ t. is_never (mark Near root b t)) o false) at in
            there_at_point (mark Near root b term) (IsOne (interval Near root b term)) (value point term) (points_exact root b term is_box one proper)
            (marks_tell Near root b point term is_box inside proper)
            (sym same ∙ quiet (Undefined s) (has_undefined s (omega (arith, within, long))))))

        all_hold : Holds terms point
        all_hold = record { hards = hards_hold; chances = chances_hold; goal = goal_holds }

        pub beats : Beats (problem_over root terms) v point
        beats = record {
          satisfies = (points_are_told terms point).1 all_hold;
          better =
              to_some (λ w. IsBetter (direction_in terms) (unwrap_or (worth terms point) (pos 0)) w) v
              (λ w is_w.
              is_better (direction_in terms) (unwrap_or (worth terms point) (pos 0)) w (goal_ends root b terms) (lies all_hold) (one_ends all_hold)
              (sym (ap (λ o. option_map_or (none_better (direction_in terms) (goal_ends root b terms)) o false) is_w) ∙ quiet Bound has_bound));
        }

  later : (reason : Reason) (b : Box) (v w : Option ℤ) → Follows (direction_in terms) v w → refutes root terms reason b w ≡ true → refutes root terms reason b v ≡ true
  later (Hard i s) b v w follows closed = closed
  later (Chance i) b v w follows closed = closed
  later (Undefined s) b v w follows closed = closed
  later Bound b v w follows closed = later_bound (direction_in terms) (goal_ends root b terms) v w follows closed

  at_lows : (b : Box) → IsBox b → IsPoint b → InBox b b.lows
  at_lows b is_box one = (one_point b b.lows is_box one).1 refl

  pub lawful : IsBox root → Lawful (problem_over root terms)
  lawful is_root = record {
    root = is_root;
    sound = λ reason b v point part closed inside beaten.
        let open_still = kept b point part.is_box inside reason v ((points_are_told terms point).0 beaten.satisfies) beaten.better in absurd (cc);
    exact = λ b v part one quiet. beats b b.lows part.is_box (at_lows b part.is_box one) one v quiet;
    end_bounds = λ b point part inside passed.
        end_is_best (direction_in terms) (unwrap_or (worth terms point) (pos 0)) (goal_ends root b terms) (lies b point part.is_box inside ((points_are_told terms point).0 passed));
    end_exact = λ b part one passed. end_exact b b.lows part.is_box (at_lows b part.is_box one) one ((points_are_told terms b.lows).0 passed);
    bound = λ b w part not_better. closed_by_end (direction_in terms) (goal_ends root b terms) w not_better;
    later = later;
  }

pub problems_are_lawful : ProblemsAreLawful
problems_are_lawful root terms is_root is = lawful root terms is is_root
