-- What a log claims of an outcome.
use Rattle.std.proofs.Common.{◌≡◌, inl, inr, ℤ, List, [], ◌∷◌, length, Option, Some, None, All, Any, Contains, arith, refl, sym, ap, subst, ◌∙◌}
use Rattle.std.proofs.lemmas.List.Elements.{All-contains}
use Rattle.sopl_base.specs.Better.{IsBetter}
use Rattle.sopl_base.proofs.Options.{some_turned}
use Rattle.box_problem.specs.Box.{Box}
use Rattle.box_problem.specs.BoxProblem.{BoxProblem}
use Rattle.log_rows.specs.Made.{Pending}
use Rattle.log_rows.specs.Accepted.{BoundsPending, Closes, IsPendingEnd}
use Rattle.log_rows.proofs.Lists.{first_or_later, middle_is, none_has, others_have}
use Rattle.box_problem.specs.Opens.{IsBound}
use Rattle.sopl_search.specs.declared.outcome.Found.{Found}
use Rattle.sopl_search.specs.declared.outcome.Outcome.{Outcome}
use Rattle.sopl_search.specs.declared.outcome.Outcome.TheVariants.{Optimal, Infeasible, Bounded}
use Rattle.sopl_search.specs.Frontiers.{boxes}
use Rattle.sopl_search.specs.Logged.{footer_of}
use Rattle.sopl_search.specs.Outcomes.{EndsBy, value_of}

-- open nodes by their boxes
box_has : (nodes : List Pending) (x : Pending) → Contains nodes x → Contains (boxes nodes) x.at
box_has [] x has = absurd (none_has x has)
box_has (y ∷ nodes) x has =
    elim (first_or_later y nodes x has) [
      | inl here ↦ subst (λ (z : Pending). Contains (boxes (y ∷ nodes)) z.at) here (middle_is [] (boxes nodes) y.at)
      | inr later ↦ others_have [] (boxes nodes) y.at x.at (box_has nodes x later)
    ]

-- a node whose box it is
pub record HasBox (nodes : List Pending) (b : Box) : Type 0 where
  pub node : Pending
  pub among : Contains nodes node
  pub is : node.at ≡ b

node_of_box : (nodes : List Pending) (b : Box) → Contains (boxes nodes) b → HasBox nodes b
node_of_box [] b has = absurd (none_has b has)
node_of_box (y ∷ nodes) b has =
    elim (first_or_later y.at (boxes nodes) b has) [
      | inl here ↦ record { node = y; among = middle_is [] nodes y; is = here }
      | inr later ↦ longer y nodes b (node_of_box nodes b later)
    ]
  where
    longer : (y : Pending) (nodes : List Pending) (b : Box) → HasBox nodes b → HasBox (y ∷ nodes) b
    longer y nodes b has = record { node = has.node; among = others_have [] nodes y has.node has.among; is = has.is }

some_end : (problem : BoxProblem) (nodes : List Pending) (bound : ℤ) → Any (λ b. bound ≡ problem.end b) (boxes nodes) → IsPendingEnd problem nodes bound
some_end problem nodes bound some =
    let there = node_of_box nodes some.1 (some.0, some.2, some.3) in
    record { node = there.node; is_open = there.among; end = ap problem.end there.is ∙ sym some.4 }

bounds_all : (problem : BoxProblem) (nodes : List Pending) (bound : ℤ) → All (λ b. ¬ IsBetter problem.direction (problem.end b) bound) (boxes nodes) → BoundsPending problem nodes bound
bounds_all problem nodes bound all x has = All-contains (λ (b : Box). ¬ IsBetter problem.direction (problem.end b) bound) (boxes nodes) x.at all (box_has nodes x has)

bounded_footer : (problem : BoxProblem) (best : Option Found) (nodes : List Pending) (bound : ℤ) → IsBound problem (value_of best) (boxes nodes) bound
    → Closes problem nodes (value_of best) (footer_of (Bounded best bound))
bounded_footer problem None nodes bound is = record {
  best_is = refl;
  one = elim is.one_of_them [
    | inl none ↦ absurd (cc)
    | inr end ↦ some_end problem nodes bound end
  ];
  opens_are = bounds_all problem nodes bound is.ends;
}
bounded_footer problem (Some found) nodes bound is = record {
  best_is = refl;
  one = elim is.one_of_them [
    | inl value ↦ inl (some_turned found.value bound value)
    | inr end ↦ inr (some_end problem nodes bound end)
  ];
  value = is.reached;
  opens_are = bounds_all problem nodes bound is.ends;
}

no_box : (nodes : List Pending) → boxes nodes ≡ [] → nodes ≡ []
no_box [] none = refl
no_box (x ∷ nodes) none = absurd (omega (arith, ap length none))

-- what is claimed of these open nodes
pub claims_so : (problem : BoxProblem) (best : Option Found) (nodes : List Pending) (outcome : Outcome) → EndsBy problem best (boxes nodes) outcome
    → Closes problem nodes (value_of best) (footer_of outcome)
claims_so problem best nodes (Optimal value cells) ends = record { best_is = ap value_of ends.0; opens_are = bounds_all problem nodes value ends.1 }
claims_so problem best nodes Infeasible ends = record { best_is = ap value_of ends.0; none = no_box nodes ends.1 }
claims_so problem best nodes (Bounded found bound) ends =
    subst (λ (some : Option Found). Closes problem nodes (value_of best) (footer_of (Bounded some bound))) (sym ends.0) (bounded_footer problem best nodes bound ends.1)
