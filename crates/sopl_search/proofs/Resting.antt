-- How a node ends at whose box propagators rest.
use Rattle.std.proofs.Common.{◌≡◌, ℕ, ℤ, List, Option, arith, sym, subst}
use Rattle.std.proofs.lemmas.Int.{ints}
use Rattle.sopl_base.specs.declared.reason.Reason.{Reason}
use Rattle.box_problem.specs.Box.{Box, Inside}
use Rattle.box_problem.specs.BoxProblem.{BoxProblem}
use Rattle.sopl_base.specs.declared.reason.Step.{Step}
use Rattle.box_problem.specs.Steps.{after_steps}
use Rattle.box_problem.specs.Rightness.{Appended, IsConsistent, Quiets}
use Rattle.box_problem.proofs.Boxes.{parts_of_parts}
use Rattle.box_problem.proofs.Steps.{steps_lead_inside}
use Rattle.prop_core.specs.Rests.{Rests}
use Rattle.prop_core.specs.declared.finding.Calm.{Calm}
use Rattle.prop_core.specs.declared.finding.Calm.TheVariants.{Quiet}
use Rattle.brancher.specs.Rules.{Rule}
use Rattle.sopl_search.specs.declared.ending.NodeEnd.{NodeEnd}
use Rattle.sopl_search.specs.declared.ending.NodeEnd.TheVariants.{Refuted, Split, Point}
use Rattle.sopl_search.specs.Ends.{AreAll, Ends, EndsPicked, IsPosed}
use Rattle.box_problem.specs.Near.{IsNearBox}

pub near_part : (whole part : Box) → IsNearBox whole → Inside part whole → IsNearBox part
near_part whole part near inside = record {
  lows = λ cell exists.
      let from = near.lows cell (omega (arith, inside.same_cells, exists)) in
      let to = near.highs cell (omega (arith, inside.same_cells, exists)) in
      record {
        above = omega (arith, ints, from.above, inside.from_low cell exists);
        below = omega (arith, ints, to.below, inside.to_high cell exists, inside.is_box.ordered cell exists);
      };
  highs = λ cell exists.
      let from = near.lows cell (omega (arith, inside.same_cells, exists)) in
      let to = near.highs cell (omega (arith, inside.same_cells, exists)) in
      record {
        above = omega (arith, ints, from.above, inside.from_low cell exists, inside.is_box.ordered cell exists);
        below = omega (arith, ints, to.below, inside.to_high cell exists);
      };
}

-- right steps lead to a part of the root
pub appended_inside : (problem : BoxProblem) (v : Option ℤ) (b after : Box) (old new : List Step) → Inside b problem.root → Appended problem v b old new after → Inside after problem.root
appended_inside problem v b after old new inside appended =
    subst (λ (x : Box). Inside x problem.root) (sym appended.leads)
    (parts_of_parts (after_steps b appended.more) b problem.root (steps_lead_inside problem v b appended.more inside.is_box appended.right) inside)

consistent : (problem : BoxProblem) (reasons : List Reason) (v : Option ℤ) (b : Box) → AreAll problem reasons → Quiets problem reasons v b → IsConsistent problem v b
consistent problem reasons v b all rests = record {
  whole = λ reason own. rests.whole reason (all.among reason own);
  at_low = λ reason cell own exists. rests.at_low reason cell (all.among reason own) exists;
  at_high = λ reason cell own exists. rests.at_high reason cell (all.among reason own) exists;
}

pub ends_at_rest : (problem : BoxProblem) (reasons : List Reason) (v : Option ℤ) (b : Box) (asked : Option Rule) (depth : ℕ) (end : NodeEnd) → IsPosed problem → AreAll problem reasons
    → Inside b problem.root → Quiets problem reasons v b → EndsPicked asked depth b end → Ends problem v asked depth b end
ends_at_rest problem reasons v b asked depth (Refuted reason) posed all inside rests ends = absurd ends
ends_at_rest problem reasons v b asked depth (Split cut low_first) posed all inside rests ends = record {
  consistent = consistent problem reasons v b all rests;
  picked = ends;
}
ends_at_rest problem reasons v b asked depth Point posed all inside rests ends = record {
  one = ends;
  beats = posed.lawful.exact b v inside ends (consistent problem reasons v b all rests).whole;
}

-- so it is where they came to rest
pub ends_where_calm : (problem : BoxProblem) (reasons : List Reason) (v : Option ℤ) (b : Box) (calm : Calm) (asked : Option Rule) (depth : ℕ) (end : NodeEnd) → IsPosed problem
    → AreAll problem reasons → Inside b problem.root → calm ≡ Quiet → Rests problem reasons v b calm → EndsPicked asked depth b end → Ends problem v asked depth b end
ends_where_calm problem reasons v b calm asked depth end posed all inside quiet rests ends =
    ends_at_rest problem reasons v b asked depth end posed all inside (subst (λ (c : Calm). Rests problem reasons v b c) quiet rests) ends
