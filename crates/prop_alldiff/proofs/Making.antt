-- The propagator as it is made.
use Rattle.std.proofs.Common.{◌≡◌, ◌∙◌, refl, ap, sym, subst, ℕ, Bool, true, false, if◌then◌else◌, List, Option, Some, IfSome, slice_get}
use Rattle.std.specs.List.{Contains}
use Rattle.std.specs.Option.{option_and_then}
use Rattle.box_problem.specs.Box.{Box}
use Rattle.term_language.specs.Mentions.{cond_mentions, terms_mention}
use Rattle.term_language.specs.Terms.{Term, Terms, Cond, Compare, Not, All, Any, Implies, AllDifferent, Cumulative}
use Rattle.term_language.proofs.FormValues.{by_bool}
use Rattle.term_nodes.specs.Things.{cond_at, terms_at}
use Rattle.term_program.specs.Comparisons.{is_linear_pair, shape_in}
use Rattle.term_program.specs.Globals.{global_terms, term_ids}
use Rattle.term_program.specs.Mentions.{IsListOf}
use Rattle.term_program.specs.Programs.{IsMade, problem_in, root_in, things_in}
use Rattle.term_store.specs.declared.ids.TermId.{TermId}
use Rattle.term_program.specs.declared.program.Program.{Program}
use Rattle.term_program.specs.declared.shapes.Form.{Form}
use Rattle.term_program.specs.declared.shapes.Form.TheVariants as shape
use Rattle.prop_operands.specs.Kept.{AreOperands, operand_ids, operand_terms}
use Rattle.prop_operands.specs.declared.operands.Operand.{Operand}
use Rattle.prop_alldiff.specs.Kinds.{AreOthersAlone, Fits, IsAllDifferent}
use Rattle.prop_alldiff.specs.declared.all_diff.AllDiff.{AllDiff}

linear_isnt : ¬ shape.Linear ≡ shape.AllDifferent
linear_isnt is = cc

other_isnt : ¬ shape.Other ≡ shape.AllDifferent
other_isnt is = cc

cumulative_isnt : ¬ shape.Cumulative ≡ shape.AllDifferent
cumulative_isnt is = cc

-- a condition of this shape is `allDifferent` of its terms
different_is : (root : Box) (c : Cond) → shape_in root c ≡ shape.AllDifferent → c ≡ AllDifferent (global_terms c)
different_is root (Compare op a b) is =
    absurd
    (by_bool (λ t. ¬ (if t then shape.Linear else shape.Other) ≡ shape.AllDifferent) (is_linear_pair root a b) (λ met. linear_isnt) (λ unmet. other_isnt) is)
different_is root (Not c) is = absurd (other_isnt is)
different_is root (All conds) is = absurd (other_isnt is)
different_is root (Any conds) is = absurd (other_isnt is)
different_is root (Implies a c) is = absurd (other_isnt is)
different_is root (AllDifferent terms) is = refl
different_is root (Cumulative tasks capacity) is = absurd (cumulative_isnt is)

shape_there : (root : Box) (found : Option Cond) (c : Cond) → found ≡ Some c → IfSome found (λ cond. shape_in root cond ≡ shape.AllDifferent) → shape_in root c ≡ shape.AllDifferent
shape_there root found c is shaped = subst (λ (o : Option Cond). IfSome o (λ cond. shape_in root cond ≡ shape.AllDifferent)) is shaped

pub fits : (p : AllDiff) (program : Program) (id : ℕ) (terms : List TermId) (cells : List ℕ) → IsMade program → IsAllDifferent program p.instance p.scenario
    → option_and_then (λ conditions. slice_get conditions p.scenario) (slice_get (problem_in program).hards p.instance) ≡ Some (cond_at (things_in program) id)
    → terms_at (things_in program) (term_ids terms) ≡ global_terms (cond_at (things_in program) id) → operand_ids p.operands.list.items ≡ term_ids terms → AreOperands program p.operands
    → IsListOf (cond_mentions (root_in program) (cond_at (things_in program) id)) cells → AreOthersAlone program p.operands.list.items cells p.shared.items → Fits p program
fits p program id terms cells made different at listed same operands mentioned others =
    let root = root_in program in
    let c = cond_at (things_in program) id in
    let known : operand_terms program p.operands.list.items ≡ global_terms c = ap (terms_at (things_in program)) same ∙ listed in
    let is : c ≡ AllDifferent (operand_terms program p.operands.list.items) =
    different_is root c (shape_there root (option_and_then (λ conditions. slice_get conditions p.scenario) (slice_get (problem_in program).hards p.instance)) c at different)
    ∙ ap AllDifferent (sym known) in
    record {
      made = made;
      condition = at ∙ ap (λ (x : Cond). Some x) is;
      operands = operands;
      others = record {
        each = λ cell there.
            others.each cell ((mentioned.mentions cell).1 (subst (λ (x : Cond). Contains (cond_mentions root x) cell) (sym is) there));
      };
    }
