-- An accepted text is solved, or passes a limit on its terms.
use Rattle.std.proofs.Common.{◌≡◌, ◌⊎◌, inl, inr, ◌∙◌, refl, sym, ap, ℕ, List, Option, Some, None, unwrap_or}
use Rattle.sopl_base.specs.declared.fault.Excess.{Excess}
use Rattle.sopl_ast.specs.Accepted.{AcceptedModel, AcceptedText, IsTextOf}
use Rattle.sopl_ast.specs.Instances.{Problem}
use Rattle.sopl_ast.specs.Limits.{size_excess, usual_limits}
use Rattle.sopl_ast.specs.Unfolding.{problem_of}
use Rattle.sopl_ast.specs.Whole.{ModelTree}
use Rattle.scen_accept.proofs.Rejected.{one_model}
use Rattle.compile_laws.specs.Texts.{program_excess}
use Rattle.answer_texts.specs.Laws.{AcceptedEndOnce}
use Rattle.answer_texts.specs.Solved.{SolvedText, IsLimitedInTerms}

not_there : {A : Type 0} (o : Option A) (x : A) → o ≡ None → o ≡ Some x → ⊥
not_there o x none some = cc

one_of : {A : Type 0} (o : Option A) (x y : A) → o ≡ Some x → o ≡ Some y → x ≡ y
one_of o x y first second = ap (λ found. unwrap_or found x) (sym first ∙ second)

-- what is found of a text is found of it once
same_excess : (text : List ℕ) (a b : ModelTree) → IsTextOf text a → IsTextOf text b → program_excess (problem_of b) ≡ program_excess (problem_of a)
same_excess text a b is other = ap (λ m. program_excess (problem_of m)) (one_model text b a other is)

not_limited : (text : List ℕ) (p : Problem) (excess : Excess) → SolvedText text p → IsLimitedInTerms text excess → ⊥
not_limited text p excess a b =
    not_there (program_excess (problem_of a.model)) excess a.solvable.allowed (same_excess text b.model a.model b.spelled a.spelled ∙ b.large.passes)

-- an accepted model states the problem that is of it
own_problem : (model : ModelTree) (p : Problem) → AcceptedModel usual_limits model p → AcceptedModel usual_limits model (problem_of model)
own_problem model p a =
    record { typed = a.typed; unfolded = a.unfolded; stated = refl; allowed = ap (size_excess usual_limits) a.stated ∙ a.allowed }

each_ends : (text : List ℕ) (p : Problem) → AcceptedText usual_limits text p → SolvedText text p ⊎ ((excess : Excess) × IsLimitedInTerms text excess)
each_ends text p a = by_excess (program_excess p) refl
  where
    by_excess : (o : Option Excess) → program_excess p ≡ o → SolvedText text p ⊎ ((excess : Excess) × IsLimitedInTerms text excess)
    by_excess None within =
        inl (record {
          model = a.model;
          spelled = a.spelled;
          accepted = a.accepted;
          solvable = record { allowed = ap program_excess a.accepted.stated ∙ within };
        })
    by_excess (Some e) passes =
        inr (
          e,
          record {
            model = a.model;
            spelled = a.spelled;
            accepted = own_problem a.model p a.accepted;
            large = record { passes = ap program_excess a.accepted.stated ∙ passes };
          },
        )

pub accepted_end_once : AcceptedEndOnce
accepted_end_once =
    record {
      one_problem = λ text p q a b. sym a.accepted.stated ∙ (ap problem_of (one_model text a.model b.model a.spelled b.spelled) ∙ b.accepted.stated);
      one_limit = λ text e f a b. one_of (program_excess (problem_of a.model)) e f a.large.passes (same_excess text b.model a.model b.spelled a.spelled ∙ b.large.passes);
      not_limited = not_limited;
      solved_accepted = λ text p a. record { model = a.model; spelled = a.spelled; accepted = a.accepted };
      limited_accepted = λ text excess a. (problem_of a.model, record { model = a.model; spelled = a.spelled; accepted = a.accepted });
      each_ends = each_ends;
    }
