-- An array whose dimensions have no names states the same at each index, where nothing is counted for it.
use Rattle.std.proofs.Common.{◌≡◌, refl, sym, ap, subst, ◌∙◌, ℕ, ◌+◌, ℤ, Bool, true, false, cond, ◌||◌, List, [], ◌∷◌, ◌++◌, Option, Some, None, is_some, IfSome, Result, Ok, Err, IfOk, T, is_err, pos, nat_lt, arith}
use Rattle.std.proofs.lemmas.Bool.{or_parts}
use Rattle.std.specs.List.{list_any}
use Rattle.std.specs.Option.{unwrap_or}
use Rattle.sopl_base.specs.declared.fault.Fault.{Fault}
use Rattle.sopl_base.specs.declared.fault.Fault.TheVariants.{Limit}
use Rattle.sopl_base.specs.declared.codes.TheConstants as codes
use Rattle.sopl_ast.specs.Arrays.{Dimension, dimensions_of, dimension_events, taking}
use Rattle.sopl_ast.specs.Constants.{numbers_in}
use Rattle.sopl_ast.specs.Declarations.{domain_events, domain_of, stage_events, stage_of}
use Rattle.sopl_ast.specs.Instances.{Decision}
use Rattle.sopl_ast.specs.Known.{Known}
use Rattle.sopl_ast.specs.Tree.{Tree, Range}
use Rattle.sopl_ast.specs.UnfoldEvents.{UnfoldEvent, Counted, Refused, Passed, excess, first_failure, most_counted}
use Rattle.sopl_ast.specs.Whole.{DimTree}
use Rattle.unfold_tables.specs.Walks.{Walks}
use Rattle.unfold_constants.specs.CountedAnswers.{Answers}
use Rattle.unfold_constants.specs.Evaluation.{Step, ◌>>=◌, continued, done}
use Rattle.unfold_constants.proofs.Growing.{step_grows}
use Rattle.unfold_constants.proofs.Outcomes.{walks_so, worth_so}
use Rattle.unfold_constants.proofs.Steps.{At}
use Rattle.unfold_declarations.specs.Declaring.{behind, count_one}
use Rattle.unfold_declarations.specs.Places.{each_number}
use Rattle.unfold_declarations.proofs.DeclaringAgreement.{agree_reached}
use Rattle.unfold_variables.specs.Equal.{AreEqual, parts_in}
use Rattle.unfold_variables.specs.Listing as s
use Rattle.unfold_variables.specs.declared.equal_decisions.DecisionParts.{DecisionParts}
use Rattle.unfold_variables.proofs.ElementAgreement.{agree_decision, agree_parts}

-- where nothing is counted and nothing fails, the same holds of any count
quiet : (events : List UnfoldEvent) (count : ℕ) → first_failure count events ≡ Ok count → (other : ℕ) → first_failure other events ≡ Ok other
quiet [] count is other = refl
quiet (Counted ∷ later) count is other = on (nat_lt count most_counted) is
  where
    on : (b : Bool) → cond b (first_failure (count + 1) later) (Err (Limit (excess codes.UNFOLDING (pos (most_counted + 1)) (pos most_counted)))) ≡ Ok count
        → first_failure other (Counted ∷ later) ≡ Ok other
    on true so = absurd (omega (arith, step_grows (agree_reached {A = Unit {0}} later tt) (count + 1) tt count (ap (λ (m : Result ℕ Fault). behind {A = Unit {0}} tt m) so)))
    on false so = absurd (subst (λ r. T (is_err r)) so tt)
quiet (Refused refusal ∷ later) count is other = absurd (subst (λ r. T (is_err r)) is tt)
quiet (Passed passed ∷ later) count is other = absurd (subst (λ r. T (is_err r)) is tt)

-- the decision at any index is this one
module _ (known : Known) (name : List ℕ) (range : Range) (e : Option Tree) (index : List ℤ) where
  abbrev stated : (ℤ × ℤ) × ℕ → Decision
  stated parts = record { name = name; index = index; lo = parts.0.0; hi = parts.0.1; stage = parts.1 }

  decision_is : (parts : (ℤ × ℤ) × ℕ) → first_failure 0 (domain_events known range ++ stage_events known e) ≡ Ok 0
      → ◌≡◌ {A = Option ((ℤ × ℤ) × ℕ)} (Some (domain_of known range, stage_of known e)) (Some parts)
      → (count : ℕ) → s.decision known name range e index count ≡ Ok (stated parts, count)
  decision_is parts none is count =
      let own : (ℤ × ℤ) × ℕ = (domain_of known range, stage_of known e) in
      let at : At (Ok count) (s.decision known name range e index count) (Some (stated own)) =
      subst (λ m. At m (s.decision known name range e index count) (Some (stated own))) (quiet (domain_events known range ++ stage_events known e) 0 none count)
      ((agree_decision name range e known index).at count) in
      at.2
      ∙ ap (λ (o : Option Decision). Ok (unwrap_or o (stated own), count)) (sym (at.1))
      ∙ ap (λ (o : Option ((ℤ × ℤ) × ℕ)). Ok (stated (unwrap_or o parts), count)) is

pub equal_so : (known : Known) (name : List ℕ) (dims : List DimTree) (range : Range) (e : Option Tree) (met : Result DecisionParts Fault) (after : ℕ) (parts : DecisionParts)
    → Answers parts_in after met (s.decision_parts known range e 0) → after ≡ 0 → list_any (λ (d : DimTree). is_some d.binder) dims ≡ false → met ≡ Ok parts
    → AreEqual known name dims range e parts
equal_so known name dims range e met after parts answers none unnamed is =
    let walk : Walks 0 after (domain_events known range ++ stage_events known e) met = walks_so parts_in 0 after met (agree_parts known range e) answers in
    let worth = worth_so parts_in 0 after met (agree_parts known range e) answers in
    let failure : first_failure 0 (domain_events known range ++ stage_events known e) ≡ Ok after =
    subst (λ r. Walks 0 after (domain_events known range ++ stage_events known e) r) is walk in
    let value = subst (λ r. IfOk r (λ x. ◌≡◌ {A = Option ((ℤ × ℤ) × ℕ)} (Some (domain_of known range, stage_of known e)) (Some (parts_in x)))) is worth in
    record { unnamed = unnamed; same = λ index count. decision_is known name range e index (parts_in parts) (failure ∙ ap Ok none) value count }

pub found_so : (known : Known) (name : List ℕ) (dims : List DimTree) (range : Range) (e : Option Tree) (met : Result DecisionParts Fault) (after : ℕ) (found : Option DecisionParts)
    → Answers parts_in after met (s.decision_parts known range e 0) → after ≡ 0 → list_any (λ (d : DimTree). is_some d.binder) dims ≡ false
    → IfSome found (λ parts. met ≡ Ok parts) → IfSome found (λ parts. AreEqual known name dims range e parts)
found_so known name dims range e met after None answers none unnamed is = tt
found_so known name dims range e met after (Some parts) answers none unnamed is = equal_so known name dims range e met after parts answers none unnamed is

-- no name goes over a dimension
abbrev Unnamed : List Dimension → Type 0
Unnamed [] = Unit {0}
Unnamed (d ∷ ds) = (d.name ≡ None) × Unnamed ds

none_is : (o : Option (List ℕ)) → is_some o ≡ false → o ≡ None
none_is None h = refl
none_is (Some name) h = absurd (subst T h tt)

unnamed_from : (known : Known) (dims : List DimTree) → list_any (λ (d : DimTree). is_some d.binder) dims ≡ false → Unnamed (dimensions_of known dims)
unnamed_from known [] h = tt
unnamed_from known (d ∷ ds) h =
    let parts = or_parts (is_some d.binder) (list_any (λ (d : DimTree). is_some d.binder) ds) h in
    (none_is d.binder parts.0, unnamed_from known ds parts.1)

module _ {A : Type 0} (known : Known) (element : Known → List ℤ → Step A) (made : List ℤ → A)
    (same : (index : List ℤ) (count : ℕ) → element known index count ≡ Ok (made index, count)) where
  abbrev once : Known → List ℤ → Step A
  once here index = done (made index)

  listed_once : (ds : List Dimension) → Unnamed ds → (index : List ℤ) (found : List A) → s.listed element known ds index found ≡ s.listed once known ds index found
  listed_once [] unnamed index found = λ i. count_one >>= (λ u. (λ count. same index count i) >>= (λ x. done (found ++ x ∷ [])))
  listed_once (d ∷ ds) unnamed index found = λ i. each_number (λ n more. one (listed_once ds unnamed.1) n more i) d.numbers found
    where
      one : ((later : List ℤ) (more : List A) → s.listed element known ds later more ≡ s.listed once known ds later more) → (n : ℤ) (more : List A)
          → s.listed element (taking d.name n known) ds (index ++ n ∷ []) more ≡ s.listed once (taking d.name n known) ds (index ++ n ∷ []) more
      one behind_all n more =
          ap (λ name. s.listed element (taking name n known) ds (index ++ n ∷ []) more) unnamed.0
          ∙ behind_all (index ++ n ∷ []) more
          ∙ sym (ap (λ name. s.listed once (taking name n known) ds (index ++ n ∷ []) more) unnamed.0)

  array_once : (dims : List DimTree) → list_any (λ (d : DimTree). is_some d.binder) dims ≡ false → (count : ℕ) → s.array element known dims count ≡ s.array once known dims count
  array_once dims unnamed count = on (first_failure count (dimension_events known dims))
    where
      on : (m : Result ℕ Fault)
          → continued (behind (dimensions_of known dims) m) (λ ds. s.listed element known ds [] []) ≡ continued (behind (dimensions_of known dims) m) (λ ds. s.listed once known ds [] [])
      on (Ok n) = ap (λ (step : Step (List A)). step n) (listed_once (dimensions_of known dims) (unnamed_from known dims unnamed) [] [])
      on (Err f) = refl

-- the decisions of an array, evaluated once
pub decisions_once : (known : Known) (name : List ℕ) (dims : List DimTree) (range : Range) (e : Option Tree) (parts : DecisionParts) → AreEqual known name dims range e parts
    → (count : ℕ) → s.array (λ here index. s.decision here name range e index) known dims count
    ≡ s.array (λ here index. done {A = Decision} (record { name = name; index = index; lo = parts.domain.lo; hi = parts.domain.hi; stage = parts.stage })) known dims count
decisions_once known name dims range e parts equal count =
    array_once known (λ here index. s.decision here name range e index)
    (λ index. record { name = name; index = index; lo = parts.domain.lo; hi = parts.domain.hi; stage = parts.stage }) equal.same dims equal.unnamed count
