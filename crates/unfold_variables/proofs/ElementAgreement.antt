-- Evaluating domains, stages and outcomes step by step agrees with what is met in them and with what they state.
use Rattle.std.proofs.Common.{◌≡◌, refl, ap, subst, ◌∙◌, ℕ, ℤ, pos, int_le, Bool, not, ◌&&◌, List, [], ◌∷◌, ◌++◌, map, Option, Some, None}
use Rattle.std.proofs.lemmas.List.{append_assoc, append-nil}
use Rattle.std.specs.BTreeSet.{insert_key}
use Rattle.std.specs.List.{list_any}
use Rattle.std.specs.Option.{unwrap_or}
use Rattle.std.specs.Ordering.{int_cmp, int_eq}
use Rattle.sopl_base.specs.declared.codes.TheConstants as codes
use Rattle.sopl_base.specs.declared.limits.TheConstants as largest
use Rattle.sopl_ast.specs.Tree.{Tree, Range, Named, Ends, place_of}
use Rattle.sopl_ast.specs.Instances.{Outcome, independent}
use Rattle.sopl_ast.specs.Known.{Known}
use Rattle.sopl_ast.specs.Numbers.{natural, count_between}
use Rattle.sopl_ast.specs.Constants.{value_or_zero}
use Rattle.sopl_ast.specs.UnfoldEvents.{UnfoldEvent, refused_unless, too_many, constant_place}
use Rattle.sopl_ast.specs.Declarations.{stage_of, stage_events, domain_of, domain_events, outcome_of, outcome_events}
use Rattle.unfold_constants.specs.Evaluation.{Step, ◌>>=◌, done}
use Rattle.unfold_constants.proofs.Steps.{Agrees, agree_value, agree_events, agree_done, agree_bind, agree_then}
use Rattle.unfold_constants.proofs.TraversalAgreement.{meets_unless}
use Rattle.unfold_declarations.proofs.DeclaringAgreement.{agree_reached}
use Rattle.unfold_variables.specs.Listing as s
use Rattle.unfold_variables.proofs.Repeated.{Same, same_more}

-- a step behind one whose answer is known
pub agree_next : {A B : Type 0} {step : Step A} {ms ns : List UnfoldEvent} {w : Option B} (next : A → Step B) (x : A)
    → Agrees step ms (Some x) → Agrees (next x) ns w → Agrees (step >>= next) (ms ++ ns) w
agree_next {A} {B} {step} {ms} {ns} {w} next x a b = agree_bind a (λ y is. subst (λ v. Agrees (next (unwrap_or v x)) ns w) is b)

-- what is made of that answer
pub agree_last : {A B : Type 0} {step : Step A} {ms : List UnfoldEvent} {x : A} (g : A → B)
    → Agrees step ms (Some x) → Agrees (step >>= (λ y. done (g y))) ms (Some (g x))
agree_last {A} {B} {step} {ms} {x} g a = agree_then g a (λ y is. ap (λ v. Some (g (unwrap_or v x))) is)

-- whether a number is a stage
abbrev is_stage : ℤ → Bool
is_stage x = int_le (pos 1) x && int_le x (pos largest.STAGE)

-- a stage
agree_stage : (known : Known) (e : Option Tree) → Agrees (s.stage known e) (stage_events known e) (Some (stage_of known e))
agree_stage known None = agree_done 1 _ refl
agree_stage known (Some e) =
    agree_next _ (value_or_zero known e) (agree_reached (constant_place known e) (value_or_zero known e))
    (agree_last (λ u. natural (value_or_zero known e)) (meets_unless (is_stage (value_or_zero known e)) codes.STAGE (place_of e)))

-- the values of two ends
agree_between : (known : Known) (lo hi : Tree)
    → Agrees (s.between known lo hi) (constant_place known lo ++ constant_place known hi) (Some (value_or_zero known lo, value_or_zero known hi))
agree_between known lo hi =
    agree_next _ (value_or_zero known lo) (agree_reached (constant_place known lo) (value_or_zero known lo))
    (agree_last (λ b. (value_or_zero known lo, b)) (agree_reached (constant_place known hi) (value_or_zero known hi)))

-- a domain that is not empty and not too large
agree_checked : (at : ℕ) (a b : ℤ) → Agrees (s.checked_domain at (a, b)) (refused_unless (int_le a b) codes.EMPTY_DOMAIN at ++ too_many codes.DOMAIN (count_between a b)) (Some (a, b))
agree_checked at a b =
    agree_next _ tt (meets_unless (int_le a b) codes.EMPTY_DOMAIN at) (agree_last (λ u. (a, b)) (agree_reached (too_many codes.DOMAIN (count_between a b)) tt))

-- a domain
agree_domain : (known : Known) (range : Range) → Agrees (s.domain known range) (domain_events known range) (Some (domain_of known range))
agree_domain known (Named name at) =
    agree_last (λ u. domain_of known (Named name at)) (meets_unless (int_le (domain_of known (Named name at)).0 (domain_of known (Named name at)).1) codes.EMPTY_DOMAIN at)
agree_domain known (Ends lo hi) =
    agree_events (append_assoc (constant_place known lo) (constant_place known hi)
    (refused_unless (int_le (value_or_zero known lo) (value_or_zero known hi)) codes.EMPTY_DOMAIN (place_of lo)
    ++ too_many codes.DOMAIN (count_between (value_or_zero known lo) (value_or_zero known hi))))
    (agree_next _ (value_or_zero known lo, value_or_zero known hi) (agree_between known lo hi) (agree_checked (place_of lo) (value_or_zero known lo) (value_or_zero known hi)))

-- a value that is none of those before it
agree_new : (known : Known) (keys earlier : List ℤ) → Same keys earlier → (e : Tree)
    → Agrees (s.new_value known keys e)
    (constant_place known e ++ refused_unless (not (list_any (int_eq (value_or_zero known e)) earlier)) codes.OUTCOME (place_of e)) (Some (value_or_zero known e))
agree_new known keys earlier same e =
    agree_next _ (value_or_zero known e) (agree_reached (constant_place known e) (value_or_zero known e))
    (agree_events (ap (λ t. refused_unless (not t) codes.OUTCOME (place_of e)) (same (value_or_zero known e)))
    (agree_last (λ u. value_or_zero known e) (meets_unless (not (list_any (int_eq (value_or_zero known e)) keys)) codes.OUTCOME (place_of e))))

-- a weight
agree_weight : (known : Known) (e : Tree)
    → Agrees (s.weight known e) (constant_place known e ++ refused_unless (int_le (pos 1) (value_or_zero known e)) codes.OUTCOME (place_of e)) (Some (value_or_zero known e))
agree_weight known e =
    agree_next _ (value_or_zero known e) (agree_reached (constant_place known e) (value_or_zero known e))
    (agree_last (λ u. value_or_zero known e) (meets_unless (int_le (pos 1) (value_or_zero known e)) codes.OUTCOME (place_of e)))

four : (a b c d e : List UnfoldEvent) → ((a ++ b) ++ (c ++ d)) ++ e ≡ a ++ (b ++ (c ++ (d ++ e)))
four a b c d e =
    append_assoc (a ++ b) (c ++ d) e
    ∙ append_assoc a b ((c ++ d) ++ e)
    ∙ ap (λ rest. a ++ (b ++ rest)) (append_assoc c d e)

-- outcomes
agree_outcomes : (dist : List (Tree × Tree)) (known : Known) (keys earlier : List ℤ) → Same keys earlier → (found : List Outcome)
    → Agrees (s.outcomes known keys found dist) (outcome_events known earlier dist) (Some (found ++ map (outcome_of known) dist))
agree_outcomes [] known keys earlier same found = agree_done found (Some (found ++ [])) (ap Some (append-nil found))
agree_outcomes (pair ∷ later) known keys earlier same found =
    agree_events (four (constant_place known pair.0) (refused_unless (not (list_any (int_eq (value_or_zero known pair.0)) earlier)) codes.OUTCOME (place_of pair.0))
    (constant_place known pair.1) (refused_unless (int_le (pos 1) (value_or_zero known pair.1)) codes.OUTCOME (place_of pair.1))
    (outcome_events known (earlier ++ value_or_zero known pair.0 ∷ []) later))
    (agree_next _ (outcome_of known pair)
    (agree_next _ (value_or_zero known pair.0) (agree_new known keys earlier same pair.0)
    (agree_last (λ w. record { value = value_or_zero known pair.0; weight = w }) (agree_weight known pair.1)))
    (agree_value (ap Some (append_assoc found (outcome_of known pair ∷ []) (map (outcome_of known) later)))
    (agree_outcomes later known (insert_key int_cmp keys (value_or_zero known pair.0)) (earlier ++ value_or_zero known pair.0 ∷ [])
    (same_more keys earlier (value_or_zero known pair.0) same) (found ++ outcome_of known pair ∷ []))))

-- a domain and a stage
pub agree_parts : (known : Known) (range : Range) (e : Option Tree)
    → Agrees (s.decision_parts known range e) (domain_events known range ++ stage_events known e) (Some (domain_of known range, stage_of known e))
agree_parts known range e =
    agree_next _ (domain_of known range) (agree_domain known range) (agree_last (λ k. (domain_of known range, k)) (agree_stage known e))

-- the decision at an index
pub agree_decision : (name : List ℕ) (range : Range) (e : Option Tree) (known : Known) (index : List ℤ)
    → Agrees (s.decision known name range e index) (domain_events known range ++ stage_events known e)
    (Some (record { name = name; index = index; lo = (domain_of known range).0; hi = (domain_of known range).1; stage = stage_of known e }))
agree_decision name range e known index =
    agree_next _ (domain_of known range) (agree_domain known range)
    (agree_last (λ k. record { name = name; index = index; lo = (domain_of known range).0; hi = (domain_of known range).1; stage = k }) (agree_stage known e))

-- the stochastic variable at an index
pub agree_stochastic : (name : List ℕ) (dist : List (Tree × Tree)) (e : Option Tree) (known : Known) (index : List ℤ)
    → Agrees (s.stochastic known name dist e index) (outcome_events known [] dist ++ stage_events known e)
    (Some (independent name index (map (outcome_of known) dist) (stage_of known e)))
agree_stochastic name dist e known index =
    agree_next _ (map (outcome_of known) dist) (agree_outcomes dist known [] [] (λ q. refl) [])
    (agree_last (λ k. independent name index (map (outcome_of known) dist) k) (agree_stage known e))
