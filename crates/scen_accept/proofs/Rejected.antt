-- A text is accepted, or refused, or passes a limit, and no two of these.
use Rattle.std.proofs.Common.{◌≡◌, ◌<◌, ◌∙◌, arith, ℕ, List, [], ◌∷◌, ◌++◌, length, Option, Some, None, Result, Ok, Err, IsOk, sym, ap, subst}
use Rattle.std.proofs.lemmas.List.{append-nil}
use Rattle.std.specs.List.{Contains}
use Rattle.sopl_base.specs.declared.fault.Excess.{Excess}
use Rattle.sopl_base.specs.declared.fault.Fault.{Fault}
use Rattle.sopl_base.specs.declared.fault.Fault.TheVariants.{Text, Limit}
use Rattle.sopl_base.specs.declared.fault.Refusal.{Refusal}
use Rattle.sopl_ast.specs.declared.token.Token.{Token}
use Rattle.sopl_ast.specs.Accepted.{AcceptedText, IsTextOf, IsRefusedFor, no_tokens, misspelled, mistaken, stopped, IsLimitedFor, unfolding_passes, sizes_pass}
use Rattle.sopl_ast.specs.Tokens.{Lexes}
use Rattle.sopl_ast.specs.Whole.{ModelTree}
use Rattle.sopl_ast.specs.Grammar.{Spells, SpellsWithin}
use Rattle.sopl_ast.specs.Limits.{size_excess, usual_limits}
use Rattle.sopl_ast.specs.Misspelled.{IsMisspelled, misplaced, too_deep, NoneGoesOn}
use Rattle.sopl_ast.specs.Mistakes.{of_model, IsWellTyped, IsFirstMistake, IsNoLater, earlier, same_place}
use Rattle.sopl_ast.specs.Instances.{Problem}
use Rattle.sopl_ast.specs.UnfoldEvents.{first_failure}
use Rattle.sopl_ast.specs.Unfolding.{problem_of, text_events}
use Rattle.sopl_lex.proofs.Meet.{lexes_one, same_refusal}
use Rattle.grammar_rows.proofs.ModelReading.{spells_one}
use Rattle.parse_laws.specs.RefusalLaws as unread
use Rattle.parse_laws.proofs.RefusalOnce.{one_refusal}
use Rattle.scen_accept.specs.Laws.{TextsEndOnce}

abbrev lexed : List Token → Result (List Token) Refusal
lexed tokens = Ok tokens

abbrev unlexed : Refusal → Result (List Token) Refusal
unlexed refusal = Err refusal

same_tokens : (a b : List Token) → lexed a ≡ lexed b → a ≡ b
same_tokens a b e = cc

no_refusal : (r : Refusal) (b : List Token) → unlexed r ≡ lexed b → ⊥
no_refusal r b e = cc

-- a model that is spelled within a nesting is spelled
spells : (tokens : List Token) (model : ModelTree) → SpellsWithin tokens model → Spells tokens model
spells tokens model is = record { nesting = 64; spelled = is }

-- where no model goes on, none is spelled
none_spelled : (before behind : List Token) (model : ModelTree) → NoneGoesOn before behind → Spells (before ++ behind) model → ⊥
none_spelled before [] model none is = none model (subst (λ l. Spells l model) (append-nil before) is)
none_spelled before (u ∷ us) model none is = none us model is

-- tokens that are misspelled spell no model
not_spelled : (size : ℕ) (tokens : List Token) (refusal : Refusal) (model : ModelTree) → IsMisspelled size tokens refusal → SpellsWithin tokens model → ⊥
not_spelled size tokens refusal model (misplaced code at) is =
    none_spelled at.before at.behind model at.stuck (subst (λ l. Spells l model) at.split (spells tokens model is))
not_spelled size tokens refusal model (too_deep code at) is =
    at.none at.behind model (subst (λ l. SpellsWithin l model) at.split is)

none_below : (i : ℕ) → i < 0 → ⊥
none_below i h = absurd (omega (arith, h))

-- no mistake is among none
none_among : (mistakes : List Refusal) (refusal : Refusal) → mistakes ≡ [] → Contains mistakes refusal → ⊥
none_among mistakes refusal none among = no_member refusal (subst (λ l. Contains l refusal) none among)
  where
    no_member : (r : Refusal) → Contains [] r → ⊥
    no_member r h = none_below h.0 h.1

-- a text spells one model
pub one_model : (text : List ℕ) (a b : ModelTree) → IsTextOf text a → IsTextOf text b → a ≡ b
one_model text a b is other =
    spells_one is.tokens a b (spells is.tokens a is.spelled)
    (spells is.tokens b
    (subst (λ l. SpellsWithin l b) (same_tokens other.tokens is.tokens (lexes_one text (Ok other.tokens) (Ok is.tokens) other.read is.read)) other.spelled))

-- a text that spells a model has tokens, and they spell one
tokens_there : (text : List ℕ) (refusal : Refusal) (model : ModelTree) → Lexes text (Err refusal) → IsTextOf text model → ⊥
tokens_there text refusal model read is = no_refusal refusal is.tokens (lexes_one text (Err refusal) (Ok is.tokens) read is.read)

spelling_there : (text : List ℕ) (tokens : List Token) (refusal : Refusal) (model : ModelTree) → Lexes text (Ok tokens) → IsMisspelled (length text) tokens refusal
    → IsTextOf text model → ⊥
spelling_there text tokens refusal model read wrong is =
    not_spelled (length text) tokens refusal model wrong
    (subst (λ l. SpellsWithin l model) (same_tokens is.tokens tokens (lexes_one text (Ok is.tokens) (Ok tokens) is.read read)) is.spelled)

typing_there : (text : List ℕ) (refusal : Refusal) (wrong model : ModelTree) → IsTextOf text wrong → Contains (of_model wrong) refusal → IsTextOf text model → IsWellTyped model → ⊥
typing_there text refusal wrong model is among other typed =
    none_among (of_model wrong) refusal (subst (λ m. of_model m ≡ []) (one_model text model wrong other is) typed) among

abbrev stopping : Fault → Result ℕ Fault
stopping f = Err f

no_ok : (f : Fault) → IsOk (stopping f) → ⊥
no_ok f h = cc

not_ok : (m : Result ℕ Fault) (f : Fault) → m ≡ Err f → IsOk m → ⊥
not_ok m f e ok = no_ok f (subst (λ (r : Result ℕ Fault). IsOk r) e ok)

-- nothing stops the unfolding of an accepted text
stopped_not : (text : List ℕ) (f : Fault) (a b : ModelTree) → IsTextOf text a → first_failure 0 (text_events a) ≡ Err f → IsTextOf text b → IsOk (first_failure 0 (text_events b)) → ⊥
stopped_not text f a b is stops other passes =
    not_ok (first_failure 0 (text_events a)) f stops (subst (λ m. IsOk (first_failure 0 (text_events m))) (one_model text b a other is) passes)

accepted_not_refused : (text : List ℕ) (p : Problem) (refusal : Refusal) → AcceptedText usual_limits text p → IsRefusedFor text refusal → ⊥
accepted_not_refused text p refusal a (no_tokens read) = tokens_there text refusal a.model read a.spelled
accepted_not_refused text p refusal a (misspelled tokens read wrong) = spelling_there text tokens refusal a.model read wrong a.spelled
accepted_not_refused text p refusal a (mistaken model is first) = typing_there text refusal model a.model is first.among a.spelled a.accepted.typed
accepted_not_refused text p refusal a (stopped model is typed stops) = stopped_not text (Text refusal) model a.model is stops a.spelled a.accepted.unfolded

no_excess : (o : Option Excess) (e : Excess) → o ≡ None → o ≡ Some e → ⊥
no_excess o e none some = cc

accepted_not_limited : (text : List ℕ) (p : Problem) (excess : Excess) → AcceptedText usual_limits text p → IsLimitedFor usual_limits text excess → ⊥
accepted_not_limited text p excess a (unfolding_passes model is typed stops) = stopped_not text (Limit excess) model a.model is stops a.spelled a.accepted.unfolded
accepted_not_limited text p excess a (sizes_pass model is typed passes over) =
    no_excess (size_excess usual_limits (problem_of model)) excess
    (ap (λ q. size_excess usual_limits q) (ap problem_of (one_model text model a.model is a.spelled) ∙ a.accepted.stated) ∙ a.accepted.allowed) over

-- the model of a text that passes a limit
record IsLimitedModel (text : List ℕ) (excess : Excess) : Type 0 where
  model : ModelTree
  spelled : IsTextOf text model
  typed : IsWellTyped model
  not_stopped : (refusal : Refusal) → first_failure 0 (text_events model) ≡ Err (Text refusal) → ⊥

two_faults : (m : Result ℕ Fault) (r : Refusal) (e : Excess) → m ≡ Err (Text r) → m ≡ Err (Limit e) → ⊥
two_faults m r e one two = cc

limited_model : (text : List ℕ) (excess : Excess) → IsLimitedFor usual_limits text excess → IsLimitedModel text excess
limited_model text excess (unfolding_passes model is typed stops) =
    record { model = model; spelled = is; typed = typed; not_stopped = λ r refuses. two_faults (first_failure 0 (text_events model)) r excess refuses stops }
limited_model text excess (sizes_pass model is typed passes over) =
    record { model = model; spelled = is; typed = typed; not_stopped = λ r refuses. not_ok (first_failure 0 (text_events model)) (Text r) refuses passes }

refused_not_limited : (text : List ℕ) (refusal : Refusal) (excess : Excess) → IsRefusedFor text refusal → IsLimitedFor usual_limits text excess → ⊥
refused_not_limited text refusal excess reason limited = by_reason reason (limited_model text excess limited)
  where
    by_reason : IsRefusedFor text refusal → IsLimitedModel text excess → ⊥
    by_reason (no_tokens read) l = tokens_there text refusal l.model read l.spelled
    by_reason (misspelled tokens read wrong) l = spelling_there text tokens refusal l.model read wrong l.spelled
    by_reason (mistaken model is first) l = typing_there text refusal model l.model is first.among l.spelled l.typed
    by_reason (stopped model is typed stops) l =
        l.not_stopped refusal (ap (λ m. first_failure 0 (text_events m)) (one_model text l.model model l.spelled is) ∙ stops)

-- of two refusals that are no later than each other both are one
not_later : (a b : Refusal) → IsNoLater a b → IsNoLater b a → a ≡ b
not_later a b (earlier one) (earlier two) = absurd (omega (arith, one, two))
not_later a b (earlier one) (same_place two less) = absurd (omega (arith, one, two))
not_later a b (same_place one less) (earlier two) = absurd (omega (arith, one, two))
not_later a b (same_place one less) (same_place two more) = same_refusal a b (omega (arith, less, more)) one

-- the first mistake is one
one_first : (model : ModelTree) (a b : Refusal) → IsFirstMistake model a → IsFirstMistake model b → a ≡ b
one_first model a b one two = not_later a b (one.first b two.among) (two.first a one.among)

text_faults : (m : Result ℕ Fault) (a b : Refusal) → m ≡ Err (Text a) → m ≡ Err (Text b) → a ≡ b
text_faults m a b one two = cc

refused_once : (text : List ℕ) (a b : Refusal) → IsRefusedFor text a → IsRefusedFor text b → a ≡ b
refused_once text a b (no_tokens one) (no_tokens two) = one_refusal text a b (unread.no_tokens one) (unread.no_tokens two)
refused_once text a b (no_tokens one) (misspelled tokens two wrong) = one_refusal text a b (unread.no_tokens one) (unread.misspelled tokens two wrong)
refused_once text a b (misspelled tokens one wrong) (no_tokens two) = one_refusal text a b (unread.misspelled tokens one wrong) (unread.no_tokens two)
refused_once text a b (misspelled tokens one wrong) (misspelled others two error) =
    one_refusal text a b (unread.misspelled tokens one wrong) (unread.misspelled others two error)
refused_once text a b (no_tokens one) (mistaken model is first) = absurd (tokens_there text a model one is)
refused_once text a b (no_tokens one) (stopped model is typed stops) = absurd (tokens_there text a model one is)
refused_once text a b (mistaken model is first) (no_tokens two) = absurd (tokens_there text b model two is)
refused_once text a b (stopped model is typed stops) (no_tokens two) = absurd (tokens_there text b model two is)
refused_once text a b (misspelled tokens one wrong) (mistaken model is first) = absurd (spelling_there text tokens a model one wrong is)
refused_once text a b (misspelled tokens one wrong) (stopped model is typed stops) = absurd (spelling_there text tokens a model one wrong is)
refused_once text a b (mistaken model is first) (misspelled tokens two wrong) = absurd (spelling_there text tokens b model two wrong is)
refused_once text a b (stopped model is typed stops) (misspelled tokens two wrong) = absurd (spelling_there text tokens b model two wrong is)
refused_once text a b (mistaken model is first) (mistaken other there second) =
    one_first model a b first (subst (λ m. IsFirstMistake m b) (sym (one_model text model other is there)) second)
refused_once text a b (mistaken model is first) (stopped other there typed stops) = absurd (typing_there text a model other is first.among there typed)
refused_once text a b (stopped model is typed stops) (mistaken other there second) = absurd (typing_there text b other model there second.among is typed)
refused_once text a b (stopped model is typed stops) (stopped other there right ends) =
    text_faults (first_failure 0 (text_events model)) a b stops (ap (λ m. first_failure 0 (text_events m)) (one_model text model other is there) ∙ ends)

pub texts_end_once : TextsEndOnce
texts_end_once =
    record {
      one_problem = λ text p q a b. sym a.accepted.stated ∙ (ap problem_of (one_model text a.model b.model a.spelled b.spelled) ∙ b.accepted.stated);
      one_refusal = refused_once;
      not_refused = accepted_not_refused;
      not_limited = accepted_not_limited;
      refused_alone = refused_not_limited;
    }
