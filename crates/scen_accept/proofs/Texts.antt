-- What is read of a text.
use Rattle.std.proofs.Common.{◌≡◌, ◌∙◌, ◌⊎◌, inl, inr, ℕ, List, length, Some, None, Result, Ok, Err, IfOk, IfErr, refl, sym, ap, subst, Vec}
use Rattle.std.specs.declared.alloc.Global.{Global}
use Rattle.sopl_base.specs.declared.fault.Excess.{Excess}
use Rattle.sopl_base.specs.declared.fault.Fault.{Fault}
use Rattle.sopl_base.specs.declared.fault.Fault.TheVariants as fault
use Rattle.sopl_ast.specs.declared.token.Token.{Token}
use Rattle.sopl_ast.specs.declared.whole.Model.{Model}
use Rattle.sopl_ast.specs.Accepted.{IsTextOf, no_tokens, misspelled, mistaken, stopped, unfolding_passes, sizes_pass}
use Rattle.sopl_ast.specs.Limits.{size_excess, usual_limits}
use Rattle.sopl_ast.specs.UnfoldEvents.{first_failure}
use Rattle.sopl_ast.specs.Tokens.{Lexes}
use Rattle.sopl_ast.specs.Unfolding.{problem_of, text_events}
use Rattle.sopl_ast.specs.Whole.{ModelTree}
use Rattle.sopl_ast.specs.WholeModel.{whole}
use Rattle.sopl_ast.specs.Grammar.{SpellsWithin}
use Rattle.sopl_ast.specs.Mistakes.{IsWellTyped}
use Rattle.sopl_lex.specs.TextAnswers.{Answers}
use Rattle.sopl_parse.specs.Faults.{IsSpellingFault}
use Rattle.sopl_types.specs.Outcome.{IsFirstFault}
use Rattle.sopl_types.specs.declared.check.Typed.{Typed}
use Rattle.sopl_unfold.specs.declared.ground.Ground.{Ground}
use Rattle.sopl_scen.specs.Layout.{IsTreeOf, Layout as Tree}
use Rattle.scen_accept.specs.Faults.{IsTextFault}
use Rattle.scen_accept.specs.Shown.{tokens_shown}
use Rattle.scen_accept.specs.Stated.{IsLaid, States}
use Rattle.scen_accept.specs.declared.accepted.AcceptedProblem.{AcceptedProblem}
use Rattle.sopl_unfold.specs.GroundProblem.{ground_problem}

-- the lexer answers the tokens of the text
pub tokens_found : (text : List ℕ) (result : Result (Vec Token Global) Fault) → Answers tokens_shown result (Lexes text)
    → IfOk result (λ tokens. Lexes text (Ok (tokens_shown tokens)))
tokens_found text (Ok tokens) a = a
tokens_found text (Err f) a = tt

-- or why it has none
pub tokens_refused : (text : List ℕ) (result : Result (Vec Token Global) Fault) → Answers tokens_shown result (Lexes text) → IfErr result (IsTextFault text)
tokens_refused text (Ok tokens) a = tt
tokens_refused text (Err (fault.Text refusal)) a = no_tokens a
tokens_refused text (Err (fault.Limit excess)) a = absurd a
tokens_refused text (Err fault.NoMemory) a = tt

-- the parser answers the model of the text
pub model_found : (text : List ℕ) (tokens : List Token) (result : Result Model Fault) → Lexes text (Ok tokens)
    → IfOk result (λ model. SpellsWithin tokens (whole model)) → IfOk result (λ model. IsTextOf text (whole model))
model_found text tokens (Ok model) read is = record { tokens = tokens; read = read; spelled = is }
model_found text tokens (Err f) read is = tt

-- or why the text has none
pub model_refused : (text : List ℕ) (tokens : List Token) (size : ℕ) (result : Result Model Fault) → Lexes text (Ok tokens) → size ≡ length text
    → IfErr result (IsSpellingFault size tokens) → IfErr result (IsTextFault text)
model_refused text tokens size (Ok model) read whole is = tt
model_refused text tokens size (Err f) read same is = by_fault f (subst (λ n. IsSpellingFault n tokens f) same is)
  where
    by_fault : (f : Fault) → IsSpellingFault (length text) tokens f → IsTextFault text f
    by_fault (fault.Text refusal) wrong = misspelled tokens read wrong
    by_fault (fault.Limit excess) wrong = absurd wrong
    by_fault fault.NoMemory wrong = tt

-- a first mistake is why the text is refused
mistake_refused : (text : List ℕ) (model : ModelTree) (f : Fault) → IsTextOf text model → IsFirstFault model f → IsTextFault text f
mistake_refused text model (fault.Text refusal) has first = mistaken model has first
mistake_refused text model (fault.Limit excess) has first = absurd first
mistake_refused text model fault.NoMemory has first = tt

-- a model without mistakes is the model of the text
pub typed_found : (text : List ℕ) (model : ModelTree) (result : Result Typed Fault) → IsTextOf text model → IfOk result (λ typed. whole typed.model ≡ model)
    → IfOk result (λ typed. IsTextOf text (whole typed.model))
typed_found text model (Ok typed) has same = subst (IsTextOf text) (sym same) has
typed_found text model (Err f) has same = tt

-- or its first mistake is why the text is refused
pub typed_refused : (text : List ℕ) (model : ModelTree) (result : Result Typed Fault) → IsTextOf text model → IfErr result (IsFirstFault model) → IfErr result (IsTextFault text)
typed_refused text model (Ok typed) has first = tt
typed_refused text model (Err f) has first = mistake_refused text model f has first

-- the ground problem of a typed model is that of the text
pub ground_found : (text : List ℕ) (typed : Typed) (result : Result Ground Fault) → IsTextOf text (whole typed.model) → IfOk result (λ ground. ground.typed ≡ typed)
    → IfOk result (λ ground. IsTextOf text (whole ground.typed.model))
ground_found text typed (Ok ground) has same = subst (λ t. IsTextOf text (whole t.model)) (sym same) has
ground_found text typed (Err f) has same = tt

stop_refused : (text : List ℕ) (model : ModelTree) (f : Fault) → IsTextOf text model → IsWellTyped model → (f ≡ fault.NoMemory) ⊎ (first_failure 0 (text_events model) ≡ Err f) → IsTextFault text f
stop_refused text model f has typed (inl memory) = subst (IsTextFault text) (sym memory) tt
stop_refused text model (fault.Text refusal) has typed (inr stops) = stopped model has typed stops
stop_refused text model (fault.Limit excess) has typed (inr stops) = unfolding_passes model has typed stops
stop_refused text model fault.NoMemory has typed (inr stops) = tt

-- or what stops its unfolding is why the text is not taken
pub ground_refused : (text : List ℕ) (typed : Typed) (result : Result Ground Fault) → IsTextOf text (whole typed.model)
    → IfErr result (λ f. (f ≡ fault.NoMemory) ⊎ (first_failure 0 (text_events (whole typed.model)) ≡ Err f)) → IfErr result (IsTextFault text)
ground_refused text typed (Ok ground) has stops = tt
ground_refused text typed (Err f) has stops = stop_refused text (whole typed.model) f has typed.typed stops

-- a text whose model has no mistake, is unfolded, and passes no limit, is accepted
pub text_stated : (text : List ℕ) (ground : Ground) (made : Result Tree Fault) (result : Result AcceptedProblem Fault) → IsTextOf text (whole ground.typed.model)
    → IfOk made (λ tree. size_excess usual_limits (ground_problem ground) ≡ None)
    → IfOk result (λ stated. (stated.ground ≡ ground) × (Ok stated.tree ≡ made)) → IfOk result (States text)
text_stated text ground (Err f) (Ok stated) has within both = absurd (no_tree stated.tree f both.1)
  where
    no_tree : (t : Tree) (f : Fault) → Ok t ≡ Err f → ⊥
    no_tree t f e = cc
text_stated text ground (Ok tree) (Ok stated) has within both =
    let same = ap (λ (g : Ground). whole g.typed.model) both.0 in
    record {
      spelled = subst (IsTextOf text) (sym same) has;
      accepted = record {
        typed = stated.ground.typed.typed;
        unfolded = stated.ground.unfolded.passes;
        stated = refl;
        allowed = ap (λ m. size_excess usual_limits (problem_of m)) same ∙ within;
      };
    }
text_stated text ground made (Err f) has within both = tt

-- its scenarios are those of its problem
pub text_laid : (ground : Ground) (made : Result Tree Fault) (result : Result AcceptedProblem Fault)
    → IfOk made (λ tree. IsTreeOf (ground_problem ground).decisions (ground_problem ground).stochastics tree)
    → IfOk result (λ stated. (stated.ground ≡ ground) × (Ok stated.tree ≡ made)) → IfOk result IsLaid
text_laid ground (Err f) (Ok stated) laid both = absurd (no_tree stated.tree f both.1)
  where
    no_tree : (t : Tree) (f : Fault) → Ok t ≡ Err f → ⊥
    no_tree t f e = cc
text_laid ground (Ok tree) (Ok stated) laid both =
    let same = ap (λ (g : Ground). whole g.typed.model) both.0 in
    let one : stated.tree ≡ tree = cc in
    subst (λ m. IsTreeOf (problem_of m).decisions (problem_of m).stochastics stated.tree) (sym same)
    (subst (λ t. IsTreeOf (ground_problem ground).decisions (ground_problem ground).stochastics t) (sym one) laid)
text_laid ground made (Err f) laid both = tt

size_fault : (text : List ℕ) (ground : Ground) (f : Fault) → IsTextOf text (whole ground.typed.model)
    → (f ≡ fault.NoMemory) ⊎ ((e : Excess) × (f ≡ fault.Limit e) × (size_excess usual_limits (ground_problem ground) ≡ Some e)) → IsTextFault text f
size_fault text ground f has (inl memory) = subst (IsTextFault text) (sym memory) tt
size_fault text ground f has (inr over) =
    subst (IsTextFault text) (sym over.1) (sizes_pass (whole ground.typed.model) has ground.typed.typed ground.unfolded.passes over.2)

-- a size that passes a limit is why the text is not taken
pub size_refused : (text : List ℕ) (ground : Ground) (made : Result Tree Fault) (result : Result AcceptedProblem Fault) → IsTextOf text (whole ground.typed.model)
    → IfErr made (λ f. (f ≡ fault.NoMemory) ⊎ ((e : Excess) × (f ≡ fault.Limit e) × (size_excess usual_limits (ground_problem ground) ≡ Some e)))
    → IfErr result (λ f. made ≡ Err f) → IfErr result (IsTextFault text)
size_refused text ground made (Ok stated) has over same = tt
size_refused text ground (Ok tree) (Err f) has over same = absurd (no_fault tree f same)
  where
    no_fault : (t : Tree) (f : Fault) → Ok t ≡ Err f → ⊥
    no_fault t f e = cc
size_refused text ground (Err f) (Err g) has over same =
    let one : f ≡ g = cc in subst (IsTextFault text) one (size_fault text ground f has over)
