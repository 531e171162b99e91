-- A text that is refused by 104 leaves all models at the place of the refusal, and at no other.
use Rattle.std.proofs.Common.{◌≡◌, ◌∙◌, sym, ap, subst, ℕ, List, ◌∷◌, ◌++◌, length, append_assoc, Ok, arith}
use Rattle.sopl_base.specs.declared.fault.Refusal.{Refusal}
use Rattle.sopl_base.specs.declared.codes.TheConstants as codes
use Rattle.sopl_ast.specs.declared.token.Token.{Token}
use Rattle.sopl_ast.specs.Tokens.{Lexes, Refuses, too_long, no_piece, too_large}
use Rattle.sopl_ast.specs.Grammar.{Spells, max_nesting}
use Rattle.sopl_ast.specs.Misspelled.{place_in, NoneGoesOn, IsMisspelled, misplaced, too_deep}
use Rattle.sopl_ast.specs.Accepted.{IsRefusedFor, no_tokens, misspelled, mistaken, stopped}
use Rattle.sopl_lex.proofs.Meet.{lexes_one}
use Rattle.parse_laws.specs.PrefixLaws.{BeginsSomeModel}
use Rattle.parse_laws.specs.RefusalLaws.{LeavesAllModels, SomeModelGoesOn}
use Rattle.parse_laws.proofs.MistakeCodes.{IsAboveSpelling, mistake_above}
use Rattle.parse_laws.proofs.Prefixes.{prefixes_go_on}
use Rattle.parse_laws.proofs.RefusalOnce.{same_tokens}
use Rattle.parse_laws.proofs.TwoCuts.{TwoCuts, at_one, sooner, later, two_cuts}
use Rattle.parse_laws.proofs.UnfoldCodes.{stop_above}

not_both : (refusal : Refusal) → IsAboveSpelling refusal → refusal.code ≡ codes.SYNTAX → ⊥
not_both refusal above code = absurd (omega (arith, above, code))

-- a text without tokens is refused by another code
has_tokens : (text : List ℕ) (refusal : Refusal) → Refuses text refusal → refusal.code ≡ codes.SYNTAX → ⊥
has_tokens text refusal (too_long is at long) code = absurd (omega (arith, is, code))
has_tokens text refusal (no_piece rest is short there stuck) code = absurd (omega (arith, is, code))
has_tokens text refusal (too_large rest is short there large) code = absurd (omega (arith, is, code))

left_at : (text : List ℕ) (tokens : List Token) (refusal : Refusal) → Lexes text (Ok tokens) → IsMisspelled (length text) tokens refusal → refusal.code ≡ codes.SYNTAX
    → LeavesAllModels text refusal.at
left_at text tokens refusal read (misplaced code is) wanted =
    record {
      before = is.before;
      behind = is.behind;
      read = subst (λ l. Lexes text (Ok l)) is.split read;
      place = is.place;
      begins = prefixes_go_on max_nesting is.before is.prefix;
      none = is.stuck;
    }
left_at text tokens refusal read (too_deep code is) wanted = absurd (omega (arith, code, wanted))

refused_left : (text : List ℕ) (refusal : Refusal) → IsRefusedFor text refusal → refusal.code ≡ codes.SYNTAX → LeavesAllModels text refusal.at
refused_left text refusal (no_tokens refuses) code = absurd (has_tokens text refusal refuses code)
refused_left text refusal (misspelled tokens read wrong) code = left_at text tokens refusal read wrong code
refused_left text refusal (mistaken model is first) code = absurd (not_both refusal (mistake_above model refusal first.among) code)
refused_left text refusal (stopped model is typed stops) code = absurd (not_both refusal (stop_above model refusal stops) code)

-- where all models are left, no model begins with more
no_more : (before : List Token) (u : Token) (us behind : List Token) → NoneGoesOn before (u ∷ behind) → BeginsSomeModel (before ++ u ∷ us) → ⊥
no_more before u us behind none begins =
    none (us ++ begins.others) begins.whole (subst (λ l. Spells l begins.whole) (append_assoc before (u ∷ us) begins.others) begins.spelled)

left_once : (text : List ℕ) (at spot : ℕ) → LeavesAllModels text at → LeavesAllModels text spot → at ≡ spot
left_once text at spot a b =
    by_cuts (two_cuts a.before a.behind b.before b.behind
    (same_tokens (a.before ++ a.behind) (b.before ++ b.behind) (lexes_one text (Ok (a.before ++ a.behind)) (Ok (b.before ++ b.behind)) a.read b.read)))
  where
    by_cuts : TwoCuts a.before a.behind b.before b.behind → at ≡ spot
    by_cuts (at_one one two) = a.place ∙ ap (place_in (length text)) two ∙ sym b.place
    by_cuts (sooner u us one two) =
        absurd (no_more a.before u us (us ++ b.behind) (subst (λ l. NoneGoesOn a.before l) two a.none) (subst BeginsSomeModel one b.begins))
    by_cuts (later u us one two) =
        absurd (no_more b.before u us (us ++ a.behind) (subst (λ l. NoneGoesOn b.before l) two b.none) (subst BeginsSomeModel one a.begins))

pub some_model_goes_on : SomeModelGoesOn
some_model_goes_on = record { refused = refused_left; one_place = left_once }
