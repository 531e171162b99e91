-- Tokens are misspelled by one code at one place.
use Rattle.std.proofs.Common.{◌≡◌, ◌∙◌, sym, ap, subst, ℕ, List, [], ◌∷◌, ◌++◌, append_assoc}
use Rattle.sopl_ast.specs.declared.token.Token.{Token}
use Rattle.sopl_ast.specs.Grammar.{Spells, IsPrefix}
use Rattle.sopl_ast.specs.Misspelled.{place_in, NoneGoesOn, IsMisplaced, IsTooDeep, misplaced, too_deep}
use Rattle.sopl_lex.proofs.Meet.{same_refusal}
use Rattle.grammar_rows.proofs.WholeRows.{row_prefixes_are_closed}
use Rattle.parse_laws.specs.Misspelled.{MisspelledOnce}
use Rattle.parse_laws.proofs.Prefixes.{prefixes_go_on}
use Rattle.parse_laws.proofs.TwoCuts.{TwoCuts, at_one, sooner, later, same_first, two_cuts}

-- where reading stops: what stands before is a prefix, and is none with the token there
record Stops (n : ℕ) (tokens : List Token) : Type 0 where
  before : List Token
  behind : List Token
  split : tokens ≡ before ++ behind
  prefix : IsPrefix n before
  over : (u : Token) (us : List Token) → behind ≡ u ∷ us → IsPrefix n (before ++ u ∷ []) → ⊥

-- a prefix with a token more is no prefix, where no model goes on with it
no_prefix : (n : ℕ) (before : List Token) (u : Token) (us : List Token) → NoneGoesOn before (u ∷ us) → IsPrefix n (before ++ u ∷ []) → ⊥
no_prefix n before u us stuck prefix =
    let goes = prefixes_go_on n (before ++ u ∷ []) prefix in
    stuck goes.others goes.whole (subst (λ l. Spells l goes.whole) (append_assoc before (u ∷ []) goes.others) goes.spelled)

misplaced_stops : (size : ℕ) (tokens : List Token) (at : ℕ) → IsMisplaced size tokens at → Stops 64 tokens
misplaced_stops size tokens at is =
    record {
      before = is.before;
      behind = is.behind;
      split = is.split;
      prefix = is.prefix;
      over = λ u us there. no_prefix 64 is.before u us (subst (λ l. NoneGoesOn is.before l) there is.stuck);
    }

deep_stops : (tokens : List Token) (at : ℕ) → IsTooDeep tokens at → Stops 64 tokens
deep_stops tokens at is =
    record {
      before = is.before;
      behind = is.token ∷ is.behind;
      split = is.split;
      prefix = is.prefix;
      over = λ u us there prefix.
          is.over (subst (λ v. IsPrefix 64 (is.before ++ v ∷ [])) (sym (same_first is.token u is.behind us there)) prefix);
    }

-- one place stands before another: then what stands before the other is a prefix, and none
not_sooner : (n : ℕ) (tokens : List Token) (a b : Stops n tokens) (u : Token) (us : List Token) → b.before ≡ a.before ++ u ∷ us
    → a.behind ≡ u ∷ us ++ b.behind → ⊥
not_sooner n tokens a b u us one two =
    a.over u (us ++ b.behind) two
    (row_prefixes_are_closed n (a.before ++ u ∷ []) us
    (subst (λ l. IsPrefix n l) (one ∙ sym (append_assoc a.before (u ∷ []) us)) b.prefix))

-- two places of one list are one
record SamePlace (n : ℕ) (tokens : List Token) (a b : Stops n tokens) : Type 0 where
  before : a.before ≡ b.before
  behind : a.behind ≡ b.behind

one_place : (n : ℕ) (tokens : List Token) (a b : Stops n tokens) → SamePlace n tokens a b
one_place n tokens a b = by_cuts (two_cuts a.before a.behind b.before b.behind (sym a.split ∙ b.split))
  where
    by_cuts : TwoCuts a.before a.behind b.before b.behind → SamePlace n tokens a b
    by_cuts (at_one one two) = record { before = one; behind = two }
    by_cuts (sooner u us one two) = absurd (not_sooner n tokens a b u us one two)
    by_cuts (later u us one two) = absurd (not_sooner n tokens b a u us one two)

-- 104 and 103 never stand at one token
not_both : (size : ℕ) (tokens : List Token) (at spot : ℕ) (a : IsMisplaced size tokens at) (b : IsTooDeep tokens spot)
    → SamePlace 64 tokens (misplaced_stops size tokens at a) (deep_stops tokens spot b) → ⊥
unfolding misplaced_stops deep_stops
not_both size tokens at spot a b same =
    no_prefix 65 b.before b.token b.behind (subst (λ l. NoneGoesOn b.before l) same.behind (subst (λ l. NoneGoesOn l a.behind) same.before a.stuck)) b.deeper

pub misspelled_once : MisspelledOnce
unfolding misplaced_stops deep_stops
misspelled_once size tokens a b (misplaced one x) (misplaced two y) =
    let same = one_place 64 tokens (misplaced_stops size tokens a.at x) (misplaced_stops size tokens b.at y) in
    same_refusal a b (one ∙ sym two) (x.place ∙ ap (place_in size) same.behind ∙ sym y.place)
misspelled_once size tokens a b (misplaced one x) (too_deep two y) =
    absurd (not_both size tokens a.at b.at x y (one_place 64 tokens (misplaced_stops size tokens a.at x) (deep_stops tokens b.at y)))
misspelled_once size tokens a b (too_deep one x) (misplaced two y) =
    absurd (not_both size tokens b.at a.at y x (one_place 64 tokens (misplaced_stops size tokens b.at y) (deep_stops tokens a.at x)))
misspelled_once size tokens a b (too_deep one x) (too_deep two y) =
    let same = one_place 64 tokens (deep_stops tokens a.at x) (deep_stops tokens b.at y) in
    same_refusal a b (one ∙ sym two) (x.place ∙ ap (place_in size) same.behind ∙ sym y.place)
