-- What the reader's reading of a whole model says of the grammar.
use Rattle.std.proofs.Common.{◌≡◌, refl, sym, ap, subst, ◌∙◌, ℕ, false, List, [], ◌∷◌, ◌++◌, Result, Ok, Err, arith}
use Rattle.std.proofs.lemmas.List.{append-nil}
use Rattle.sopl_ast.specs.declared.token.Token.{Token}
use Rattle.sopl_ast.specs.Grammar.{SpellsIn, Spells}
use Rattle.sopl_ast.specs.Misspelled.{place_in, NoneGoesOn, IsMisplaced, IsTooDeep}
use Rattle.sopl_ast.specs.Nonterminals as s
use Rattle.sopl_ast.specs.Whole.{ModelTree}
use Rattle.parse_grammar.specs.Heads.{head}
use Rattle.parse_grammar.specs.Phrases as p
use Rattle.parse_grammar.specs.Phrases.{way}
use Rattle.parse_grammar.specs.Reading.{Stop, Syntax, Depth, Read, ◌>>=◌}
use Rattle.grammar_rows.specs.RowLaws.{IsMisplacedInRows, IsTooDeepInRows, ReadEnd, got, stuck, sunk, end_at}
use Rattle.grammar_rows.proofs.LocalReading.{IsLocal, at_same, shows_whole}
use Rattle.grammar_rows.proofs.ModelTies.{rows_tied}
use Rattle.grammar_rows.proofs.OneValue.{rows_have_one_value}
use Rattle.grammar_rows.proofs.WholeRows.{ModelRead, behind, misplaced, model_local, model_open, model_sound, model_whole, too_deep}

-- tokens spell one model at most
pub spells_one : (ts : List Token) (a b : ModelTree) → Spells ts a → Spells ts b → a ≡ b
spells_one ts a b one two = rows_have_one_value s.Model model_open ts one.nesting two.nesting a b one.spelled two.spelled

-- what was read, if no token is left
abbrev finish : Read ModelTree → Result ModelTree Stop
finish o = o >>= p.finished

abbrev found : ModelTree → Result ModelTree Stop
found whole = Ok whole

abbrev stopped : Stop → Result ModelTree Stop
stopped stop = Err stop

same_model : (a b : ModelTree) → found a ≡ found b → a ≡ b
same_model a b e = cc

same_syntax : (a b : List Token) → stopped (Syntax a) ≡ stopped (Syntax b) → a ≡ b
same_syntax a b e = cc

same_depth : (a b : List Token) → stopped (Depth a) ≡ stopped (Depth b) → a ≡ b
same_depth a b e = cc

never_both : {P : Type 0} (a : ModelTree) (stop : Stop) → found a ≡ stopped stop → P
never_both a stop e = absurd (cc)

not_deep : {P : Type 0} (a b : List Token) → stopped (Syntax a) ≡ stopped (Depth b) → P
not_deep a b e = absurd (cc)

-- how the reading of a model ends
ended : (n : ℕ) (ts : List Token) (end : ReadEnd ModelTree) (left : List Token) → IsLocal ModelRead n ts end left → p.whole (way false n) ts ≡ end_at end left
ended n ts end left l = sym (rows_tied n s.Model ts) ∙ ap (ModelRead false n) l.all ∙ l.again false n left (at_same end n) refl (shows_whole end left)

closed : (n : ℕ) (ts : List Token) (end : ReadEnd ModelTree) (left : List Token) → IsLocal ModelRead n ts end left → p.model n ts ≡ finish (end_at end left)
unfolding p.model
closed n ts end left l = ap finish (ended n ts end left l)

-- a model that is spelled is read
pub spelled_is_read : (n : ℕ) (ts : List Token) (whole : ModelTree) → SpellsIn n ts whole → p.model n ts ≡ Ok whole
unfolding p.model
spelled_is_read n ts whole is = ap finish (sym (rows_tied n s.Model ts) ∙ model_whole n n (omega arith) ts whole is)

-- a model that is read is spelled
pub read_is_spelled : (n : ℕ) (ts : List Token) (whole : ModelTree) → p.model n ts ≡ Ok whole → SpellsIn n ts whole
read_is_spelled n ts whole e = let x = model_local n ts in by_end x.end x.left x.is
  where
    by_end : (end : ReadEnd ModelTree) (left : List Token) → IsLocal ModelRead n ts end left → SpellsIn n ts whole
    by_end (got a) [] l =
        subst (λ tree. SpellsIn n ts tree) (same_model a whole (sym (closed n ts (got a) [] l) ∙ e))
        (model_sound false n ts (a, []) (rows_tied n s.Model ts ∙ ended n ts (got a) [] l))
    by_end (got a) (u ∷ us) l = never_both whole (Syntax (u ∷ us)) (sym e ∙ closed n ts (got a) (u ∷ us) l)
    by_end stuck left l = never_both whole (Syntax left) (sym e ∙ closed n ts stuck left l)
    by_end sunk left l = never_both whole (Depth left) (sym e ∙ closed n ts sunk left l)

-- reading stops at tokens with which no model goes on
syntax_stop : (n : ℕ) (ts r : List Token) → p.model n ts ≡ Err (Syntax r) → IsMisplacedInRows n ts r
syntax_stop n ts r e = let x = model_local n ts in by_end x.end x.left x.is
  where
    by_end : (end : ReadEnd ModelTree) (left : List Token) → IsLocal ModelRead n ts end left → IsMisplacedInRows n ts r
    by_end (got a) [] l = never_both a (Syntax r) (sym (closed n ts (got a) [] l) ∙ e)
    by_end (got a) (u ∷ us) l =
        subst (λ left. IsMisplacedInRows n ts left) (same_syntax (u ∷ us) r (sym (closed n ts (got a) (u ∷ us) l) ∙ e)) (behind n ts a u us l)
    by_end stuck left l = subst (λ left. IsMisplacedInRows n ts left) (same_syntax left r (sym (closed n ts stuck left l) ∙ e)) (misplaced n ts left l)
    by_end sunk left l = not_deep r left (sym e ∙ closed n ts sunk left l)

-- reading stops at a token that counts once too often
depth_stop : (n : ℕ) (ts r : List Token) → p.model n ts ≡ Err (Depth r) → IsTooDeepInRows n ts r
depth_stop n ts r e = let x = model_local n ts in by_end x.end x.left x.is
  where
    by_end : (end : ReadEnd ModelTree) (left : List Token) → IsLocal ModelRead n ts end left → IsTooDeepInRows n ts r
    by_end (got a) [] l = never_both a (Depth r) (sym (closed n ts (got a) [] l) ∙ e)
    by_end (got a) (u ∷ us) l = not_deep (u ∷ us) r (sym (closed n ts (got a) (u ∷ us) l) ∙ e)
    by_end stuck left l = not_deep left r (sym (closed n ts stuck left l) ∙ e)
    by_end sunk left l = subst (λ left. IsTooDeepInRows n ts left) (same_depth left r (sym (closed n ts sunk left l) ∙ e)) (too_deep n ts left l)

-- no model goes on with the first token of those where reading stops
none_goes_on : (used r : List Token) → ((others : List Token) (whole : ModelTree) → head others ≡ head r → Spells (used ++ others) whole → ⊥) → NoneGoesOn used r
none_goes_on used [] none = λ whole is. none [] whole refl (subst (λ l. Spells l whole) (sym (append-nil used)) is)
none_goes_on used (u ∷ us) none = λ others whole is. none (u ∷ others) whole refl is

pub misplaced_at : (length : ℕ) (ts left : List Token) → p.model 64 ts ≡ Err (Syntax left) → IsMisplaced length ts (place_in length left)
misplaced_at length ts left e =
    let stop = syntax_stop 64 ts left e in
    record { before = stop.used; behind = left; split = stop.all; place = refl; prefix = stop.prefix; stuck = none_goes_on stop.used left stop.none }

pub too_deep_at : (length : ℕ) (ts left : List Token) → p.model 64 ts ≡ Err (Depth left) → IsTooDeep ts (place_in length left)
too_deep_at length ts left e =
    let stop = depth_stop 64 ts left e in
    record {
      before = stop.used;
      token = stop.token;
      behind = stop.more;
      split = stop.all;
      place = ap (place_in length) stop.at;
      prefix = stop.prefix;
      deeper = stop.deeper;
      over = stop.over;
      none = stop.none;
    }
