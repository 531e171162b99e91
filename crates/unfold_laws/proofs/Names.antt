-- The decisions and the stochastic variables of a text have names of the form of names.
use Rattle.std.proofs.Common.{◌≡◌, refl, sym, subst, ℕ, ℤ, Bool, true, false, ◌&&◌, List, [], ◌∷◌, map, Option, Some, IsTrue}
use Rattle.std.specs.List.{AllByRecursion, list_all}
use Rattle.sopl_base.proofs.Lists.{all_append}
use Rattle.sopl_ast.specs.declared.token.Token.{Token}
use Rattle.sopl_ast.specs.declared.token.TokenKind.{TokenKind}
use Rattle.sopl_ast.specs.declared.token.TokenKind.TheVariants as k
use Rattle.sopl_ast.specs.Tree.{Tree, Range}
use Rattle.sopl_ast.specs.Whole.{DimTree, Declaration, IntDecl, RangeDecl, SetDecl, DvarDecl, StochDecl, ModelTree}
use Rattle.sopl_ast.specs.Known.{Known}
use Rattle.sopl_ast.specs.Pieces.{is_word}
use Rattle.sopl_ast.specs.Origin.{HasForm}
use Rattle.sopl_ast.specs.ExpressionRows.{range_row}
use Rattle.sopl_ast.specs.ModelRows.{integer_row, range_declaration_row, set_row, decision_row, stochastic_row, declaration_row, dims_row, distribution_row, stage_row, model_row, row}
use Rattle.sopl_ast.specs.Nonterminals.{Model}
use Rattle.sopl_ast.specs.PhraseLanguage.{Phrase, terminal, place_of_mark, ◌then◌, ◌before◌, ◌closed_by◌}
use Rattle.sopl_ast.specs.RowSpelling.{IsTerminal, stands, lacking, AreRepeated, none_more, one_more, IsSpelled, SpelledInside, IsSpelledAt}
use Rattle.sopl_ast.specs.Terminals.{a_name, name_bytes}
use Rattle.sopl_ast.specs.Instances.{Decision, Stochastic, names_in, independent}
use Rattle.sopl_ast.specs.Arrays.{dimensions_of, indices, with_index}
use Rattle.sopl_ast.specs.Declarations.{Declared, nothing_declared, domain_of, outcome_of, stage_of, decisions_of, stochastics_of, behind, behind_all}
use Rattle.sopl_ast.specs.Unfolding.{problem_of}
use Rattle.unfold_laws.proofs.Stages.{all_by_stage}
use Rattle.unfold_laws.specs.Laws.{IsWord, HasWord, NamesAreWords}
use Rattle.unfold_laws.proofs.Behind.{Formed, formed_behind, after_mark, one_of_five}

-- the name of a variable that is declared has the form of one
abbrev IsNamed : Declaration → Type 0
IsNamed (DvarDecl name at dims over stage) = IsWord name
IsNamed (StochDecl name at dims dist stage) = IsWord name
IsNamed declared = Unit {0}

-- a name has the form of one
kind_word : (kind : TokenKind) (bytes : List ℕ) → name_bytes kind ≡ Some bytes → HasForm kind → IsWord bytes
kind_word (k.Name name) bytes is f = let same : name ≡ bytes = cc in subst IsWord same f
kind_word _ bytes is f = absurd (cc)

name_word : (ts : List Token) (x : ℕ × List ℕ) (r : List Token) → IsTerminal false a_name ts x r → Formed ts → IsWord x.1
name_word _ _ _ (stands u us bytes is) f = kind_word u.kind bytes is f.0
name_word _ _ _ (lacking x is) f = absurd (cc)

-- the name of a variable, behind its keyword and `int`
variable_word : (n : ℕ) (kind : TokenKind) {A : Type 0} (p : Phrase A) (ts : List Token) (x : (ℕ × List ℕ) × A) (r : List Token)
    → IsSpelledAt false n (kind before k.Int before terminal a_name then p) ts x r → Formed ts → IsWord x.0.1
variable_word n kind p ts x r is f =
    let one = after_mark n kind (k.Int before terminal a_name then p) ts x r is in
    let two = after_mark n k.Int (terminal a_name then p) one.tokens x r one.spelled in
    name_word two.tokens x.0 two.spelled.0 two.spelled.1.0
    (formed_behind n (place_of_mark k.Int) one.tokens two.at two.tokens two.mark (formed_behind n (place_of_mark kind) ts one.at one.tokens one.mark f))

integer_named : (n : ℕ) (ts : List Token) (d : Declaration) (r : List Token) → IsSpelledAt false n integer_row ts d r → IsNamed d
unfolding integer_row
integer_named n ts d r is = subst IsNamed (sym is.1.1) tt

range_named : (n : ℕ) (ts : List Token) (d : Declaration) (r : List Token) → IsSpelledAt false n range_declaration_row ts d r → IsNamed d
unfolding range_declaration_row
range_named n ts d r is = subst IsNamed (sym is.1.1) tt

set_named : (n : ℕ) (ts : List Token) (d : Declaration) (r : List Token) → IsSpelledAt false n set_row ts d r → IsNamed d
unfolding set_row
set_named n ts d r is = subst IsNamed (sym is.1.1) tt

decision_named : (n : ℕ) (ts : List Token) (d : Declaration) (r : List Token) → IsSpelledAt false n decision_row ts d r → Formed ts → IsNamed d
unfolding decision_row
decision_named n ts d r is f =
    subst IsNamed (sym is.1.1) (variable_word n k.Dvar (dims_row then k.Inside before range_row then stage_row closed_by k.Semi) ts is.0 r is.1.0 f)

stochastic_named : (n : ℕ) (ts : List Token) (d : Declaration) (r : List Token) → IsSpelledAt false n stochastic_row ts d r → Formed ts → IsNamed d
unfolding stochastic_row
stochastic_named n ts d r is f =
    subst IsNamed (sym is.1.1) (variable_word n k.Stoch (dims_row then k.Inside before distribution_row then stage_row closed_by k.Semi) ts is.0 r is.1.0 f)

declaration_named : (n : ℕ) (ts : List Token) (d : Declaration) (r : List Token) → IsSpelledAt false n declaration_row ts d r → Formed ts → IsNamed d
unfolding declaration_row
declaration_named n ts d r is f =
    one_of_five is (integer_named n ts d r) (range_named n ts d r) (set_named n ts d r) (λ i. decision_named n ts d r i f) (λ i. stochastic_named n ts d r i f)

declarations_named : (n : ℕ) (ts : List Token) (ds : List Declaration) (r : List Token) → AreRepeated (IsSpelled false (SpelledInside false n) declaration_row) ts ds r → Formed ts
    → AllByRecursion IsNamed ds
declarations_named n _ _ _ (none_more r) f = tt
declarations_named n _ _ _ (one_more ts d us more r first others) f =
    (declaration_named n ts d us first f, declarations_named n us more r others (formed_behind n declaration_row ts d us first f))

model_named : (n : ℕ) (ts : List Token) (whole : ModelTree) (r : List Token) → IsSpelledAt false n (row Model) ts whole r → Formed ts → AllByRecursion IsNamed whole.decls
unfolding model_row
model_named n ts whole r is f =
    subst (λ (tree : ModelTree). AllByRecursion IsNamed tree.decls) (sym is.1.1) (declarations_named n ts is.0.0 is.1.0.0 is.1.0.1.0 f)

decisions_made : (known : Known) (name : List ℕ) (dims : List DimTree) (over : Range) (stage : Option Tree) → IsWord name → (is : List (List ℤ))
    → AllByRecursion (λ (d : Decision). IsWord d.name)
    (map (λ index. record {
      name = name;
      index = index;
      lo = (domain_of (with_index (dimensions_of known dims) index known) over).0;
      hi =
          (domain_of (with_index (dimensions_of known dims) index known) over).1;
      stage = stage_of (with_index (dimensions_of known dims) index known) stage;
    }) is)
decisions_made known name dims over stage word [] = tt
decisions_made known name dims over stage word (index ∷ is) = (word, decisions_made known name dims over stage word is)

stochastics_made : (known : Known) (name : List ℕ) (dims : List DimTree) (dist : List (Tree × Tree)) (stage : Option Tree) → IsWord name → (is : List (List ℤ))
    → AllByRecursion HasWord
    (map (λ index.
    independent name index (map (outcome_of (with_index (dimensions_of known dims) index known)) dist)
    (stage_of (with_index (dimensions_of known dims) index known) stage)) is)
stochastics_made known name dims dist stage word [] = tt
stochastics_made known name dims dist stage word (index ∷ is) = (word, stochastics_made known name dims dist stage word is)

-- what was declared so far has names of the form of names
record AreNamed (found : Declared) : Type 0 where
  decisions : AllByRecursion (λ (d : Decision). IsWord d.name) found.decisions
  stochastics : AllByRecursion HasWord found.stochastics

behind_named : (d : Declaration) (found : Declared) → IsNamed d → AreNamed found → AreNamed (behind d found)
behind_named (IntDecl name at dims x) found word all = record { decisions = all.decisions; stochastics = all.stochastics }
behind_named (RangeDecl name at lo hi) found word all = record { decisions = all.decisions; stochastics = all.stochastics }
behind_named (SetDecl name at elements) found word all = record { decisions = all.decisions; stochastics = all.stochastics }
behind_named (DvarDecl name at dims over stage) found word all =
    record {
      decisions = all_append (λ (d : Decision). IsWord d.name) found.decisions (decisions_of found.known name dims over stage) all.decisions
          (decisions_made found.known name dims over stage word (indices (dimensions_of found.known dims)));
      stochastics = all.stochastics;
    }
behind_named (StochDecl name at dims dist stage) found word all =
    record {
      decisions = all.decisions;
      stochastics = all_append HasWord found.stochastics (stochastics_of found.known name dims dist stage) all.stochastics
          (stochastics_made found.known name dims dist stage word (indices (dimensions_of found.known dims)));
    }

behind_all_named : (ds : List Declaration) (found : Declared) → AllByRecursion IsNamed ds → AreNamed found → AreNamed (behind_all ds found)
behind_all_named [] found words all = all
behind_all_named (d ∷ ds) found words all = behind_all_named ds (behind d found) words.1 (behind_named d found words.0 all)

-- the names of both lists, as one test
names_tested : (ds : List Decision) (ss : List Stochastic) → AllByRecursion (λ (d : Decision). IsWord d.name) ds → AllByRecursion HasWord ss → IsTrue (list_all is_word (names_in ds ss))
names_tested [] [] a b = refl
names_tested [] (s ∷ ss) a b = both (is_word s.name) _ b.0 (names_tested [] ss a b.1)
  where
    both : (x y : Bool) → IsTrue x → IsTrue y → IsTrue (x && y)
    both true y h g = g
    both false y h g = absurd (cc)
names_tested (d ∷ ds) ss a b = both (is_word d.name) _ a.0 (names_tested ds ss a.1 b)
  where
    both : (x y : Bool) → IsTrue x → IsTrue y → IsTrue (x && y)
    both true y h g = g
    both false y h g = absurd (cc)

pub names_are_words : NamesAreWords
unfolding problem_of
names_are_words whole from =
    let all = behind_all_named whole.decls nothing_declared (model_named from.spelled.nesting from.tokens whole [] from.spelled.spelled from.names) (record { decisions = tt; stochastics = tt }) in
    names_tested (behind_all whole.decls nothing_declared).decisions (problem_of whole).stochastics all.decisions
    (all_by_stage HasWord (behind_all whole.decls nothing_declared).stochastics all.stochastics)
