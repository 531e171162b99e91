-- Each distribution of a text has an outcome.
use Rattle.std.proofs.Common.{sym, ap, subst, ◌∙◌, ℕ, zero, suc, ◌≤◌, ℤ, false, List, [], ◌∷◌, length, map, Option, arith}
use Rattle.std.proofs.lemmas.List.{length-map}
use Rattle.std.specs.List.{AllByRecursion}
use Rattle.sopl_base.proofs.Lists.{all_append}
use Rattle.sopl_ast.specs.declared.token.Token.{Token}
use Rattle.sopl_ast.specs.declared.token.TokenKind.TheVariants as k
use Rattle.sopl_ast.specs.Tree.{Tree}
use Rattle.sopl_ast.specs.Whole.{DimTree, Declaration, IntDecl, RangeDecl, SetDecl, DvarDecl, StochDecl, ModelTree}
use Rattle.sopl_ast.specs.Known.{Known}
use Rattle.sopl_ast.specs.ModelRows.{integer_row, range_declaration_row, set_row, decision_row, stochastic_row, declaration_row, dims_row, distribution_row, outcomes_row, stage_row}
use Rattle.sopl_ast.specs.ModelRows.{model_row, row}
use Rattle.sopl_ast.specs.Nonterminals as s
use Rattle.sopl_ast.specs.PhraseLanguage.{terminal, ◌then◌, ◌before◌, ◌closed_by◌}
use Rattle.sopl_ast.specs.RowSpelling.{IsDeepened, deepens, lacking_nested, AreRepeated, none_more, one_more, IsSpelled, SpelledInside, IsSpelledAt}
use Rattle.sopl_ast.specs.Terminals.{a_name}
use Rattle.sopl_ast.specs.Instances.{Stochastic, distribution, independent}
use Rattle.sopl_ast.specs.Arrays.{dimensions_of, indices, with_index}
use Rattle.sopl_ast.specs.Declarations.{Declared, nothing_declared, outcome_of, stage_of, stochastics_of, behind, behind_all}
use Rattle.sopl_ast.specs.Unfolding.{problem_of}
use Rattle.unfold_laws.specs.Bounds.{StochasticsHaveOutcomes}
use Rattle.unfold_laws.proofs.Behind.{after_mark, one_of_five}
use Rattle.unfold_laws.proofs.Stages.{all_by_stage}

-- the distribution of a declaration, if it has one, is not empty
abbrev IsDrawn : Declaration → Type 0
IsDrawn (StochDecl name at dims dist stage) = 1 ≤ length dist
IsDrawn declared = Unit {0}

at_least_one : {A : Type 0} (a : A) (more : List A) → 1 ≤ length (a ∷ more)
at_least_one a more = omega arith

outcomes_some : (n : ℕ) (ts : List Token) (dist : List (Tree × Tree)) (r : List Token) → SpelledInside false n s.Outcomes ts dist r → 1 ≤ length dist
unfolding outcomes_row
outcomes_some zero ts dist r is = elim is [ ]
outcomes_some (suc n) ts dist r is = subst (λ (l : List (Tree × Tree)). 1 ≤ length l) (sym is.1.1) (at_least_one is.0.0 is.0.1)

braced_some : (n : ℕ) (ts : List Token) (x : ℕ × List (Tree × Tree)) (r : List Token) → IsDeepened false k.BraceOpen (SpelledInside false n s.Outcomes) ts x r → 1 ≤ length x.1
braced_some n _ _ _ (deepens u us dist r is nested) = outcomes_some n us dist r nested
braced_some n _ _ _ (lacking_nested x is) = absurd (cc)

not_empty : (n : ℕ) (ts : List Token) (dist : List (Tree × Tree)) (r : List Token) → IsSpelledAt false n distribution_row ts dist r → 1 ≤ length dist
unfolding distribution_row
not_empty n ts dist r is =
    subst (λ (l : List (Tree × Tree)). 1 ≤ length l) (sym (is.1.1 ∙ ap (λ (x : ℕ × List (Tree × Tree)). x.1) is.1.0.1.1))
    (braced_some n ts is.1.0.0.0 is.1.0.1.0.0 is.1.0.1.0.1.0)

integer_drawn : (n : ℕ) (ts : List Token) (d : Declaration) (r : List Token) → IsSpelledAt false n integer_row ts d r → IsDrawn d
unfolding integer_row
integer_drawn n ts d r is = subst IsDrawn (sym is.1.1) tt

range_drawn : (n : ℕ) (ts : List Token) (d : Declaration) (r : List Token) → IsSpelledAt false n range_declaration_row ts d r → IsDrawn d
unfolding range_declaration_row
range_drawn n ts d r is = subst IsDrawn (sym is.1.1) tt

set_drawn : (n : ℕ) (ts : List Token) (d : Declaration) (r : List Token) → IsSpelledAt false n set_row ts d r → IsDrawn d
unfolding set_row
set_drawn n ts d r is = subst IsDrawn (sym is.1.1) tt

decision_drawn : (n : ℕ) (ts : List Token) (d : Declaration) (r : List Token) → IsSpelledAt false n decision_row ts d r → IsDrawn d
unfolding decision_row
decision_drawn n ts d r is = subst IsDrawn (sym is.1.1) tt

stochastic_drawn : (n : ℕ) (ts : List Token) (d : Declaration) (r : List Token) → IsSpelledAt false n stochastic_row ts d r → IsDrawn d
unfolding stochastic_row
stochastic_drawn n ts d r is =
    let one = after_mark n k.Stoch (k.Int before terminal a_name then dims_row then k.Inside before distribution_row then stage_row closed_by k.Semi) ts is.0 r is.1.0 in
    let two = after_mark n k.Int (terminal a_name then dims_row then k.Inside before distribution_row then stage_row closed_by k.Semi) one.tokens is.0 r one.spelled in
    let three = after_mark n k.Inside (distribution_row then stage_row closed_by k.Semi) two.spelled.1.1.0 is.0.1.1 r two.spelled.1.1.1.1 in
    subst IsDrawn (sym is.1.1) (not_empty n three.tokens is.0.1.1.0 three.spelled.0 three.spelled.1.0)

declaration_drawn : (n : ℕ) (ts : List Token) (d : Declaration) (r : List Token) → IsSpelledAt false n declaration_row ts d r → IsDrawn d
unfolding declaration_row
declaration_drawn n ts d r is =
    one_of_five is (integer_drawn n ts d r) (range_drawn n ts d r) (set_drawn n ts d r) (decision_drawn n ts d r) (stochastic_drawn n ts d r)

declarations_drawn : (n : ℕ) (ts : List Token) (ds : List Declaration) (r : List Token) → AreRepeated (IsSpelled false (SpelledInside false n) declaration_row) ts ds r → AllByRecursion IsDrawn ds
declarations_drawn n _ _ _ (none_more r) = tt
declarations_drawn n _ _ _ (one_more ts d us more r first others) = (declaration_drawn n ts d us first, declarations_drawn n us more r others)

model_drawn : (n : ℕ) (ts : List Token) (whole : ModelTree) (r : List Token) → IsSpelledAt false n (row s.Model) ts whole r → AllByRecursion IsDrawn whole.decls
unfolding model_row
model_drawn n ts whole r is = subst (λ (tree : ModelTree). AllByRecursion IsDrawn tree.decls) (sym is.1.1) (declarations_drawn n ts is.0.0 is.1.0.0 is.1.0.1.0)

abbrev HasOutcome : Stochastic → Type 0
HasOutcome s = 1 ≤ length (distribution s)

made_drawn : (known : Known) (name : List ℕ) (dims : List DimTree) (dist : List (Tree × Tree)) (stage : Option Tree) → 1 ≤ length dist → (is : List (List ℤ))
    → AllByRecursion HasOutcome
    (map (λ index.
    independent name index (map (outcome_of (with_index (dimensions_of known dims) index known)) dist)
    (stage_of (with_index (dimensions_of known dims) index known) stage)) is)
made_drawn known name dims dist stage some [] = tt
made_drawn known name dims dist stage some (index ∷ is) =
    (subst (λ n. 1 ≤ n) (sym (length-map dist (outcome_of (with_index (dimensions_of known dims) index known)))) some, made_drawn known name dims dist stage some is)

behind_drawn : (d : Declaration) (found : Declared) → IsDrawn d → AllByRecursion HasOutcome found.stochastics → AllByRecursion HasOutcome (behind d found).stochastics
behind_drawn (IntDecl name at dims x) found drawn all = all
behind_drawn (RangeDecl name at lo hi) found drawn all = all
behind_drawn (SetDecl name at elements) found drawn all = all
behind_drawn (DvarDecl name at dims over stage) found drawn all = all
behind_drawn (StochDecl name at dims dist stage) found drawn all =
    all_append HasOutcome found.stochastics (stochastics_of found.known name dims dist stage) all
    (made_drawn found.known name dims dist stage drawn (indices (dimensions_of found.known dims)))

behind_all_drawn : (ds : List Declaration) (found : Declared) → AllByRecursion IsDrawn ds → AllByRecursion HasOutcome found.stochastics
    → AllByRecursion HasOutcome (behind_all ds found).stochastics
behind_all_drawn [] found drawn all = all
behind_all_drawn (d ∷ ds) found drawn all = behind_all_drawn ds (behind d found) drawn.1 (behind_drawn d found drawn.0 all)

pub stochastics_have_outcomes : StochasticsHaveOutcomes
unfolding problem_of
stochastics_have_outcomes whole from =
    all_by_stage HasOutcome (behind_all whole.decls nothing_declared).stochastics
    (behind_all_drawn whole.decls nothing_declared (model_drawn from.spelled.nesting from.tokens whole [] from.spelled.spelled) tt)
