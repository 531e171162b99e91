-- Where no token is left, some value is read, if the tokens may end too early.
use Rattle.std.proofs.Common.{◌≡◌, refl, ap, ◌∙◌, Bool, true, false, List, [], Ok, inr}
use Rattle.sopl_ast.specs.declared.token.Token.{Token}
use Rattle.parse_grammar.specs.Reading.{Read, ◌>>=◌}
use Rattle.sopl_ast.specs.KindSets.{has_kind}
use Rattle.sopl_ast.specs.PhraseLanguage.{Phrase, give, terminal, sequence, mapped, deepened, choice, repetition, not_before, lookahead}
use Rattle.grammar_rows.specs.RowLaws.{ReadsAll}
use Rattle.grammar_rows.specs.RowReading.{NestedReaders, and_then, pick, some_more, phrase_read, sample_value, some_value}
use Rattle.grammar_rows.specs.RowTests.{is_predictive}
use Rattle.grammar_rows.proofs.Predictive.{of_sequence, of_choice, of_not_before, of_lookahead}
use Rattle.grammar_rows.proofs.ReadSteps.{chain_end}

pub all_then : {A B : Type 0} (o : Read A) (g : List Token → Read B) → ReadsAll o → ReadsAll (g []) → ReadsAll (o >>= and_then g)
all_then o g x y = record {
  value = (x.value, y.value);
  read = ap (λ l. l >>= and_then g) x.read ∙ ap (λ l. l >>= (λ y. Ok ((x.value, y.0), y.1))) y.read;
}

pub all_mapped : {A B : Type 0} (o : Read A) (f : A → B) → ReadsAll o → ReadsAll (o >>= (λ x. Ok (f x.0, x.1)))
all_mapped o f x = record { value = f x.value; read = ap (λ l. l >>= (λ x. Ok (f x.0, x.1))) x.read }

all_picked : {A : Type 0} (b : Bool) (o p : Read A) → b ≡ false → ReadsAll p → ReadsAll (pick b o p)
all_picked true o p e x = absurd (cc)
all_picked false o p e x = x

pub none_read : (b : NestedReaders) {A : Type 0} (p : Phrase A) → is_predictive p ≡ true → ReadsAll (phrase_read true b p [])
none_read b (give a) ok = record { value = a; read = refl }
none_read b (terminal w) ok = record { value = (0, sample_value w); read = refl }
none_read b (sequence p q) ok =
    let o = of_sequence p q ok in
    all_then (phrase_read true b p []) (phrase_read true b q) (none_read b p o.one) (none_read b q o.two)
none_read b (mapped f p) ok = all_mapped (phrase_read true b p []) f (none_read b p ok)
none_read b (deepened kind s) ok = record { value = (0, some_value s); read = refl }
none_read b (choice ks p q) ok =
    let o = of_choice ks p q ok in
    all_picked (has_kind ks 0) (phrase_read true b p []) (phrase_read true b q []) o.ends (none_read b q o.two)
none_read b (repetition ks p) ok = record { value = []; read = chain_end (some_more ks (phrase_read true b p)) [] [] }
none_read b (not_before ks p) ok = none_read b p (of_not_before ks p ok).item
none_read b (lookahead w ks t p) ok = all_mapped (phrase_read true b p []) inr (none_read b p (of_lookahead w ks t p ok).two)
