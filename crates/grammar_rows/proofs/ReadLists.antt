-- Lists and chains of rows, as code reads them.
use Rattle.std.proofs.Common.{◌≡◌, refl, sym, ap, subst, ◌∙◌, ℕ, zero, suc, ◌≤◌, Bool, true, false, ◌||◌, List, [], ◌∷◌, ◌++◌, length, Option, Some, None, Ok, Err, append_assoc, arith}
use Rattle.std.proofs.lemmas.List.{append-nil}
use Rattle.std.specs.Prelude.{nat_eq}
use Rattle.sopl_ast.specs.declared.token.Token.{Token}
use Rattle.parse_grammar.specs.declared.marks.Mark.{Mark}
use Rattle.parse_grammar.specs.Heads.{head, rest, kind_of, is_mark}
use Rattle.parse_grammar.specs.Phrases.{some_read}
use Rattle.parse_grammar.specs.Reading.{Read, Next, ◌>>=◌, chain}
use Rattle.sopl_ast.specs.KindSets.{KindSet, only, first_kind, has_kind}
use Rattle.sopl_ast.specs.PhraseLanguage.{Phrase, sequence, mapped, choice, repetition, starts, ◌before◌, operator, any, one_or_more}
use Rattle.grammar_rows.specs.RowLaws.{end_at}
use Rattle.grammar_rows.specs.RowReading.{said, pick, some_more, and_then, read_at}
use Rattle.grammar_rows.specs.RowTests.{is_predictive}
use Rattle.sopl_ast.specs.Terminals.{Terminal, kinds_of}
use Rattle.grammar_rows.proofs.LocalItems.{LocalItems, items_local, chain_stops}
use Rattle.grammar_rows.proofs.LocalReading.{end_map, at_same, shows_whole}
use Rattle.grammar_rows.proofs.LocalRows.{read_local, item_less}
use Rattle.grammar_rows.proofs.Predictive.{of_repetition}
use Rattle.grammar_rows.proofs.ReadComplete.{AreToldApart, next_some, chain_none, chain_some}
use Rattle.grammar_rows.proofs.ReadMarks.{pick_said, pick_mark, known_terminal, known_before, as_function}
use Rattle.grammar_rows.proofs.ReadPlans.{with_value, value_twice, known_then, known_value, go_at_is}
use Rattle.grammar_rows.proofs.ReadSteps.{read_on, chain_end, chain_step}

-- what was found before stays in front
pub chain_front : {A : Type 0} (next : Next A) (fuel : ℕ) (front : List A) (ts : List Token) → chain next fuel front ts ≡ with_value (λ xs. front ++ xs) (chain next fuel [] ts)
chain_front {A} next zero front ts =
    chain_end next front ts ∙ ap (λ l. Ok (l, ts)) (sym (append-nil front)) ∙ sym (ap (with_value (λ xs. front ++ xs)) (chain_end next [] ts))
chain_front {A} next (suc fuel) front ts =
    chain_step next fuel front ts ∙ by_next (chain_front next fuel) (next ts) ∙ sym (ap (with_value (λ xs. front ++ xs)) (chain_step next fuel [] ts))
  where
    twice : (x : A) (o : Read (List A)) → with_value (λ xs. (front ++ x ∷ []) ++ xs) o ≡ with_value (λ xs. front ++ xs) (with_value (λ xs. (x ∷ []) ++ xs) o)
    twice x (Ok y) = ap (λ l. Ok (l, y.1)) (append_assoc front (x ∷ []) y.0)
    twice x (Err stop) = refl

    by_next : ((front : List A) (ts : List Token) → chain next fuel front ts ≡ with_value (λ xs. front ++ xs) (chain next fuel [] ts)) → (o : Read (Option A))
        → o >>= read_on next fuel front ≡ with_value (λ xs. front ++ xs) (o >>= read_on next fuel [])
    by_next again (Err stop) = refl
    by_next again (Ok (None, us)) = ap (λ l. Ok (l, us)) (sym (append-nil front))
    by_next again (Ok (Some x, us)) = again (front ++ x ∷ []) us ∙ twice x (chain next fuel [] us) ∙ ap (with_value (λ xs. front ++ xs)) (sym (again (x ∷ []) us))

-- a value of all that is found, of which the first are known
pub more_parts : {A C : Type 0} (next : Next A) (front : List A) (full : List A → C) (fuel : ℕ) (ts : List Token)
    → with_value full (chain next fuel front ts) ≡ with_value (λ xs. full (front ++ xs)) (chain next fuel [] ts)
more_parts next front full fuel ts = ap (with_value full) (chain_front next fuel front ts) ∙ value_twice full (λ xs. front ++ xs) (chain next fuel [] ts)

-- one more in front
pub chain_cons : {A : Type 0} (next : Next A) (fuel : ℕ) (a : A) (front : List A) (ts : List Token) → with_value (λ xs. a ∷ xs) (chain next fuel front ts) ≡ chain next fuel (a ∷ front) ts
chain_cons next fuel a front ts = more_parts next front (λ xs. a ∷ xs) fuel ts ∙ sym (chain_front next fuel (a ∷ front) ts)

-- a repetition is read as code reads its items
pub items_read : {A : Type 0} (n : ℕ) (ks : KindSet) (p : Phrase A) (next : Next A) → ((ts : List Token) → some_more ks (read_at false n p) ts ≡ next ts) → (ts : List Token)
    → read_at false n (repetition ks p) ts ≡ chain next (length ts) [] ts
items_read n ks p next e ts = let same : some_more ks (read_at false n p) ≡ next = λ i us. e us i in ap (λ f. chain f (length ts) [] ts) same

-- an operator and its operand, if there are any
pub next_operator : {X A : Type 0} (n : ℕ) (w : Terminal X) (ks : KindSet) (p : Phrase A) (f : List Token → Read A) (ts : List Token) (g : Option X → Read (Option (X × A)))
    → ks ≡ kinds_of w → ((ts : List Token) → read_at false n p ts ≡ f ts) → g None ≡ Ok (None, ts) → ((x : X) → g (Some x) ≡ f (rest ts) >>= (λ y. Ok (Some (x, y.0), y.1)))
    → some_more ks (read_at false n (operator w p)) ts ≡ g (said w ts)
next_operator n w ks p f ts g same e none some =
    pick_said w ks ts (read_at false n (operator w p) ts >>= (λ x. Ok (Some x.0, x.1))) (Ok (None, ts)) g same
    (λ x is. go_at_is (known_value (λ x. (x.0.1, x.1)) (known_then (known_terminal n w ts x is) (as_function n p f e))) (λ x. Ok (Some x.0, x.1)) ∙ sym (some x))
    (λ is. sym none)

-- a mark and what stands behind it, if they are there
pub next_after : {A : Type 0} (n : ℕ) (mark : Mark) (p : Phrase A) (f : List Token → Read A) (ts : List Token) (g : Bool → Read (Option A))
    → ((ts : List Token) → read_at false n p ts ≡ f ts) → g false ≡ Ok (None, ts) → g true ≡ f (rest ts) >>= (λ y. Ok (Some y.0, y.1))
    → some_more (only (kind_of mark)) (read_at false n (kind_of mark before p)) ts ≡ g (is_mark mark (head ts))
next_after n mark p f ts g e none some =
    pick_mark mark ts (read_at false n (kind_of mark before p) ts >>= (λ x. Ok (Some x.0, x.1))) (Ok (None, ts)) g
    (λ is. go_at_is (known_before mark ts is (as_function n p f e)) (λ x. Ok (Some x.0, x.1)) ∙ sym some)
    (λ is. sym none)

-- one, or more with a mark between them
pub list_read : {A : Type 0} (n : ℕ) (mark : Mark) (p : Phrase A) (f : List Token → Read A) (next : Next A)
    → ((ts : List Token) → read_at false n p ts ≡ f ts) → ((ts : List Token) → some_more (only (kind_of mark)) (read_at false n (kind_of mark before p)) ts ≡ next ts) → (ts : List Token)
    → read_at false n (one_or_more (kind_of mark) p) ts ≡ f ts >>= (λ x. chain next (length x.1) (x.0 ∷ []) x.1)
list_read {A} n mark p f next e is ts =
    ap (λ o. with_value {A = A × List A} (λ x. x.0 ∷ x.1) (o >>= and_then (read_at false n (any (kind_of mark before p))))) (e ts) ∙ by_read (f ts)
  where
    by_read : (o : Read A) → with_value {A = A × List A} (λ x. x.0 ∷ x.1) (o >>= and_then (read_at false n (any (kind_of mark before p)))) ≡ o >>= (λ x. chain next (length x.1) (x.0 ∷ []) x.1)
    by_read (Err stop) = refl
    by_read (Ok x) =
        ap (λ o. with_value {A = A × List A} (λ x. x.0 ∷ x.1) (with_value (λ ys. (x.0, ys)) o)) (items_read n (only (kind_of mark)) (kind_of mark before p) next is x.1)
        ∙ value_twice {B = A × List A} (λ x. x.0 ∷ x.1) (λ ys. (x.0, ys)) (chain next (length x.1) [] x.1)
        ∙ chain_cons next (length x.1) x.0 [] x.1

-- a chain is read alike with any fuel that is enough
chain_fuel : {A : Type 0} (n : ℕ) (ks : KindSet) (p : Phrase A) → is_predictive (repetition ks p) ≡ true → AreToldApart p → (fuel : ℕ) (front : List A) (ts : List Token) → length ts ≤ fuel
    → chain (some_more ks (read_at false n p)) fuel front ts ≡ chain (some_more ks (read_at false n p)) (length ts) front ts
chain_fuel {A} n ks p ok ls fuel front ts le = at fuel le ∙ sym (at (length ts) (omega arith))
  where
    x : LocalItems ks (λ cut m ts. read_at cut m p ts) n ts
    x = items_local ks (λ cut m ts. read_at cut m p ts) n (of_repetition ks p ok).ends (read_local n p (of_repetition ks p ok).item ls) (item_less ks p n ok) (length ts) ts (omega arith)

    at : (fuel : ℕ) → length ts ≤ fuel → chain (some_more ks (read_at false n p)) fuel front ts ≡ end_at (end_map (λ xs. front ++ xs) x.end) x.left
    at fuel le =
        ap (chain (some_more ks (read_at false n p)) fuel front) x.is.all
        ∙ x.is.again false n x.left (at_same x.end n) refl (shows_whole x.end x.left) fuel front (subst (λ l. length l ≤ fuel) x.is.all le)

-- one more, and then as many as there are
abbrev one_behind : {B : Type 0} → Next B → Option B × List Token → Read (List B)
one_behind next (None, ts) = Ok ([], ts)
one_behind next (Some b, ts) = with_value (λ xs. b ∷ xs) (chain next (length ts) [] ts)

chain_first : {B : Type 0} (n : ℕ) (ks : KindSet) (p : Phrase B) → is_predictive (repetition ks p) ≡ true → AreToldApart p → (ts : List Token)
    → chain (some_more ks (read_at false n p)) (length ts) [] ts ≡ some_more ks (read_at false n p) ts >>= one_behind (some_more ks (read_at false n p))
chain_first n ks p ok ls [] =
    chain_end (some_more ks (read_at false n p)) [] []
    ∙ sym (ap (λ b. pick b (read_at false n p [] >>= (λ x. Ok (Some x.0, x.1))) (Ok (None, [])) >>= one_behind (some_more ks (read_at false n p))) (of_repetition ks p ok).ends)
chain_first {B} n ks p ok ls (u ∷ vs) = by_test (has_kind ks (first_kind (u ∷ vs))) refl
  where
    next : Next B
    next = some_more ks (read_at false n p)

    by_read : has_kind ks (first_kind (u ∷ vs)) ≡ true → (o : Read B) → read_at false n p (u ∷ vs) ≡ o
        → chain (some_more ks (read_at false n p)) (suc (length vs)) [] (u ∷ vs) ≡ (o >>= (λ x. Ok (Some x.0, x.1))) >>= one_behind (some_more ks (read_at false n p))
    by_read test (Err stop) e = chain_stops ks (read_at false n p) (u ∷ vs) stop (of_repetition ks p ok).ends test e (suc (length vs)) [] (omega arith)
    by_read test (Ok x) e =
        chain_some ks (read_at false n p) (length vs) [] (u ∷ vs) x.0 x.1 test e
        ∙ chain_fuel n ks p ok ls (length vs) (x.0 ∷ []) x.1 (omega (arith, item_less ks p n ok (u ∷ vs) x.0 x.1 test e))
        ∙ chain_front (some_more ks (read_at false n p)) (length x.1) (x.0 ∷ []) x.1

    by_test : (b : Bool) → has_kind ks (first_kind (u ∷ vs)) ≡ b
        → chain (some_more ks (read_at false n p)) (suc (length vs)) [] (u ∷ vs) ≡ some_more ks (read_at false n p) (u ∷ vs) >>= one_behind (some_more ks (read_at false n p))
    by_test false e =
        chain_none ks (read_at false n p) (suc (length vs)) [] (u ∷ vs) e
        ∙ sym (ap (λ b. pick b (read_at false n p (u ∷ vs) >>= (λ x. Ok (Some x.0, x.1))) (Ok (None, u ∷ vs)) >>= one_behind (some_more ks (read_at false n p))) e)
    by_test true e =
        by_read e (read_at false n p (u ∷ vs)) refl
        ∙ sym (ap (λ o. o >>= one_behind (some_more ks (read_at false n p))) (next_some ks (read_at false n p) (u ∷ vs) e))

abbrev with_pair : {A B C : Type 0} → (A × List B → C) → A → Read (List B) → Read C
with_pair {A} {B} make a o = with_value make (with_value {B = A × List B} (λ ys. (a, ys)) o)

-- a chain is read as its first part, and what follows
pub chain_read : {A B C : Type 0} (n : ℕ) (p : Phrase A) (ks : KindSet) (q : Phrase B) (make : A × List B → C) (f : List Token → Read A) (next : Next B) (from : A → List Token → Option B → Read C)
    → is_predictive (repetition ks q) ≡ true → AreToldApart q → ((ts : List Token) → read_at false n p ts ≡ f ts) → ((ts : List Token) → some_more ks (read_at false n q) ts ≡ next ts)
    → ((a : A) (ts : List Token) → from a ts None ≡ Ok (make (a, []), ts))
    → ((a : A) (b : B) (ts : List Token) → from a ts (Some b) ≡ with_value (λ xs. make (a, b ∷ xs)) (chain next (length ts) [] ts)) → (ts : List Token)
    → read_at false n (mapped make (sequence p (repetition ks q))) ts ≡ f ts >>= (λ x. next x.1 >>= (λ y. from x.0 y.1 y.0))
chain_read {A} {B} {C} n p ks q make f next from ok ls e is none some ts = ap (λ o. with_value make (o >>= and_then (read_at false n (repetition ks q)))) (e ts) ∙ by_first (f ts)
  where
    over_chain : (a : A) (b : B) (o : Read (List B)) → with_pair make a (with_value (λ xs. b ∷ xs) o) ≡ with_value (λ xs. make (a, b ∷ xs)) o
    over_chain a b (Ok x) = refl
    over_chain a b (Err stop) = refl

    by_next : (a : A) (o : Read (Option B)) → with_pair make a (o >>= one_behind next) ≡ o >>= (λ y. from a y.1 y.0)
    by_next a (Err stop) = refl
    by_next a (Ok (None, us)) = sym (none a us)
    by_next a (Ok (Some b, us)) = over_chain a b (chain next (length us) [] us) ∙ sym (some a b us)

    same : some_more ks (read_at false n q) ≡ next
    same = λ i us. is us i

    by_first : (o : Read A) → with_value make (o >>= and_then (read_at false n (repetition ks q))) ≡ o >>= (λ x. next x.1 >>= (λ y. from x.0 y.1 y.0))
    by_first (Err stop) = refl
    by_first (Ok x) =
        ap (with_pair make x.0) (chain_first n ks q ok ls x.1)
        ∙ ap (λ s. with_pair make x.0 (s x.1 >>= one_behind s)) same
        ∙ by_next x.0 (next x.1)

-- one more of several alternatives
has_either : (xs ys : KindSet) (c : ℕ) → has_kind (xs ++ ys) c ≡ has_kind xs c || has_kind ys c
has_either [] ys c = refl
has_either (d ∷ ds) ys c = ap (λ b. nat_eq d c || b) (has_either ds ys c) ∙ or_assoc (nat_eq d c) (has_kind ds c) (has_kind ys c)
  where
    or_assoc : (a b c : Bool) → a || (b || c) ≡ (a || b) || c
    or_assoc true b c = refl
    or_assoc false b c = refl

pub some_is : {A : Type 0} (o : Read A) → with_value Some o ≡ some_read o
some_is (Ok x) = refl
some_is (Err stop) = refl

pub next_choice : {A : Type 0} (n : ℕ) (p q : Phrase A) (ts : List Token)
    → some_more (starts p ++ starts q) (read_at false n (choice (starts p) p q)) ts
    ≡ pick (has_kind (starts p) (first_kind ts)) (some_read (read_at false n p ts)) (some_more (starts q) (read_at false n q) ts)
next_choice {A} n p q ts =
    ap (λ b. pick b (read_at false n (choice (starts p) p q) ts >>= (λ x. Ok (Some x.0, x.1))) (Ok (None, ts))) (has_either (starts p) (starts q) (first_kind ts))
    ∙ by_test (has_kind (starts p) (first_kind ts))
  where
    by_test : (b : Bool) → pick (b || has_kind (starts q) (first_kind ts)) (pick b (read_at false n p ts) (read_at false n q ts) >>= (λ x. Ok (Some x.0, x.1))) (Ok (None, ts))
        ≡ pick b (some_read (read_at false n p ts)) (some_more (starts q) (read_at false n q) ts)
    by_test true = some_is (read_at false n p ts)
    by_test false = refl

pub next_last : {A : Type 0} (n : ℕ) (mark : Mark) (ks : KindSet) (p : Phrase A) (ts : List Token) (g : Bool → Read (Option A)) → ks ≡ only (kind_of mark)
    → g false ≡ Ok (None, ts) → (is_mark mark (head ts) ≡ true → some_read (read_at false n p ts) ≡ g true) → some_more ks (read_at false n p) ts ≡ g (is_mark mark (head ts))
next_last n mark ks p ts g same none some =
    ap (λ l. pick (has_kind l (first_kind ts)) (read_at false n p ts >>= (λ x. Ok (Some x.0, x.1))) (Ok (None, ts))) same
    ∙ pick_mark mark ts (read_at false n p ts >>= (λ x. Ok (Some x.0, x.1))) (Ok (None, ts)) g (λ is. some_is (read_at false n p ts) ∙ some is) (λ is. sym none)
