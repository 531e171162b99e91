-- Plans: a phrase of several parts, read part by part as code reads them.
use Rattle.std.proofs.Common.{◌≡◌, refl, sym, ap, ◌∙◌, ℕ, false, List, Result, Ok, Err}
use Rattle.sopl_ast.specs.declared.token.Token.{Token}
use Rattle.parse_grammar.specs.Reading.{Stop, Read, ◌>>=◌}
use Rattle.sopl_ast.specs.PhraseLanguage.{Phrase, sequence, mapped}
use Rattle.grammar_rows.specs.RowReading.{and_then, read_at}

-- another value of what is read
abbrev pub with_value : {A B : Type 0} → (A → B) → Read A → Read B
with_value f o = o >>= (λ x. Ok (f x.0, x.1))

pub value_twice : {A B C : Type 0} (g : B → C) (f : A → B) (o : Read A) → with_value g (with_value f o) ≡ with_value (λ a. g (f a)) o
value_twice g f (Ok x) = refl
value_twice g f (Err stop) = refl

-- two readings in a row, and a third
pub chained : {A B C : Type 0} (o : Result A Stop) (f : A → Result B Stop) (g : B → Result C Stop) → (o >>= f) >>= g ≡ o >>= (λ a. f a >>= g)
chained (Ok a) f g = refl
chained (Err stop) f g = refl

pub then_same : {A B : Type 0} (o : Result A Stop) (f g : A → Result B Stop) → ((a : A) → f a ≡ g a) → o >>= f ≡ o >>= g
then_same (Ok a) f g e = e a
then_same (Err stop) f g e = refl

then_all : {A : Type 0} (o : Result A Stop) → o >>= (λ a. Ok a) ≡ o
then_all (Ok a) = refl
then_all (Err stop) = refl

-- how a phrase is read, and what follows it: a part by itself, two parts, another value
pub data Plan (B : Type 0) (n : ℕ) : (A : Type 0) → Phrase A → Type 1 where
  part : {A : Type 0} (p : Phrase A) (f : (A × List Token → Read B) → List Token → Read B)
      → ((k : A × List Token → Read B) (ts : List Token) → read_at false n p ts >>= k ≡ f k ts) → Plan B n A p
  two_parts : {A C : Type 0} {p : Phrase A} {q : Phrase C} → Plan B n A p → Plan B n C q → Plan B n (A × C) (sequence p q)
  other_value : {A C : Type 0} (h : A → C) {p : Phrase A} → Plan B n A p → Plan B n C (mapped h p)

abbrev pub go : {B : Type 0} {n : ℕ} {A : Type 0} {p : Phrase A} → Plan B n A p → (A × List Token → Read B) → List Token → Read B
go (part p f e) k ts = f k ts
go (two_parts a b) k ts = go a (λ x. go b (λ y. k ((x.0, y.0), y.1)) x.1) ts
go (other_value h a) k ts = go a (λ x. k (h x.0, x.1)) ts

pub go_is : {B : Type 0} {n : ℕ} {A : Type 0} {p : Phrase A} → (a : Plan B n A p) (k : A × List Token → Read B) (ts : List Token) → read_at false n p ts >>= k ≡ go a k ts
go_is (part p f e) k ts = e k ts
go_is {n} (two_parts {p} {q} a b) k ts =
    chained (read_at false n p ts) (and_then (read_at false n q)) k
    ∙ then_same (read_at false n p ts) (λ x. and_then (read_at false n q) x >>= k) (λ x. go b (λ y. k ((x.0, y.0), y.1)) x.1)
    (λ x. chained (read_at false n q x.1) (λ y. Ok ((x.0, y.0), y.1)) k ∙ go_is b (λ y. k ((x.0, y.0), y.1)) x.1)
    ∙ go_is a (λ x. go b (λ y. k ((x.0, y.0), y.1)) x.1) ts
go_is {n} (other_value h {p} a) k ts = chained (read_at false n p ts) (λ x. Ok (h x.0, x.1)) k ∙ go_is a (λ x. k (h x.0, x.1)) ts

-- a phrase is read as its plan says
pub planned : {n : ℕ} {A : Type 0} {p : Phrase A} → (a : Plan A n A p) (ts : List Token) → read_at false n p ts ≡ go a (λ x. Ok x) ts
planned {n} {A} {p} a ts = sym (then_all (read_at false n p ts)) ∙ go_is a (λ x. Ok x) ts

-- what follows a plan follows what it reads
pub planned_then : {B C : Type 0} {n : ℕ} {A : Type 0} {p : Phrase A} → (a : Plan B n A p) (b : Plan C n A p) (k : A × List Token → Read B) (g : B × List Token → Read C) (ts : List Token)
    → go a k ts >>= g ≡ go b (λ x. k x >>= g) ts
planned_then {n} {p} a b k g ts = ap (λ o. o >>= g) (sym (go_is a k ts)) ∙ chained (read_at false n p ts) k g ∙ go_is b (λ x. k x >>= g) ts

-- likewise of these very tokens, of which the first is known
pub data PlanAt (B : Type 0) (n : ℕ) (ts : List Token) : (A : Type 0) → Phrase A → Type 1 where
  known : {A : Type 0} (p : Phrase A) (f : (A × List Token → Read B) → Read B) → ((k : A × List Token → Read B) → read_at false n p ts >>= k ≡ f k) → PlanAt B n ts A p
  known_then : {A C : Type 0} {p : Phrase A} {q : Phrase C} → PlanAt B n ts A p → Plan B n C q → PlanAt B n ts (A × C) (sequence p q)
  known_value : {A C : Type 0} (h : A → C) {p : Phrase A} → PlanAt B n ts A p → PlanAt B n ts C (mapped h p)

abbrev pub go_at : {B : Type 0} {n : ℕ} {ts : List Token} {A : Type 0} {p : Phrase A} → PlanAt B n ts A p → (A × List Token → Read B) → Read B
go_at (known p f e) k = f k
go_at (known_then a b) k = go_at a (λ x. go b (λ y. k ((x.0, y.0), y.1)) x.1)
go_at (known_value h a) k = go_at a (λ x. k (h x.0, x.1))

pub go_at_is : {B : Type 0} {n : ℕ} {ts : List Token} {A : Type 0} {p : Phrase A} → (a : PlanAt B n ts A p) (k : A × List Token → Read B) → read_at false n p ts >>= k ≡ go_at a k
go_at_is (known p f e) k = e k
go_at_is {n} {ts} (known_then {p} {q} a b) k =
    chained (read_at false n p ts) (and_then (read_at false n q)) k
    ∙ then_same (read_at false n p ts) (λ x. and_then (read_at false n q) x >>= k) (λ x. go b (λ y. k ((x.0, y.0), y.1)) x.1)
    (λ x. chained (read_at false n q x.1) (λ y. Ok ((x.0, y.0), y.1)) k ∙ go_is b (λ y. k ((x.0, y.0), y.1)) x.1)
    ∙ go_at_is a (λ x. go b (λ y. k ((x.0, y.0), y.1)) x.1)
go_at_is {n} {ts} (known_value h {p} a) k = chained (read_at false n p ts) (λ x. Ok (h x.0, x.1)) k ∙ go_at_is a (λ x. k (h x.0, x.1))

pub planned_at : {n : ℕ} {ts : List Token} {A : Type 0} {p : Phrase A} → (a : PlanAt A n ts A p) → read_at false n p ts ≡ go_at a (λ x. Ok x)
planned_at {n} {ts} {A} {p} a = sym (then_all (read_at false n p ts)) ∙ go_at_is a (λ x. Ok x)
