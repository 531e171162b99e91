-- Spans of time that each ask for something: at no time do they ask for more than at the beginning of some span.
use Rattle.std.proofs.Common.{◌≡◌, ◌⊎◌, inl, inr, ℤ, pos, ◌≤ℤ◌, int_lt, int_le, Bool, true, false, ◌&&◌, if◌then◌else◌, List, [], ◌∷◌, map, arith, refl, ap}
use Rattle.std.proofs.lemmas.Int.{ints, by_lt_z}
use Rattle.std.proofs.lemmas.Bool.{and_from}
use Rattle.sopl_base.proofs.Tests.{le_test, le_tested, lt_test, lt_tested}
use Rattle.term_language.specs.Globals.{total}
use Rattle.term_language.proofs.FormValues.{by_if, by_bool, and_first, and_second}

pub record Span : Type 0 where
  pub from : ℤ
  pub until : ℤ
  pub amount : ℤ

-- what a span asks for at a time
abbrev pub taken : ℤ → Span → ℤ
taken t s = if int_le s.from t && int_lt t s.until then s.amount else pos 0

abbrev pub taken_by : ℤ → List Span → ℤ
taken_by t spans = total (map (taken t) spans)

abbrev pub NoneNegative : List Span → Type 0
NoneNegative [] = Unit {0}
NoneNegative (s ∷ later) = (pos 0 ≤ℤ s.amount) × NoneNegative later

-- at the beginning of each span there is room
abbrev pub FitAtStarts : ℤ → List Span → List Span → Type 0
FitAtStarts c all [] = Unit {0}
FitAtStarts c all (s ∷ later) = (taken_by s.from all ≤ℤ c) × FitAtStarts c all later

abbrev is_active : ℤ → Span → Bool
is_active t s = int_le s.from t && int_lt t s.until

-- each span that is active at the one time is so at the other
abbrev AllActive : ℤ → ℤ → List Span → Type 0
AllActive t u [] = Unit {0}
AllActive t u (s ∷ later) = (is_active t s ≡ true → is_active u s ≡ true) × AllActive t u later

more_taken : (t u : ℤ) (spans : List Span) → NoneNegative spans → AllActive t u spans → taken_by t spans ≤ℤ taken_by u spans
more_taken t u [] nonneg active = omega (arith, ints)
more_taken t u (s ∷ later) nonneg active =
    let rest = more_taken t u later nonneg.1 active.1 in
    let here : taken t s ≤ℤ taken u s = by_bool (λ p. (is_active t s ≡ p) → (if p then s.amount else pos 0) ≤ℤ taken u s) (is_active t s)
    (λ met is.
    by_if (λ z. s.amount ≤ℤ z) (is_active u s) s.amount (pos 0) (λ also. omega (arith, ints)) (λ other. let also = active.0 met in absurd (cc)))
    (λ unmet is. by_if (λ z. pos 0 ≤ℤ z) (is_active u s) s.amount (pos 0) (λ also. nonneg.0) (λ other. omega (arith, ints)))
    refl in
    omega (arith, ints, rest, here)

-- each span that is active at a time begins at another time at the latest
abbrev BeginBy : ℤ → ℤ → List Span → Type 0
BeginBy t u [] = Unit {0}
BeginBy t u (s ∷ later) = (is_active t s ≡ true → s.from ≤ℤ u) × BeginBy t u later

begin_later : (t u v : ℤ) (spans : List Span) → u ≤ℤ v → BeginBy t u spans → BeginBy t v spans
begin_later t u v [] order all = tt
begin_later t u v (s ∷ later) order all =
    ((λ active. omega (arith, ints, all.0 active)), begin_later t u v later order all.1)

all_active : (t u : ℤ) (spans : List Span) → u ≤ℤ t → BeginBy t u spans → AllActive t u spans
all_active t u [] before all = tt
all_active t u (s ∷ later) before all = (
  (λ active.
      let until = lt_tested t s.until (and_second (int_le s.from t) (int_lt t s.until) active) in
      and_from (int_le s.from u) (int_lt u s.until) (le_test s.from u (all.0 active)) (lt_test u s.until (omega (arith, ints, until)))),
  all_active t u later before all.1,
)

-- the latest beginning of the spans that are active at a time
record Latest (t : ℤ) (spans : List Span) : Type 0 where
  start : ℤ
  before : start ≤ℤ t
  room : (c : ℤ) (all : List Span) → FitAtStarts c all spans → taken_by start all ≤ℤ c
  last : BeginBy t start spans

abbrev NoneActive : ℤ → List Span → Type 0
NoneActive t [] = Unit {0}
NoneActive t (s ∷ later) = (is_active t s ≡ false) × NoneActive t later

none_begin : (t u : ℤ) (spans : List Span) → NoneActive t spans → BeginBy t u spans
none_begin t u [] none = tt
none_begin t u (s ∷ later) none = ((λ active. absurd (let out = none.0 in cc)), none_begin t u later none.1)

none_taken : (t : ℤ) (spans : List Span) → NoneActive t spans → taken_by t spans ≡ pos 0
none_taken t [] none = refl
none_taken t (s ∷ later) none =
    let rest = none_taken t later none.1 in
    let here : taken t s ≡ pos 0 = ap (λ p. if p then s.amount else pos 0) none.0 in
    omega (arith, ints, rest, here)

latest : (t : ℤ) (spans : List Span) → Latest t spans ⊎ NoneActive t spans
latest t [] = inr tt
latest t (s ∷ later) =
    by_bool (λ p. is_active t s ≡ p → Latest t (s ∷ later) ⊎ NoneActive t (s ∷ later)) (is_active t s)
    (λ met is.
    let from = le_tested s.from t (and_first (int_le s.from t) (int_lt t s.until) is) in
    elim (latest t later) [
      | inl rest ↦
          by_lt_z s.from rest.start
          (λ below. inl (record {
            start = rest.start;
            before = rest.before;
            room = λ c all fit. rest.room c all fit.1;
            last = ((λ active. omega (arith, ints)), rest.last);
          }))
          (λ above. inl (record {
            start = s.from;
            before = from;
            room = λ c all fit. fit.0;
            last = ((λ active. omega (arith, ints)), begin_later t rest.start s.from later above rest.last);
          }))
      | inr none ↦ inl (record {
        start = s.from;
        before = from;
        room = λ c all fit. fit.0;
        last = ((λ active. omega (arith, ints)), none_begin t s.from later none);
      })
    ])
    (λ unmet is.
    elim (latest t later) [
      | inl rest ↦ inl (record {
        start = rest.start;
        before = rest.before;
        room = λ c all fit. rest.room c all fit.1;
        last = ((λ active. absurd (let out = is in cc)), rest.last);
      })
      | inr none ↦ inr (is, none)
    ])
    refl

-- where spans fit at each beginning they fit at all times
pub fit_always : (t c : ℤ) (spans : List Span) → NoneNegative spans → pos 0 ≤ℤ c → FitAtStarts c spans spans → taken_by t spans ≤ℤ c
fit_always t c spans nonneg room fit =
    elim (latest t spans) [
      | inl l ↦ omega (arith, ints, more_taken t l.start spans nonneg (all_active t l.start spans l.before l.last), l.room c spans fit)
      | inr none ↦ omega (arith, ints, none_taken t spans none)
    ]
