-- Where the first text of a name stands.
use Rattle.std.proofs.Common.{◌≡◌, ℕ, ◌<◌, Bool, true, false, cond, List, [], ◌∷◌, length, map, Option, Some, None, option_map, unwrap_or, String, Vec, string_bytes, nat_lt, refl}
use Rattle.std.proofs.Common.{sym, ap, ◌∙◌, arith, inl, inr}
use Rattle.std.specs.List.{find, position, position_or_len, slice_get}
use Rattle.std.specs.Str.{bytes_eq}
use Rattle.std.specs.declared.alloc.Global.{Global}
use Rattle.std.proofs.lemmas.Bool.{ltb-true, lt-ltb}
use Rattle.std.proofs.lemmas.List.Folds.{find_at}
use Rattle.std.proofs.lemmas.Option.{slice_get_cases}
use Rattle.sopl_io.specs.Stock.{named_text}
use Rattle.sopl_io.specs.Memory.{texts_of, text_at, has_name}

-- the first element of a mapped list that passes
find-map : {X Y : Type 0} (f : X → Y) (p : Y → Bool) (xs : List X) → find p (map f xs) ≡ option_map f (find (λ (x : X). p (f x)) xs)
find-map f p [] = refl
find-map {X} {Y} f p (x ∷ xs) =
    elim (p (f x)) as (λ b. cond b (Some (f x)) (find p (map f xs)) ≡ option_map f (cond b (Some x) (find (λ (y : X). p (f y)) xs))) [
      | true ↦ refl
      | false ↦ find-map f p xs
    ]

content : (o : Option (String Global × Vec ℕ Global)) → option_map (λ (t : List ℕ × List ℕ). t.1) (option_map (λ (t : String Global × Vec ℕ Global). (string_bytes t.0, t.1.items)) o)
    ≡ option_map (λ (t : String Global × Vec ℕ Global). t.1.items) o
content None = refl
content (Some t) = refl

named_text_at : (texts : List (String Global × Vec ℕ Global)) (name : List ℕ) → named_text (texts_of texts) name
    ≡ option_map (λ (t : String Global × Vec ℕ Global). t.1.items) (slice_get texts (position_or_len (has_name name) texts))
named_text_at texts name =
    ap (λ (o : Option (List ℕ × List ℕ)). option_map (λ (t : List ℕ × List ℕ). t.1) o)
    (find-map (λ (t : String Global × Vec ℕ Global). (string_bytes t.0, t.1.items)) (λ (t : List ℕ × List ℕ). bytes_eq t.0 name) texts)
    ∙ content (find (has_name name) texts)
    ∙ ap (λ (o : Option (String Global × Vec ℕ Global)). option_map (λ (t : String Global × Vec ℕ Global). t.1.items) o) (find_at (has_name name) texts)

is_place : (n at len : ℕ) (b : Bool) → b ≡ nat_lt n len → Some at ≡ cond b (Some n) None → (at ≡ n) × (at < len)
is_place n at len true is place = let same : at ≡ n = cc in (same, (let below : n < len = ltb-true n len (sym is) in omega arith))
is_place n at len false is place = absurd (cc)

-- the text at the place that was found
pub text_found : (texts : List (String Global × Vec ℕ Global)) (name : List ℕ) (at : ℕ) → Some at ≡ position (has_name name) texts → named_text (texts_of texts) name ≡ Some (text_at texts (Some at))
text_found texts name at place =
    let p = is_place (position_or_len (has_name name) texts) at (length texts) _ refl place in
    let known = named_text_at texts name ∙ ap (λ (n : ℕ). option_map (λ (t : String Global × Vec ℕ Global). t.1.items) (slice_get texts n)) (sym p.0) in
    elim (slice_get_cases texts at).1 [
      | inl w ↦
          let here : slice_get texts at ≡ Some w.0 = w.2 in
          known ∙ ap (λ (o : Option (String Global × Vec ℕ Global)). option_map (λ (t : String Global × Vec ℕ Global). t.1.items) o) here
          ∙ sym (ap (λ (o : Option (String Global × Vec ℕ Global)). Some (unwrap_or (option_map (λ (t : String Global × Vec ℕ Global). t.1.items) o) [])) here)
      | inr w ↦ absurd (omega (arith, p.1, w.0))
    ]

missing_by : (n len : ℕ) (b : Bool) → b ≡ nat_lt n len → None ≡ cond b (Some n) None → b ≡ false
missing_by n len true is place = absurd (cc)
missing_by n len false is place = refl

-- no text where no place was found
pub text_missing : (texts : List (String Global × Vec ℕ Global)) (name : List ℕ) → None ≡ position (has_name name) texts → named_text (texts_of texts) name ≡ None
text_missing texts name place =
    let n = position_or_len (has_name name) texts in
    let past : nat_lt n (length texts) ≡ false = missing_by n (length texts) _ refl place in
    elim (slice_get_cases texts n).1 [
      | inl w ↦ let below : nat_lt n (length texts) ≡ true = lt-ltb n (length texts) w.1 in absurd (cc)
      | inr w ↦ named_text_at texts name ∙ ap (λ (o : Option (String Global × Vec ℕ Global)). option_map (λ (t : String Global × Vec ℕ Global). t.1.items) o) w.1
    ]
