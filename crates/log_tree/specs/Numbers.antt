-- Numbers in digits.
use Rattle.std.specs.Prelude.{ℕ, ℤ, pos, neg_ℤ, ◌+◌, ◌-◌, ◌*◌, ◌^◌, ◌==◌, ◌&&◌, nat_lt, nat_le, int_lt, int_le, List, [], ◌∷◌, Option, Some, None, if◌then◌else◌}
use Rattle.std.specs.Char.{is_ascii_digit}
use Rattle.std.specs.List.{fold, list_all}
use Rattle.std.specs.Option.{option_and_then}

-- what digits are worth
abbrev pub worth_of : ℕ → List ℕ → ℕ
worth_of value digits = fold (λ value digit. 10 * value + (digit - 48)) value digits

-- a number, where it is below a limit
abbrev pub below : ℕ → ℕ → Option ℕ
below limit number = if nat_lt number limit then Some number else None

-- a number of 128 bits in digits, at least one
abbrev pub sized : List ℕ → Option ℕ
sized [] = None
sized (digit ∷ digits) = below (2 ^ 128) (worth_of 0 (digit ∷ digits))

abbrev pub size_in_word : List ℕ → Option ℕ
size_in_word word = if list_all is_ascii_digit word then sized word else None

-- a number with a sign, of so many bits
abbrev pub negative_within : ℕ → ℕ → Option ℤ
negative_within limit size = if nat_le size limit then Some (neg_ℤ (pos size)) else None

abbrev pub positive_within : ℕ → ℕ → Option ℤ
positive_within limit size = if nat_lt size limit then Some (pos size) else None

abbrev pub wide_in_word : List ℕ → Option ℤ
wide_in_word [] = option_and_then (positive_within (2 ^ 127)) (size_in_word [])
wide_in_word (byte ∷ bytes) = if byte == 45 then option_and_then (negative_within (2 ^ 127)) (size_in_word bytes) else option_and_then (positive_within (2 ^ 127)) (size_in_word (byte ∷ bytes))

-- a whole number that 64 bits hold
abbrev pub within_64 : ℤ → Option ℤ
within_64 value = if int_le (neg_ℤ (pos (2 ^ 63))) value && int_lt value (pos (2 ^ 63)) then Some value else None

abbrev pub signed_in_word : List ℕ → Option ℤ
signed_in_word word = option_and_then within_64 (wide_in_word word)
