-- What has the form of a name is a text.
use Rattle.std.proofs.Common.{◌≡◌, ◌<◌, ℕ, zero, suc, List, [], ◌∷◌, get_or, true, arith}
use Rattle.std.specs.List.{list_all}
use Rattle.std.specs.Str.{IsUtf8}
use Rattle.std.proofs.lemmas.Bool.{and_parts}
use Rattle.std.proofs.lemmas.Bool.Decides.{nat_tests}
use Rattle.std.proofs.lemmas.Str.{IsUtf8-from_ascii}
use Rattle.sopl_ast.specs.Pieces.{is_letter, is_name_byte, is_word}

-- a byte of a name is ASCII
name_byte_small : (b : ℕ) → is_name_byte b ≡ true → b < 128
name_byte_small b h = grind (arith, nat_tests)

letter_small : (b : ℕ) → is_letter b ≡ true → b < 128
letter_small b h = grind (arith, nat_tests)

name_bytes_small : (bs : List ℕ) → list_all is_name_byte bs ≡ true → (i : ℕ) → get_or bs i 0 < 128
name_bytes_small [] h i = omega arith
name_bytes_small (b ∷ bs) h zero = name_byte_small b (and_parts _ _ h).0
name_bytes_small (b ∷ bs) h (suc i) = name_bytes_small bs (and_parts _ _ h).1 i

word_small : (bs : List ℕ) → is_word bs ≡ true → (i : ℕ) → get_or bs i 0 < 128
word_small [] h i = omega arith
word_small (b ∷ bs) h zero = letter_small b (and_parts _ _ h).0
word_small (b ∷ bs) h (suc i) = name_bytes_small bs (and_parts _ _ h).1 i

-- what has the form of a name is a text
pub word_is_text : (bs : List ℕ) → is_word bs ≡ true → IsUtf8 bs
word_is_text bs h = IsUtf8-from_ascii bs (word_small bs h)
