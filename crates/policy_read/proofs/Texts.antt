-- Texts that have no reading.
use Rattle.std.proofs.Common.{◌≡◌, ◌∙◌, ℕ, List, Bool, true, false, Option, None, if◌then◌else◌, refl, sym, ap}
use Rattle.std.specs.Str.{IsUtf8, is_utf8}
use Rattle.std.proofs.lemmas.Str.{IsUtf8-from_is_utf8, is_utf8-from_IsUtf8}
use Rattle.serde_json.specs.Data.{Data}
use Rattle.serde_json.specs.Read.{read}
use Rattle.policy_read.specs.Listed.{data_in}

pub no_text : (bytes : List ℕ) → ¬ (IsUtf8 bytes) → None ≡ data_in bytes
no_text bytes isnt = by_test (is_utf8 bytes) refl
  where
    by_test : (b : Bool) → is_utf8 bytes ≡ b → None ≡ (if b then read bytes else None)
    by_test true is = absurd (isnt (IsUtf8-from_is_utf8 bytes is))
    by_test false is = refl

pub text_read : (bytes text : List ℕ) (d : Option Data) → text ≡ bytes → IsUtf8 bytes → read text ≡ d → d ≡ data_in bytes
text_read bytes text d same is told = sym (ap (λ b. if b then read bytes else None) (is_utf8-from_IsUtf8 bytes is) ∙ ap read (sym same) ∙ told)
