-- Bytes cut into lines: a line feed ends a line, or a carriage return and a line feed; the last line may lack its end.
use Rattle.std.specs.Prelude.{ℕ, ◌==◌, ◌&&◌, List, [], ◌∷◌, if◌then◌else◌}
use Rattle.log_tree.specs.Words.{letter_of}

-- a byte in front of the first line
abbrev pub onto_line : ℕ → List (List ℕ) → List (List ℕ)
onto_line byte [] = (byte ∷ []) ∷ []
onto_line byte (line ∷ lines) = (byte ∷ line) ∷ lines

abbrev pub lines_in : List ℕ → List (List ℕ)
lines_in [] = []
lines_in (byte ∷ bytes) =
    if byte == 10 then [] ∷ lines_in bytes
    else if (byte == 13) && (letter_of bytes == 10) then lines_in bytes
    else onto_line byte (lines_in bytes)

-- a line without the carriage return of its end
abbrev pub bare : List ℕ → List ℕ
bare [] = []
bare (byte ∷ []) = if byte == 13 then [] else byte ∷ []
bare (byte ∷ next ∷ bytes) = byte ∷ bare (next ∷ bytes)
