-- The elements of constants as entries.
use Rattle.std.specs.Prelude.{ℤ, List}
use Rattle.term_language.specs.Terms.{Fixed}
use Rattle.term_language.specs.Arrays.{Entry}

-- an index and the value there
abbrev pub constant_entry : List ℤ × ℤ → Entry
constant_entry e = record { index = e.0; item = Fixed e.1 }
