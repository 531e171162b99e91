-- The meanings of the sources and the sink in memory.
use Rattle.std.specs.Prelude.{ℕ, ◌<◌, ◌≤◌, Bool, List, [], map, length, String, Vec, string_bytes, Option, Some, None, option_map, unwrap_or, slice_get}
use Rattle.std.specs.Str.{bytes_eq}
use Rattle.std.specs.declared.alloc.Global.{Global}

-- a source of named texts: what is left of the text that was begun last, how many bytes it gives at most at once, the numbers of the calls
-- that fail, the number of the next call, and how many calls failed
pub record NamedInput : Type 0 where
  pub texts : List (List ℕ × List ℕ)
  pub left : List ℕ
  pub most : ℕ
  pub failing : List ℕ
  pub calls : ℕ
  pub faults : ℕ

-- a source of texts in order: what is left of the text that was begun last, and the texts after it
pub record OrderedInput : Type 0 where
  pub left : List ℕ
  pub later : List (List ℕ)

-- a sink: the bytes taken since the last `begin`, how many it can hold, how many it takes at most at once, the numbers of the calls that
-- fail, the number of the next call, and how many calls failed
pub record BufferedOutput : Type 0 where
  pub taken : List ℕ
  pub capacity : ℕ
  pub most : ℕ
  pub failing : List ℕ
  pub calls : ℕ
  pub faults : ℕ

-- a buffer that holds all that it can refuses a piece that is not empty
abbrev pub IsRefused : BufferedOutput → List ℕ → Type 0
IsRefused sink piece = (0 < length piece) × (sink.capacity ≤ length sink.taken)

-- the names and the texts, as bytes
abbrev pub texts_of : List (String Global × Vec ℕ Global) → List (List ℕ × List ℕ)
texts_of texts = map (λ (t : String Global × Vec ℕ Global). (string_bytes t.0, t.1.items)) texts

-- whether a text has that name
abbrev pub has_name : List ℕ → String Global × Vec ℕ Global → Bool
has_name name t = bytes_eq (string_bytes t.0) name

-- the text at that place, or the empty text where there is none
abbrev pub text_at : List (String Global × Vec ℕ Global) → Option ℕ → List ℕ
text_at texts None = []
text_at texts (Some at) = unwrap_or (option_map (λ (t : String Global × Vec ℕ Global). t.1.items) (slice_get texts at)) []

-- the texts, as bytes
abbrev pub contents_of : List (Vec ℕ Global) → List (List ℕ)
contents_of texts = map (λ (t : Vec ℕ Global). t.items) texts

-- the text at that place, or the empty text where there is none
abbrev pub content_at : List (Vec ℕ Global) → Option ℕ → List ℕ
content_at texts None = []
content_at texts (Some at) = unwrap_or (option_map (λ (t : Vec ℕ Global). t.items) (slice_get texts at)) []
