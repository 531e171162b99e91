-- Where a part of a phrase halts the phrase halts.
use Rattle.std.proofs.Common.{◌≡◌, Result, Err}
use Rattle.parse_grammar.specs.Reading.{Stop, Syntax, Depth}
use Rattle.parse_exprs.specs.declared.reader.ParseStop.{ParseStop}
use Rattle.parse_exprs.specs.declared.reader.ParseStop.TheVariants as halt
use Rattle.parse_exprs.specs.ReaderAnswers.{Fails}

-- where the phrase stops as its part does
pub fails_on : {B D : Type 0} (h : ParseStop) (part : Result B Stop) (whole : Result D Stop)
    → ((stop : Stop) → part ≡ Err stop → whole ≡ Err stop) → Fails h part → Fails h whole
fails_on (halt.Syntax left) part whole on h = on (Syntax left.now) h
fails_on (halt.Depth left) part whole on h = on (Depth left.now) h
fails_on halt.NoMemory part whole on h = h
