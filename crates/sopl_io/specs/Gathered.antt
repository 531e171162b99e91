-- Bytes that are kept before they are written.
use Rattle.std.specs.Prelude.{◌≡◌, ℕ, List, ◌++◌, Option}
use Rattle.std.specs.Io.KnownBytes.{Appends}

-- the bytes that are kept, and how many are at most
pub record GatheredBytes : Type 0 where
  pub kept : List ℕ
  pub size : ℕ

-- the sink took some bytes; these, and behind them what is kept now, are what was kept and the given bytes
pub record GathersAll (taken : Option (List ℕ)) (kept : List ℕ) (taken_now : Option (List ℕ)) (kept_now bytes : List ℕ) : Type 0 where
  pub written : List ℕ
  pub took : Appends taken taken_now written
  pub rest : written ++ kept_now ≡ kept ++ bytes
