-- What is found among one cell more.
use Rattle.std.proofs.Common.{◌≡◌, ℕ, ◌+◌, ◌<◌, ℤ, ◌≤ℤ◌, List, Option, None, Some, IfSome, arith}
use Rattle.std.proofs.lemmas.Int.{ints}
use Rattle.sopl_base.proofs.Naturals.{one_more}
use Rattle.brancher.specs.Choices.{IsUnfixed, cell_end}
use Rattle.brancher.specs.Finding.{Exceeds, FindsMost, IsOutdone}

pub fixed_most : (weight : ℕ → ℤ) (lows highs : List ℤ) (at : ℕ) (found : Option ℕ) → FindsMost weight lows highs at found → cell_end lows at ≡ cell_end highs at
    → FindsMost weight lows highs (at + 1) found
fixed_most weight lows highs at None none same = one_more (λ k. cell_end lows k ≡ cell_end highs k) at none same
fixed_most weight lows highs at (Some best) some same = record {
  exists = omega (arith, some.exists);
  unfixed = some.unfixed;
  most = one_more (λ k. IsUnfixed lows highs k → weight k ≤ℤ weight best) at some.most (λ unfixed. absurd (omega (arith, ints, unfixed, same)));
  first = some.first;
}

pub kept_most : (weight : ℕ → ℤ) (lows highs : List ℤ) (at : ℕ) (found : Option ℕ) → FindsMost weight lows highs at found → IsOutdone weight found at
    → FindsMost weight lows highs (at + 1) found
kept_most weight lows highs at None none outdone = absurd outdone
kept_most weight lows highs at (Some best) some outdone = record {
  exists = omega (arith, some.exists);
  unfixed = some.unfixed;
  most = one_more (λ k. IsUnfixed lows highs k → weight k ≤ℤ weight best) at some.most (λ unfixed. outdone);
  first = some.first;
}

pub new_most : (weight : ℕ → ℤ) (lows highs : List ℤ) (at : ℕ) (found : Option ℕ) → FindsMost weight lows highs at found → IsUnfixed lows highs at
    → Exceeds weight found at → FindsMost weight lows highs (at + 1) (Some at)
new_most weight lows highs at None none unfixed exceeds = record {
  exists = omega arith;
  unfixed = unfixed;
  most = one_more (λ k. IsUnfixed lows highs k → weight k ≤ℤ weight at) at (λ k before wide. absurd (omega (arith, ints, wide, none k before)))
      (λ wide. omega (arith, ints));
  first = λ k before wide. absurd (omega (arith, ints, wide, none k before));
}
new_most weight lows highs at (Some best) some unfixed exceeds = record {
  exists = omega arith;
  unfixed = unfixed;
  most = one_more (λ k. IsUnfixed lows highs k → weight k ≤ℤ weight at) at (λ k before wide. omega (arith, ints, exceeds, some.most k before wide))
      (λ wide. omega (arith, ints));
  first = λ k before wide. omega (arith, ints, exceeds, some.most k before wide);
}

pub found_exists : (weight : ℕ → ℤ) (lows highs : List ℤ) (cells most : ℕ) (found : Option ℕ) → FindsMost weight lows highs cells found → cells < most
    → IfSome found (λ best. best < most)
found_exists weight lows highs cells most None none less = tt
found_exists weight lows highs cells most (Some best) some less = omega (arith, some.exists, less)
