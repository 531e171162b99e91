use Rattle.std.proofs.Common.{rules, ◌≡◌}
use Rattle.std.proofs.lemmas.Fn.{always_returns_same}
use Rattle.std.proofs.lemmas.List.Sorted.{IsNonDecreasingBy-from_sort_by_key}
use Rattle.sopl_unfold.proofs.Sorting.{stage, sorted_by_stage}
use Rattle.sopl_unfold.proofs.stages.by_stage.Goals as goal

pub returns : goal.returns
returns c =
    record {
      sorted = sorted_by_stage c.args.stochs.items _ c.requires.stages c.in_ok-sort_by_key.ensures.permutation
          (IsNonDecreasingBy-from_sort_by_key stage _ c.in_ok-sort_by_key.ensures.sorted (λ a r q k. search rules))
          (c.in_ok-sort_by_key.ensures.stable stage (always_returns_same _ (λ a r. r ≡ stage a.0.now) _ (λ a r q k. search rules)));
    }
