-- Laws that crates above share.
use Rattle.std.proofs.Common.{◌≡◌, ℕ, List}
use Rattle.sopl_base.specs.declared.fault.Excess.{Excess}
use Rattle.sopl_base.specs.declared.fault.Refusal.{Refusal}
use Rattle.sopl_ast.specs.Instances.{Problem}
use Rattle.answer_texts.specs.Replies.{IsLimitedOn, IsRefusedOn}
use Rattle.answer_texts.specs.Replies as ends
use Rattle.answer_texts.specs.Solved.{SolvedText}
use Rattle.answer_texts.specs.declared.command.Command.TheVariants.{Solve}
use Rattle.answer_texts.specs.declared.command.Detail.TheVariants.{Full}
use Rattle.answer_texts.specs.declared.status.Status.TheVariants.{Done, Limit, Refused}
use Rattle.answer_texts.proofs.Ends.{ends_alike}

done_limit : Done ≡ Limit → ⊥
done_limit e = cc

done_refused : Done ≡ Refused → ⊥
done_refused e = cc

refused_limit : Refused ≡ Limit → ⊥
refused_limit e = cc

-- a text is solved, refused, or passes a limit: no two of these
pub not_refused : (text : List ℕ) (problem : Problem) (refusal : Refusal) → SolvedText text problem → IsRefusedOn text refusal (Solve Full) → ⊥
not_refused text problem refusal solved broken =
    done_refused (ends_alike text 0 (Solve Full) Done Refused (ends.solved Full problem solved) (ends.refused_text (Solve Full) refusal broken))

pub not_limited : (text : List ℕ) (problem : Problem) (excess : Excess) → SolvedText text problem → IsLimitedOn text excess (Solve Full) → ⊥
not_limited text problem excess solved over =
    done_limit (ends_alike text 0 (Solve Full) Done Limit (ends.solved Full problem solved) (ends.limited_text (Solve Full) excess over))

pub not_both_told : (text : List ℕ) (refusal : Refusal) (excess : Excess) → IsRefusedOn text refusal (Solve Full) → IsLimitedOn text excess (Solve Full) → ⊥
not_both_told text refusal excess broken over =
    refused_limit (ends_alike text 0 (Solve Full) Refused Limit (ends.refused_text (Solve Full) refusal broken) (ends.limited_text (Solve Full) excess over))
