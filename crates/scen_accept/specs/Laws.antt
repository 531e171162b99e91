-- What is true of all texts.
use Rattle.std.specs.Prelude.{◌≡◌, ℕ, List}
use Rattle.sopl_base.specs.declared.fault.Excess.{Excess}
use Rattle.sopl_base.specs.declared.fault.Refusal.{Refusal}
use Rattle.sopl_ast.specs.Accepted.{AcceptedText, IsLimitedFor, IsRefusedFor}
use Rattle.sopl_ast.specs.Instances.{Problem}
use Rattle.sopl_ast.specs.Limits.{usual_limits}

-- a text is accepted with one problem, or refused by one code at one place, or passes a limit, and no two of these
pub record TextsEndOnce : Type 0 where
  pub one_problem : (text : List ℕ) (p q : Problem) → AcceptedText usual_limits text p → AcceptedText usual_limits text q → p ≡ q
  pub one_refusal : (text : List ℕ) (one other : Refusal) → IsRefusedFor text one → IsRefusedFor text other → one ≡ other
  pub not_refused : (text : List ℕ) (p : Problem) (refusal : Refusal) → AcceptedText usual_limits text p → ¬ IsRefusedFor text refusal
  pub not_limited : (text : List ℕ) (p : Problem) (excess : Excess) → AcceptedText usual_limits text p → ¬ IsLimitedFor usual_limits text excess
  pub refused_alone : (text : List ℕ) (refusal : Refusal) (excess : Excess) → IsRefusedFor text refusal → ¬ IsLimitedFor usual_limits text excess
