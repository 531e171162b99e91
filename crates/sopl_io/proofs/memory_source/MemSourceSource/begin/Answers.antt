use Rattle.std.proofs.Common.{refl, sym, inl}
use Rattle.sopl_io.proofs.Listed.{neither}
use Rattle.sopl_io.proofs.Places.{text_found}
use Rattle.sopl_io.proofs.memory_source.MemSourceSource.begin.Goals as goal

pub returns-then-is_next_listed-clause-fails : goal.returns-then-is_next_listed-clause-fails
returns-then-is_next_listed-clause-fails c = rw (← c.self.view_is) (λ _. inl (c.is_next_listed.ensures.listed.0 c.if-is_next_listed.true), λ _. refl)

pub returns-in-Some-clause-fails : goal.returns-in-Some-clause-fails
returns-in-Some-clause-fails c =
    let place = text_found c.deref.result.now c.args.name.now c.in-Some.at c.in-Some.ensures in
    let found = rw c.deref.ensures.value at place in
    rw (← c.self.view_is)
    (λ e. absurd (cc), neither c.is_next_listed.ensures.listed.1 c.if-is_next_listed.false (λ none. sym (rw found at none)))
