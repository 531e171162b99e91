use Rattle.std.proofs.Common.{◌≡◌, ◌∙◌, ◌<◌, arith, false, get_or, length, refl, rules, subst, sym}
use Rattle.term_program.specs.Programs.{with_interval}
use Rattle.prop_shave.specs.Sums.{has_cell}
use Rattle.prop_operands.specs.Kept.{IsOperand}
use Rattle.prop_operands.proofs.Seeing.{ever_there, interval_there, never_there, same_there, seen_more}
use Rattle.prop_operands.proofs.operands.Operands.try_at.Goals as goal

pub returns-then-not-has-clause-seen : goal.returns-then-not-has-clause-seen
returns-then-not-has-clause-seen c = λ is before.
    let b = c.args.store.now.box in
    let part = with_interval b c.args.cell c.args.part.lo c.args.part.hi in
    let list = c.args.self.now.list.items in
    let known = c.args.self.now.known.items in
    let x = c.index.result.now in
    let e = c.index-then-not-has.result.now in
    let at : c.index.result.now ≡ get_or c.args.self.now.list.items c.args.place c.index.result.now = search rules in
    let here : c.index-then-not-has.result.now ≡ get_or c.args.self.now.known.items c.args.place c.index-then-not-has.result.now = search rules in
    let nowhere : has_cell c.args.cell c.index.result.now.cells.items ≡ false = search rules in
    let below : c.args.place < length c.args.self.now.known.items = omega (arith, c.requires.exists, c.requires.operands.known) in
    let operand = subst (IsOperand c.args.program.now) (sym at) (c.requires.operands.each c.args.place x c.requires.exists) in
    let same = same_there c.args.program.now b c.args.cell c.args.part.lo c.args.part.hi x operand nowhere in
    seen_more c.args.program.now part list c.args.self.now.tried.items _ c.args.place x e c.requires.exists c.requires.operands.tried at refl
    (interval_there c.args.program.now b list known c.args.place x e c.requires.seen.spans c.requires.exists at here below ∙ sym same.0)
    (λ never. ever_there c.args.program.now b list c.args.place x c.requires.exists at c.requires.seen.defined (sym same.1 ∙ never)) before

pub returns-then-is_never-clause-never : goal.returns-then-is_never-clause-never
returns-then-is_never-clause-never c = λ is.
    let at : c.index-2.result.now ≡ get_or c.args.self.now.list.items c.args.place c.index-2.result.now = search rules in
    never_there c.args.program.now (with_interval c.args.store.now.box c.args.cell c.args.part.lo c.args.part.hi) c.args.self.now.list.items c.args.place c.index-2.result.now
    c.requires.exists at (sym c.range_in-range.ensures.mark ∙ c.is_never.ensures.never c.if-is_never.true)

pub returns-clause-seen : goal.returns-clause-seen
returns-clause-seen c = λ is before.
    let at : c.index-2.result.now ≡ get_or c.args.self.now.list.items c.args.place c.index-2.result.now = search rules in
    seen_more c.args.program.now (with_interval c.args.store.now.box c.args.cell c.args.part.lo c.args.part.hi) c.args.self.now.list.items c.args.self.now.tried.items _ c.args.place
    c.index-2.result.now c.ends_of_range.result c.requires.exists c.requires.operands.tried at refl (c.ends_of_range.ensures ∙ c.range_in-range.ensures.interval)
    (λ never. c.is_never.ensures.ever c.if-is_never.false (c.range_in-range.ensures.mark ∙ never)) before
