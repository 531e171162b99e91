use Rattle.std.proofs.Common.{◌≡◌, ◌∙◌, get_or, refl, rules, sym}
use Rattle.prop_operands.proofs.Seeing.{never_there, seen_more}
use Rattle.prop_operands.proofs.operands.Operands.look_at.Goals as goal

pub returns-then-is_never-clause-never : goal.returns-then-is_never-clause-never
returns-then-is_never-clause-never c = λ is.
    let at : c.index.result.now ≡ get_or c.args.self.now.list.items c.args.place c.index.result.now = search rules in
    never_there c.args.program.now c.args.store.now.box c.args.self.now.list.items c.args.place c.index.result.now c.requires.exists at
    (sym c.range_of-range.ensures.mark ∙ c.is_never.ensures.never c.if-is_never.true)

pub returns-clause-seen : goal.returns-clause-seen
returns-clause-seen c = λ is before.
    let at : c.index.result.now ≡ get_or c.args.self.now.list.items c.args.place c.index.result.now = search rules in
    seen_more c.args.program.now c.args.store.now.box c.args.self.now.list.items c.args.self.now.known.items _ c.args.place c.index.result.now c.ends_of_range.result
    c.requires.exists c.requires.operands.known at refl (c.ends_of_range.ensures ∙ c.range_of-range.ensures.interval)
    (λ never. c.is_never.ensures.ever c.if-is_never.false (c.range_of-range.ensures.mark ∙ never)) before
