use Rattle.std.proofs.Common.{rules, arith, ℤ, ◌+ℤ◌, ◌≤◌, unsigned_abs, ap, sym, subst, ◌∙◌}
use Rattle.std.specs.Ordering.{nat_cmp}
use Rattle.std.specs.BTreeMap.{insert_entry}
use Rattle.term_math.specs.declared.combinations.WideCoefficient.{WideCoefficient}
use Rattle.term_math.specs.Sums.{nonzero, mass}
use Rattle.term_math.proofs.Entries.{put_entry, value_mass}
use Rattle.term_math.proofs.Weights.{wide_fits, wide_sum}
use Rattle.term_math.proofs.combinations.put.Goals as goal

pub overflow_add-before : goal.overflow_add-before
overflow_add-before c =
    let is = ap (λ (r : WideCoefficient). r.k) c.value_at-before.ensures in
    let below : unsigned_abs c.value_at-before.result.k ≤ mass (nonzero c.args.cells.now.entries) = subst (λ (z : ℤ). unsigned_abs z ≤ mass (nonzero c.args.cells.now.entries)) (sym is)
    (value_mass c.args.more.now.cell c.args.cells.now.entries) in
    wide_fits c.value_at-before.result.k c.args.more.now.k (search rules) (search rules) (omega (arith, below, c.requires.room))

pub returns : goal.returns
returns c =
    let is = ap (λ (r : WideCoefficient). r.k) c.value_at-before.ensures in
    let below : unsigned_abs c.value_at-before.result.k ≤ mass (nonzero c.args.cells.now.entries) = subst (λ (z : ℤ). unsigned_abs z ≤ mass (nonzero c.args.cells.now.entries)) (sym is)
    (value_mass c.args.more.now.cell c.args.cells.now.entries) in
    let sum = wide_sum c.value_at-before.result.k c.args.more.now.k (search rules) (search rules) (omega (arith, below, c.requires.room)) in
    ap nonzero c.in_ok-insert.ensures.entries
    ∙ ap (λ (z : ℤ). nonzero (insert_entry nat_cmp c.args.cells.now.entries c.args.more.now.cell z)) (sum ∙ ap (λ (z : ℤ). z +ℤ c.args.more.now.k) is)
    ∙ put_entry c.args.more.now.cell c.args.more.now.k c.args.cells.now.entries c.in_ok-insert.ensures.was_ordered
