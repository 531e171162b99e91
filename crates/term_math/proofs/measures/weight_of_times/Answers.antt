use Rattle.std.proofs.Common.{◌≡◌, ℕ, ◌*◌, max, unsigned_abs, ap, sym, ◌∙◌}
use Rattle.term_math.specs.Shown.{ends_of}
use Rattle.term_math.proofs.Products.{weight_times}
use Rattle.term_math.proofs.measures.weight_of_times.Goals as goal

pub returns : goal.returns
returns c =
    let left : c.from.result ≡ max (unsigned_abs c.args.a.now.low) (unsigned_abs c.args.a.now.high) = c.from.ensures ∙ c.greatest.ensures in
    let right : c.from-2.result ≡ max (unsigned_abs c.args.b.now.low) (unsigned_abs c.args.b.now.high) = c.from-2.ensures ∙ c.greatest-2.ensures in
    let most : c.max.result ≡ max (c.from.result * c.from-2.result) 1 = c.max.ensures in
    most ∙ ap (λ (n : ℕ). max (n * c.from-2.result) 1) left
    ∙ ap (λ (n : ℕ). max (max (unsigned_abs c.args.a.now.low) (unsigned_abs c.args.a.now.high) * n) 1) right
    ∙ sym (weight_times (ends_of c.args.a.now) (ends_of c.args.b.now))
