use Rattle.std.proofs.Common.{rules, ◌≤◌, ◌<◌, sym, ◌∙◌, length}
use Rattle.compile_names.proofs.Planning.{origin_more, origins_end}
use Rattle.compile_names.proofs.There.{exists_more}
use Rattle.compile_names.proofs.arrays.origins_at.Goals as goal

pub order-preserved : goal.order-preserved
order-preserved c =
    let within : c.order.place-index < length c.args.order.now = search rules in (
      (λ tree i.
          origin_more c.args.sources.now c.args.order.now c.order.place-index _ c.origin_at.result c.order.origins.items c.push.new.self.items within c.origin_at.ensures.item
          c.in_ok-push.ensures.items tree i
          ∙ c.order.invariant.0 tree i),
      (λ drawn decided there.
          exists_more drawn decided c.order.origins.items c.push.new.self.items c.origin_at.result c.in_ok-push.ensures.items (c.origin_at.ensures.origins_exist drawn decided there)
          (c.order.invariant.1 drawn decided there)),
    )

pub returns-clause-items : goal.returns-clause-items
returns-clause-items c tree i =
    let past : length c.args.order.now ≤ c.order.place-index = search rules in
    sym (origins_end c.args.sources.now c.args.order.now c.order.place-index c.order.origins.items past tree i) ∙ c.order.invariant.0 tree i

pub returns-clause-origins_exist : goal.returns-clause-origins_exist
returns-clause-origins_exist c = c.order.invariant.1
