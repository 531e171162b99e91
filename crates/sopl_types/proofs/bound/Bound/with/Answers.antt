use Rattle.sopl_types.specs.Entered.{declared_in}
use Rattle.sopl_types.proofs.Scopes.{tabled_push}
use Rattle.sopl_types.proofs.bound.Bound.with.Goals as goal

-- the table has the new name as the list has it
pub invariant_of-result : goal.invariant_of-result
invariant_of-result c = record {
  tabled = tabled_push (λ other. other.now) c.args.self.names.items c.push.new.self.items c.args.name (declared_in c.args.self.table) (declared_in c.declare.new.self)
      c.in_ok-push.ensures.items c.args.self.tabled c.in_ok-declare.ensures;
}
