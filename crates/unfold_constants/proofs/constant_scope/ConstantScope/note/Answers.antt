use Rattle.std.proofs.Common.{rules, ◌≡◌, sym, ap, ◌∙◌, length}
use Rattle.unfold_constants.proofs.Placing.{kept_place, passed_placed}
use Rattle.unfold_constants.proofs.constant_scope.ConstantScope.note.Goals as goal

pub invariant_of-self-in-None : goal.invariant_of-self-in-None
invariant_of-self-in-None c =
    let self = c.args.self.now in
    let end : c.len-end.result ≡ length self.bound.items = search rules in
    record {
      passed = passed_placed c.insert.result self.indexed self.places c.insert.new.self.entries self.bound.items _ c.args.name.now _
          (ap (λ bytes. kept_place bytes self.places.entries) (sym c.as_slice.ensures.bytes) ∙ sym c.get.ensures.value ∙ sym c.copied.ensures ∙ c.in-None.is)
          c.as_slice-in-None.ensures.bytes end c.insert.ensures.entries c.insert.ensures.err self.passed;
    }
