use Rattle.std.proofs.Common.{◌≡◌, ◌∙◌, ◌<◌, ◌+◌, ◌++◌, ◌∷◌, [], ap, false, arith, length, length-append, refl, rules, ℕ}
use Rattle.prop_chance.specs.Deciding.{if_some_map}
use Rattle.prop_chance.specs.UpToDate.{AreListed, AreListedBut, left_to_see}
use Rattle.prop_core.specs.Watches.{waits_at}
use Rattle.prop_chance.proofs.Outdating.{first_less, if_none_map, listed_less, none_left}
use Rattle.prop_chance.proofs.outdated.Outdated.take_number.Goals as goal

pub returns-in-Some : goal.returns-in-Some
returns-in-Some c =
    let is : c.args.self.now.listed.items ≡ c.pop.new.self.items ++ c.in-Some.number ∷ [] = search rules in
    let fewer = ap length is ∙ length-append c.pop.new.self.items (c.in-Some.number ∷ []) in
    record {
      taken = listed_less c.args.self.now _ c.in-Some.number refl is refl;
      fewer = omega (arith, fewer);
      calm = tt;
      waits = refl;
      told = refl;
    }

pub returns-in-None : goal.returns-in-None
returns-in-None c =
    let none : c.args.self.now.listed.items ≡ [] = search rules in
    let same : c.pop.new.self.items ≡ c.args.self.now.listed.items = search rules in
    let old = c.args.self.now in
    let new = c.take_unlisted.new.self in
    record {
      taken = if_some_map c.take_unlisted.result (λ n. (n + 1 ≡ old.unlisted) × (new.unlisted ≡ n)) (λ n. AreListed old → AreListedBut n new)
          (λ n taken. first_less old new n c.take_unlisted.ensures.waits (ap (λ list. list.items) c.take_unlisted.ensures.listed ∙ same) taken) c.take_unlisted.ensures.taken;
      fewer = if_some_map c.take_unlisted.result (λ n. (n + 1 ≡ old.unlisted) × (new.unlisted ≡ n)) (λ n. left_to_see new < left_to_see old)
          (λ n taken.
          let before = taken.0 in
          let after = taken.1 in
          let many = ap (λ list. length list.items) c.take_unlisted.ensures.listed ∙ ap length same in
          omega (arith, before, after, many))
          c.take_unlisted.ensures.taken;
      calm = if_none_map c.take_unlisted.result (old.unlisted ≡ 0) (AreListed old → (k : ℕ) → k < length old.waits.items → waits_at old.waits.items k ≡ false)
          (λ first. none_left old none first) c.take_unlisted.ensures.none;
      waits = c.take_unlisted.ensures.waits;
      told = c.take_unlisted.ensures.told;
    }
