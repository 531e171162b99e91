use Rattle.std.proofs.Common.{◌≡◌, ◌∙◌, ℕ, map, refl, rules, subst, sym}
use Rattle.prop_chance.specs.UpToDate.{AreMentioning}
use Rattle.prop_chance.proofs.Outdating.{listed_alike, told_alike}
use Rattle.prop_chance.proofs.outdated.Outdated.let_told_wait.Goals as goal

pub let_cell_wait-requires : goal.let_cell_wait-requires
let_cell_wait-requires g c = record {
  lists = (
    c.requires.lists.0,
    subst (λ (n : ℕ). AreMentioning c.requires.lists.0 n c.args.cells.now (map g.L.NumberList.numbers c.args.lists.now)) (sym c.cells.invariant.count) c.requires.lists.1,
  );
}

pub cells-preserved : goal.cells-preserved
cells-preserved g c = record {
  wait = λ mentions number are fresh.
      c.cells.invariant.wait mentions number are
      (c.let_cell_wait.ensures.wait mentions c.cells.self number
      (subst (λ (n : ℕ). AreMentioning mentions n c.args.cells.now (map g.L.NumberList.numbers c.args.lists.now)) (sym c.cells.invariant.count) are) refl (search rules) fresh);
  listed = λ are. c.let_cell_wait.ensures.listed (listed_alike c.cells.self _ refl refl refl (c.cells.invariant.listed are));
  count = c.let_cell_wait.ensures.count ∙ c.cells.invariant.count;
}

pub returns-clause-wait : goal.returns-clause-wait
returns-clause-wait g c = λ mentions number are fresh.
    let none_more : c.pop.new.self.items ≡ c.cells.self.told.items = search rules in
    c.cells.invariant.wait mentions number are (told_alike mentions number c.cells.self _ refl none_more fresh)

pub returns-clause-listed : goal.returns-clause-listed
returns-clause-listed g c = λ are. listed_alike c.cells.self _ refl refl refl (c.cells.invariant.listed are)
