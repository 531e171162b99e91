use Rattle.compile_names.proofs.Noting.{place_stays, place_comes}
use Rattle.compile_names.proofs.first_places.Places.note.Goals as goal

pub returns-then-is_some : goal.returns-then-is_some
returns-then-is_some c =
    place_stays c.get.result c.is_some.result c.args.self.now.first.entries c.args.index.now c.args.place c.is_some.ensures c.if-is_some.true c.get.ensures.value

pub returns : goal.returns
returns c =
    place_comes c.get.result c.is_some.result c.args.self.now.first.entries c.insert.new.self.entries c.in_ok-key.key c.args.index.now c.args.place c.is_some.ensures
    c.if-is_some.false c.get.ensures.value c.in_ok-key.ensures.items c.in_ok-insert.ensures.entries
