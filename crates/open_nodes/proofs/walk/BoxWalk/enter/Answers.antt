use Rattle.std.proofs.Common.{refl, ap}
use Rattle.open_nodes.proofs.Arriving.{arrived, begun, cut_there, pointed}
use Rattle.open_nodes.proofs.Remaking.{all_below, all_descend, all_made_again}
use Rattle.open_nodes.proofs.walk.BoxWalk.enter.Goals as goal

pub take_side-requires : goal.take_side-requires
take_side-requires c =
    let known = c.requires.known in
    let going = begun known.0 known.1 c.args.self.now c.meet.new.self c.settle.new.self (pointed c.meet.new.down.items) c.args.split.now known.2 (c.meet.ensures.at known.0 known.1)
    (c.in_ok-settle.ensures.at known.0 known.1) c.settle.ensures.here c.in_ok-settle.ensures.top c.in_ok-meet.ensures.met in
    record { cut = cut_there known.0 known.1 c.go_down.new.self c.args.split.now (c.in_ok-go_down.ensures.gone known.0 known.1 going) }

pub returns : goal.returns
returns c = record {
  entered = λ root f known.
      let going = begun root f c.args.self.now c.meet.new.self c.settle.new.self (pointed c.meet.new.down.items) c.args.split.now known (c.meet.ensures.at root f)
      (c.in_ok-settle.ensures.at root f) c.settle.ensures.here c.in_ok-settle.ensures.top c.in_ok-meet.ensures.met in
      arrived root f c.go_down.new.self _ c.args.split.now c.args.side c.take_side.result (c.in_ok-go_down.ensures.gone root f going) refl c.take_side.ensures.marks c.take_side.ensures.box_is;
  remade = all_made_again _ c.meet.new.self.here.items (pointed c.meet.new.down.items) c.args.split.now c.args.remade.now.items c.go_down.new.remade.items c.push.new.self.items
      c.take_side.result c.meet.ensures.left c.in_ok-meet.ensures.met c.in_ok-meet.ensures.apart c.in_ok-go_down.ensures.listed c.in_ok-push.ensures.items;
  descends = λ falls way_falls. all_descend _ c.meet.new.self.here.items c.settle.new.self.here.items c.go_down.new.self.here.items (pointed c.meet.new.down.items) c.args.split.now
      c.take_side.result c.meet.ensures.left c.in_ok-meet.ensures.met (ap (λ here. here.items) c.settle.ensures.here) c.in_ok-go_down.ensures.here falls way_falls;
  below = λ most old_below way_below. all_below most _ c.meet.new.self.here.items c.settle.new.self.here.items c.go_down.new.self.here.items (pointed c.meet.new.down.items) c.args.split.now
      c.take_side.result c.meet.ensures.left c.in_ok-meet.ensures.met (ap (λ here. here.items) c.settle.ensures.here) c.in_ok-go_down.ensures.here old_below way_below;
}
