use Rattle.sopl_search.proofs.Entering.{enters, some_known}
use Rattle.sopl_search.proofs.bounding.enter.Goals as goal

pub enter-requires : goal.enter-requires
enter-requires c = record { known = some_known c.args.walk.now c.args.node.now c.in-Some.split c.deref.result.now c.in-Some.is c.deref.ensures c.requires.known }

pub returns-in-Some : goal.returns-in-Some
returns-in-Some c = record {
  entered = λ problem rows able. enters problem rows c.args.walk.now c.enter.new.self c.args.node.now c.in-Some.split c.deref.result.now c.enter.result c.in-Some.is c.deref.ensures able
      c.enter.ensures.entered c.enter.ensures.below;
}
