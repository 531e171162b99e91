use Rattle.std.proofs.Common.{◌<◌, ◌^◌, refl, rules}
use Rattle.sopl_search.proofs.Taken.{depth_small, entered_inside, is_worked, some_entered, some_shallow}
use Rattle.sopl_search.proofs.frontier.Frontier.work.Goals as goal

pub depth_of-depth-requires : goal.depth_of-depth-requires
depth_of-depth-requires g c = record {
  shallow = some_shallow (g.P.Propagator.problem c.args.program.now) _ c.args.seat c.args.self.now c.take-node.new.self c.take-node.result c.requires.keeps c.take-node.ensures.taken;
}

pub enter-requires : goal.enter-requires
enter-requires g c = record {
  known = some_entered (g.P.Propagator.problem c.args.program.now) _ c.args.seat c.args.self.now c.take-node.new.self c.take-node.result c.requires.keeps c.take-node.ensures.taken;
}

pub overflow_cast-depth : goal.overflow_cast-depth
overflow_cast-depth g c =
    let few : c.depth_of-depth.result < 2 ^ 32 =
    depth_small (g.P.Propagator.problem c.args.program.now) _ c.args.seat c.args.self.now c.take-node.new.self c.take-node.result c.depth_of-depth.result c.requires.keeps c.take-node.ensures.taken
    c.depth_of-depth.ensures.depth in
    search rules

pub finish-requires-clause-inside : goal.finish-requires-clause-inside
finish-requires-clause-inside g c =
    entered_inside (g.P.Propagator.problem c.args.program.now) _ c.args.seat c.args.self.now c.take-node.new.self c.take-node.result c.enter.new.walk c.requires.keeps c.requires.stands
    c.take-node.ensures.taken c.in_ok-enter.ensures.entered

pub returns-clause-worked : goal.returns-clause-worked
returns-clause-worked g c =
    λ rows keeps. is_worked (g.P.Propagator.problem c.args.program.now) _ rows c.args.seat c.args.self.now c.take-node.new.self _ c.enter.new.walk _ c.value-best.result _ c.new-steps.result keeps
    c.take-node.ensures.taken c.in_ok-enter.ensures.entered c.depth_of-depth.ensures.depth c.value-best.ensures c.new-steps.ensures.empty c.finish.ensures.steps c.finish.ensures.marks (search rules)
    c.in_ok-end.ensures.ends refl refl refl refl refl refl
