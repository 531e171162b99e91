use Rattle.std.proofs.Common.{◌≡◌, ap, ◌∙◌, option_map}
use Rattle.sopl_ast.specs.TermNodes.{nodes, objective_nodes}
use Rattle.sopl_ast.specs.Unfolding.{problem_of}
use Rattle.sopl_ast.specs.WholeModel.{goal_tree, whole}
use Rattle.unfold_constants.specs.Here.{known_in}
use Rattle.compile_counts.specs.Counted.{capped}
use Rattle.compile_counts.specs.declared.counts.Nodes.{Nodes}
use Rattle.compile_counts.proofs.Placed.{if_ok, no_goal, goal_nodes, goal_walked}
use Rattle.compile_counts.proofs.instance_counts.nodes_of_objective.Goals as goal

pub nodes_of-requires : goal.nodes_of-requires
nodes_of-requires c =
    record {
      walked = goal_walked (whole c.args.model.now) (known_in c.new-known.result) (c.new-known.ensures ∙ c.requires.known) (goal_tree c.in-Some.goal) c.requires.passes
          (ap (option_map goal_tree) c.in-Some.is);
    }

pub returns-in-None : goal.returns-in-None
returns-in-None c =
    record {
      nodes = c.none.ensures.none
          ∙ ap capped (no_goal (whole c.args.model.now) (known_in c.new-known.result) (c.new-known.ensures ∙ c.requires.known) (ap (option_map goal_tree) c.in-None.is));
    }

pub returns : goal.returns
returns c =
    record {
      nodes = if_ok (λ (n : Nodes). n.count ≡ capped (nodes (known_in c.new-known.result) c.in-Some.goal.expr))
          (λ (n : Nodes). n.count ≡ capped (objective_nodes (problem_of (whole c.args.model.now))))
          (λ n counted. counted
          ∙ ap capped (goal_nodes (whole c.args.model.now) (known_in c.new-known.result) (c.new-known.ensures ∙ c.requires.known) (goal_tree c.in-Some.goal)
          (ap (option_map goal_tree) c.in-Some.is))) c.nodes_of.result c.nodes_of.ensures.nodes;
    }
