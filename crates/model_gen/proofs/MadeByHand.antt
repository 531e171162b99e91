-- Texts that were made by hand.
use Rattle.std.proofs.Common.{◌≡◌, refl, ◌++◌, codes}
use Rattle.std.specs.Fmt.{digits}
use Rattle.model_gen.specs.Draws.{drawn_below, next_state}
use Rattle.model_gen.specs.Texts.{array_line, constraint_lines, first_lines, generated_text, goal_line, variable_lines}

pub one_stage : generated_text 1 1
    ≡ codes "int n = 1;\nrange T = 1..n;\nint price[T] = [7];\nint cost[T] = [2];\n"
    ++ codes "int low[T] = [1];\nint high[T] = [3];\nint weight[T] = [2];\n" ++ variable_lines ++ goal_line ++ constraint_lines
unfolding digits drawn_below next_state first_lines array_line
one_stage = refl

pub two_stages : generated_text 2 7
    ≡ codes "int n = 2;\nrange T = 1..n;\nint price[T] = [8, 4];\nint cost[T] = [3, 1];\n"
    ++ codes "int low[T] = [0, 0];\nint high[T] = [1, 2];\nint weight[T] = [3, 3];\n" ++ variable_lines ++ goal_line ++ constraint_lines
unfolding digits drawn_below next_state first_lines array_line
two_stages = refl
