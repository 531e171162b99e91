-- The text of a model with so many stages, whose numbers are drawn.
use Rattle.std.specs.Prelude.{ℕ, ◌++◌, List, [], ◌∷◌, map, codes, decimal}
use Rattle.model_gen.specs.declared.drawn_stage.DrawnStage.{DrawnStage}
use Rattle.model_gen.specs.Draws.{drawn_stages}

unfoldable pub first_lines : ℕ → List ℕ
first_lines stages = codes "int n = " ++ decimal stages ++ codes ";\nrange T = 1..n;\n"

-- numbers with a comma and a space between them
abbrev pub other_numbers : List ℕ → List ℕ
other_numbers [] = []
other_numbers (n ∷ numbers) = codes ", " ++ decimal n ++ other_numbers numbers

abbrev pub written_numbers : List ℕ → List ℕ
written_numbers [] = []
written_numbers (n ∷ numbers) = decimal n ++ other_numbers numbers

-- an array over all stages
unfoldable pub array_line : List ℕ → List ℕ → List ℕ
array_line name numbers = codes "int " ++ name ++ codes "[T] = [" ++ written_numbers numbers ++ codes "];\n"

abbrev pub array_lines : List DrawnStage → List ℕ
array_lines stages =
    array_line (codes "price") (map (λ (s : DrawnStage). s.price) stages)
    ++ array_line (codes "cost") (map (λ (s : DrawnStage). s.cost) stages)
    ++ array_line (codes "low") (map (λ (s : DrawnStage). s.low) stages)
    ++ array_line (codes "high") (map (λ (s : DrawnStage). s.high) stages)
    ++ array_line (codes "weight") (map (λ (s : DrawnStage). s.weight) stages)

unfoldable pub variable_lines : List ℕ
variable_lines =
    codes "dvar int x[t in T] in 0..3 stage t;\n"
    ++ codes "stoch int d[t in T] in {low[t]:1, high[t]:weight[t]} stage t;\n"

unfoldable pub goal_line : List ℕ
goal_line = codes "maximize expected(sum(t in T) (price[t]*min(x[t], d[t]) - cost[t]*x[t]));\n"

unfoldable pub constraint_lines : List ℕ
constraint_lines =
    codes "subject to {\n"
    ++ codes "  forall(t in T) sum(s in 1..t) x[s] <= 2*t;\n"
    ++ codes "  prob(sum(t in T) x[t] >= d[1]) >= 1/4;\n"
    ++ codes "}\n"

abbrev pub generated_text : ℕ → ℕ → List ℕ
generated_text stages seed =
    first_lines stages ++ array_lines (drawn_stages stages seed) ++ variable_lines ++ goal_line ++ constraint_lines
