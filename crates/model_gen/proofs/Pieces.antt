-- Draws as they are computed, and the pieces of a text.
use Rattle.std.proofs.Common.{◌≡◌, refl, sym, ap, ◌∙◌, ℕ, suc, ◌+◌, ◌-◌, ◌*◌, ◌/◌, ◌%◌, ◌<◌, ◌++◌, List, [], ◌∷◌, codes, decimal, arith}
use Rattle.std.proofs.lemmas.List.{append_assoc}
use Rattle.model_gen.specs.Draws.{drawn_below, drawn_stage, drawn_stages, next_state, state_after}
use Rattle.model_gen.specs.declared.drawn_stage.DrawnStage.{DrawnStage}
use Rattle.model_gen.specs.Texts.{array_line, constraint_lines, first_lines, goal_line, variable_lines, written_numbers}

pub next_is : (state : ℕ) → (state * 1103515245 + 12345) % 2147483648 ≡ next_state state
unfolding next_state
next_is state = refl

pub drawn_is : (state n : ℕ) → (state / 65536) % n ≡ drawn_below n state
unfolding drawn_below
drawn_is state n = refl

pub stages_step : (stages i state : ℕ) (items total : List DrawnStage) → items ++ drawn_stages (stages - i) state ≡ total → i < stages
    → (items ++ drawn_stage state ∷ []) ++ drawn_stages (stages - (i + 1)) (state_after 5 state) ≡ total
stages_step stages i state items total is less =
    let left : stages - i ≡ suc (stages - (i + 1)) = omega (arith, less) in
    append_assoc items (drawn_stage state ∷ []) (drawn_stages (stages - (i + 1)) (state_after 5 state))
    ∙ ap (λ n. items ++ drawn_stages n state) (sym left) ∙ is

pub variables_are : codes "dvar int x[t in T] in 0..3 stage t;\nstoch int d[t in T] in {low[t]:1, high[t]:weight[t]} stage t;\n" ≡ variable_lines
unfolding variable_lines
variables_are = refl

pub goal_is : codes "maximize expected(sum(t in T) (price[t]*min(x[t], d[t]) - cost[t]*x[t]));\n" ≡ goal_line
unfolding goal_line
goal_is = refl

pub constraints_are : codes "subject to {\n  forall(t in T) sum(s in 1..t) x[s] <= 2*t;\n  prob(sum(t in T) x[t] >= d[1]) >= 1/4;\n}\n" ≡ constraint_lines
unfolding constraint_lines
constraints_are = refl

pub first_opened : (before : List ℕ) (stages : ℕ) → ((before ++ codes "int n = ") ++ decimal stages) ++ codes ";\nrange T = 1..n;\n" ≡ before ++ first_lines stages
unfolding first_lines
first_opened before stages =
    append_assoc (before ++ codes "int n = ") (decimal stages) (codes ";\nrange T = 1..n;\n")
    ∙ append_assoc before (codes "int n = ") (decimal stages ++ codes ";\nrange T = 1..n;\n")

-- a piece more behind what was added
added_more : (before added piece now : List ℕ) → now ≡ before ++ added → now ++ piece ≡ before ++ (added ++ piece)
added_more before added piece now is = ap (λ (xs : List ℕ). xs ++ piece) is ∙ append_assoc before added piece

pub array_opened : (before name : List ℕ) (numbers : List ℕ)
    → (((((before ++ codes "int ") ++ name) ++ codes "[T] = [") ++ written_numbers numbers) ++ codes "];\n") ≡ before ++ array_line name numbers
unfolding array_line
array_opened before name numbers =
    added_more before (((codes "int " ++ name) ++ codes "[T] = [") ++ written_numbers numbers) (codes "];\n") _
    (added_more before ((codes "int " ++ name) ++ codes "[T] = [") (written_numbers numbers) _
    (added_more before (codes "int " ++ name) (codes "[T] = [") _
    (added_more before (codes "int ") name _ refl)))
