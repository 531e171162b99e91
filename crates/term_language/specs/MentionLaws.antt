-- What the cells that are mentioned decide.
use Rattle.std.specs.Prelude.{◌≡◌, ℕ, ℤ, List, All, Contains}
use Rattle.box_problem.specs.Box.{Box}
use Rattle.term_language.specs.Terms.{Term, Cond}
use Rattle.term_language.specs.Ends.{cell_ends}
use Rattle.term_language.specs.Forms.{Coefficient}
use Rattle.term_language.specs.Rules.{Reading, form, interval, mark, truth}
use Rattle.term_language.specs.Values.{cell_value, value, holds}
use Rattle.term_language.specs.Laws.{IsProper, IsProperCond}
use Rattle.term_language.specs.Mentions.{mentions, cond_mentions}

-- two boxes give each of these cells the same interval; two points give each the same value
abbrev pub BoxesAgree : List ℕ → Box → Box → Type 0
BoxesAgree cells b c = All (λ cell. cell_ends b cell ≡ cell_ends c cell) cells

abbrev pub PointsAgree : List ℕ → List ℤ → List ℤ → Type 0
PointsAgree cells p q = All (λ cell. cell_value p cell ≡ cell_value q cell) cells

-- each cell of the linear form of a number expression is one that it mentions
abbrev pub FormsAreMentioned : Type 0
FormsAreMentioned = (root : Box) (t : Term) → All (λ (c : Coefficient). Contains (mentions root t) c.cell) (form root t).cells

-- boxes that agree on the cells that a number expression mentions give it the same interval and the same mark, whatever the reading
abbrev pub IntervalsAgree : Type 0
IntervalsAgree =
    (reading : Reading) (root b c : Box) (t : Term) → BoxesAgree (mentions root t) b c
    → interval reading root b t ≡ interval reading root c t

abbrev pub MarksAgree : Type 0
MarksAgree =
    (reading : Reading) (root b c : Box) (t : Term) → BoxesAgree (mentions root t) b c
    → mark reading root b t ≡ mark reading root c t

-- and a condition the same truth
abbrev pub TruthsAgree : Type 0
TruthsAgree =
    (reading : Reading) (root b c : Box) (cond : Cond) → BoxesAgree (cond_mentions root cond) b c
    → truth reading root b cond ≡ truth reading root c cond

-- points that agree on these cells give it the same value, and a condition the same truth
abbrev pub ValuesAgree : Type 0
ValuesAgree =
    (root : Box) (p q : List ℤ) (t : Term) → IsProper t → PointsAgree (mentions root t) p q → value p t ≡ value q t

abbrev pub HoldingAgrees : Type 0
HoldingAgrees =
    (root : Box) (p q : List ℤ) (c : Cond) → IsProperCond c → PointsAgree (cond_mentions root c) p q → holds p c ≡ holds q c
