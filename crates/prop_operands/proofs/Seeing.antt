-- What is seen of operands, one after the other.
use Rattle.std.proofs.Common.{◌≡◌, ◌∙◌, refl, ap, ap₂, sym, subst, ℕ, zero, suc, ◌+◌, ◌<◌, ℤ, false, List, [], ◌∷◌, ◌++◌, length, get_or, set, take, arith}
use Rattle.std.proofs.lemmas.List.{map-append, take_more, take_more_set}
use Rattle.box_problem.specs.Box.{Box}
use Rattle.term_language.specs.Ends as rule
use Rattle.term_language.specs.Marks.{all_marks, both}
use Rattle.term_language.specs.Mentions.{mentions}
use Rattle.term_language.specs.Rules.{Near, interval, intervals, mark, marks}
use Rattle.term_language.specs.Terms.{term}
use Rattle.term_language.specs.declared.answers.Defined.{Defined}
use Rattle.term_language.specs.declared.answers.Defined.TheVariants.{Never, Always}
use Rattle.term_language.proofs.Agreement.{intervals_agree, marks_agree}
use Rattle.term_language.proofs.Marks.{both_never, both_not_never}
use Rattle.term_math.specs.Shown.{ends_of}
use Rattle.term_math.specs.declared.ends.Ends.{Ends}
use Rattle.term_nodes.specs.Things.{Thing, term_at, terms_at}
use Rattle.term_program.specs.Programs.{root_in, things_in, with_interval}
use Rattle.term_program.specs.declared.program.Program.{Program}
use Rattle.term_windows.specs.Windows.{spans}
use Rattle.prop_shave.specs.Sums.{has_cell}
use Rattle.prop_shave.proofs.Mentioned.{listed_is, untouched, with_agrees}
use Rattle.prop_operands.specs.Kept.{AreSeen, IsOperand, operand_ids, operand_term, operand_terms, operands_mark}
use Rattle.prop_operands.specs.declared.operands.Operand.{Operand}

always_ever : ¬ Always ≡ Never
always_ever is = cc

first_ever : (m n : Defined) → ¬ both m n ≡ Never → ¬ m ≡ Never
first_ever m n ever is = ever (ap (λ (d : Defined). both d n) is)

second_ever : (m n : Defined) → ¬ both m n ≡ Never → ¬ n ≡ Never
second_ever m n ever is = ever (ap (both m) is ∙ both_never m)

-- where one operand is Never defined, so are all together
pub never_there : (program : Program) (b : Box) (list : List Operand) (place : ℕ) (x : Operand) → place < length list → x ≡ get_or list place x
    → mark Near (root_in program) b (operand_term program x) ≡ Never → operands_mark program list b ≡ Never
never_there program b [] place x exists at is = absurd (omega (arith, exists))
never_there program b (first ∷ list) zero x exists at is =
    ap (λ (d : Defined). both d (operands_mark program list b)) (ap (λ (y : Operand). mark Near (root_in program) b (operand_term program y)) (sym at) ∙ is)
never_there program b (first ∷ list) (suc place) x exists at is =
    ap (both (mark Near (root_in program) b (operand_term program first))) (never_there program b list place x (omega (arith, exists)) at is)
    ∙ both_never (mark Near (root_in program) b (operand_term program first))

-- and where they are not, none is
pub ever_there : (program : Program) (b : Box) (list : List Operand) (place : ℕ) (x : Operand) → place < length list → x ≡ get_or list place x → ¬ operands_mark program list b ≡ Never
    → ¬ mark Near (root_in program) b (operand_term program x) ≡ Never
ever_there program b list place x exists at ever is = ever (never_there program b list place x exists at is)

-- one more behind several
mark_more : (root b : Box) (all : List Thing) (ids : List ℕ) (id : ℕ) → ¬ all_marks (marks Near root b (terms_at all ids)) ≡ Never → ¬ mark Near root b (term_at all id) ≡ Never
    → ¬ all_marks (marks Near root b (terms_at all (ids ++ id ∷ []))) ≡ Never
mark_more root b all [] id before here = both_not_never (mark Near root b (term_at all id)) Always here always_ever
mark_more root b all (x ∷ ids) id before here =
    let m = mark Near root b (term_at all x) in
    let n = all_marks (marks Near root b (terms_at all ids)) in
    both_not_never m (all_marks (marks Near root b (terms_at all (ids ++ id ∷ [])))) (first_ever m n before) (mark_more root b all ids id (second_ever m n before) here)

interval_more : (root b : Box) (all : List Thing) (ids : List ℕ) (id : ℕ)
    → intervals Near root b (terms_at all (ids ++ id ∷ [])) ≡ intervals Near root b (terms_at all ids) ++ interval Near root b (term_at all id) ∷ []
interval_more root b all [] id = refl
interval_more root b all (x ∷ ids) id = ap (λ (es : List rule.Ends). interval Near root b (term_at all x) ∷ es) (interval_more root b all ids id)

ids_more : (list : List Operand) (place : ℕ) (x : Operand) → place < length list → x ≡ get_or list place x → operand_ids (take (place + 1) list) ≡ operand_ids (take place list) ++ x.term.0 ∷ []
ids_more list place x exists at =
    ap operand_ids (take_more list place x exists)
    ∙ map-append (λ (y : Operand). y.term.0) (take place list) (get_or list place x ∷ [])
    ∙ ap (λ (y : Operand). operand_ids (take place list) ++ y.term.0 ∷ []) (sym at)

pub seen_more : (program : Program) (b : Box) (list : List Operand) (es new : List Ends) (place : ℕ) (x : Operand) (e : Ends) → place < length list → length es ≡ length list
    → x ≡ get_or list place x → new ≡ set es place e → ends_of e ≡ interval Near (root_in program) b (operand_term program x) → ¬ mark Near (root_in program) b (operand_term program x) ≡ Never
    → AreSeen program b (take place list) (take place es) → AreSeen program b (take (place + 1) list) (take (place + 1) new)
seen_more program b list es new place x e exists paired at put is ever before =
    let root = root_in program in
    let all = things_in program in
    let ids = ids_more list place x exists at in
    record {
      defined =
          subst (λ (ns : List ℕ). ¬ all_marks (marks Near root b (terms_at all ns)) ≡ Never) (sym ids)
          (mark_more root b all (operand_ids (take place list)) x.term.0 before.defined ever);
      spans =
          ap (λ (ys : List Ends). spans (take (place + 1) ys)) put
          ∙ ap spans (take_more_set es place e (omega (arith, exists, paired)))
          ∙ map-append ends_of (take place es) (e ∷ [])
          ∙ ap₂ (λ (ys : List rule.Ends) (y : rule.Ends). ys ++ y ∷ []) before.spans is
          ∙ sym (interval_more root b all (operand_ids (take place list)) x.term.0)
          ∙ ap (λ (ns : List ℕ). intervals Near root b (terms_at all ns)) (sym ids);
    }

-- the interval of one of those that are seen
pub interval_there : (program : Program) (b : Box) (list : List Operand) (es : List Ends) (place : ℕ) (x : Operand) (e : Ends) → spans es ≡ intervals Near (root_in program) b (operand_terms program list)
    → place < length list → x ≡ get_or list place x → e ≡ get_or es place e → place < length es → ends_of e ≡ interval Near (root_in program) b (operand_term program x)
interval_there program b [] es place x e spans exists at here below = absurd (omega (arith, exists))
interval_there program b (first ∷ list) [] place x e spans exists at here below = absurd (omega (arith, below))
interval_there program b (first ∷ list) (head ∷ es) zero x e spans exists at here below =
    ap ends_of here
    ∙ ap (λ (ys : List rule.Ends). get_or ys 0 (ends_of e)) spans
    ∙ ap (λ (y : Operand). interval Near (root_in program) b (operand_term program y)) (sym at)
interval_there program b (first ∷ list) (head ∷ es) (suc place) x e spans exists at here below =
    interval_there program b list es place x e (ap behind spans) (omega (arith, exists)) at here (omega (arith, below))
  where
    behind : List rule.Ends → List rule.Ends
    behind [] = []
    behind (y ∷ ys) = ys

-- what does not mention a cell is as it was where the cell has another interval
pub same_there : (program : Program) (b : Box) (cell : ℕ) (lo hi : ℤ) (x : Operand) → IsOperand program x → has_cell cell x.cells.items ≡ false
    → (interval Near (root_in program) (with_interval b cell lo hi) (operand_term program x) ≡ interval Near (root_in program) b (operand_term program x))
    × (mark Near (root_in program) (with_interval b cell lo hi) (operand_term program x) ≡ mark Near (root_in program) b (operand_term program x))
same_there program b cell lo hi x is nowhere =
    let root = root_in program in
    let t = operand_term program x in
    let none : has_cell cell (mentions root t) ≡ false = sym (listed_is cell (mentions root t) x.cells.items is.cells) ∙ nowhere in
    let agree = with_agrees (mentions root t) b cell lo hi (untouched cell (mentions root t) none) in
    (intervals_agree Near root (with_interval b cell lo hi) b t agree, marks_agree Near root (with_interval b cell lo hi) b t agree)
