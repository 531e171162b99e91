-- Elements of arrays over a box.
use Rattle.std.proofs.Common.{◌≡◌, ℕ, ◌<◌, pos, Bool, true, false, List, [], ◌∷◌, ◌++◌, length, ap, subst, sym, ◌∙◌}
use Rattle.box_problem.specs.Box.{Box}
use Rattle.term_language.specs.Arrays.{indices}
use Rattle.term_language.specs.Ends as ends
use Rattle.term_language.specs.Marks.{all_marks}
use Rattle.term_language.specs.Rules.{Reading, Near, form, marks, intervals, unless_folded, element_ends, element_mark}
use Rattle.term_language.specs.Terms.{Table, Terms, Element}
use Rattle.term_math.specs.Kept.{table_of}
use Rattle.term_math.specs.declared.tables.Table as own
use Rattle.term_math.specs.Shown.{box_in}
use Rattle.term_nodes.specs.declared.evaluation.Evaluator.{Evaluator}
use Rattle.term_nodes.specs.Built.{AllBelow, IsBuilt}
use Rattle.term_nodes.specs.Seen.{CanRead, Sight, sight, element_sight}
use Rattle.term_nodes.specs.Things.{Thing, table_at, terms_at, things}
use Rattle.term_nodes.proofs.Ready.{table_proper}

pub below_last : (limit : ℕ) (xs : List ℕ) (x : ℕ) → AllBelow limit (xs ++ x ∷ []) → AllBelow limit xs × (x < limit)
below_last limit [] x below = (tt, below.0)
below_last limit (y ∷ xs) x below = let later = below_last limit xs x below.1 in ((below.0, later.0), later.1)

element_seen : (root b : Box) (table : Table) (ts : Terms) (plain : Bool) → plain ≡ (form root (Element table ts)).plain → sight Near root b (Element table ts)
    ≡ record { ends = unless_folded plain (element_ends Near b (intervals Near root b ts) table); mark = element_mark table (all_marks (marks Near root b ts)) (intervals Near root b ts) }
element_seen root b table ts plain is =
    ap (λ (f : Bool). record {
      ends = unless_folded f (element_ends Near b (intervals Near root b ts) table);
      mark =
          element_mark table (all_marks (marks Near root b ts)) (intervals Near root b ts);
    }) (sym is)

module _ (reading : Reading) (root b : Box) (all : List Thing) (at : List ℕ) (table : Table) (plain : Bool) (r : Sight) (near : reading ≡ Near)
    (plain_is : plain ≡ (form root (Element table (terms_at all at))).plain) where
  pub element_plain : (a : ends.Ends) → plain ≡ true → a ≡ ends.exactly (pos 0) → r ≡ element_sight b table (all_marks (marks reading root b (terms_at all at))) (intervals reading root b (terms_at all at))
      → (◌≡◌ {A = Sight}) (record { ends = a; mark = r.mark }) (sight reading root b (Element table (terms_at all at)))
  element_plain a met zero =
      subst (λ (rd : Reading). r ≡ element_sight b table (all_marks (marks rd root b (terms_at all at))) (intervals rd root b (terms_at all at))
      → (◌≡◌ {A = Sight}) (record { ends = a; mark = r.mark }) (sight rd root b (Element table (terms_at all at)))) (sym near)
      (λ is.
      ap (λ (e : ends.Ends). record { ends = e; mark = r.mark }) zero
      ∙ ap (λ (s : Sight). record { ends = ends.exactly (pos 0); mark = s.mark }) is
      ∙ sym (element_seen root b table (terms_at all at) true (sym met ∙ plain_is)))

  pub element_alone : plain ≡ false → r ≡ element_sight b table (all_marks (marks reading root b (terms_at all at))) (intervals reading root b (terms_at all at))
      → r ≡ sight reading root b (Element table (terms_at all at))
  element_alone unmet =
      subst (λ (rd : Reading). r ≡ element_sight b table (all_marks (marks rd root b (terms_at all at))) (intervals rd root b (terms_at all at))
      → r ≡ sight rd root b (Element table (terms_at all at))) (sym near)
      (λ is. is ∙ sym (element_seen root b table (terms_at all at) false (sym unmet ∙ plain_is)))

-- an array that is kept has an element for each of its indices
pub complete_table : (here : Evaluator) (table : ℕ) (t : own.Table) → CanRead here → ((root : Box) → IsBuilt root here.items.now → table_of t ≡ table_at (things here.items.now) table)
    → length (table_of t).items ≡ length (indices (table_of t).sets)
complete_table here table t ready found =
    let root = box_in here.root in
    subst (λ (u : Table). length u.items ≡ length (indices u.sets)) (sym (found root ready.built)) (table_proper root here.items.now table ready.built).complete
