-- The interval of a term is not empty.
use Rattle.std.proofs.Common.{◌≡◌, sym, subst, ℕ, ◌≤ℤ◌, [], ◌∷◌, Some}
use Rattle.box_problem.specs.Box.{Box, Inside}
use Rattle.term_language.specs.Ends.{Ends}
use Rattle.term_language.specs.Rules.{Near, interval}
use Rattle.term_language.proofs.Sharpening.{intervals_narrow}
use Rattle.term_nodes.specs.Things.{term_at}
use Rattle.term_nodes.proofs.Ready.{terms_proper}
use Rattle.term_math.specs.Shown.{IsPart, ends_of, with_part}
use Rattle.term_math.specs.declared.ends.Ends as own
use Rattle.term_math.specs.declared.views.Part.{Part}
use Rattle.term_math.proofs.Inner.{part_inside}
use Rattle.term_program.specs.declared.program.Program.{Program}
use Rattle.term_program.specs.Programs.{IsMade, root_in, things_in}

-- over a box inside the root
ordered_in : (p : Program) (id : ℕ) (b : Box) → IsMade p → Inside b (root_in p)
    → (interval Near (root_in p) b (term_at (things_in p) id)).low ≤ℤ (interval Near (root_in p) b (term_at (things_in p) id)).high
ordered_in p id b made inside =
    (intervals_narrow Near (root_in p) b (root_in p) (term_at (things_in p) id) made.draft.store.root_is_box inside
    (terms_proper (root_in p) p.draft.store.items.items (id ∷ []) made.draft.store.built).0).ordered

same_order : (a c : Ends) → a ≡ c → c.low ≤ℤ c.high → a.low ≤ℤ a.high
same_order a c is ordered = subst (λ (e : Ends). e.low ≤ℤ e.high) (sym is) ordered

pub ordered_over : (p : Program) (id : ℕ) (b : Box) (seen : own.Ends) → IsMade p → Inside b (root_in p) → ends_of seen ≡ interval Near (root_in p) b (term_at (things_in p) id) → seen.low ≤ℤ seen.high
ordered_over p id b seen made inside is = same_order (ends_of seen) (interval Near (root_in p) b (term_at (things_in p) id)) is (ordered_in p id b made inside)

pub ordered_part : (p : Program) (id : ℕ) (b : Box) (part : Part) (seen : own.Ends) → IsMade p → Inside b (root_in p) → IsPart (root_in p) part → ends_of seen
    ≡ interval Near (root_in p) (with_part b (Some part)) (term_at (things_in p) id) → seen.low ≤ℤ seen.high
ordered_part p id b part seen made inside is_part is = ordered_over p id (with_part b (Some part)) seen made (part_inside (root_in p) b part inside is_part) is
