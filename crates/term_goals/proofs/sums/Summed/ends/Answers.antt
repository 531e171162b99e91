use Rattle.std.proofs.Common.{rules, ◌≡◌, List, ap, ◌∙◌}
use Rattle.term_language.specs.Ends as ends
use Rattle.term_language.specs.Forms.{cells_ends}
use Rattle.term_math.specs.declared.combinations.WideCoefficient.{WideCoefficient}
use Rattle.term_math.specs.Shown.{box_in}
use Rattle.term_math.specs.Sums.{wide_cells}
use Rattle.term_nodes.specs.Things.{things}
use Rattle.term_goals.specs.declared.sums.Atom.{Atom}
use Rattle.term_goals.specs.Wide.{wide_ends}
use Rattle.term_goals.specs.Goals.{atoms_ends}
use Rattle.term_goals.proofs.Steps.{others_fit, whole_fit}
use Rattle.term_goals.proofs.sums.Summed.ends.Goals as goal

pub plus-requires : goal.plus-requires
plus-requires c =
    let b = box_in c.args.here.now.view in
    let root = box_in c.args.here.now.root in
    let all = things c.args.here.now.items.now in
    let cells : c.as_slice.result.now ≡ c.args.self.now.form.cells.items = search rules in
    let atoms : c.as_slice-2.result.now ≡ c.args.self.now.atoms.items = search rules in
    record {
      fits = others_fit c.args.here.now c.args.self.now (wide_ends c.cells_ends-cells.result) (wide_ends c.atoms_ends-atoms.result) c.requires.ready c.requires.room
          (c.cells_ends-cells.ensures ∙ ap (λ (xs : List WideCoefficient). cells_ends b (wide_cells xs)) cells)
          (c.atoms_ends-atoms.ensures ∙ ap (λ (xs : List Atom). atoms_ends root b all xs) atoms);
    }

pub plus-requires-2 : goal.plus-requires-2
plus-requires-2 c =
    let b = box_in c.args.here.now.view in
    let root = box_in c.args.here.now.root in
    let all = things c.args.here.now.items.now in
    let cells : c.as_slice.result.now ≡ c.args.self.now.form.cells.items = search rules in
    let atoms : c.as_slice-2.result.now ≡ c.args.self.now.atoms.items = search rules in
    let cells_is = c.cells_ends-cells.ensures ∙ ap (λ (xs : List WideCoefficient). cells_ends b (wide_cells xs)) cells in
    let atoms_is = c.atoms_ends-atoms.ensures ∙ ap (λ (xs : List Atom). atoms_ends root b all xs) atoms in
    let rest : wide_ends c.plus.result ≡ ends.plus (cells_ends b (wide_cells c.args.self.now.form.cells.items)) (atoms_ends root b all c.args.self.now.atoms.items) =
    c.plus.ensures ∙ ap (λ (e : ends.Ends). ends.plus e (wide_ends c.atoms_ends-atoms.result)) cells_is ∙ ap (ends.plus (cells_ends b (wide_cells c.args.self.now.form.cells.items))) atoms_is in
    record {
      fits = whole_fit c.args.here.now c.args.self.now (wide_ends c.constant_ends-constant.result) (wide_ends c.plus.result) c.requires.ready c.requires.room
          c.constant_ends-constant.ensures rest;
    }
