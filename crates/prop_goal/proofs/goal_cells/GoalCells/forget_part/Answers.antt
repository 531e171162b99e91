use Rattle.std.proofs.Common.{◌≡◌, ◌<◌, List, None, arith, false, get_or, length, rules, subst, sym, true, ℕ}
use Rattle.std.specs.List.{Contains}
use Rattle.prop_shave.proofs.GoalMentioned.{number_at}
use Rattle.term_goals.specs.declared.sums.Atom.{Atom}
use Rattle.term_language.specs.Mentions.{mentions}
use Rattle.term_nodes.specs.Things.{term_at}
use Rattle.term_program.specs.Mentions.{IsListOf}
use Rattle.term_program.specs.Programs.{IsListedTerm, root_in, things_in}
use Rattle.prop_chance.specs.KeptTurns.{turns_of}
use Rattle.prop_chance.proofs.Turned.{fewer_same, not_waiting}
use Rattle.prop_goal.proofs.Objectives.{part_listed}
use Rattle.prop_goal.proofs.goal_cells.GoalCells.forget_part.Goals as goal

pub returns-then-not-has_waiting : goal.returns-then-not-has_waiting
returns-then-not-has_waiting c =
    let calm : c.has_waiting.result ≡ false = search rules in
    record {
      forgotten = λ below waiting. not_waiting c.args.kept.now.outdated.waits.items c.args.number (c.has_waiting.ensures.calm calm (omega (arith, below, c.requires.waits))) waiting;
      fewer = fewer_same c.args.turns.now;
      room = search rules;
    }

pub term_cells-mentioned-requires-clause-listed : goal.term_cells-mentioned-requires-clause-listed
term_cells-mentioned-requires-clause-listed c =
    subst (λ (a : Atom). IsListedTerm c.args.program.now a.term) (sym c.index.ensures)
    (number_at (IsListedTerm c.args.program.now) c.args.kept.now.atoms.items c.args.number c.index.result.now c.requires.parts.listed
    (let waiting : c.has_waiting.result ≡ true = search rules in omega (arith, c.has_waiting.ensures.exists waiting, c.requires.waits)))

pub returns : goal.returns
returns c = record {
  forgotten = λ exists waiting place below touched.
      let root = root_in c.args.program.now in
      let all = things_in c.args.program.now in
      let list = c.term_cells-mentioned.result.now in
      subst (λ (cells : List ℕ). (at : ℕ) → at < length cells → Contains list (get_or cells at 0) → turns_of c.forget.new.self at ≡ None)
      c.as_slice.ensures.value c.forget.ensures.forgotten place below
      (part_listed root all c.args.kept.now.atoms.items _ c.args.number c.index.result.now list exists
      (subst (λ (a : Atom). IsListOf (mentions root (term_at all a.term)) list) c.index.ensures c.term_cells-mentioned.ensures.cells) touched);
  fewer = c.forget.ensures.fewer;
  room = c.forget.ensures.room;
}
