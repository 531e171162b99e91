-- The ends of parts that are kept, and how they are seen anew.
use Rattle.std.proofs.Common.{◌≡◌, inl, inr, ℕ, ◌<◌, Bool, true, false, List, [], Option, Some, length, get_or, set, slice_get, arith, sym, ap, subst, ◌∙◌}
use Rattle.std.specs.List.{Contains}
use Rattle.std.specs.Option.{option_map_or}
use Rattle.std.proofs.lemmas.Bool.{cases_eq}
use Rattle.std.proofs.lemmas.Grind.{get_or-set_at}
use Rattle.std.proofs.lemmas.List.{get_or-set_other}
use Rattle.box_problem.specs.Box.{Box, Inside}
use Rattle.term_language.specs.Mentions.{mentions}
use Rattle.term_goals.specs.declared.sums.Atom.{Atom}
use Rattle.term_nodes.specs.Things.{term_at}
use Rattle.term_program.specs.declared.program.Program.{Program}
use Rattle.term_program.specs.Programs.{IsMade, root_in, things_in}
use Rattle.prop_core.specs.Watches.{AgreeElsewhere, waits_at}
use Rattle.prop_shave.proofs.Mentioned.{untouched}
use Rattle.prop_shave.proofs.Reaching.{ends_of_seen}
use Rattle.prop_shave.specs.GoalKnown.{AreEnds, IsPartSeen}
use Rattle.prop_shave.specs.GoalSums.{is_touched}
use Rattle.prop_shave.specs.declared.part_ends.PartEnds.{PartEnds}
use Rattle.prop_chance.specs.Deciding.{ends_elsewhere}
use Rattle.prop_chance.specs.UpToDate.{AreListed, IsUpToDate}
use Rattle.prop_chance.proofs.Outdating.{fresh_alone, never}
use Rattle.prop_goal.specs.Deciding.{part_agrees}
use Rattle.prop_goal.specs.KeptParts.{AreAllSeen, AreAlike, AreOneEach, ArePartsSeen, IsPartPut, KeepsPartEnds, KeepsParts, touches}
use Rattle.prop_goal.specs.declared.kept_parts.KeptParts.{KeptParts}

-- nothing was seen
pub none_seen : (program : Program) (b : Box) (k : KeptParts) → ((number : ℕ) → waits_at k.outdated.waits.items number ≡ true) → AreListed k.outdated → KeepsParts program b k
none_seen program b k all listed = record {
  ends = record { each = λ number a e at fresh. never (touches program k.atoms.items) k.outdated number all fresh };
  listed = listed;
}

-- as many ends
pub one_each_on : (old new : KeptParts) → AreAlike old new → AreOneEach old → AreOneEach new
one_each_on old new alike one = record {
  ends = alike.ends ∙ (one.ends ∙ sym (ap (λ list. length list.items) alike.atoms));
  waits = alike.waits ∙ (one.waits ∙ sym (ap (λ list. length list.items) alike.atoms));
}

pub alike_back : (old new : KeptParts) → AreAlike old new → AreAlike new old
alike_back old new alike = record { atoms = sym alike.atoms; ends = sym alike.ends; waits = sym alike.waits }

-- one cell more was told
touched_in : (program : Program) (atoms : List Atom) (cell number : ℕ) (a : Atom) → slice_get atoms number ≡ Some a → touches program atoms cell number ≡ false
    → is_touched (root_in program) (things_in program) cell a ≡ false
touched_in program atoms cell number a at is =
    sym (ap (λ (o : Option Atom). option_map_or (is_touched (root_in program) (things_in program) cell) o false) at) ∙ is

pub parts_told : (program : Program) (b c : Box) (cell : ℕ) (old new : KeptParts) → new.atoms ≡ old.atoms → new.ends ≡ old.ends
    → ((mentions : ℕ → ℕ → Bool) (number : ℕ) → IsUpToDate mentions new.outdated number → IsUpToDate mentions old.outdated number × (mentions cell number ≡ false)) → (AreListed old.outdated → AreListed new.outdated)
    → AgreeElsewhere cell b c → KeepsParts program b old → KeepsParts program c new
parts_told program b c cell old new atoms ends told listed agree keeps = record {
  ends = record {
    each = λ number a e at fresh.
        let was = told (touches program old.atoms.items) number (subst (λ parts. IsUpToDate (touches program parts.items) new.outdated number) atoms fresh) in
        let there : slice_get old.atoms.items number ≡ Some a = sym (ap (λ parts. slice_get parts.items number) atoms) ∙ at in
        let apart = untouched cell (mentions (root_in program) (term_at (things_in program) a.term)) (touched_in program old.atoms.items cell number a there was.1) in
        subst (IsPartSeen program c a) (sym (ap (λ xs. get_or xs.items number e) ends))
        (part_agrees program b c a (get_or old.ends.items number e)
        (λ n mentioned. ends_elsewhere cell b c agree n (λ same. apart (subst (Contains _) same mentioned))) (keeps.ends.each number a e there was.0));
  };
  listed = listed keeps.listed;
}

-- the parts wait that mention a cell that was told
pub parts_wait : (program : Program) (b : Box) (old new : KeptParts) → new.atoms ≡ old.atoms → new.ends ≡ old.ends
    → ((number : ℕ) → IsUpToDate (touches program old.atoms.items) new.outdated number → IsUpToDate (touches program old.atoms.items) old.outdated number) → new.outdated.told.items ≡ []
    → KeepsPartEnds program b old → ArePartsSeen program b new
parts_wait program b old new atoms ends wait clean keeps = record {
  keeps = record {
    each = λ number a e at fresh.
        subst (IsPartSeen program b a) (sym (ap (λ xs. get_or xs.items number e) ends))
        (keeps.each number a e (sym (ap (λ parts. slice_get parts.items number) atoms) ∙ at)
        (wait number (subst (λ parts. IsUpToDate (touches program parts.items) new.outdated number) atoms fresh)));
  };
  clean = clean;
}

-- a part is seen anew
pub parts_more : (program : Program) (b : Box) (i : ℕ) (old new : KeptParts) (e : PartEnds) → i < length old.atoms.items → AreOneEach old → IsPartPut old new i e
    → ((a : Atom) → slice_get old.atoms.items i ≡ Some a → IsPartSeen program b a e) → ArePartsSeen program b old → ArePartsSeen program b new
parts_more program b i old new e exists one put seen is =
    let inside : i < length old.ends.items = omega (arith, exists, one.ends) in
    let others : (k : ℕ) → (¬ k ≡ i) → waits_at new.outdated.waits.items k ≡ waits_at old.outdated.waits.items k =
    λ k other. ap (λ (list : List Bool). waits_at list k) put.waits ∙ get_or-set_other old.outdated.waits.items i k false true other in
    let now : (k : ℕ) (d : PartEnds) → get_or new.ends.items k d ≡ get_or (set old.ends.items i e) k d = λ k d. ap (λ (list : List PartEnds). get_or list k d) put.ends in
    record {
      keeps = record {
        each = λ number a d at fresh.
            let there : slice_get old.atoms.items number ≡ Some a = sym (ap (λ parts. slice_get parts.items number) put.atoms) ∙ at in
            elim (cases_eq number i) [
              | inl same ↦ subst (IsPartSeen program b a) (sym (now number d ∙ get_or-set_at old.ends.items i number e d same inside))
                  (seen a (sym (ap (slice_get old.atoms.items) same) ∙ there))
              | inr other ↦ subst (IsPartSeen program b a) (sym (now number d ∙ get_or-set_other old.ends.items i number e d other))
                  (is.keeps.each number a d there (fresh_alone (touches program old.atoms.items) old.outdated number is.clean (sym (others number other) ∙ fresh.calm)))
            ];
      };
      clean = ap (λ list. list.items) put.told ∙ is.clean;
    }

-- then the ends are those over the box
pub all_fresh : (program : Program) (b : Box) (k : KeptParts) → AreAllSeen program b k → (number : ℕ) (a : Atom) (e : PartEnds) → number < length k.atoms.items
    → slice_get k.atoms.items number ≡ Some a → IsPartSeen program b a (get_or k.ends.items number e)
all_fresh program b k is number a e below at =
    is.seen.keeps.each number a e at (fresh_alone (touches program k.atoms.items) k.outdated number is.seen.clean (is.calm number below))

pub ends_seen : (program : Program) (b : Box) (k : KeptParts) → IsMade program → Inside b (root_in program) → length k.ends.items ≡ length k.atoms.items
    → AreAllSeen program b k → AreEnds program b k.atoms.items k.ends.items
ends_seen program b k made inside room is = record {
  as_many = room;
  each = λ number a e below at. ends_of_seen program b a (get_or k.ends.items number e) made inside (all_fresh program b k is number a e below at);
}
