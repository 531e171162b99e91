use Rattle.std.proofs.Common.{◌≡◌, ◌<◌, refl, subst, sym, ℕ, Some, length, slice_get}
use Rattle.std.proofs.lemmas.List.{length-map}
use Rattle.std.proofs.lemmas.Option.{slice_get_read}
use Rattle.term_program.specs.Drafts.{chance_of}
use Rattle.term_program.specs.Programs.{IsListed, problem_in, things_in}
use Rattle.term_program.proofs.Lists.{chance_listed}
use Rattle.term_program.proofs.Reasons.{chance_at, chance_each, chance_exist, condition_exists}
use Rattle.term_program.proofs.program.Program.chance.Goals as goal

pub at-requires : goal.at-requires
at-requires c =
    let below : c.args.instance < length c.args.self.now.draft.chances.items =
    subst (λ (n : ℕ). c.args.instance < n) (length-map c.args.self.now.draft.chances.items (chance_of (things_in c.args.self.now))) c.requires.instance in
    let there : slice_get c.args.self.now.draft.chances.items c.args.instance
    ≡ Some c.index.result.now = slice_get_read c.args.self.now.draft.chances.items (length c.args.self.now.draft.chances.items) c.args.instance c.index.result.now refl below c.index.ensures in
    record {
      exists =
          subst (λ (n : ℕ). c.args.scenario < n) (sym (chance_each (problem_in c.args.self.now) (things_in c.args.self.now) c.args.self.now.draft.chances.items c.args.instance
          c.index.result.now c.requires.made.problem.chances there)) c.requires.scenario;
    }

pub returns-clause-condition : goal.returns-clause-condition
returns-clause-condition c =
    let below : c.args.instance < length c.args.self.now.draft.chances.items =
    subst (λ (n : ℕ). c.args.instance < n) (length-map c.args.self.now.draft.chances.items (chance_of (things_in c.args.self.now))) c.requires.instance in
    let there : slice_get c.args.self.now.draft.chances.items c.args.instance
    ≡ Some c.index.result.now = slice_get_read c.args.self.now.draft.chances.items (length c.args.self.now.draft.chances.items) c.args.instance c.index.result.now refl below c.index.ensures in
    chance_at (things_in c.args.self.now) c.args.instance c.args.scenario c.at.result.0 c.args.self.now.draft.chances.items c.index.result.now there c.at.ensures

pub returns-clause-exists : goal.returns-clause-exists
returns-clause-exists c =
    let below : c.args.instance < length c.args.self.now.draft.chances.items =
    subst (λ (n : ℕ). c.args.instance < n) (length-map c.args.self.now.draft.chances.items (chance_of (things_in c.args.self.now))) c.requires.instance in
    let there : slice_get c.args.self.now.draft.chances.items c.args.instance
    ≡ Some c.index.result.now = slice_get_read c.args.self.now.draft.chances.items (length c.args.self.now.draft.chances.items) c.args.instance c.index.result.now refl below c.index.ensures in
    condition_exists (length (things_in c.args.self.now)) c.index.result.now.conditions.ids.items c.args.scenario c.at.result.0
    (chance_exist (length (things_in c.args.self.now)) c.args.self.now.draft.chances.items c.args.instance c.index.result.now c.requires.made.draft.chances there) c.at.ensures

pub returns-clause-listed : goal.returns-clause-listed
returns-clause-listed c =
    let below : c.args.instance < length c.args.self.now.draft.chances.items =
    subst (λ (n : ℕ). c.args.instance < n) (length-map c.args.self.now.draft.chances.items (chance_of (things_in c.args.self.now))) c.requires.instance in
    let there : slice_get c.args.self.now.draft.chances.items c.args.instance
    ≡ Some c.index.result.now = slice_get_read c.args.self.now.draft.chances.items (length c.args.self.now.draft.chances.items) c.args.instance c.index.result.now refl below c.index.ensures in
    chance_listed (IsListed c.args.self.now) c.args.self.now.draft.chances.items c.args.instance c.args.scenario c.index.result.now c.at.result.0 c.requires.made.mentioned.chances there c.at.ensures
