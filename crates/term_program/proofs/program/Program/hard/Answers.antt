use Rattle.std.proofs.Common.{◌≡◌, ◌<◌, refl, subst, sym, ℕ, Some, length, slice_get}
use Rattle.std.proofs.lemmas.List.{length-map}
use Rattle.std.proofs.lemmas.Option.{slice_get_read}
use Rattle.term_program.specs.Drafts.{conditions_of}
use Rattle.term_program.specs.Programs.{IsListed, things_in}
use Rattle.term_program.proofs.Lists.{hard_listed}
use Rattle.term_program.proofs.Reasons.{condition_exists, hard_at, hard_each, hard_exist}
use Rattle.term_program.proofs.program.Program.hard.Goals as goal

pub at-requires : goal.at-requires
at-requires c =
    let below : c.args.instance < length c.args.self.now.draft.hards.items =
    subst (λ (n : ℕ). c.args.instance < n) (length-map c.args.self.now.draft.hards.items (conditions_of (things_in c.args.self.now))) c.requires.instance in
    let there : slice_get c.args.self.now.draft.hards.items c.args.instance
    ≡ Some c.index.result.now = slice_get_read c.args.self.now.draft.hards.items (length c.args.self.now.draft.hards.items) c.args.instance c.index.result.now refl below c.index.ensures in
    record {
      exists =
          subst (λ (n : ℕ). c.args.scenario < n) (sym (hard_each (things_in c.args.self.now) c.args.self.now.draft.hards.items c.args.instance (length c.args.self.now.draft.weights.items)
          c.index.result.now c.requires.made.problem.hards there)) c.requires.scenario;
    }

pub returns-clause-condition : goal.returns-clause-condition
returns-clause-condition c =
    let below : c.args.instance < length c.args.self.now.draft.hards.items =
    subst (λ (n : ℕ). c.args.instance < n) (length-map c.args.self.now.draft.hards.items (conditions_of (things_in c.args.self.now))) c.requires.instance in
    let there : slice_get c.args.self.now.draft.hards.items c.args.instance
    ≡ Some c.index.result.now = slice_get_read c.args.self.now.draft.hards.items (length c.args.self.now.draft.hards.items) c.args.instance c.index.result.now refl below c.index.ensures in
    hard_at (things_in c.args.self.now) c.args.instance c.args.scenario c.at.result.0 c.args.self.now.draft.hards.items c.index.result.now there c.at.ensures

pub returns-clause-exists : goal.returns-clause-exists
returns-clause-exists c =
    let below : c.args.instance < length c.args.self.now.draft.hards.items =
    subst (λ (n : ℕ). c.args.instance < n) (length-map c.args.self.now.draft.hards.items (conditions_of (things_in c.args.self.now))) c.requires.instance in
    let there : slice_get c.args.self.now.draft.hards.items c.args.instance
    ≡ Some c.index.result.now = slice_get_read c.args.self.now.draft.hards.items (length c.args.self.now.draft.hards.items) c.args.instance c.index.result.now refl below c.index.ensures in
    condition_exists (length (things_in c.args.self.now)) c.index.result.now.ids.items c.args.scenario c.at.result.0
    (hard_exist (length (things_in c.args.self.now)) c.args.self.now.draft.hards.items c.args.instance c.index.result.now c.requires.made.draft.hards there) c.at.ensures

pub returns-clause-listed : goal.returns-clause-listed
returns-clause-listed c =
    let below : c.args.instance < length c.args.self.now.draft.hards.items =
    subst (λ (n : ℕ). c.args.instance < n) (length-map c.args.self.now.draft.hards.items (conditions_of (things_in c.args.self.now))) c.requires.instance in
    let there : slice_get c.args.self.now.draft.hards.items c.args.instance
    ≡ Some c.index.result.now = slice_get_read c.args.self.now.draft.hards.items (length c.args.self.now.draft.hards.items) c.args.instance c.index.result.now refl below c.index.ensures in
    hard_listed (IsListed c.args.self.now) c.args.self.now.draft.hards.items c.args.instance c.args.scenario c.index.result.now c.at.result.0 c.requires.made.mentioned.hards there c.at.ensures
