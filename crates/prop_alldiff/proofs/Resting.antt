-- Where there is no step.
use Rattle.std.proofs.Common.{◌≡◌, ◌∙◌, inl, inr, refl, ap, sym, subst, ℕ, false, List, [], ◌∷◌, Option, Some, None, IfNone}
use Rattle.std.specs.List.{All, Contains}
use Rattle.std.proofs.lemmas.List.Elements.{All-contains}
use Rattle.sopl_base.specs.declared.reason.Reason.TheVariants.{Hard}
use Rattle.sopl_base.specs.declared.reason.Step.{Step}
use Rattle.box_problem.specs.Box.{high, low}
use Rattle.box_problem.specs.Rightness.{Quiets}
use Rattle.term_crowds.specs.Crowds.{AreWhole, LowsWhole}
use Rattle.term_crowds.proofs.Tight.{lows_whole}
use Rattle.term_language.specs.Globals.{never_differ}
use Rattle.term_language.specs.Rules.{Near, intervals, truth}
use Rattle.term_language.specs.Terms.{AllDifferent}
use Rattle.term_problem.specs.Reasons.{reason_mentions}
use Rattle.term_problem.proofs.Reasons.{all_of}
use Rattle.term_program.specs.Programs.{problem_in, root_in, with_interval}
use Rattle.term_program.specs.Stated.{box_problem_of}
use Rattle.term_windows.specs.Windows.{spans}
use Rattle.prop_shave.specs.Opened.{IsOpen, IsWhole}
use Rattle.prop_shave.specs.Probes.{IsAsked, closes}
use Rattle.prop_shave.specs.declared.probes.Probe.{Probe}
use Rattle.prop_shave.proofs.Finding.{found_quiet}
use Rattle.prop_shave.proofs.Parts.{part_high, part_low}
use Rattle.prop_operands.specs.Kept.{operand_terms, operands_mark}
use Rattle.prop_operands.specs.Questions.{IsLookedAt}
use Rattle.prop_operands.proofs.Asking.{ever_refuted, hard_mentions, ordered_seen}
use Rattle.prop_alldiff.specs.Kinds.{Fits, IsAlone}
use Rattle.prop_alldiff.specs.declared.all_diff.AllDiff.{AllDiff}
use Rattle.prop_alldiff.proofs.Alone.{alone_open, isnt_false, not_false}
use Rattle.prop_alldiff.proofs.Asking.{closes_is}

-- where no window overlaps a term, no cell that stands alone is left
alone_is_open : (p : AllDiff) (q : Probe) (cell : ℕ) → Fits p q.program.now → q.reason ≡ Hard p.instance p.scenario → IsAsked q → IsWhole q → IsLookedAt never_differ p.operands q
    → AreWhole (intervals Near (root_in q.program.now) q.store.now.box (operand_terms q.program.now p.operands.list.items)) → IsAlone q.program.now p.operands.list.items cell → IsOpen q cell
alone_is_open p q cell fits own asked whole looked windows alone =
    let b = q.store.now.box in
    let root = root_in q.program.now in
    let ts = operand_terms q.program.now p.operands.list.items in
    let ever = isnt_false (truth Near root b (AllDifferent ts)) (sym (closes_is p q b fits own) ∙ whole) in
    record {
      at_low = λ exists.
          let c = with_interval b cell (low b cell) (low b cell) in
          sym (ap (closes q) (part_low b cell (low b cell) (low b cell) (low b cell) refl refl))
          ∙ closes_is p q c fits own
          ∙ not_false (truth Near root c (AllDifferent ts))
          (alone_open q.program.now b p.operands.list.items cell (low b cell) fits.made asked.inside alone windows ever exists (inl refl));
      at_high = λ exists.
          let c = with_interval b cell (high b cell) (high b cell) in
          sym (ap (closes q) (part_high b cell (high b cell) (high b cell) (high b cell) refl refl))
          ∙ closes_is p q c fits own
          ∙ not_false (truth Near root c (AllDifferent ts))
          (alone_open q.program.now b p.operands.list.items cell (high b cell) fits.made asked.inside alone windows ever exists (inr refl));
    }

whole_windows : (p : AllDiff) (q : Probe) → Fits p q.program.now → q.reason ≡ Hard p.instance p.scenario → IsAsked q → IsWhole q → IsLookedAt never_differ p.operands q
    → LowsWhole (spans p.operands.known.items) (spans p.operands.known.items)
    → AreWhole (intervals Near (root_in q.program.now) q.store.now.box (operand_terms q.program.now p.operands.list.items))
whole_windows p q fits own asked whole looked lows =
    let b = q.store.now.box in
    let es = spans p.operands.known.items in
    let ordered = ordered_seen q.program.now b p.operands.list.items p.operands.known.items asked.made asked.inside looked.seen in
    let uncrowded : never_differ es ≡ false =
    ap never_differ looked.seen.spans
    ∙ sym (looked.about.tells b ∙ ever_refuted (operands_mark q.program.now p.operands.list.items b) _ looked.seen.defined)
    ∙ whole in
    subst AreWhole looked.seen.spans (lows_whole es ordered uncrowded lows)

pub rests : (p : AllDiff) (q : Probe) → Fits p q.program.now → q.reason ≡ Hard p.instance p.scenario → IsAsked q → IsWhole q → IsLookedAt never_differ p.operands q
    → LowsWhole (spans p.operands.known.items) (spans p.operands.known.items) → All (IsOpen q) p.shared.items
    → Quiets (box_problem_of q.program.now) (q.reason ∷ []) q.best q.store.now.box
rests p q fits own asked whole looked lows opened =
    let mentioned = reason_mentions (root_in q.program.now) (problem_in q.program.now) q.reason in
    let windows = whole_windows p q fits own asked whole looked lows in
    found_quiet q mentioned (λ cell there. there) whole
    (all_of (IsOpen q) mentioned
    (λ cell there.
    elim (fits.others.each cell (subst (λ (ns : List ℕ). Contains ns cell) (hard_mentions (root_in q.program.now) (problem_in q.program.now) p.instance p.scenario q.reason _ own fits.condition) there)) [
      | inl shared ↦ All-contains (IsOpen q) p.shared.items cell opened shared
      | inr alone ↦ alone_is_open p q cell fits own asked whole looked windows alone
    ]))

-- what is known where there is no step
pub none_leads : {A B : Type 0} (found : Option Step) → (A → B) → IfNone found A → IfNone found B
none_leads None leads none = leads none
none_leads (Some step) leads none = tt
