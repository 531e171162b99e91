use Rattle.term_program.specs.Drafts.{draft_things}
use Rattle.term_program.specs.Globals.{AreTermsOf}
use Rattle.term_program.proofs.globals.GlobalTerms.of.Given as goal

abbrev pub invariant-nodes : goal.invariant-nodes
invariant-nodes l = AreTermsOf (draft_things l.draft) l.id l.kept
