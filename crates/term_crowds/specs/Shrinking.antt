-- One term of several that alone shrinks, to a smaller interval.
use Rattle.std.specs.Prelude.{◌≡◌}
use Rattle.box_problem.specs.Box.{Box}
use Rattle.term_language.specs.Ends.{Ends}
use Rattle.term_language.specs.Rules.{Near, interval, mark}
use Rattle.term_language.specs.Terms.{Term, Terms, no_term, term}
use Rattle.term_language.specs.Mentions.{mentions}
use Rattle.term_language.specs.MentionLaws.{BoxesAgree}

-- several terms with one in the midst
abbrev pub term_among : Terms → Term → Terms → Terms
term_among no_term t after = term t after
term_among (term s before) t after = term s (term_among before t after)

-- two boxes agree on all cells that each of several terms mentions
abbrev pub AgreeEach : Box → Box → Box → Terms → Type 0
AgreeEach root b c no_term = Unit {0}
AgreeEach root b c (term t later) = BoxesAgree (mentions root t) b c × AgreeEach root b c later

-- from one box to another the term alone changes: it has the smaller interval there, and the mark that it had
pub record ShrinksAlone (root b c : Box) (before : Terms) (t : Term) (after : Terms) (smaller : Ends) : Type 0 where
  pub others_before : AgreeEach root b c before
  pub others_after : AgreeEach root b c after
  pub same_mark : mark Near root c t ≡ mark Near root b t
  pub shrunk : interval Near root c t ≡ smaller
